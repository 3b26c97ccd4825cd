-- What it says of the parts that a whole reading succeeded, and the gates of a list one by one.
-- Assumes nothing.
use mathlib.Core.Bool.{Bool, true, false, cond}
use mathlib.Core.Logic.{◌⊎◌, inl, inr}
use mathlib.Core.Path.{◌≡◌, refl, sym, ◌∙◌, ap, ap₂, subst}
use mathlib.Core.List.{List, ◌∷◌}
use Prim.Native.Nat.{ℕ, zero, suc}
use native.Mathlib.Omega.{arith}
use lib.ListN.{length}
use Rattle.gates.specs.Gate.{Gate}
use Rattle.circuits.specs.declared.Fault.{Fault}
use Rattle.circuits.specs.declared.Refusal.{Refusal}
use Rattle.circuits.specs.Reading.{Reading, read, refused, Reader, followed, pure, refuse, checked, gate, gates}

-- ---- what was read

-- a choice by a test, and how the test went
pub choice : {A : Type 0} (b : Bool) {x y z : A} → cond b x y ≡ z → ((b ≡ true) × (x ≡ z)) ⊎ ((b ≡ false) × (y ≡ z))
choice true e = inl (refl, e)
choice false e = inr (refl, e)

pub refused_read : {A : Type 0} {r : Refusal} {a : A} {next : ℕ} → refused r ≡ read a next → ⊥
refused_read e = let z : ◌≡◌ {A = ℕ} 0 1 = cc in omega arith

module _ {A : Type 0} {a b : A} {m n : ℕ} (e : read a m ≡ read b n) where
  pub read_value : a ≡ b
  read_value = cc

  pub read_next : m ≡ n
  read_next = cc

module _ {A : Type 0} {x y : A} {xs ys : List A} (e : x ∷ xs ≡ y ∷ ys) where
  cons_head : x ≡ y
  cons_head = cc

  cons_tail : xs ≡ ys
  cons_tail = cc

-- ---- one reader after another

-- the first reader gave a value, from which the second went on
pub record Parts {A B : Type 0} (m : Reading A) (go : A → ℕ → Reading B) (b : B) (end : ℕ) : Type 0 where
  pub value : A
  pub next : ℕ
  pub first : m ≡ read value next
  pub second : go value next ≡ read b end

pub parts : {A B : Type 0} (m : Reading A) {go : A → ℕ → Reading B} {b : B} {end : ℕ} → followed m go ≡ read b end → Parts m go b end
parts (read a next) e = record { value = a; next = next; first = refl; second = e }
parts (refused r) e = absurd (refused_read e)

-- ---- a checked reader

-- what it gives was read, and passed the test
pub checked_read : {A : Type 0} (fault : Fault) (test : A → Bool) (m : Reader A) (s : List ℕ) (at : ℕ) {a : A} {next : ℕ}
    → checked fault test m s at ≡ read a next → (m s at ≡ read a next) × (test a ≡ true)
checked_read fault test m s at e =
    let p = parts (m s at) e in
    let t = passed (test p.value) p.second in
    (p.first ∙ t.1, subst (λ a. test a ≡ true) (read_value t.1) t.0)
  where
    passed : {A : Type 0} {a b : A} {mid next : ℕ} (t : Bool)
        → cond t (pure a) (refuse fault at) s mid ≡ read b next → (t ≡ true) × (read a mid ≡ read b next)
    passed true e = (refl, e)
    passed false e = absurd (refused_read e)

-- ---- the gates, one by one

-- the first gate stands here, and the others from the offset after it on
pub record Step (n m : ℕ) (s : List ℕ) (at : ℕ) (g : Gate) (gs : List Gate) (end : ℕ) : Type 0 where
  pub next : ℕ
  pub gate_here : gate n s at ≡ read g next
  pub others : gates n m s next ≡ read gs end

step_of : {n m : ℕ} {s : List ℕ} {at : ℕ} {g h : Gate} {gs hs : List Gate} {next mid end : ℕ} → gate n s at ≡ read h next
    → gates n m s next ≡ read hs mid → read (h ∷ hs) mid ≡ read (g ∷ gs) end → Step n m s at g gs end
step_of {next = next} first second e =
    record {
      next = next;
      gate_here = first ∙ ap₂ read (cons_head (read_value e)) refl;
      others = second ∙ ap₂ read (cons_tail (read_value e)) (read_next e);
    }

pub gates_step : (n m : ℕ) (s : List ℕ) (at : ℕ) {g : Gate} {gs : List Gate} {end : ℕ}
    → gates n (suc m) s at ≡ read (g ∷ gs) end → Step n m s at g gs end
unfolding gates
gates_step n m s at e =
    let p = parts (gate n s at) e in
    let q = parts (gates n m s p.next) p.second in
    step_of p.first q.first q.second

-- as many gates are read as are asked for
pub gates_length : (n m : ℕ) (s : List ℕ) (at : ℕ) {gs : List Gate} {end : ℕ} → gates n m s at ≡ read gs end → length gs ≡ m
unfolding gates
gates_length n zero s at e = ap length (sym (read_value e))
gates_length n (suc m) s at e =
    let p = parts (gate n s at) e in
    let q = parts (gates n m s p.next) p.second in
    ap length (sym (read_value q.second)) ∙ ap suc (gates_length n m s p.next q.first)
