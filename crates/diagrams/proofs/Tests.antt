-- Tests of equality decide it: of references, nodes, whole numbers and entries.
-- Assumes nothing.
use mathlib.Core.Path.{◌≡◌, refl, sym, ◌∙◌, ap, ap₂}
use mathlib.Core.Bool.{Bool, true, false, ◌&&◌, true≢false}
use Prim.Native.Nat.{ℕ, ◌+◌, ◌*◌}
use native.Mathlib.Omega.{arith}
use lib.Dec.{eqb}
use lib.IntN.{ℤ, pos, negsuc}
use borrow.Author.Tests.{eqb-true, eq-eqb}
use Rattle.algebra.specs.declared.Entry.{Entry}
use Rattle.diagrams.specs.Diagram.{Ref, value, node, code, Node, same_ref, same_node, same_number, same_entry}

-- the test holds just where the two are equal
pub record Decides {A : Type 0} (same : A → A → Bool) : Type 0 where
  pub sound : (x y : A) → same x y ≡ true → x ≡ y
  pub reflexive : (x : A) → same x x ≡ true

pub apart_false : {A : Type 0} {same : A → A → Bool} (𝓓 : Decides same) (x y : A) → (x ≡ y → ⊥) → same x y ≡ false
apart_false {same = same} 𝓓 x y apart = by_test (same x y) refl
  where
    by_test : (b : Bool) → same x y ≡ b → b ≡ false
    by_test true e = absurd (apart (𝓓.sound x y e))
    by_test false e = refl

pub false_apart : {A : Type 0} {same : A → A → Bool} (𝓓 : Decides same) (x y : A) → same x y ≡ false → x ≡ y → ⊥
false_apart {same = same} 𝓓 x y e p = true≢false (sym (𝓓.reflexive x) ∙ ap (same x) p ∙ e)

pub both_true : (p q : Bool) → (p && q) ≡ true → (p ≡ true) × (q ≡ true)
both_true true q e = (refl, e)
both_true false q e = absurd (true≢false (sym e))

pub true_both : {p q : Bool} → p ≡ true → q ≡ true → (p && q) ≡ true
true_both e f = ap₂ (λ (p q : Bool). p && q) e f

-- a test through a function that tells all apart
pub decides_by : {A B : Type 0} {same : B → B → Bool} (f : A → B) → ((x y : A) → f x ≡ f y → x ≡ y) → Decides same
    → Decides (λ (x y : A). same (f x) (f y))
decides_by f injective 𝓓 = record { sound = λ x y e. injective x y (𝓓.sound (f x) (f y) e); reflexive = λ x. 𝓓.reflexive (f x) }

pub natural_decides : Decides eqb
natural_decides = record { sound = eqb-true; reflexive = λ n. eq-eqb n n refl }

-- ---- references and nodes

pub code_injective : (r t : Ref) → code r ≡ code t → r ≡ t
code_injective (value i) (value j) e = ap value (halved i j e)
  where
    halved : (i j : ℕ) → 2 * i ≡ 2 * j → i ≡ j
    halved i j e = omega arith
code_injective (value i) (node j) e = absurd (parity i j e)
  where
    parity : (i j : ℕ) → 2 * i ≡ 2 * j + 1 → ⊥
    parity i j e = omega arith
code_injective (node i) (value j) e = absurd (parity i j e)
  where
    parity : (i j : ℕ) → 2 * i + 1 ≡ 2 * j → ⊥
    parity i j e = omega arith
code_injective (node i) (node j) e = ap node (halved i j e)
  where
    halved : (i j : ℕ) → 2 * i + 1 ≡ 2 * j + 1 → i ≡ j
    halved i j e = omega arith

pub ref_decides : Decides same_ref
ref_decides = decides_by code code_injective natural_decides

same_node_sound : (m n : Node) → same_node m n ≡ true → m ≡ n
same_node_sound m n e =
    let (p, qr) = both_true (eqb m.level n.level) (same_ref m.low n.low && same_ref m.high n.high) e in
    let (q, r) = both_true (same_ref m.low n.low) (same_ref m.high n.high) qr in
    λ i. record {
      level = eqb-true m.level n.level p i;
      low = ref_decides.sound m.low n.low q i;
      high = ref_decides.sound m.high n.high r i;
    }

pub node_decides : Decides same_node
node_decides = record {
  sound = same_node_sound;
  reflexive = λ n. true_both (natural_decides.reflexive n.level) (true_both (ref_decides.reflexive n.low) (ref_decides.reflexive n.high));
}

-- ---- whole numbers and entries

same_number_sound : (m n : ℤ) → same_number m n ≡ true → m ≡ n
same_number_sound (pos m) (pos n) e = ap pos (eqb-true m n e)
same_number_sound (pos m) (negsuc n) e = absurd (true≢false (sym e))
same_number_sound (negsuc m) (pos n) e = absurd (true≢false (sym e))
same_number_sound (negsuc m) (negsuc n) e = ap negsuc (eqb-true m n e)

same_number_reflexive : (m : ℤ) → same_number m m ≡ true
same_number_reflexive (pos m) = eq-eqb m m refl
same_number_reflexive (negsuc m) = eq-eqb m m refl

same_entry_sound : (x y : Entry) → same_entry x y ≡ true → x ≡ y
same_entry_sound x y e =
    let (ab, cd) = both_true (same_number x.a y.a && same_number x.b y.b) (same_number x.c y.c && same_number x.d y.d) e in
    let (p, q) = both_true (same_number x.a y.a) (same_number x.b y.b) ab in
    let (r, s) = both_true (same_number x.c y.c) (same_number x.d y.d) cd in
    λ i. record {
      a = same_number_sound x.a y.a p i;
      b = same_number_sound x.b y.b q i;
      c = same_number_sound x.c y.c r i;
      d = same_number_sound x.d y.d s i;
    }

pub entry_decides : Decides same_entry
entry_decides = record {
  sound = same_entry_sound;
  reflexive = λ x. true_both
      (true_both (same_number_reflexive x.a) (same_number_reflexive x.b))
      (true_both (same_number_reflexive x.c) (same_number_reflexive x.d));
}
