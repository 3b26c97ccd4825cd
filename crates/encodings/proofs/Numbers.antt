-- A number is read exactly where its encoding stands.
-- Assumes nothing.
use mathlib.Core.Path.{◌≡◌, sym, ◌∙◌, ap, ap₂, subst, ◌≡⟨◌⟩◌, ◌∎}
use mathlib.Core.List.{List, [], ◌∷◌, ◌++◌}
use Prim.Native.Nat.{ℕ, ◌+◌, ◌*◌, ◌/◌, ◌%◌, ◌<◌, ◌≤◌}
use native.Mathlib.Decide.{dec_lt}
use native.Mathlib.Omega.{arith}
use borrow.Author.Tests.{lt-ltb, le-ltb, ne_eqb}
use lib.ListN.{length, drop}
use Rattle.circuits.specs.Reading.{read, first_group, number}
use Rattle.encodings.specs.Encoding.{Bytes, number_bytes}
use Rattle.circuits.proofs.Forms.{Form, single, double, triple, number_form}
use Rattle.encodings.proofs.Spelling.{Spelled, spelled, drop_bytes}

-- ---- the bytes of a number

module _ (v : ℕ) where
  pub one_byte : v < 128 → number_bytes v ≡ v ∷ []
  unfolding number_bytes
  one_byte small = rw (lt-ltb v 128 small)

  pub two_bytes : 128 ≤ v → v < 16384 → number_bytes v ≡ (v % 128 + 128) ∷ v / 128 ∷ []
  unfolding number_bytes
  two_bytes large small = rw (le-ltb v 128 large, lt-ltb v 16384 small)

  pub three_bytes : 16384 ≤ v → number_bytes v ≡ (v % 128 + 128) ∷ (v / 128 % 128 + 128) ∷ v / 16384 ∷ []
  unfolding number_bytes
  three_bytes large = rw (le-ltb v 128 (omega arith), le-ltb v 16384 large)

-- a number below 2^21 has one of the three forms
pub data Sized (v : ℕ) : Type 0 where
  one : v < 128 → Sized v
  two : 128 ≤ v → v < 16384 → Sized v
  three : 16384 ≤ v → v < 2097152 → Sized v

pub sized : (v : ℕ) → v < 2097152 → Sized v
sized v small = elim (dec_lt v 128) [
  | yes h ↦ one h
  | no h ↦ elim (dec_lt v 16384) [
    | yes k ↦ two (omega arith) k
    | no k ↦ three (omega arith) small
  ]
]

-- ---- what is read takes as many bytes as its shortest form has

form_long : {at v next : ℕ} {t : List ℕ} → Form at t v next → next ≡ at + length (number_bytes v)
form_long (single {x} hx) = rw (one_byte x hx)
form_long (double {x} {y} hx hy y>0) = rw (two_bytes (x % 128 + y * 128) (omega arith) (omega arith))
form_long (triple {x} {y} {z} hx hy hz z>0) = rw (three_bytes (x % 128 + y % 128 * 128 + z * 16384) (omega arith))

pub number_long : (s : List ℕ) (at : ℕ) {v next : ℕ} → number s at ≡ read v next → next ≡ at + length (number_bytes v)
number_long s at e = form_long (number_form s at e)

-- ---- what is read is spelled there

-- the groups of a number of two bytes and of three are those of its bytes
two_back : (x y : ℕ) → x < 256 → 128 ≤ x → y < 128 → 0 < y → number_bytes (x % 128 + y * 128) ≡ x ∷ y ∷ []
two_back x y byte hx hy y>0 =
    two_bytes (x % 128 + y * 128) (omega arith) (omega arith) ∙ ap₂ (λ (p q : ℕ). p ∷ q ∷ []) (omega arith) (omega arith)

three_back : (x y z : ℕ) → x < 256 → y < 256 → 128 ≤ x → 128 ≤ y → z < 128 → 0 < z
    → number_bytes (x % 128 + y % 128 * 128 + z * 16384) ≡ x ∷ y ∷ z ∷ []
three_back x y z byte_x byte_y hx hy hz z>0 =
    three_bytes (x % 128 + y % 128 * 128 + z * 16384) (omega arith)
    ∙ ap₂ (λ (p : ℕ) (l : List ℕ). p ∷ l) (omega arith) (ap₂ (λ (q r : ℕ). q ∷ r ∷ []) (omega arith) (omega arith))

record Shown (t : List ℕ) (v : ℕ) : Type 0 where
  rest : List ℕ
  here : t ≡ number_bytes v ++ rest

form_shown : {at v next : ℕ} {t : List ℕ} → Bytes t → Form at t v next → Shown t v
form_shown b (single {x} {t} hx) = record { rest = t; here = rw (one_byte x hx) }
form_shown b (double {x} {y} {t} hx hy y>0) = record { rest = t; here = rw (two_back x y b.0 hx hy y>0) }
form_shown b (triple {x} {y} {z} {t} hx hy hz z>0) = record { rest = t; here = rw (three_back x y z b.0 b.1.0 hx hy hz z>0) }

pub number_spelled : (s : List ℕ) → Bytes s → (at : ℕ) {v next : ℕ} → number s at ≡ read v next
    → Spelled s at (number_bytes v) next
number_spelled s b at {v} {next} e =
    let f = form_shown (drop_bytes at s b) (number_form s at e) in
    subst (Spelled s at (number_bytes v)) (sym (number_long s at e)) (spelled s at (number_bytes v) f.rest f.here)

-- ---- what is spelled there is read

module _ (at v : ℕ) (t : List ℕ) where
  one_read : v < 128 → first_group at (v ∷ t) ≡ read v (at + 1)
  one_read small = rw (lt-ltb v 128 small)

  two_read : 128 ≤ v → v < 16384 → first_group at ((v % 128 + 128) ∷ v / 128 ∷ t) ≡ read v (at + 2)
  two_read large small =
      rw (le-ltb (v % 128 + 128) 128 (omega arith), lt-ltb (v / 128) 128 (omega arith), ne_eqb (v / 128) 0 (omega arith))
      (ap (λ (w : ℕ). read w (at + 2)) (omega arith))

  three_read : 16384 ≤ v → v < 2097152
      → first_group at ((v % 128 + 128) ∷ (v / 128 % 128 + 128) ∷ v / 16384 ∷ t) ≡ read v (at + 3)
  three_read large small =
      rw (le-ltb (v % 128 + 128) 128 (omega arith), le-ltb (v / 128 % 128 + 128) 128 (omega arith))
      (rw (lt-ltb (v / 16384) 128 (omega arith), ne_eqb (v / 16384) 0 (omega arith)) (ap (λ (w : ℕ). read w (at + 3)) (omega arith)))

module _ (s : List ℕ) (at : ℕ) {v next : ℕ} (p : Spelled s at (number_bytes v) next) where
  read_as : {bs : List ℕ} → number_bytes v ≡ bs → first_group at (bs ++ drop next s) ≡ read v (at + length bs) → number s at ≡ read v next
  unfolding number
  read_as {bs} e f =
      number s at ≡⟨ ap (first_group at) (p.here ∙ ap (λ (l : List ℕ). l ++ drop next s) e) ⟩
      first_group at (bs ++ drop next s) ≡⟨ f ⟩
      read v (at + length bs) ≡⟨ ap (read v) (sym (p.after ∙ ap (λ (l : List ℕ). at + length l) e)) ⟩
      read v next ∎

  pub number_reads : v < 2097152 → number s at ≡ read v next
  number_reads small = elim (sized v small) [
    | one h ↦ read_as (one_byte v h) (one_read at v (drop next s) h)
    | two l h ↦ read_as (two_bytes v l h) (two_read at v (drop next s) l h)
    | three l h ↦ read_as (three_bytes v l) (three_read at v (drop next s) l h)
  ]
