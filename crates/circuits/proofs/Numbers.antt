-- A number byte by byte, as the code reads it.
-- Assumes nothing.
use mathlib.Core.Bool.{Bool, true, false, not, cond, ◌&&◌}
use mathlib.Core.Path.{◌≡◌, refl, subst⁻¹}
use mathlib.Core.List.{List, [], ◌∷◌}
use Prim.Native.Nat.{ℕ, ◌+◌, ◌*◌, ◌%◌, ◌<◌, ◌≤◌}
use native.Mathlib.Nat.{add_assoc}
use native.Mathlib.Numerals.{add-one}
use native.Mathlib.Omega.{arith}
use borrow.Author.Tests.{ltb-true, ltb-false, lt-ltb, le-ltb}
use lib.ListN.{length, drop, length-drop}
use lib.Seq.{drop-cons}
use lib.Dec.{ltb, eqb}
use Rattle.std.specs.Prelude.{Result, slice_index}
use Rattle.circuits.specs.declared.Refusal.{Refusal}
use Rattle.circuits.specs.declared.Reader.{Reader as ReaderAt}
use Rattle.circuits.specs.Refusals.{refusal, not_shortest}
use Rattle.circuits.specs.Reading.{Reading, Reader, read, refused, ◌>>=◌, pure, here, refuse, byte, third_group, second_group, first_group, number}
use Rattle.circuits.specs.Answers.{Says}

-- ---- the bytes from an offset on

no_bytes : (s : List ℕ) → length s ≤ 0 → s ≡ []
no_bytes [] h = refl
no_bytes (x ∷ s) h = absurd (omega arith)

module _ (s : List ℕ) (at : ℕ) where
  drop_past : ltb at (length s) ≡ false → drop at s ≡ []
  drop_past e = no_bytes (drop at s) (rw length-drop (omega (arith, ltb-false at (length s) e)))

  drop_from : ltb at (length s) ≡ true → drop at s ≡ slice_index s at ∷ drop (at + 1) s
  drop_from e = rw (add-one, drop-cons s at 0 (ltb-true at (length s) e))

-- ---- the groups, one after another

abbrev pub third_byte : ℕ → ℕ → ℕ → Reader ℕ
third_byte start x y = do
  z ← byte start
  cond (not (eqb z 0) && ltb z 128) (pure (x % 128 + y % 128 * 128 + z * 16384)) (refuse not_shortest start)

abbrev pub second_byte : ℕ → ℕ → Reader ℕ
second_byte start x = do
  y ← byte start
  cond (ltb y 128) (cond (not (eqb y 0)) (pure (x % 128 + y * 128)) (refuse not_shortest start)) (third_byte start x y)

abbrev pub first_byte : Reader ℕ
first_byte = do
  start ← here
  x ← byte start
  cond (ltb x 128) (pure x) (second_byte start x)

-- the tests on a group, made before the offset is given and after it
module _ (s : List ℕ) (next start v : ℕ) where
  abbrev not_short : Reading ℕ
  not_short = refused (refusal not_shortest start)

  first_test : (t : Bool) (more : Reader ℕ) → cond t (read v next) (more s next) ≡ cond t (pure v) more s next
  first_test true more = refl
  first_test false more = refl

  second_test : (t z : Bool) (more : Reader ℕ) → cond t (cond z not_short (read v next)) (more s next)
      ≡ cond t (cond (not z) (pure v) (refuse not_shortest start)) more s next
  second_test true true more = refl
  second_test true false more = refl
  second_test false z more = refl

  third_test : (t z : Bool) → cond t (cond z not_short (read v next)) not_short ≡ cond (not z && t) (pure v) (refuse not_shortest start) s next
  third_test true true = refl
  third_test true false = refl
  third_test false true = refl
  third_test false false = refl

module _ (s : List ℕ) (at : ℕ) where
  third_is : (k x y : ℕ) → k + 1 ≡ at + 3 → third_group at x y (drop k s) ≡ third_byte at x y s k
  third_is k x y end = by_test (ltb k (length s)) refl
    where
      z : ℕ
      z = slice_index s k

      by_test : (b : Bool) → ltb k (length s) ≡ b → third_group at x y (drop k s) ≡ third_byte at x y s k
      by_test true e = rw (e, drop_from s k e, end) (third_test s (at + 3) at (x % 128 + y % 128 * 128 + z * 16384) (ltb z 128) (eqb z 0))
      by_test false e = rw (e, drop_past s k e)

  second_is : (k x : ℕ) → k + 1 ≡ at + 2 → second_group at x (drop k s) ≡ second_byte at x s k
  second_is k x end = by_test (ltb k (length s)) refl
    where
      y : ℕ
      y = slice_index s k

      third : third_group at x y (drop (k + 1) s) ≡ third_byte at x y s (at + 2)
      third = rw end (third_is (at + 2) x y (omega arith))

      by_test : (b : Bool) → ltb k (length s) ≡ b → second_group at x (drop k s) ≡ second_byte at x s k
      by_test true e =
          rw (e, drop_from s k e, third, end) (second_test s (at + 2) at (x % 128 + y * 128) (ltb y 128) (eqb y 0) (third_byte at x y))
      by_test false e = rw (e, drop_past s k e)

  pub number_is : number s at ≡ first_byte s at
  unfolding number
  number_is = by_test (ltb at (length s)) refl
    where
      x : ℕ
      x = slice_index s at

      by_test : (b : Bool) → ltb at (length s) ≡ b → first_group at (drop at s) ≡ first_byte s at
      by_test true e = rw (e, drop_from s at e, second_is (at + 1) x (omega arith)) (first_test s (at + 1) at x (ltb x 128) (second_byte at x))
      by_test false e = rw (e, drop_past s at e)

pub number_said : (s : List ℕ) (at : ℕ) (old new : ReaderAt) (r : Result ℕ Refusal)
    → Says (λ v. v) (first_byte s at) old new r → Says (λ v. v) (number s at) old new r
number_said s at old new r h = subst⁻¹ (λ (m : Reading ℕ). Says (λ v. v) m old new r) (number_is s at) h

-- ---- four groups or more

module _ (s : List ℕ) (at : ℕ) (in₁ : at < length s) (more₁ : 128 ≤ slice_index s at)
    (in₂ : at + 1 < length s) (more₂ : 128 ≤ slice_index s (at + 1)) (in₃ : at + 2 < length s) where
  pub too_many_groups : 128 ≤ slice_index s (at + 2) → refused (refusal not_shortest at) ≡ number s at
  unfolding number
  too_many_groups more = rw (
    drop_from s at (lt-ltb _ _ in₁),
    le-ltb _ _ more₁,
    drop_from s (at + 1) (lt-ltb _ _ in₂),
    le-ltb _ _ more₂,
    add_assoc at 1 1,
    drop_from s (at + 2) (lt-ltb _ _ in₃),
    le-ltb _ _ more,
  )
