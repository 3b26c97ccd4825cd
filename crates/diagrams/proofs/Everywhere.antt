-- A test of all bit lists of a length.
-- Assumes nothing.
use mathlib.Core.Path.{◌≡◌, refl, sym, ◌∙◌, ap, ap₂}
use mathlib.Core.Logic.{◌↔◌}
use mathlib.Core.Bool.{Bool, true, false, ◌&&◌}
use mathlib.Core.List.{[], ◌∷◌}
use Prim.Native.Nat.{ℕ, zero, suc}
use native.Mathlib.Omega.{arith}
use lib.ListN.{length}
use Rattle.algebra.specs.declared.Entry.{Entry}
use Rattle.algebra.specs.Matrix.{Bits, Matrix, everywhere}
use Rattle.diagrams.specs.Diagram.{levels, place, rows, columns, entries}
use Rattle.diagrams.proofs.Places.{length_place, length_halves, place_halves}
use Rattle.diagrams.proofs.Tests.{both_true, true_both}

everywhere_all : (k : ℕ) (test : Bits → Bool) → everywhere k test ≡ true → (l : Bits) → length l ≡ k → test l ≡ true
everywhere_all zero test e [] h = e
everywhere_all zero test e (b ∷ l) h = absurd (omega arith)
everywhere_all (suc k) test e [] h = absurd (omega arith)
everywhere_all (suc k) test e (b ∷ l) h = everywhere_all k (λ m. test (b ∷ m)) (by_bit b) l (omega arith)
  where
    halves : (everywhere k (λ m. test (false ∷ m)) ≡ true) × (everywhere k (λ m. test (true ∷ m)) ≡ true)
    halves = both_true (everywhere k (λ m. test (false ∷ m))) (everywhere k (λ m. test (true ∷ m))) e

    by_bit : (b : Bool) → everywhere k (λ m. test (b ∷ m)) ≡ true
    by_bit false = halves.0
    by_bit true = halves.1

all_everywhere : (k : ℕ) (test : Bits → Bool) → ((l : Bits) → length l ≡ k → test l ≡ true) → everywhere k test ≡ true
all_everywhere zero test all = all [] refl
all_everywhere (suc k) test all = true_both
    (all_everywhere k (λ m. test (false ∷ m)) (λ l h. all (false ∷ l) (ap suc h)))
    (all_everywhere k (λ m. test (true ∷ m)) (λ l h. all (true ∷ l) (ap suc h)))

pub everywhere_ext : (k : ℕ) (p q : Bits → Bool) → ((l : Bits) → length l ≡ k → p l ≡ q l) → everywhere k p ≡ everywhere k q
everywhere_ext zero p q h = h [] refl
everywhere_ext (suc k) p q h = ap₂ ◌&&◌
    (everywhere_ext k (λ m. p (false ∷ m)) (λ m. q (false ∷ m)) (λ l e. h (false ∷ l) (ap suc e)))
    (everywhere_ext k (λ m. p (true ∷ m)) (λ m. q (true ∷ m)) (λ l e. h (true ∷ l) (ap suc e)))

-- a test of all entries
pub entries_everywhere : (n : ℕ) (test : Entry → Bool) (M : Matrix)
    → (everywhere (levels n) (λ l. test (entries M l)) ≡ true) ↔ ((r c : Bits) → length r ≡ n → length c ≡ n → test (M r c) ≡ true)
entries_everywhere n test M = (
  λ e r c p q. let halves = place_halves r c (p ∙ sym q) in
      ap₂ (λ (x y : Bits). test (M x y)) (sym halves.0) (sym halves.1)
      ∙ everywhere_all (levels n) (λ l. test (entries M l)) e (place r c) (length_place n r c p q),
  λ all. all_everywhere (levels n) (λ l. test (entries M l)) (λ l h. all (rows l) (columns l) (length_halves n l h).0 (length_halves n l h).1),
)
