-- Places: the bits of a row and a column, interleaved and taken apart.
-- Assumes nothing.
use mathlib.Core.Path.{◌≡◌, refl, ap}
use mathlib.Core.Bool.{Bool}
use mathlib.Core.List.{[], ◌∷◌}
use Prim.Native.Nat.{ℕ, zero, suc, ◌*◌}
use native.Mathlib.Omega.{arith}
use lib.ListN.{length, get_or}
use Rattle.algebra.specs.Matrix.{Bits}
use Rattle.diagrams.specs.Diagram.{levels, place, rows, columns}

pub levels_double : (n : ℕ) → levels n ≡ 2 * n
levels_double zero = refl
levels_double (suc n) = omega (arith, levels_double n)

-- ---- lengths

pub length_place : (n : ℕ) (r c : Bits) → length r ≡ n → length c ≡ n → length (place r c) ≡ levels n
length_place zero [] c e f = refl
length_place (suc n) [] c e f = absurd (omega arith)
length_place n (x ∷ r) [] e f = absurd (omega arith)
length_place zero (x ∷ r) (y ∷ c) e f = absurd (omega arith)
length_place (suc n) (x ∷ r) (y ∷ c) e f = omega (arith, length_place n r c (omega arith) (omega arith))

pub length_halves : (n : ℕ) (l : Bits) → length l ≡ levels n → (length (rows l) ≡ n) × (length (columns l) ≡ n)
length_halves zero [] e = (refl, refl)
length_halves (suc n) [] e = absurd (omega arith)
length_halves zero (x ∷ []) e = absurd (omega arith)
length_halves (suc n) (x ∷ []) e = absurd (omega arith)
length_halves zero (x ∷ (y ∷ l)) e = absurd (omega arith)
length_halves (suc n) (x ∷ (y ∷ l)) e = let h = length_halves n l (omega arith) in (ap suc h.0, ap suc h.1)

-- ---- the row and the column of a place

pub place_halves : (r c : Bits) → length r ≡ length c → (rows (place r c) ≡ r) × (columns (place r c) ≡ c)
place_halves [] [] e = (refl, refl)
place_halves [] (y ∷ c) e = absurd (omega arith)
place_halves (x ∷ r) [] e = absurd (omega arith)
place_halves (x ∷ r) (y ∷ c) e = let h = place_halves r c (omega arith) in (ap (λ (l : Bits). x ∷ l) h.0, ap (λ (l : Bits). y ∷ l) h.1)

-- "Level 2q asks for the row bit of qubit q, level 2q + 1 for its column bit"
pub level_bits : (r c : Bits) (q : ℕ) (blank : Bool) → length r ≡ length c
    → (get_or (place r c) (levels q) blank ≡ get_or r q blank) × (get_or (place r c) (suc (levels q)) blank ≡ get_or c q blank)
level_bits [] [] q blank e = (refl, refl)
level_bits [] (y ∷ c) q blank e = absurd (omega arith)
level_bits (x ∷ r) [] q blank e = absurd (omega arith)
level_bits (x ∷ r) (y ∷ c) zero blank e = (refl, refl)
level_bits (x ∷ r) (y ∷ c) (suc q) blank e = level_bits r c q blank (omega arith)
