-- What the machine's quotient and remainder by 2 are.
-- Assumes nothing.
use mathlib.Core.Path.{◌≡◌, refl, ◌∙◌, ap}
use Prim.Native.Nat.{ℕ, zero, suc, ◌/◌, ◌%◌, ◌^◌, ◌<◌, ◌≤◌}
use native.Mathlib.Omega.{arith}
use lib.Dec.{eqb}
use lib.IntN.{ℤ, pos, negsuc, neg_ℤ}
use lib.Signed.{mag, quot_z, rem_z}
use mir.Syntax.{w32, w64}
use mir.Facts.{to_z-of_z}
use mir.Val.{SFits, to_z, of_z}
use Rattle.algebra.specs.Division.{even, half}

negated_mag : (k bound : ℕ) → k ≤ suc bound → mag (neg_ℤ (pos k)) ≤ bound
negated_mag zero bound h = omega arith
negated_mag (suc k) bound h = omega arith

quot_mag : (z : ℤ) → mag (quot_z z (pos 2)) ≤ mag z
quot_mag (pos n) = omega arith
quot_mag (negsuc n) = negated_mag (suc n / 2) n (omega arith)

half_mag : (z : ℤ) → mag z < 2 ^ 32 → mag (quot_z z (pos 2)) < 2 ^ 31
half_mag (pos n) h = omega arith
half_mag (negsuc n) h = omega (arith, negated_mag (suc n / 2) 2147483647 (omega arith))

-- the remainder's bits are 0 exactly if the number is even
even_bits : (z : ℤ) → eqb (of_z w64 (rem_z z (pos 2))) 0 ≡ even z
unfolding even
even_bits (pos n) = refl
even_bits (negsuc n) = by (suc n % 2) (omega arith)
  where
    by : (k : ℕ) → k < 2 → eqb (of_z w64 (neg_ℤ (pos k))) 0 ≡ eqb k 0
    by zero h = refl
    by (suc zero) h = refl
    by (suc (suc k)) h = absurd (omega arith)

-- ---- as a local holds the number

abbrev held : ℤ → ℤ
held z = to_z w64 (of_z w64 z)

pub quot_fits : {z : ℤ} → SFits w64 z → SFits w64 (quot_z (held z) (pos 2))
quot_fits {z} f = rw (to_z-of_z f) (record { sfits = omega (arith, quot_mag z, f.sfits) })

pub half_fits : {z : ℤ} → SFits w64 z → mag z < 2 ^ 32 → SFits w32 (to_z w64 (of_z w64 (quot_z (held z) (pos 2))))
half_fits {z} f h = rw (to_z-of_z (quot_fits f), to_z-of_z f) (record { sfits = half_mag z h })

pub half_is : {z : ℤ} (f : SFits w64 z) (h : mag z < 2 ^ 32) → to_z w32 (of_z w32 (to_z w64 (of_z w64 (quot_z (held z) (pos 2))))) ≡ half z
unfolding half
half_is f h = to_z-of_z (half_fits f h) ∙ to_z-of_z (quot_fits f) ∙ ap (λ (x : ℤ). quot_z x (pos 2)) (to_z-of_z f)

pub even_is : {z : ℤ} → SFits w64 z → eqb (of_z w64 (rem_z (held z) (pos 2))) 0 ≡ even z
even_is {z} f = ap (λ (x : ℤ). eqb (of_z w64 (rem_z x (pos 2))) 0) (to_z-of_z f) ∙ even_bits z
