-- Whole numbers in a width: the width rule as one bound on `mag`, for a general w; what casts and 64-bit sums keep.
-- Assumes nothing.
use mathlib.Core.Path.{◌≡◌, refl, sym, ap, ap₂, ◌∙◌}
use mathlib.Core.Bool.{Bool, true, false, cond, ◌&&◌, and-true, true≢false}
use Prim.Native.Nat.{ℕ, zero, suc, ◌+◌, ◌*◌, ◌-◌, ◌^◌, ◌%◌, ◌≤◌, ◌<◌}
use native.Mathlib.Omega.{arith}
use native.Mathlib.Nat.{one-mul, lt_of_lt_of_le}
use borrow.Author.Tests.{ltb-true, leb-true}
use lib.Dec.{leb, ltb, leb-suc-suc, lit<}
use lib.IntN.{ℤ, pos, negsuc, neg_ℤ, sub_ℕ, ◌-ℤ◌}
use lib.Pow.{pow_mono, pow-lt, pow_pos, shl_exact}
use lib.Signed.{mag, lt_z, le_z}
use mir.Facts.{to_z-of_z, to_z_pos}
use mir.Syntax.{w32, w64}
use mir.Val.{SFits, to_z, of_z}
use Rattle.algebra.specs.Width.{fit_width, number_in_width, entry_in_width, bounded}
use Rattle.std.proofs.Common.{Some, None, is_le, is_lt, nat_cmp, int_cmp}
use Rattle.std.proofs.lemmas.Int.{ints}
use Rattle.std.proofs.lemmas.Bool.Decides.{nat_tests}
use Rattle.algebra.specs.declared.Entry.{Entry}

-- ---- the width rule as a bound

within_half : (half : ℕ) (z : ℤ) → (le_z (neg_ℤ (pos (suc half))) z && lt_z z (pos (suc half))) ≡ ltb (mag z) (suc half)
within_half half (pos n) = refl
within_half half (negsuc n) = and-true (leb n half) ∙ sym (leb-suc-suc n half)

-- a number lies in the width exactly if `mag`, which is n at n and at −n − 1, lies below 2^(w − 1)
pub in_width_mag : (w : ℕ) (z : ℤ) → number_in_width w z ≡ ltb (mag z) (2 ^ (w - 1))
unfolding number_in_width
in_width_mag w z = by (2 ^ (w - 1)) (pow_pos (w - 1))
  where
    by : (half : ℕ) → 0 < half → (le_z (neg_ℤ (pos half)) z && lt_z z (pos half)) ≡ ltb (mag z) half
    by zero h = absurd (omega arith)
    by (suc half) h = within_half half z

pub in_width_fits : (w : ℕ) (z : ℤ) → w ≤ 32 → number_in_width w z ≡ true → mag z < 2 ^ 31
in_width_fits w z h e =
    lt_of_lt_of_le (ltb-true (mag z) (2 ^ (w - 1)) (sym (in_width_mag w z) ∙ e)) (pow_mono {j = 31} (omega arith))

-- ---- a difference of natural numbers

sub_mag : (a b P Q : ℕ) → a < P + b → b ≤ Q → mag (sub_ℕ a b) < P + Q
sub_mag a b P Q p q = by (ltb a b) refl
  where
    by : (t : Bool) → ltb a b ≡ t → mag (cond t (negsuc (b - suc a)) (pos (a - b))) < P + Q
    by true e = omega (arith, ltb-true a b e)
    by false e = omega arith

-- ---- a number held in 64 bits that is cast to 32

pub record Narrows (z : ℤ) : Type 0 where
  pub fits : SFits w32 (to_z w64 (of_z w64 z))
  pub same : to_z w32 (of_z w32 (to_z w64 (of_z w64 z))) ≡ z

narrows : (z : ℤ) → mag z < 2 ^ 31 → Narrows z
narrows z small = record { fits = rw held small_fits; same = rw held (to_z-of_z small_fits) }
  where
    small_fits : SFits w32 z
    small_fits = record { sfits = small }

    held : to_z w64 (of_z w64 z) ≡ z
    held = to_z-of_z {w = w64} (record { sfits = omega arith })

-- ---- 2^(w − 1)

pub half_is : (k : ℕ) → k < 63 → to_z w64 ((1 * 2 ^ k) % 18446744073709551616) ≡ pos (2 ^ k)
half_is k h = rw (shl_exact {a = 1} 1 k 64 (lit< tt) (omega arith), one-mul) (to_z_pos w64 (pow-lt h))

-- ---- the test of a range, as the machine makes it

nat_le : (a b : ℕ) → is_le (nat_cmp a b) ≡ leb a b
nat_le a b = grind (arith, nat_tests)

int_le : (a b : ℤ) → is_le (int_cmp a b) ≡ le_z a b
int_le a b = grind (arith, ints)

int_less : (a b : ℤ) → is_lt (int_cmp a b) ≡ lt_z a b
int_less a b = grind (arith, ints)

pub fits_width : (w : ℕ) → (is_le (nat_cmp 2 w) && is_le (nat_cmp w 32)) ≡ fit_width w
fits_width w = ap₂ ◌&&◌ (nat_le 2 w) (nat_le w 32)

module _ (w : ℕ) {s : ℤ} (fs : SFits w64 s) (high : w ≤ 32) where
  abbrev half : ℤ
  half = to_z w64 (1 * 2 ^ (w - 1) % 18446744073709551616)

  upper_is : half ≡ pos (2 ^ (w - 1))
  upper_is = half_is (w - 1) (omega arith)

  lower_is : to_z w64 (of_z w64 (pos 0 -ℤ half)) ≡ neg_ℤ (pos (2 ^ (w - 1)))
  lower_is =
      let bound : 2 ^ (w - 1) ≤ 2 ^ 31 = pow_mono {j = 31} (omega arith) in
      rw upper_is (omega (arith, ints))

  pub range_is : (is_le (int_cmp (to_z w64 (of_z w64 (pos 0 -ℤ half))) (to_z w64 (of_z w64 s))) && is_lt (int_cmp (to_z w64 (of_z w64 s)) half))
      ≡ number_in_width w s
  unfolding number_in_width
  range_is = rw (
    int_le (to_z w64 (of_z w64 (pos 0 -ℤ half))) (to_z w64 (of_z w64 s)),
    int_less (to_z w64 (of_z w64 s)) half,
    lower_is,
    upper_is,
    to_z-of_z fs,
  )

-- ---- `bounded` by the tests that decide it

pub both_left : (a b : Bool) → (a && b) ≡ true → a ≡ true
both_left true b e = refl
both_left false b e = e

pub both_right : (a b : Bool) → (a && b) ≡ true → b ≡ true
both_right true b e = e
both_right false b e = absurd (true≢false (sym e))

pub width_small : (w : ℕ) → fit_width w ≡ true → w ≤ 32
width_small w fit = leb-true w 32 (both_right (leb 2 w) (leb w 32) fit)

module _ (w : ℕ) (x : Entry) where
  pub within_width : fit_width w ≡ true → entry_in_width w x ≡ true → Some x ≡ bounded w x
  unfolding bounded
  within_width fit inside = sym (ap₂ (λ (s t : Bool). cond (s && t) (Some x) None) fit inside)

  pub no_width : fit_width w ≡ false → None ≡ bounded w x
  unfolding bounded
  no_width unfit = sym (ap (λ (s : Bool). cond (s && entry_in_width w x) (Some x) None) unfit)

  pub outside_width : fit_width w ≡ true → entry_in_width w x ≡ false → None ≡ bounded w x
  unfolding bounded
  outside_width fit outside = sym (ap₂ (λ (s t : Bool). cond (s && t) (Some x) None) fit outside)

  -- and then its numbers fit 32 bits
  pub all_narrow : w ≤ 32 → entry_in_width w x ≡ true → Narrows x.a × Narrows x.b × Narrows x.c × Narrows x.d
  all_narrow high inside =
      let ab = both_left (number_in_width w x.a && number_in_width w x.b) _ inside in
      let cd = both_right (number_in_width w x.a && number_in_width w x.b) _ inside in (
        one x.a (both_left (number_in_width w x.a) _ ab),
        one x.b (both_right (number_in_width w x.a) _ ab),
        one x.c (both_left (number_in_width w x.c) _ cd),
        one x.d (both_right (number_in_width w x.c) _ cd),
      )
    where
      one : (z : ℤ) → number_in_width w z ≡ true → Narrows z
      one z e = narrows z (in_width_fits w z high e)
