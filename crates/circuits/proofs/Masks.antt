-- Masks by shifts: what a shift leaves, and when it leaves nothing.
-- Assumes nothing.
use mathlib.Core.Path.{◌≡◌, sym, ◌∙◌}
use Prim.Native.Nat.{ℕ, ◌/◌, ◌^◌, ◌<◌, ◌≤◌}
use native.Mathlib.Decide.{dec_lt}
use native.Mathlib.Nat.{div-eq_of_lt, div-lt_iff_lt-mul, lt_of_lt_of_le, one-mul}
use native.Mathlib.Omega.{arith}
use lib.Dec.{eqb, ltb}
use lib.Pow.{pow_pos, pow_mono}
use borrow.Author.Tests.{eq-eqb, ne_eqb, lt-ltb, le-ltb}
use Rattle.std.specs.Prelude.{Option, Some, None}
use Rattle.std.specs.Option.{SomeIff, unwrap_or}

wide : (mask q : ℕ) → mask < 2 ^ 32 → 32 ≤ q → mask < 2 ^ q
wide mask q small past = lt_of_lt_of_le small (pow_mono {i = 32} {j = q} past)

-- a shift is a division by a power of two, and leaves nothing from 32 on
pub shifted : (mask q : ℕ) (rest : Option ℕ) → mask < 2 ^ 32 → SomeIff rest (q < 32) (mask / 2 ^ q) → unwrap_or rest 0 ≡ mask / 2 ^ q
shifted mask q (Some x) small h = h.1
shifted mask q None small h = sym (div-eq_of_lt (wide mask q small (omega (arith, h))))

pub nothing_left : (mask n : ℕ) → eqb (mask / 2 ^ n) 0 ≡ ltb mask (2 ^ n)
nothing_left mask n = by_order (dec_lt mask (2 ^ n))
  where
    some : mask / 2 ^ n ≡ 0 → mask < 2 ^ n
    some e = let h = (div-lt_iff_lt-mul {k = 2 ^ n} {x = mask} {y = 1} (pow_pos n)).0 (omega (arith, e)) in omega (arith, h, one-mul (2 ^ n))

    by_order : Dec (mask < 2 ^ n) → eqb (mask / 2 ^ n) 0 ≡ ltb mask (2 ^ n)
    by_order (yes less) = eq-eqb (mask / 2 ^ n) 0 (div-eq_of_lt less) ∙ sym (lt-ltb mask (2 ^ n) less)
    by_order (no more) = ne_eqb (mask / 2 ^ n) 0 (λ e. more (some e)) ∙ sym (le-ltb mask (2 ^ n) (omega arith))
