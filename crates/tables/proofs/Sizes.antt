-- The sizes of tables: what the code works out at once is what doubling comes to, and it lies between 1 and the most.
-- Assumes nothing.
use mathlib.Core.Path.{◌≡◌, refl, sym, ◌∙◌}
use mathlib.Core.Bool.{Bool, true, false}
use Prim.Native.Nat.{ℕ, zero, suc, ◌+◌, ◌*◌, ◌/◌, ◌%◌, ◌^◌, ◌<◌, ◌≤◌, max}
use native.Mathlib.Nat.{mul-le-mul_left, le-mul_of_pos_right, pow-succ'}
use native.Mathlib.Omega.{arith}
use lib.Dec.{ltb}
use borrow.Author.Tests.{lt-ltb, le-ltb}
use Rattle.std.specs.Int.{div_ceil}
use Rattle.std.proofs.lemmas.Nat.{pow_pos}
use Rattle.tables.specs.Table.{doubled, table_size}

doubled_done : (fuel wanted size : ℕ) → wanted ≤ size → doubled fuel wanted size ≡ size
unfolding doubled
doubled_done zero wanted size done = refl
doubled_done (suc fuel) wanted size done = rw (le-ltb size wanted done)

-- ---- worked out at once

-- a size below what is wanted, doubled, and what is left of the power
module _ (wanted size k : ℕ) (some : 1 ≤ size) (half : size * 2 ^ suc k < 2 * wanted) where
  twice : size * 2 ^ suc k ≡ 2 * size * 2 ^ k
  twice = rw pow-succ' (omega arith)

  less : size < wanted
  less =
      let grown : size ≤ size * 2 ^ k = le-mul_of_pos_right size (pow_pos k) in
      omega (arith, twice, grown)

-- a size times a power of two that is as much as is wanted, where half of it is not
doubled_power : (k fuel wanted size : ℕ) → 1 ≤ size → wanted ≤ size + fuel → wanted ≤ size * 2 ^ k → (1 ≤ k → size * 2 ^ k < 2 * wanted)
    → doubled fuel wanted size ≡ size * 2 ^ k
unfolding doubled
doubled_power zero fuel wanted size some fuelled enough half = rw (doubled_done fuel wanted size (omega arith)) (omega arith)
doubled_power (suc k) zero wanted size some fuelled enough half = absurd (omega (arith, less wanted size k some (half (omega arith))))
doubled_power (suc k) (suc fuel) wanted size some fuelled enough half =
    let under = half (omega arith) in
    let is = twice wanted size k some under in
    let half_on : 2 * size * 2 ^ k < 2 * wanted = omega (arith, is, under) in
    rw (lt-ltb size wanted (less wanted size k some under))
    (doubled_power k fuel wanted (2 * size) (omega arith) (omega arith) (omega (arith, is)) (λ many. half_on) ∙ sym is)

-- the least size, times the least power of two that is as much as goes into what is wanted, rounded up
module _ (wanted least p : ℕ) (some : 1 ≤ least) (enough : div_ceil wanted least ≤ p) (half : p / 2 < max 1 (div_ceil wanted least)) where
  size_enough : wanted ≤ least * p
  size_enough = by_rest (wanted % least) refl
    where
      by_rest : (m : ℕ) → wanted % least ≡ m → wanted ≤ least * p
      by_rest zero none = let over : least * (wanted / least) ≤ least * p = mul-le-mul_left least (omega arith) in omega arith
      by_rest (suc m) rest = let over : least * (wanted / least + 1) ≤ least * p = mul-le-mul_left least (omega arith) in omega arith

  -- half of an even power is less
  size_least : (q : ℕ) → p ≡ 2 * q → 1 ≤ q → least * p < 2 * wanted
  size_least q is many = by_rest (wanted % least) refl
    where
      by_rest : (m : ℕ) → wanted % least ≡ m → least * p < 2 * wanted
      by_rest zero none =
          let below : least * (q + 1) ≤ least * (wanted / least) = mul-le-mul_left least (omega arith) in
          rw is (omega arith)
      by_rest (suc m) rest =
          let below : least * q ≤ least * (wanted / least) = mul-le-mul_left least (omega arith) in
          rw is (omega arith)

  size_by : (k : ℕ) → p ≡ 2 ^ k → 1 ≤ k → least * p < 2 * wanted
  size_by zero is many = absurd (omega arith)
  size_by (suc k) is many = size_least (2 ^ k) (is ∙ pow-succ' 2 k) (pow_pos k)

  pub doubled_is : (k : ℕ) → p ≡ 2 ^ k → doubled wanted wanted least ≡ least * p
  doubled_is k is =
      rw is (doubled_power k wanted wanted least some (omega arith) (rw is at size_enough) (rw is at (size_by k is)))

  -- it fits a machine number
  pub size_limit : (k : ℕ) → p ≡ 2 ^ k → least * p ≤ least + 2 * wanted
  size_limit zero is = rw is (omega arith)
  size_limit (suc k) is = omega (arith, size_by (suc k) is (omega arith))

-- ---- its range

doubled_some : (fuel wanted size : ℕ) → 1 ≤ size → 1 ≤ doubled fuel wanted size
unfolding doubled
doubled_some zero wanted size some = some
doubled_some (suc fuel) wanted size some = by_test (ltb size wanted) refl (doubled_some fuel wanted (2 * size) (omega arith))
  where
    by_test : (b : Bool) → ltb size wanted ≡ b → 1 ≤ doubled fuel wanted (2 * size) → 1 ≤ doubled (suc fuel) wanted size
    by_test true e more = rw e more
    by_test false e more = rw e some

pub table_size_some : (nodes least most : ℕ) → 1 ≤ least → 1 ≤ most → 1 ≤ table_size nodes least most
unfolding table_size
table_size_some nodes least most some room = omega (arith, doubled_some (2 * nodes) (2 * nodes) least some)

pub table_size_limit : (nodes least most : ℕ) → table_size nodes least most ≤ most
unfolding table_size
table_size_limit nodes least most = omega arith
