-- What is left of a product's terminals. Definitions only.
use Rattle.std.specs.Prelude.{◌≡◌, List, ℕ}
use Rattle.algebra.specs.declared.Entry.{Entry}
use Rattle.algebra.specs.Lowering.{lower_values}

-- the terminals are divided by √2 as often as it goes, and r is the exponent then
pub record Lowers (power : ℕ) (terminals terminals' : List Entry) (r : ℕ) : Type 0 where
  pub values : terminals' ≡ (lower_values power terminals).values
  pub exponent : r ≡ (lower_values power terminals).power
