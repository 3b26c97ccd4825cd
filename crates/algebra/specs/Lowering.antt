-- Entries over an exponent, lowered as far as it goes. Definitions only.
use Rattle.std.specs.Prelude.{Bool, true, cond, ◌&&◌, List, [], ◌∷◌, map, ℕ, zero, suc}
use Rattle.algebra.specs.declared.Entry.{Entry}
use Rattle.algebra.specs.Division.{divisible, over_√2}

-- each of a list passes a test
abbrev pub every : {X : Type 0} → (X → Bool) → List X → Bool
every test [] = true
every test (x ∷ l) = test x && every test l

-- values, each over √2 to one power
pub record ValuesOver : Type 0 where
  pub values : List Entry
  pub power : ℕ

-- what lowering makes of the values of a diagram
abbrev pub lower_values : ℕ → List Entry → ValuesOver
lower_values zero vs = record { values = vs; power = 0 }
lower_values (suc k) vs = cond (every divisible vs) (lower_values k (map over_√2 vs)) (record { values = vs; power = suc k })
