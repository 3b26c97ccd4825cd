-- The test of all terminals. Assumes nothing.
use mathlib.Core.Bool.{Bool, ◌&&◌}
use Rattle.std.proofs.Common.{◌≡◌, refl, ap, List, [], ◌∷◌}
use Rattle.std.specs.List.{list_all}
use Rattle.algebra.specs.Lowering.{every}

pub every_all : {X : Type 0} (test : X → Bool) (l : List X) → list_all test l ≡ every test l
every_all test [] = refl
every_all test (x ∷ l) = ap (◌&&◌ (test x)) (every_all test l)
