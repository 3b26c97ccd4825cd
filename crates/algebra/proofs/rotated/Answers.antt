-- `algebra::rotated` meets its contract. Assumes nothing.
use native.Mathlib.Omega.{arith}
use Rattle.std.proofs.lemmas.Int.{ints}
use Rattle.std.proofs.Common.{◌≡◌, ◌%◌, ◌∙◌}
use Rattle.algebra.proofs.Rotations.{part_at}
use Rattle.algebra.proofs.rotated.Goals as goal

pub returns-in-0 : goal.returns-in-0
returns-in-0 c = omega (arith, ints) ∙ part_at c.args.x c.args.m c.in-0.is

pub returns-in-1 : goal.returns-in-1
returns-in-1 c = omega (arith, ints) ∙ part_at c.args.x c.args.m c.in-1.is

pub returns-in-2 : goal.returns-in-2
returns-in-2 c = omega (arith, ints) ∙ part_at c.args.x c.args.m c.in-2.is

pub returns-in-3 : goal.returns-in-3
returns-in-3 c = omega (arith, ints) ∙ part_at c.args.x c.args.m c.in-3.is

pub returns-in-4 : goal.returns-in-4
returns-in-4 c = omega (arith, ints) ∙ part_at c.args.x c.args.m c.in-4.is

pub returns-in-5 : goal.returns-in-5
returns-in-5 c = omega (arith, ints) ∙ part_at c.args.x c.args.m c.in-5.is

pub returns-in-6 : goal.returns-in-6
returns-in-6 c = omega (arith, ints) ∙ part_at c.args.x c.args.m c.in-6.is

pub returns-in_default : goal.returns-in_default
returns-in_default c = let seven : c.args.m % 8 ≡ 7 = omega arith in omega (arith, ints) ∙ part_at c.args.x c.args.m seven
