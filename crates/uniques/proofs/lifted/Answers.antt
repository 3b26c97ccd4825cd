-- `uniques::lifted` meets its contract: in 64 bits the sum does not wrap and is not negative. Assumes nothing.
use Rattle.std.proofs.Common.{◌≡◌, pos, ◌+ℤ◌, to_z, of_z, w64, refl, arith}
use Rattle.std.proofs.lemmas.Int.{ints}
use Rattle.uniques.specs.UniqueTable.{lifted}
use Rattle.uniques.proofs.Hashes.{lifted_below, lifted_sum}
use Rattle.uniques.proofs.lifted.Goals as goal

pub returns : goal.returns
returns c =
    let is : to_z w64 (of_z w64 (to_z w64 (of_z w64 c.from.result) +ℤ pos 2147483648)) ≡ pos (lifted c.args.x)
    = omega (arith, ints, lifted_sum c.args.x c.ranges.x.sfits) in
    rw is (refl, lifted_below c.args.x c.ranges.x.sfits)
