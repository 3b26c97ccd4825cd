-- `algebra::turned` meets its contract: the four numbers from place j on. Assumes nothing.
use Rattle.std.proofs.Common.{◌∙◌, ap, sym, refl, arith}
use Rattle.std.proofs.lemmas.Int.{ints}
use Rattle.algebra.specs.Width.{bounded}
use Rattle.algebra.proofs.Entries.{by_parts}
use Rattle.algebra.proofs.Rotations.{part_at, part_shift, turned_parts}
use Rattle.algebra.proofs.turned.Goals as goal

pub returns : goal.returns
returns c =
    let x = c.args.x in
    let j = c.args.j in
    c.narrowed.ensures ∙ ap (bounded _) (by_parts (
      omega (arith, ints) ∙ c.rotated.ensures ∙ part_at x j refl,
      omega (arith, ints) ∙ c.rotated-2.ensures ∙ part_shift x j 1,
      omega (arith, ints) ∙ c.rotated-3.ensures ∙ part_shift x j 2,
      omega (arith, ints) ∙ c.rotated-4.ensures ∙ part_shift x j 3,
    ) ∙ sym (turned_parts x j))
