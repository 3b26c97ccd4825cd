-- `reports::Line::place` meets its contract: the list, and then the offset. Assumes nothing.
use mathlib.Core.Path.{◌≡◌, refl}
use Prim.Native.Nat.{◌^◌, ◌<◌}
use denote.Enum.Declared.{tag_of}
use native.Mathlib.Omega.{arith}
use Rattle.miters.specs.declared.Part.{Part}
use Rattle.miters.specs.declared.Part.TheVariants.{Length, First, Second}
use Rattle.miters.specs.contracts.Part.{the_type}
use Rattle.miters.specs.Report.{part_number}
use Rattle.reports.specs.Line.{place}
use Rattle.reports.proofs.Decimals.{digits_printed}
use Rattle.reports.proofs.Puts.{put_then}
use Rattle.reports.proofs.Line.place.Goals as goal

below : (list : Part) → part_number list < 2 ^ 64
below Length = omega arith
below First = omega arith
below Second = omega arith

cast_is : (list : Part) → part_number list ≡ tag_of the_type list
cast_is Length = refl
cast_is First = refl
cast_is Second = refl

pub returns : goal.returns
unfolding place
returns c =
    rw (
      digits_printed (part_number c.args.list) (below c.args.list),
      cast_is c.args.list,
      digits_printed c.args.offset c.ranges.offset.fits,
    ) (put_then c.named.ensures c.named-2.ensures)
