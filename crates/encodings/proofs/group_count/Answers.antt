-- `encodings::group_count` meets its contract: 32 less the leading zeros is the count of significant bits. Assumes nothing.
use native.Mathlib.Omega.{arith}
use Rattle.encodings.proofs.Groups.{groups_rounded}
use Rattle.encodings.proofs.group_count.Goals as goal

pub returns : goal.returns
returns c = omega (arith, groups_rounded c.args.v (omega arith))
