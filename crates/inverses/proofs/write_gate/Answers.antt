-- `inverses::write_gate` meets its contract: the data of the code say the inverse's code and what follows it. Assumes nothing.
use mathlib.Core.Path.{ap}
use native.Mathlib.Omega.{arith}
use lib.ListN.{length}
use Rattle.encodings.proofs.Puts.{wrote_then, put_room}
use Rattle.inverses.proofs.Undoing.{undo_said}
use Rattle.inverses.proofs.write_gate.Goals as goal

pub write_operands-requires-clause-in_bounds : goal.write_operands-requires-clause-in_bounds
write_operands-requires-clause-in_bounds c =
    put_room _ c.number.ensures.put (omega (arith, ap length (undo_said c.args.gate c.rule-rule.ensures.is c.from.ensures)))

pub returns : goal.returns
returns c = rw (undo_said c.args.gate c.rule-rule.ensures.is c.from.ensures) (wrote_then c.number.ensures c.write_operands.ensures)
