-- `inverses::write_operands` meets its contract: each form of the data has its numbers written one after another. Assumes nothing.
use mathlib.Core.Path.{ap}
use mathlib.Core.List.{◌++◌}
use native.Mathlib.Omega.{arith}
use lib.ListN.{length, length-append}
use Rattle.encodings.specs.Encoding.{number_bytes}
use Rattle.encodings.proofs.Puts.{wrote_then, put_room}
use Rattle.inverses.proofs.Undoing.{data_is, data_with}
use Rattle.inverses.proofs.write_operands.Goals as goal

pub number-requires-in-Controlled-2-clause-v_in_bounds : goal.number-requires-in-Controlled-2-clause-v_in_bounds
number-requires-in-Controlled-2-clause-v_in_bounds c =
    put_room _ c.number-in-Controlled.ensures.put (omega (arith, ap length (data_with c.args.gate c.in-Controlled.is)))

pub number-requires-in-Exchanging-2-clause-v_in_bounds : goal.number-requires-in-Exchanging-2-clause-v_in_bounds
number-requires-in-Exchanging-2-clause-v_in_bounds c =
    let g = c.args.gate in
    let targets = number_bytes g.target ++ number_bytes g.second in
    put_room _ c.number-in-Exchanging.ensures.put (omega (
      arith,
      ap length (data_is g c.in-Exchanging.is),
      length-append (number_bytes g.control) targets,
      length-append (number_bytes g.control) (number_bytes g.target),
      length-append (number_bytes g.target) (number_bytes g.second),
    ))

pub number-requires-in-Exchanging-3-clause-v_in_bounds : goal.number-requires-in-Exchanging-3-clause-v_in_bounds
number-requires-in-Exchanging-3-clause-v_in_bounds c =
    let g = c.args.gate in
    let targets = number_bytes g.target ++ number_bytes g.second in
    put_room _ c.number-in-Exchanging-2.ensures.put
    (put_room targets c.number-in-Exchanging.ensures.put (omega (arith, ap length (data_is g c.in-Exchanging.is))))

pub returns-in-Controlled : goal.returns-in-Controlled
returns-in-Controlled c =
    rw (data_with c.args.gate c.in-Controlled.is) (wrote_then c.number-in-Controlled.ensures c.number-in-Controlled-2.ensures)

pub returns-in-Exchanging : goal.returns-in-Exchanging
returns-in-Exchanging c =
    rw (data_is c.args.gate c.in-Exchanging.is)
    (wrote_then c.number-in-Exchanging.ensures (wrote_then c.number-in-Exchanging-2.ensures c.number-in-Exchanging-3.ensures))
