-- `inverses::write_gates` meets its contract. Assumes nothing.
use mathlib.Core.Path.{refl}
use native.Mathlib.Omega.{arith}
use Rattle.std.proofs.Common.{rules}
use Rattle.inverses.proofs.Writing.{said, writing_none, was_read_so, After, after, writing_more}
use Rattle.inverses.proofs.write_gates.Goals.{After-unwrap-gate}
use Rattle.inverses.proofs.write_gates.Goals as goal

-- what follows the gate that a turn has read
the_rest : (c : After-unwrap-gate)
    → After c.loop.invariant c.loop-test.true c.gate.new.self c.gate.result c.gate.ensures.says c.unwrap-gate.result c.unwrap-gate.ensures
the_rest c = after _ _ _ _ _ _ _

pub loop-init : goal.loop-init
loop-init c = writing_none c.args.buffer.now (said _ c.requires.listed) c.new-reader.ensures

pub unwrap-gate-requires : goal.unwrap-gate-requires
unwrap-gate-requires c = rw (was_read_so c.loop.invariant c.loop-test.true c.gate.new.self c.gate.result c.gate.ensures.says) refl

pub overflow_sub-at : goal.overflow_sub-at
overflow_sub-at c = omega (arith, (the_rest c).end)

pub write_gate-requires-clause-small : goal.write_gate-requires-clause-small
write_gate-requires-clause-small c =
    (the_rest ((goal.at.write_gate-requires-clause-small c).After-unwrap-gate)).small (said _ c.requires.listed).few

pub write_gate-requires-clause-in_bounds : goal.write_gate-requires-clause-in_bounds
write_gate-requires-clause-in_bounds c =
    let rest = the_rest ((goal.at.write_gate-requires-clause-in_bounds c).After-unwrap-gate) in
    omega (arith, rest.end, rest.room, c.loop.invariant.long)

pub loop-preserved : goal.loop-preserved
loop-preserved c =
    writing_more c.loop.invariant c.loop-test.true c.gate.new.self c.gate.result c.gate.ensures.says c.unwrap-gate.result c.unwrap-gate.ensures
    _ (search (rules, c.write_gate.ensures.put.stored))
