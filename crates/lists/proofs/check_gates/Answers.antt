-- `lists::check_gates` meets its contract. The loop's invariant: the list's answer is that of the gates still to be read, from
-- the reader's offset on.
-- Assumes nothing.
use Prim.Native.Nat.{◌+◌, ◌-◌}
use native.Mathlib.Omega.{arith}
use Rattle.std.proofs.Common.{rules}
use Rattle.lists.proofs.Lists.{left_first, left_next, left_refusal, left_bytes, left_end}
use Rattle.lists.proofs.check_gates.Goals as goal

pub loop-init : goal.loop-init
loop-init c = left_first _ _ _ _ (omega arith)

pub returns-in_err-gate : goal.returns-in_err-gate
returns-in_err-gate c =
    let rest = c.args.gates - (c.loop.counter + 1) in
    let e = left_refusal _ _ _ _ _ c.loop.invariant rest (omega (arith, c.loop-test.true)) _ _ c.gate.ensures.says c.in_err-gate.was in
    search (rules, e)

pub loop-preserved : goal.loop-preserved
loop-preserved c = left_next _ _ _ _ _ c.loop.invariant _ (omega (arith, c.loop-test.true)) _ _ c.gate.ensures.says c.in_ok-gate.was

pub returns-then-reader : goal.returns-then-reader
returns-then-reader c = left_bytes _ _ _ _ _ c.loop.invariant (omega (arith, c.loop-test.false)) c.if-reader.true

pub returns : goal.returns
returns c = left_end _ _ _ _ _ c.loop.invariant (omega (arith, c.loop-test.false)) c.if-reader.false
