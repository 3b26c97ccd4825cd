-- `uniques::search` meets its contract. The loop's invariant: what a search from an element on answers, one from the first on does. The measure
-- is the number that leads to it. Assumes nothing.
use mathlib.Core.Path.{◌≡◌}
use Prim.Native.Nat.{suc}
use native.Mathlib.Omega.{arith}
use Rattle.uniques.proofs.Chains.{met_end, met_here, met_later}
use Rattle.uniques.proofs.search.Goals as goal

pub returns-then-is : goal.returns-then-is
returns-then-is g c =
    c.loop-i.invariant.1 _ (met_here c.loop-i.next c.in-Some.i (omega (arith, c.in-Some.ensures)) c.is.ensures c.if-is.true)

pub loop-i-preserved : goal.loop-i-preserved
loop-i-preserved g c =
    let there : c.loop-i.next ≡ suc c.in-Some.i = omega (arith, c.in-Some.ensures) in (
      omega (arith, c.in-Some.ensures, c.loop-i.invariant.0, c.requires.falls.falls c.in-Some.i (omega (arith, there, c.loop-i.invariant.0))),
      λ r rest. c.loop-i.invariant.1 r (met_later c.loop-i.next c.in-Some.i there c.is.ensures c.if-is.false rest),
    )

pub returns : goal.returns
returns g c = c.loop-i.invariant.1 _ (met_end c.loop-i.next (omega (arith, c.in_default.ensures)))
