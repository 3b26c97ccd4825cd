-- `runs::run` meets its contract: no room for the identity, or the identity and the steps from it on.
-- Assumes nothing.
use Rattle.runs.proofs.Loops.{run_few_nodes, run_few_values, run_starts, run_followed}
use Rattle.runs.proofs.run.Goals.{then-first-n-via-then-first-n, then-first-n-via-else-first-n+then-first}
use Rattle.runs.proofs.run.Goals as goal

pub returns-then-first-n-clause-left : goal.returns-then-first-n-clause-left
returns-then-first-n-clause-left c task = elim c.then-first-n.branch [
  | then-first-n-via-then-first-n w ↦ run_few_nodes c.args.first.now c.args.second.now _ task w.if-first-n.true
  | then-first-n-via-else-first-n+then-first w ↦ run_few_values c.args.first.now c.args.second.now _ task w.if-first.true
]

pub follow-requires : goal.follow-requires
follow-requires c =
    run_starts c.args.first.now c.args.second.now _ c.requires c.if-first-n.false c.if-first.false
    c.begin.ensures.same_first c.begin.ensures.same_second c.begin.ensures.begun

pub returns-clause-left : goal.returns-clause-left
returns-clause-left c task =
    run_followed c.args.first.now c.args.second.now _ task c.if-first-n.false c.if-first.false
    c.begin.ensures.same_first c.begin.ensures.same_second c.begin.ensures.begun c.follow.ensures.followed
