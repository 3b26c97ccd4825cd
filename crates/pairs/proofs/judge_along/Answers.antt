-- `pairs::judge_along` meets its contract: the report of the call, whose two stores are all 0 before it. Assumes nothing.
use mathlib.Core.Path.{◌∙◌, ap, ap₂}
use Rattle.miters.specs.Run.{Outcome}
use Rattle.stores.specs.Columns.{Columns, cleared}
use Rattle.judges.specs.Answer.{answer}
use Rattle.pairs.specs.Pair.{store, along_report}
use Rattle.pairs.proofs.judge_along.Goals as goal

pub returns : goal.returns
unfolding along_report store cleared
returns c =
    let x = c.args in
    ap (λ (o : Outcome). o.report) (c.judge.ensures.answer
    ∙ ap₂ (λ (first second : Columns). answer x.u.now x.v.now x.schedule.now 32 first second) c.store.ensures c.store-2.ensures)
