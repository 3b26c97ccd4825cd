-- `judges::judge_in` meets its contract: the run's outcome is the answer, once the second store and what the first does not keep are 0.
-- Assumes nothing.
use mathlib.Core.Path.{sym, ◌∙◌, ap}
use Rattle.stores.specs.Columns.{Columns, columns_of}
use Rattle.endings.specs.Ending.{report_of}
use Rattle.judges.proofs.Passing.{passed_task}
use Rattle.judges.proofs.Reports.{Run_over, first_slots, over_readable, over_answer}
use Rattle.judges.proofs.judge_in.Goals.{After-run-ended}
use Rattle.judges.proofs.judge_in.Goals as goal

abbrev Over : After-run-ended → Type 0
Over c = let x = c.args in Run_over x.course.now x.sizes x.first.now x.second.now x.scratch.now
    c.run-ended.new.first c.run-ended.new.second c.run-ended.result

over : (c : After-run-ended) → Over c
over c = record {
  left = c.run-ended.ensures.left;
  passed = c.requires.passed;
  scratch = c.requires.scratch;
  first_same = c.run-ended.ensures.same_first;
  second_same = c.run-ended.ensures.same_second;
}

pub run-ended-requires : goal.run-ended-requires
run-ended-requires c = passed_task {first = columns_of c.args.first.now} {second = columns_of c.args.second.now} c.requires.passed c.requires.scratch

pub wipe-requires-2 : goal.wipe-requires-2
wipe-requires-2 c = first_slots (over (goal.at.wipe-requires-2 c).After-run-ended) _ c.kept-used.ensures

pub report-requires : goal.report-requires
report-requires c =
    over_readable (over (goal.at.report-requires c).After-run-ended) _ c.kept-used.ensures _ (c.view.ensures ∙ c.wipe-2.ensures.wiped)
    {last = c.wipe-2.new.self} (sym c.view.ensures) c.wipe-2.ensures.same_columns

pub returns-clause-answer : goal.returns-clause-answer
returns-clause-answer c =
    over_answer (over (goal.at.returns-clause-answer c).After-run-ended) _ c.kept-used.ensures _ c.wipe-2.ensures.wiped _ c.wipe.ensures.wiped
    (c.report.ensures ∙ ap (λ (C : Columns). report_of c.args.course.now.n C c.run-ended.result) c.view.ensures)
