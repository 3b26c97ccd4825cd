-- `judges::judge` meets its contract: a refusal of the checks is the answer, and so is what the run of a pair leaves.
-- Assumes nothing.
use mathlib.Core.Path.{sym, ◌∙◌}
use Rattle.stores.specs.Columns.{columns_of}
use Rattle.judges.proofs.Passing.{passed, refused_answer}
use Rattle.judges.proofs.judge.Goals as goal

pub judge_sized-requires : goal.judge_sized-requires
judge_sized-requires c =
    let checked = rw (c.of.ensures, c.of-2.ensures) at c.check.ensures in
    passed _ _ _ _ (columns_of c.args.first.now) (columns_of c.args.second.now) _ (sym checked ∙ c.in-Ok.is)

pub returns-in-Err-clause-answer : goal.returns-in-Err-clause-answer
returns-in-Err-clause-answer c =
    let checked = rw (c.of.ensures, c.of-2.ensures) at c.check.ensures in
    refused_answer _ _ _ _ (columns_of c.args.first.now) (columns_of c.args.second.now) (sym checked ∙ c.in-Err.is) c.from.ensures
