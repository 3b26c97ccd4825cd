-- `pairs::judge_lists` meets its contract: the schedule made in the buffer is the proportional one, whose room is enough for
-- any two lists. Assumes nothing.
use mathlib.Core.Path.{◌≡◌, sym, ◌∙◌, ap, subst}
use Prim.Native.Nat.{ℕ, ◌+◌}
use native.Mathlib.Omega.{arith}
use lib.ListN.{length-replicate}
use lib.Seq.{length-take-le}
use Rattle.pairs.specs.Pair.{along_report, lists_report}
use Rattle.pairs.proofs.Schedules.{Scheduled, scheduled}
use Rattle.pairs.proofs.judge_lists.Goals.{After-proportional-made, After-unwrap-steps}
use Rattle.pairs.proofs.judge_lists.Goals as goal

-- what the buffer holds once the schedule is made
made : (c : After-proportional-made) → Scheduled c.args.u.now c.args.v.now c.proportional-made.result
    (c.count_gates.result + c.count_gates-2.result) c.proportional-made.new.buffer
made c =
    scheduled _ _ _ (omega (arith, length-replicate {A = ℕ} 8192 0)) c.count_gates.ensures c.count_gates-2.ensures
    c.proportional-made.ensures.answer c.proportional-made.ensures.contents

-- with the steps as they are unwrapped
unwrapped : (c : After-unwrap-steps) → Scheduled c.args.u.now c.args.v.now c.proportional-made.result c.unwrap-steps.result
    c.proportional-made.new.buffer
unwrapped c =
    let s = made ((goal.at.After-unwrap-steps c).After-proportional-made) in
    let same : c.count_gates.result + c.count_gates-2.result ≡ c.unwrap-steps.result = cc s.made in
    subst (λ (k : ℕ). Scheduled c.args.u.now c.args.v.now c.proportional-made.result k c.proportional-made.new.buffer) same s

pub unwrap-steps-requires : goal.unwrap-steps-requires
unwrap-steps-requires c = rw (made ((goal.at.unwrap-steps-requires c).After-proportional-made)).made

pub slice_bounds-buffer-end : goal.slice_bounds-buffer-end
slice_bounds-buffer-end c = (unwrapped ((goal.at.slice_bounds-buffer-end c).After-unwrap-steps)).room

pub slice_bounds-judge_along-end : goal.slice_bounds-judge_along-end
slice_bounds-judge_along-end c = sym (length-take-le _ _ (unwrapped ((goal.at.slice_bounds-judge_along-end c).After-unwrap-steps)).room)

pub returns : goal.returns
unfolding lists_report
returns c = c.judge_along.ensures ∙ ap (along_report _ _) (unwrapped ((goal.at.returns c).After-unwrap-steps)).front
