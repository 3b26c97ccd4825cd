-- The walkers meet their contracts: a turn's places are read as the laws of turns (turns/proofs/Turning.antt) say. Assumes nothing.
use Rattle.std.proofs.Common.{◌≡◌, ℕ, sym, refl, ap, ◌∙◌, true, false, arith}
use Rattle.transitions.specs.Plan.{plan_of}
use Rattle.transitions.specs.Next.{next_state}
use Rattle.tables.specs.declared.Placed.{Placed}
use Rattle.turns.specs.Work.{source_in}
use Rattle.turns.specs.Turn.{Ready}
use Rattle.turns.proofs.Turning.{ready_slot, next_ready, recalled_walked, low_left, high_left, turned}
use Rattle.walks.proofs.Views.{row_falls, column_falls, below_hands}
use Rattle.walks.proofs.+column_row.Goals.{below-After-place-placed}
use Rattle.walks.proofs.+column_row.Goals as goal

-- ---- a cofactor

-- the state after the bit
next_is : (t : ℕ) (c : below-After-place-placed t) → let e = c.args in
    c.place-placed.result.state ≡ next_state (plan_of e.planned.now.plan.now) (source_in e.planned.now) e.level e.bit e.state
next_is t c =
    let ready = c.requires.asking.ready in
    ap (λ (p : Placed). p.state) c.place-placed.ensures
    ∙ c.next-next.ensures _ ready.source.nodes ready.valid_state.x_refers ready.valid_state.y_refers

below_ready : (t : ℕ) (c : below-After-place-placed t) → Ready c.args.planned.now c.args.work.now c.place-placed.result
below_ready t c = next_ready _ _ _ _ c.requires.asking c.requires.work (next_is t c) (rw c.place-placed.ensures refl)

pub below-known-requires : goal.below-known-requires
below-known-requires t c = ready_slot _ (below_ready t (goal.at.below-known-requires t c).After-place-placed)

pub below-returns-in-Some-clause-walked : goal.below-returns-in-Some-clause-walked
below-returns-in-Some-clause-walked t c =
    let at = (goal.at.below-returns-in-Some-clause-walked t c).After-place-placed in
    rw (← next_is t at) (recalled_walked _ _ (below_ready t at) (sym c.known.ensures ∙ c.in-Some.is))

pub below-column-requires : goal.below-column-requires
below-column-requires t c =
    let at = (goal.at.below-column-requires t c).After-place-placed in
    let e = c.args in
    let fall = below_hands e.planned.now e.level e.bit e.state c.place-placed.result.state (next_is t at) in
    (omega (arith, c.decreases, fall.0), below_ready t at)

pub below-row-requires : goal.below-row-requires
below-row-requires t c =
    let at = (goal.at.below-row-requires t c).After-place-placed in
    let e = c.args in
    let fall = below_hands e.planned.now e.level e.bit e.state c.place-placed.result.state (next_is t at) in
    (omega (arith, c.decreases, fall.1), below_ready t at)

-- ---- row

pub row-below-requires : goal.row-below-requires
row-below-requires t c =
    let (same, asking) = c.in-Continue.ensures.begun in
    let fall = row_falls _ asking false in
    (omega (arith, c.decreases, fall), record { since = c.args.work.now; at = c.args.placed.at; asking = asking; work = rw same c.requires.work })

pub row-below-requires-in-Continue : goal.row-below-requires-in-Continue
row-below-requires-in-Continue t c =
    let (same, asking) = c.in-Continue.ensures.begun in
    let fall = row_falls _ asking true in (
      omega (arith, c.decreases, fall),
      record { since = c.args.work.now; at = c.args.placed.at; asking = asking; work = c.in_ok-low-in-Continue.ensures.walked.work },
    )

pub row-returns-in_err-low-in-Continue-clause-walked : goal.row-returns-in_err-low-in-Continue-clause-walked
row-returns-in_err-low-in-Continue-clause-walked t c =
    let (same, asking) = c.in-Continue.ensures.begun in
    low_left _ _ _ asking refl refl _ c.from_residual.ensures.0 (rw same at c.in_err-low-in-Continue.ensures.walked)

pub row-returns-in_err-high-in-Continue-clause-walked : goal.row-returns-in_err-high-in-Continue-clause-walked
row-returns-in_err-high-in-Continue-clause-walked t c =
    let (same, asking) = c.in-Continue.ensures.begun in
    high_left _ _ _ asking refl refl _ _ (rw same at c.in_ok-low-in-Continue.ensures.same) (rw same at c.in_ok-low-in-Continue.ensures.walked) _
    c.from_residual-in_err-high-in-Continue.ensures.0 c.in_err-high-in-Continue.ensures.walked

pub row-returns-in_ok-high-in-Continue-clause-walked : goal.row-returns-in_ok-high-in-Continue-clause-walked
row-returns-in_ok-high-in-Continue-clause-walked t c =
    let (same, asking) = c.in-Continue.ensures.begun in
    turned _ _ _ asking refl refl _ _ (rw same at c.in_ok-low-in-Continue.ensures.same) (rw same at c.in_ok-low-in-Continue.ensures.walked) _ _ _ _
    c.in_ok-high-in-Continue.ensures.same c.in_ok-high-in-Continue.ensures.walked c.finish.ensures.same c.finish.ensures.finished

-- ---- column

pub column-below-requires : goal.column-below-requires
column-below-requires t c =
    let (same, asking) = c.in-Continue.ensures.begun in
    let fall = column_falls _ asking false in
    (omega (arith, c.decreases, fall), record { since = c.args.work.now; at = c.args.placed.at; asking = asking; work = rw same c.requires.work })

pub column-below-requires-in-Continue : goal.column-below-requires-in-Continue
column-below-requires-in-Continue t c =
    let (same, asking) = c.in-Continue.ensures.begun in
    let fall = column_falls _ asking true in (
      omega (arith, c.decreases, fall),
      record { since = c.args.work.now; at = c.args.placed.at; asking = asking; work = c.in_ok-low-in-Continue.ensures.walked.work },
    )

pub column-returns-in_err-low-in-Continue-clause-walked : goal.column-returns-in_err-low-in-Continue-clause-walked
column-returns-in_err-low-in-Continue-clause-walked t c =
    let (same, asking) = c.in-Continue.ensures.begun in
    low_left _ _ _ asking refl refl _ c.from_residual.ensures.0 (rw same at c.in_err-low-in-Continue.ensures.walked)

pub column-returns-in_err-high-in-Continue-clause-walked : goal.column-returns-in_err-high-in-Continue-clause-walked
column-returns-in_err-high-in-Continue-clause-walked t c =
    let (same, asking) = c.in-Continue.ensures.begun in
    high_left _ _ _ asking refl refl _ _ (rw same at c.in_ok-low-in-Continue.ensures.same) (rw same at c.in_ok-low-in-Continue.ensures.walked) _
    c.from_residual-in_err-high-in-Continue.ensures.0 c.in_err-high-in-Continue.ensures.walked

pub column-returns-in_ok-high-in-Continue-clause-walked : goal.column-returns-in_ok-high-in-Continue-clause-walked
column-returns-in_ok-high-in-Continue-clause-walked t c =
    let (same, asking) = c.in-Continue.ensures.begun in
    turned _ _ _ asking refl refl _ _ (rw same at c.in_ok-low-in-Continue.ensures.same) (rw same at c.in_ok-low-in-Continue.ensures.walked) _ _ _ _
    c.in_ok-high-in-Continue.ensures.same c.in_ok-high-in-Continue.ensures.walked c.finish.ensures.same c.finish.ensures.finished
