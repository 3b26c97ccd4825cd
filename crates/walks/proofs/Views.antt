-- What the walkers share: a state with a question left, a state after a bit, and their measures. Assumes nothing.
use mathlib.Core.Path.{◌≡◌, refl, sym, ◌∙◌}
use mathlib.Core.Bool.{Bool, false}
use Prim.Native.Nat.{ℕ, ◌+◌, ◌*◌, ◌%◌, ◌<◌}
use native.Mathlib.Omega.{arith}
use Rattle.transitions.specs.declared.State.{State}
use Rattle.transitions.specs.Plan.{plan_of}
use Rattle.transitions.specs.State.{top}
use Rattle.transitions.specs.Next.{next_state, is_leaf}
use Rattle.transitions.specs.Source.{cols_of, ReadingBoth}
use Rattle.tables.specs.declared.Placed.{Placed}
use Rattle.turns.specs.declared.Planned.{Planned}
use Rattle.turns.specs.declared.Work.{Work}
use Rattle.turns.specs.Work.{source_in}
use Rattle.turns.specs.Turn.{Ready, Asking}
use Rattle.turns.proofs.Turning.{asking_by, levels_left, next_falls}

module _ (step : Planned) where
  -- a state with a question left, by what a walker's tests and the question's level say
  pub asking_of : {w : Work} {p : Placed} (lv : ℕ) {leaf : Bool} → Ready step w p → leaf ≡ is_leaf p.state → leaf ≡ false
      → ReadingBoth (cols_of step.source.nodes) p.state.x p.state.y (λ s. lv ≡ top (plan_of step.plan.now) s p.state) → Asking step w p lv
  asking_of lv ready tested no_leaf reading =
      let asks = reading (source_in step) ready.source.nodes ready.valid_state.x_refers ready.valid_state.y_refers in
      asking_by step lv ready asks (sym tested ∙ no_leaf)

  -- ---- measures: the levels left, counted so that a walker that hands a state straight to the other comes before it

  abbrev pub row_measure : State → ℕ
  row_measure σ = 4 * levels_left step σ + 2 * (top (plan_of step.plan.now) (source_in step) σ % 2)

  abbrev pub column_measure : State → ℕ
  column_measure σ = 4 * levels_left step σ + 2 * ((top (plan_of step.plan.now) (source_in step) σ + 1) % 2)

  -- the state after a bit comes before both
  abbrev pub below_measure : ℕ → Bool → State → ℕ
  below_measure lv b σ = 4 * levels_left step (next_state (plan_of step.plan.now) (source_in step) lv b σ) + 3

  -- the walker of either kind that it goes to comes before it
  pub below_hands : (lv : ℕ) (b : Bool) (σ τ : State) → τ ≡ next_state (plan_of step.plan.now) (source_in step) lv b σ
      → (column_measure τ < below_measure lv b σ) × (row_measure τ < below_measure lv b σ)
  below_hands lv b σ τ is = rw is (omega arith, omega arith)

  module _ {w : Work} {p : Placed} {lv : ℕ} (asking : Asking step w p lv) where
    -- the state after a bit
    pub row_falls : (b : Bool) → below_measure lv b p.state < row_measure p.state
    row_falls b =
        let fall = next_falls step b (next_state (plan_of step.plan.now) (source_in step) lv b p.state) asking refl in
        let here : lv ≡ top (plan_of step.plan.now) (source_in step) p.state = asking.asks in
        omega arith

    pub column_falls : (b : Bool) → below_measure lv b p.state < column_measure p.state
    column_falls b =
        let fall = next_falls step b (next_state (plan_of step.plan.now) (source_in step) lv b p.state) asking refl in
        let here : lv ≡ top (plan_of step.plan.now) (source_in step) p.state = asking.asks in
        omega arith
