-- Between the parts of a walker: before its question, and before each bit of it. Definitions only.
use Rattle.std.specs.Prelude.{◌≡◌, Result, ℕ}
use Rattle.std.specs.declared.ops.ControlFlow.{ControlFlow}
use Rattle.std.specs.declared.ops.ControlFlow.TheVariants.{Break, Continue}
use Rattle.transitions.specs.declared.State.{State}
use Rattle.tables.specs.declared.Placed.{Placed}
use Rattle.turns.specs.declared.OutsideWidth.{OutsideWidth}
use Rattle.turns.specs.declared.Planned.{Planned}
use Rattle.turns.specs.declared.Work.{Work}
use Rattle.turns.specs.Work.{progress_of, Working}
use Rattle.turns.specs.Turn.{Asking, Walked}

-- the answer, or the level at which the state asks, and then nothing has changed
abbrev pub Begun : Planned → Work → Placed → Work → ControlFlow (Result ℕ OutsideWidth) ℕ → Type 0
Begun step w p w' (Break r) = Walked step w p.state r w'
Begun step w p w' (Continue lv) = (w' ≡ w) × Asking step w p lv

-- a state that asked at a level when its walk began; the work since then is right
pub record Descending (step : Planned) (w : Work) (lv : ℕ) (σ : State) : Type 0 where
  pub since : Work
  pub at : ℕ
  pub asking : Asking step since (record { state = σ; at = at }) lv
  pub work : Working step (progress_of w) w
