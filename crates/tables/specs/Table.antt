-- The computed table of a step's walk: which slot a state has, what is recalled there, what noting an answer changes.
-- Definitions only. The paper knows no such table: it spares a walk that was made before, and what a step makes is the same without it.
use Rattle.std.specs.Prelude.{Bool, cond, ◌&&◌, List, ◌++◌, ◌≡◌, ℕ, zero, suc, ◌+◌, ◌-◌, ◌*◌, ◌<◌, ◌≤◌, min}
use Rattle.std.specs.Prelude.{eqb, ltb, length, get_or, set, drop, replicate}
use Rattle.std.specs.Prelude.{Option, Some, None}
use Rattle.uniques.specs.UniqueTable.{spread}
use Rattle.transitions.specs.declared.State.{State}
use Rattle.transitions.specs.Plan.{Plan}
use Rattle.transitions.specs.Next.{mode_code, Coded, Once}
use Rattle.tables.specs.declared.Placed.{Placed}

-- ---- the slot of a state

-- Three regions hold one number for each reference: those of the modes that the gate's two phases leave, and of a gate that
-- has yet to act. All other modes share the entries after them. A mode is meant by its number.
abbrev pub region : Plan → ℕ → ℕ
region plan mode = cond (eqb mode plan.phases.zero) 0 (cond (eqb mode plan.phases.one) 1 (cond (eqb mode 16) 2 3))

-- the entry of a state, by the spread that the unique tables have of a node
abbrev pub bucket : ℕ → ℕ → ℕ → ℕ → ℕ
bucket slots x y mode = spread x y mode slots

unfoldable pub slot_of : Plan → State → ℕ
slot_of plan σ =
    let mode = mode_code σ.mode in
    let r = region plan mode in
    cond (ltb r 3) (r * plan.span + σ.x) (3 * plan.span + 4 * bucket plan.slots σ.x σ.y mode)

-- a state with its slot
abbrev pub placed : Plan → State → Placed
placed plan σ = record { state = σ; at = slot_of plan σ }

-- where the table ends
abbrev pub table_end : Plan → ℕ
table_end plan = 3 * plan.span + 4 * plan.slots

-- ---- recalling and noting

-- an answer is kept as 0, for none, or as the answer and one more
abbrev pub told : ℕ → Option ℕ
told n = cond (eqb n 0) None (Some (n - 1))

-- the one answer that has no number one more
abbrev pub unkept : ℕ
unkept = 4294967295

abbrev pub kept_as : ℕ → ℕ
kept_as answer = cond (ltb answer unkept) (answer + 1) 0

-- an entry is x, y, the mode's number and one more, so that a cleared entry is no state's, and the answer as it is kept
abbrev pub entered : List ℕ → ℕ → State → Bool
entered memo at σ = eqb (get_or memo (at + 2) 0) (mode_code σ.mode + 1) && (eqb (get_or memo at 0) σ.x && eqb (get_or memo (at + 1) 0) σ.y)

abbrev pub recalled_at : Plan → List ℕ → ℕ → State → Option ℕ
recalled_at plan memo at σ =
    told (cond (ltb at (3 * plan.span)) (get_or memo at 0) (cond (entered memo at σ) (get_or memo (at + 3) 0) 0))

unfoldable pub recalled : Plan → List ℕ → State → Option ℕ
recalled plan memo σ = recalled_at plan memo (slot_of plan σ) σ

abbrev pub noted_at : Plan → List ℕ → ℕ → State → ℕ → List ℕ
noted_at plan memo at σ answer =
    cond (ltb at (3 * plan.span))
    (set memo at (kept_as answer))
    (set (set (set (set memo at σ.x) (at + 1) σ.y) (at + 2) (mode_code σ.mode + 1)) (at + 3) (kept_as answer))

unfoldable pub noted : Plan → List ℕ → State → ℕ → List ℕ
noted plan memo σ answer = noted_at plan memo (slot_of plan σ) σ answer

-- ---- what fits

-- the sizes that a plan has; its phases are powers of w8
pub record TableSizes (plan : Plan) : Type 0 where
  pub some_slots : 1 ≤ plan.slots
  pub slots_limit : plan.slots ≤ 65536
  pub span_limit : plan.span ≤ 131074
  pub phase_zero : plan.phases.zero < 8
  pub phase_one : plan.phases.one < 8

-- the table lies in the memory lent for it
pub record TableFits (plan : Plan) (memo : List ℕ) : Type 0 where
  pub sizes : TableSizes plan
  pub room : table_end plan ≤ length memo

-- the references of a state are the source's, one of them twice where its mode makes use of one; and its mode has a number of its own
pub record InTable (plan : Plan) (σ : State) : Type 0 where
  pub first : σ.x < plan.span
  pub second : σ.y < plan.span
  pub coded : Coded σ.mode
  pub once : Once σ.mode σ.x σ.y

-- What a look at the table asks: the state's own slot, in a table that fits. A ghost field speaks of its own struct's fields, so a struct that
-- owned this fact would hand the plan and the lent table on beside each state.
pub record AtSlot (plan : Plan) (memo : List ℕ) (p : Placed) : Type 0 where
  pub table : TableFits plan memo
  pub place : InTable plan p.state
  pub slot : p.at ≡ slot_of plan p.state

-- every answer that is recalled is right
pub record AllRight (Right : State → ℕ → Type 0) (plan : Plan) (memo : List ℕ) : Type 0 where
  pub right : (σ : State) → InTable plan σ → (answer : ℕ) → recalled plan memo σ ≡ Some answer → Right σ answer

-- ---- sizes, clearing

-- doubled until it is at least as much as is wanted; as much fuel as is wanted suffices
unfoldable pub doubled : ℕ → ℕ → ℕ → ℕ
doubled zero wanted size = size
doubled (suc fuel) wanted size = cond (ltb size wanted) (doubled fuel wanted (2 * size)) size

-- the smallest least · 2^k that is at least twice the count, but at most `most`
unfoldable pub table_size : ℕ → ℕ → ℕ → ℕ
table_size count least most = min (doubled (2 * count) (2 * count) least) most

-- the first numbers 0, the rest as before
abbrev pub cleared : ℕ → List ℕ → List ℕ
cleared to memo = replicate to 0 ++ drop to memo
