-- The slots of the computed table: where each lies, and that a number of a region belongs to one state.
-- Assumes nothing.
use mathlib.Core.Path.{◌≡◌, refl, sym, ◌∙◌, ap}
use mathlib.Core.Bool.{Bool, true, false}
use mathlib.Core.List.{List}
use mathlib.Core.Logic.{◌≢◌, ◌⊎◌, inl, inr}
use Prim.Native.Nat.{ℕ, zero, suc, ◌+◌, ◌*◌, ◌/◌, ◌%◌, ◌<◌, ◌≤◌}
use native.Mathlib.Nat.{mod-lt, div-lt_iff_lt-mul}
use native.Mathlib.Omega.{arith}
use lib.Arith.{digits_lt, digits_div, digits_mod}
use lib.Dec.{eqb, lit<}
use lib.ListN.{length}
use borrow.Author.Tests.{eqb-true, eqb-false, eq-eqb, ne_eqb, lt-ltb}
use Rattle.uniques.specs.UniqueTable.{spread}
use Rattle.transitions.specs.declared.Mode.{Mode}
use Rattle.transitions.specs.declared.Mode.TheVariants.{Turning, Adding, Subtracting, Waiting, Swapping, Choosing}
use Rattle.transitions.specs.declared.State.{State}
use Rattle.transitions.specs.Plan.{Plan}
use Rattle.transitions.specs.Next.{mode_code, Coded, Once}
use Rattle.transitions.proofs.Codes.{mode_code_once}
use Rattle.tables.specs.declared.Placed.{Placed}
use Rattle.tables.specs.Table.{region, bucket, slot_of, table_end, TableSizes, InTable, AtSlot}

-- ---- a mode's region

-- the mode that region k < 3 is for
abbrev mode_of_region : Plan → ℕ → ℕ
mode_of_region plan zero = plan.phases.zero
mode_of_region plan (suc zero) = plan.phases.one
mode_of_region plan (suc (suc k)) = 16

pub region_zero : (plan : Plan) (mode : ℕ) → mode ≡ plan.phases.zero → region plan mode ≡ 0
region_zero plan mode e = simp (eq-eqb mode _ e)

pub region_one : (plan : Plan) (mode : ℕ) → mode ≢ plan.phases.zero → mode ≡ plan.phases.one → region plan mode ≡ 1
region_one plan mode n e = simp (ne_eqb mode _ n, eq-eqb mode _ e)

pub region_waiting : (plan : Plan) (mode : ℕ) → mode ≢ plan.phases.zero → mode ≢ plan.phases.one → mode ≡ 16 → region plan mode ≡ 2
region_waiting plan mode n m e = simp (ne_eqb mode _ n, ne_eqb mode _ m, eq-eqb mode _ e)

pub region_shared : (plan : Plan) (mode : ℕ) → mode ≢ plan.phases.zero → mode ≢ plan.phases.one → mode ≢ 16 → region plan mode ≡ 3
region_shared plan mode n m e = simp (ne_eqb mode _ n, ne_eqb mode _ m, ne_eqb mode _ e)

-- ---- a state's slot

pub slot_alone : (plan : Plan) (σ : State) (k : ℕ) → k < 3 → region plan (mode_code σ.mode) ≡ k → slot_of plan σ ≡ k * plan.span + σ.x
unfolding slot_of
slot_alone plan σ k lt e = rw (e, lt-ltb k 3 lt)

pub slot_shared : (plan : Plan) (σ : State) → region plan (mode_code σ.mode) ≡ 3
    → slot_of plan σ ≡ 3 * plan.span + 4 * bucket plan.slots σ.x σ.y (mode_code σ.mode)
unfolding slot_of
slot_shared plan σ e = rw e

-- a state has a number of its mode's region, or an entry
data Place (plan : Plan) (σ : State) : Type 0 where
  alone : (k : ℕ) → k < 3 → (mode_code σ.mode) ≡ mode_of_region plan k → slot_of plan σ ≡ k * plan.span + σ.x → Place plan σ
  shared : slot_of plan σ ≡ 3 * plan.span + 4 * bucket plan.slots σ.x σ.y (mode_code σ.mode) → Place plan σ

place_of : (plan : Plan) (σ : State) → Place plan σ
place_of plan σ =
    by_tests (eqb (mode_code σ.mode) plan.phases.zero) (eqb (mode_code σ.mode) plan.phases.one) (eqb (mode_code σ.mode) 16) refl refl refl
  where
    by_tests : (p q w : Bool) → eqb (mode_code σ.mode) plan.phases.zero ≡ p → eqb (mode_code σ.mode) plan.phases.one ≡ q
        → eqb (mode_code σ.mode) 16 ≡ w → Place plan σ
    by_tests true q w e f g = let is = eqb-true _ _ e in alone 0 (lit< tt) is (slot_alone plan σ 0 (lit< tt) (region_zero plan _ is))
    by_tests false true w e f g =
        let is = eqb-true _ _ f in alone 1 (lit< tt) is (slot_alone plan σ 1 (lit< tt) (region_one plan _ (eqb-false _ _ e) is))
    by_tests false false true e f g =
        let is = eqb-true _ _ g in alone 2 (lit< tt) is (slot_alone plan σ 2 (lit< tt) (region_waiting plan _ (eqb-false _ _ e) (eqb-false _ _ f) is))
    by_tests false false false e f g = shared (slot_shared plan σ (region_shared plan _ (eqb-false _ _ e) (eqb-false _ _ f) (eqb-false _ _ g)))

-- a number below 65,536, scaled from 65,536 to the slots, is below the slots
pub share_limit : (mixed slots : ℕ) → 1 ≤ slots → mixed % 65536 * slots < slots * 65536
share_limit mixed slots some = omega (arith, digits_lt (mod-lt mixed {m = 65536} (lit< tt)) some)

pub bucket_limit : (slots x y mode : ℕ) → 1 ≤ slots → bucket slots x y mode < slots
unfolding spread
bucket_limit slots x y mode some = (div-lt_iff_lt-mul (lit< tt)).1 (share_limit _ slots some)

-- ---- where it lies

-- the numbers of the regions
alone_below : (plan : Plan) (σ : State) (k : ℕ) → σ.x < plan.span → k < 3 → slot_of plan σ ≡ k * plan.span + σ.x → slot_of plan σ < 3 * plan.span
alone_below plan σ k in_span lt at = rw at (digits_lt lt in_span)

-- the entries after them
pub entry_slot : (plan : Plan) (σ : State) → InTable plan σ → 3 * plan.span ≤ slot_of plan σ →
    slot_of plan σ ≡ 3 * plan.span + 4 * bucket plan.slots σ.x σ.y (mode_code σ.mode)
entry_slot plan σ place past = by_place (place_of plan σ)
  where
    by_place : Place plan σ → slot_of plan σ ≡ 3 * plan.span + 4 * bucket plan.slots σ.x σ.y (mode_code σ.mode)
    by_place (alone k lt is at) = absurd (omega (arith, alone_below plan σ k place.first lt at))
    by_place (shared at) = at

pub entry_room : (plan : Plan) (σ : State) → TableSizes plan → InTable plan σ → 3 * plan.span ≤ slot_of plan σ → slot_of plan σ + 4 ≤ table_end plan
entry_room plan σ sizes place past =
    omega (arith, entry_slot plan σ place past, bucket_limit plan.slots σ.x σ.y (mode_code σ.mode) sizes.some_slots)

pub at_room : {plan : Plan} {memo : List ℕ} {p : Placed} → AtSlot plan memo p → 3 * plan.span ≤ p.at → p.at + 4 ≤ length memo
at_room {plan} {memo} {p} s past = omega (arith, s.table.room, s.slot, entry_room plan p.state s.table.sizes s.place (omega (arith, s.slot)))

-- ---- a number of a region belongs to one state

-- a region's mode makes use of one reference
alone_once : (m : Mode) (x y : ℕ) → Coded m → Once m x y → (mode_code m < 8) ⊎ (mode_code m ≡ 16) → x ≡ y
alone_once (Turning e) x y coded once is = once
alone_once Adding x y coded once (inl is) = absurd (omega arith)
alone_once Adding x y coded once (inr is) = absurd (omega arith)
alone_once Subtracting x y coded once (inl is) = absurd (omega arith)
alone_once Subtracting x y coded once (inr is) = absurd (omega arith)
alone_once (Waiting k) x y coded once is = once
alone_once (Swapping k b) x y coded once (inl is) = absurd (omega arith)
alone_once (Swapping k b) x y coded once (inr is) = absurd (omega arith)
alone_once (Choosing k e) x y coded once (inl is) = absurd (omega arith)
alone_once (Choosing k e) x y coded once (inr is) = absurd (omega arith)

region_small : (plan : Plan) (k : ℕ) {m : ℕ} → TableSizes plan → m ≡ mode_of_region plan k → (m < 8) ⊎ (m ≡ 16)
region_small plan zero sizes is = inl (rw is sizes.phase_zero)
region_small plan (suc zero) sizes is = inl (rw is sizes.phase_one)
region_small plan (suc (suc k)) sizes is = inr is

pub same_state : {σ τ : State} → τ.x ≡ σ.x → τ.y ≡ σ.y → τ.mode ≡ σ.mode → τ ≡ σ
same_state x y mode = λ i. record { x = x i; y = y i; mode = mode i }

pub alone_same : (plan : Plan) (σ τ : State) → TableSizes plan → InTable plan σ → InTable plan τ →
    slot_of plan σ < 3 * plan.span → slot_of plan τ ≡ slot_of plan σ → τ ≡ σ
alone_same plan σ τ sizes in_σ in_τ below same = by_places (place_of plan σ) (place_of plan τ)
  where
    once : (ρ : State) (k : ℕ) → InTable plan ρ → mode_code ρ.mode ≡ mode_of_region plan k → ρ.x ≡ ρ.y
    once ρ k in_ρ is = alone_once ρ.mode ρ.x ρ.y in_ρ.coded in_ρ.once (region_small plan k sizes is)

    by_places : Place plan σ → Place plan τ → τ ≡ σ
    by_places (shared at) place = absurd (omega arith)
    by_places (alone k lt is at) (shared at_τ) = absurd (omega arith)
    by_places (alone k lt is at) (alone j lt_τ is_τ at_τ) =
        let both = sym at_τ ∙ same ∙ at in
        let x : τ.x ≡ σ.x = sym (digits_mod j in_τ.first) ∙ ap (λ (n : ℕ). n % plan.span) both ∙ digits_mod k in_σ.first in
        let regions : j ≡ k = sym (digits_div j in_τ.first) ∙ ap (λ (n : ℕ). n / plan.span) both ∙ digits_div k in_σ.first in
        let modes : mode_code τ.mode ≡ mode_code σ.mode = is_τ ∙ ap (mode_of_region plan) regions ∙ sym is in
        same_state x (sym (once τ j in_τ is_τ) ∙ x ∙ once σ k in_σ is) (mode_code_once τ.mode σ.mode in_τ.coded in_σ.coded modes)
