-- Where a plan has a control: at its stages, but for the target's.
-- Assumes nothing.
use mathlib.Core.Path.{◌≡◌, refl, sym, ◌∙◌, ap, ap₂, fun_ext}
use mathlib.Core.List.{◌∷◌}
use mathlib.Core.Bool.{Bool, true, false, not, ◌&&◌, ◌||◌, and-false, or-true}
use Prim.Native.Nat.{ℕ, zero, suc, ◌+◌, ◌<◌, ◌≤◌}
use native.Mathlib.Nat.{add-zero}
use native.Mathlib.Decide.{dec_lt}
use native.Mathlib.Omega.{arith}
use lib.Dec.{eqb}
use borrow.Author.Tests.{eq-eqb, ne_eqb}
use Rattle.algebra.specs.declared.Entry.{Entry}
use Rattle.algebra.specs.Matrix.{Bits}
use Rattle.gates.specs.Gate.{all_set}
use Rattle.gates.specs.Rule.{does_swap, phase}
use Rattle.gates.proofs.LocalRules.{all_set_none}
use Rattle.diagrams.specs.Diagram.{Store}
use Rattle.transitions.specs.Plan.{Plan, among, targeted, control}
use Rattle.transitions.specs.Valid.{ValidPlan, Passed}

-- ---- among the stages

pub among_none : (k : ℕ) (stage : ℕ → ℕ) (level : ℕ) → ((j : ℕ) → j < k → stage j ≡ level → ⊥) → among k stage level ≡ false
among_none zero stage level none = refl
among_none (suc k) stage level none =
    ap₂ ◌||◌ (ne_eqb _ _ (none k (omega arith))) (among_none k stage level (λ j h. none j (omega arith)))

pub among_one : (k : ℕ) (stage : ℕ → ℕ) (level j : ℕ) → j < k → stage j ≡ level → among k stage level ≡ true
among_one zero stage level j h e = absurd (omega arith)
among_one (suc k) stage level j h e = by_order (dec_lt j k) (λ less. among_one k stage level j less e)
  where
    by_order : Dec (j < k) → (j < k → among k stage level ≡ true) → (eqb (stage k) level || among k stage level) ≡ true
    by_order (yes less) earlier = ap (λ (b : Bool). eqb (stage k) level || b) (earlier less) ∙ or-true (eqb (stage k) level)
    by_order (no last) earlier =
        let is_last : k ≡ j = omega arith in
        ap (λ (b : Bool). b || among k stage level) (eq-eqb (stage k) level (ap stage is_last ∙ e))

-- ---- the controls from a level on

abbrev pub controls_from : Plan → ℕ → ℕ → Bool
controls_from plan level i = control plan (level + i)

pub controls_first : (plan : Plan) (level : ℕ) → controls_from plan level 0 ≡ control plan level
controls_first plan level = ap (control plan) (add-zero level)

pub controls_later : (plan : Plan) (level : ℕ) → ◌≡◌ {A = ℕ → Bool} (λ i. controls_from plan level (suc i)) (controls_from plan (suc level))
controls_later plan level = fun_ext (λ i. ap (control plan) (shift i))
  where
    shift : (i : ℕ) → level + suc i ≡ suc level + i
    shift i = omega arith

-- a first bit that is 0 ends it where there is a control
pub all_set_from : (plan : Plan) (level : ℕ) (b : Bool) (l : Bits)
    → all_set (controls_from plan level) (b ∷ l) ≡ ((not (control plan level) || b) && all_set (controls_from plan (suc level)) l)
all_set_from plan level b l =
    ap₂ (λ (t : Bool) (P : ℕ → Bool). (not t || b) && all_set P l) (controls_first plan level) (controls_later plan level)

-- ---- stages passed

pub strictly : {a b : ℕ} → a ≤ b → (b ≡ a → ⊥) → a < b
strictly up_to_lem other = omega arith

pub passed_later : (plan : Plan) (k level later : ℕ) → level ≤ later → Passed plan k level → Passed plan k later
passed_later plan k level later h passed j below = let before = passed j below in omega arith

pub passed_stage : (plan : Plan) (k level : ℕ) → Passed plan k level → plan.stage k ≡ level → Passed plan (suc k) (suc level)
passed_stage plan k level passed here j below = by_order (dec_lt j k)
  where
    by_order : Dec (j < k) → plan.stage j < suc level
    by_order (yes less) = let before = passed j less in omega arith
    by_order (no last) = let same : j ≡ k = omega arith in omega (arith, ap plan.stage same)

module _ (plan : Plan) (s : Store Entry) (valid : ValidPlan plan s) where
  -- a stage is not before one up to it
  stage_ahead : (k j level : ℕ) → j < plan.stages → k ≤ j → level < plan.stage k → level < plan.stage j
  stage_ahead k j level below up_to_lem ahead = by_order (dec_lt k j)
    where
      by_order : Dec (k < j) → level < plan.stage j
      by_order (yes less) = let rises = valid.stages_ascend k j less below in omega arith
      by_order (no last) = let same : k ≡ j = omega arith in omega (arith, ap plan.stage same)

  pub target_ahead : (k level : ℕ) → k ≤ plan.target → level < plan.stage k → level < plan.stage plan.target
  target_ahead k level = stage_ahead k plan.target level valid.has_target

  pub second_ahead : (k level : ℕ) → k ≤ plan.second → level < plan.stage k → level < plan.stage plan.second
  second_ahead k level = stage_ahead k plan.second level valid.has_second

  -- the target is not after the second
  pub target_up_to : plan.target ≤ plan.second
  target_up_to = by_swaps (does_swap plan.act) refl
    where
      by_swaps : (b : Bool) → does_swap plan.act ≡ b → plan.target ≤ plan.second
      by_swaps true e = let first = valid.target_first e in omega arith
      by_swaps false e = let same = valid.target_only e in omega arith

  pub phase_small : (b : Bool) → phase plan.phases b < 8
  phase_small true = valid.phase_one
  phase_small false = valid.phase_zero

  -- ---- where a control is

  pub control_none : (level : ℕ) → ((j : ℕ) → j < plan.stages → plan.stage j ≡ level → ⊥) → control plan level ≡ false
  control_none level none = ap (λ (b : Bool). b && not (targeted plan level)) (among_none plan.stages plan.stage level none)

  no_target : (level : ℕ) → targeted plan level ≡ true → control plan level ≡ false
  no_target level e = ap (λ (b : Bool). among plan.stages plan.stage level && not b) e ∙ and-false (among plan.stages plan.stage level)

  -- not at a target
  pub control_target : (level : ℕ) → plan.stage plan.target ≡ level → control plan level ≡ false
  control_target level here =
      no_target level (ap (λ (b : Bool). b || eqb level (plan.stage plan.second)) (eq-eqb level (plan.stage plan.target) (sym here)))

  pub control_second : (level : ℕ) → plan.stage plan.second ≡ level → control plan level ≡ false
  control_second level here =
      no_target level (ap (λ (b : Bool). eqb level (plan.stage plan.target) || b) (eq-eqb level (plan.stage plan.second) (sym here))
      ∙ or-true (eqb level (plan.stage plan.target)))

  -- stages that are not one are at different levels
  stages_apart : (j k : ℕ) → j < plan.stages → k < plan.stages → (j ≡ k → ⊥) → plan.stage k ≡ plan.stage j → ⊥
  stages_apart j k h below other e = by_order (dec_lt j k)
    where
      by_order : Dec (j < k) → ⊥
      by_order (yes less) = let rises = valid.stages_ascend j k less below in omega arith
      by_order (no not_less) = let rises = valid.stages_ascend k j (omega (arith, other)) h in omega arith

  -- at any other stage
  pub control_stage : (k level : ℕ) → k < plan.stages → plan.stage k ≡ level → (plan.target ≡ k → ⊥) → (plan.second ≡ k → ⊥)
      → control plan level ≡ true
  control_stage k level below here other other' =
      ap₂ (λ (a b : Bool). a && not b) (among_one plan.stages plan.stage level k below here)
      (ap₂ ◌||◌
      (ne_eqb level (plan.stage plan.target) (λ e. stages_apart plan.target k valid.has_target below other (here ∙ e)))
      (ne_eqb level (plan.stage plan.second) (λ e. stages_apart plan.second k valid.has_second below other' (here ∙ e))))

  -- not between two stages
  pub control_between : (k level : ℕ) → k < plan.stages → Passed plan k level → level < plan.stage k → control plan level ≡ false
  control_between k level below passed ahead = control_none level (λ j h e. by_order j h e (dec_lt j k) (dec_lt k j))
    where
      by_order : (j : ℕ) → j < plan.stages → plan.stage j ≡ level → Dec (j < k) → Dec (k < j) → ⊥
      by_order j h e (yes less) other = let before = passed j less in omega arith
      by_order j h e (no not_less) (yes more) = let after = valid.stages_ascend k j more h in omega arith
      by_order j h e (no not_less) (no not_more) = let same : j ≡ k = omega arith in omega (arith, ap plan.stage same)

  -- past the last stage no bit is asked for
  pub all_passed : (level : ℕ) (l : Bits) → Passed plan plan.stages level → all_set (controls_from plan level) l ≡ true
  all_passed level l passed =
      ap (λ (P : ℕ → Bool). all_set P l) (fun_ext (λ i. control_none (level + i) (λ j h e. past i j (passed j h) e))) ∙ all_set_none l
    where
      past : (i j : ℕ) → plan.stage j < level → plan.stage j ≡ level + i → ⊥
      past i j h e = omega arith
