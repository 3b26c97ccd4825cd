-- Sound states: sound at a level is valid and asks there or later, and each bit leads to a sound state one level on.
-- Assumes nothing.
use mathlib.Core.Path.{◌≡◌, refl, ◌∙◌, ap, subst, subst⁻¹}
use mathlib.Core.Bool.{Bool, true, false, not, cond, ◌&&◌, beq}
use Prim.Native.Nat.{ℕ, suc, ◌<◌, ◌≤◌}
use native.Mathlib.Omega.{arith}
use lib.Dec.{eqb}
use borrow.Author.Tests.{eqb-true, eqb-false}
use Rattle.algebra.specs.declared.Entry.{Entry}
use Rattle.gates.specs.Rule.{does_mix, does_swap, phase, flipped}
use Rattle.diagrams.specs.Diagram.{Store, ref_of}
use Rattle.transitions.specs.declared.Mode.{Mode}
use Rattle.transitions.specs.declared.Mode.TheVariants.{Turning, Adding, Subtracting, Waiting, Swapping, Choosing}
use Rattle.transitions.specs.declared.State.{State}
use Rattle.transitions.specs.Plan.{Plan, plan_rule, is_zero}
use Rattle.transitions.specs.State.{level_of, top_by, top}
use Rattle.transitions.specs.Next.{on_both, on_one, cofactor, paired, chosen, at_target, next_by, next_state}
use Rattle.transitions.specs.Valid.{ValidPlan, ValidState, Passed, Suits}
use Rattle.meanings.proofs.Stages.{strictly, passed_later, passed_stage, phase_small}
use Rattle.meanings.proofs.Cofactors.{Asks, level_most, cofactor_asks}

-- ---- sound at a level

-- the stage that a mode waits for is at the level or later
abbrev pub Ahead : Plan → ℕ → Mode → Type 0
Ahead plan level (Turning e) = Unit {0}
Ahead plan level Adding = Unit {0}
Ahead plan level Subtracting = Unit {0}
Ahead plan level (Waiting k) = level ≤ plan.stage k
Ahead plan level (Swapping k b) = level ≤ plan.stage k
Ahead plan level (Choosing k e) = level ≤ plan.stage k

pub record Sound (plan : Plan) (s : Store Entry) (level : ℕ) (m : Mode) (x y : ℕ) : Type 0 where
  pub x_asks : Asks plan s level x
  pub y_asks : Asks plan s level y
  pub suits : Suits plan level m x y
  pub ahead : Ahead plan level m

abbrev pub SoundAt : Plan → Store Entry → ℕ → State → Type 0
SoundAt plan s level σ = Sound plan s level σ.mode σ.x σ.y

module _ (plan : Plan) (s : Store Entry) where
  -- ---- sound and valid

  -- a level up to which all that a state consists of asks, is up to its top
  least_top : (level : ℕ) (m : Mode) (x y : ℕ) → Sound plan s level m x y → level ≤ top_by plan s m (ref_of x) (ref_of y)
  least_top level (Turning e) x y sound = sound.x_asks.from
  least_top level Adding x y sound = let a = sound.x_asks.from in let b = sound.y_asks.from in omega arith
  least_top level Subtracting x y sound = let a = sound.x_asks.from in let b = sound.y_asks.from in omega arith
  least_top level (Waiting k) x y sound = let a = sound.x_asks.from in let h = sound.ahead in omega arith
  least_top level (Swapping k b) x y sound = let a = sound.x_asks.from in let b = sound.y_asks.from in let h = sound.ahead in omega arith
  least_top level (Choosing k e) x y sound = let a = sound.x_asks.from in let b = sound.y_asks.from in let h = sound.ahead in omega arith

  pub sound_top : (level : ℕ) (σ : State) → SoundAt plan s level σ → level ≤ top plan s σ
  unfolding top
  sound_top level σ sound = least_top level σ.mode σ.x σ.y sound

  suits_later : (level later : ℕ) (m : Mode) (x y : ℕ) → level ≤ later → Suits plan level m x y → Suits plan later m x y
  suits_later level later (Turning e) x y h suits = suits
  suits_later level later Adding x y h suits = suits
  suits_later level later Subtracting x y h suits = suits
  suits_later level later (Waiting k) x y h suits = (suits.0, suits.1, passed_later plan k level later h suits.2)
  suits_later level later (Swapping k b) x y h suits = (suits.0, suits.1, passed_later plan k level later h suits.2)
  suits_later level later (Choosing k e) x y h suits = (suits.0, suits.1, suits.2, passed_later plan k level later h suits.3)

  pub sound_valid : (level : ℕ) (σ : State) → SoundAt plan s level σ → ValidState plan s σ
  sound_valid level σ sound = record {
    x_refers = sound.x_asks.refers;
    y_refers = sound.y_asks.refers;
    suits = suits_later level (top plan s σ) σ.mode σ.x σ.y (sound_top level σ sound) sound.suits;
  }

  top_first : (level : ℕ) (m : Mode) (x y : ℕ) → level ≤ top_by plan s m (ref_of x) (ref_of y) → Suits plan level m x y
      → (level ≤ level_of plan s (ref_of x)) × (level ≤ level_of plan s (ref_of y)) × Ahead plan level m
  top_first level (Turning e) x y h suits = (h, subst (λ (z : ℕ). level ≤ level_of plan s (ref_of z)) suits.1 h, tt)
  top_first level Adding x y h suits = (omega arith, omega arith, tt)
  top_first level Subtracting x y h suits = (omega arith, omega arith, tt)
  top_first level (Waiting k) x y h suits =
      let a : level ≤ level_of plan s (ref_of x) = omega arith in
      (a, subst (λ (z : ℕ). level ≤ level_of plan s (ref_of z)) suits.1 a, omega arith)
  top_first level (Swapping k b) x y h suits = (omega arith, omega arith, omega arith)
  top_first level (Choosing k e) x y h suits = (omega arith, omega arith, omega arith)

  -- a valid state is sound from where its last stage was passed up to its top
  pub valid_sound : (level : ℕ) (σ : State) → ValidState plan s σ → level ≤ top plan s σ → Suits plan level σ.mode σ.x σ.y
      → SoundAt plan s level σ
  unfolding top
  valid_sound level σ valid up_to_lem suits =
      let first = top_first level σ.mode σ.x σ.y up_to_lem suits in record {
        x_asks = record { refers = valid.x_refers; from = first.0 };
        y_asks = record { refers = valid.y_refers; from = first.1 };
        suits = suits;
        ahead = first.2;
      }

  pub sound_later : (level later : ℕ) (σ : State) → SoundAt plan s level σ → level ≤ later → later ≤ top plan s σ → SoundAt plan s later σ
  sound_later level later σ sound h up_to_lem =
      valid_sound later σ (sound_valid level σ sound) up_to_lem (suits_later level later σ.mode σ.x σ.y h sound.suits)

  top_most_by : ValidPlan plan s → (m : Mode) (x y : ℕ) → Asks plan s 0 x → top_by plan s m (ref_of x) (ref_of y) ≤ plan.levels
  top_most_by plan_valid (Turning e) x y asks = level_most plan s plan_valid (ref_of x) asks.refers
  top_most_by plan_valid Adding x y asks = let a = level_most plan s plan_valid (ref_of x) asks.refers in omega arith
  top_most_by plan_valid Subtracting x y asks = let a = level_most plan s plan_valid (ref_of x) asks.refers in omega arith
  top_most_by plan_valid (Waiting k) x y asks = let a = level_most plan s plan_valid (ref_of x) asks.refers in omega arith
  top_most_by plan_valid (Swapping k b) x y asks = let a = level_most plan s plan_valid (ref_of x) asks.refers in omega arith
  top_most_by plan_valid (Choosing k e) x y asks = let a = level_most plan s plan_valid (ref_of x) asks.refers in omega arith

  pub top_most : ValidPlan plan s → (σ : State) → ValidState plan s σ → top plan s σ ≤ plan.levels
  unfolding top
  top_most plan_valid σ valid = top_most_by plan_valid σ.mode σ.x σ.y (record { refers = valid.x_refers; from = omega arith })

-- ---- the states that a bit makes

module _ (plan : Plan) (s : Store Entry) (valid : ValidPlan plan s) (level : ℕ) where
  pub alone_sound : (e x : ℕ) → e < 8 → Asks plan s level x → SoundAt plan s level (on_one (Turning e) x)
  alone_sound e x small asks = record { x_asks = asks; y_asks = asks; suits = (small, refl); ahead = tt }

  module _ (x y : ℕ) (x_asks : Asks plan s level x) (y_asks : Asks plan s level y) where
    pub paired_sound : (minus : Bool) → SoundAt plan s level (paired plan minus x y)
    unfolding paired
    paired_sound minus = by_tests (is_zero plan.zero y) (is_zero plan.zero x) minus
      where
        by_tests : (y_zero x_zero less : Bool) → SoundAt plan s level
            (cond y_zero (on_one (Turning 0) x)
            (cond x_zero (on_one (Turning (cond less 4 0)) y) (on_both (cond less Subtracting Adding) x y)))
        by_tests true x_zero less = alone_sound 0 x (omega arith) x_asks
        by_tests false true true = alone_sound 4 y (omega arith) y_asks
        by_tests false true false = alone_sound 0 y (omega arith) y_asks
        by_tests false false true = record { x_asks = x_asks; y_asks = y_asks; suits = tt; ahead = tt }
        by_tests false false false = record { x_asks = x_asks; y_asks = y_asks; suits = tt; ahead = tt }

    pub chosen_sound : (k e : ℕ) → e < 8 → k ≤ plan.stages → plan.second < k → Passed plan k level → (k < plan.stages → level ≤ plan.stage k)
        → SoundAt plan s level (chosen plan k e x y)
    unfolding chosen
    chosen_sound k e small up_to_lem past passed ahead = by_tests (eqb k plan.stages) refl (eqb e 0 && eqb x y)
      where
        by_tests : (last : Bool) → eqb k plan.stages ≡ last → (same : Bool)
            → SoundAt plan s level (cond last (on_one (Turning e) y) (cond same (on_one (Turning 0) x) (on_both (Choosing k e) x y)))
        by_tests true is_last same = alone_sound e y small y_asks
        by_tests false more true = alone_sound 0 x (omega arith) x_asks
        by_tests false more false =
            let below : k < plan.stages = still_below (eqb-false _ _ more) in
            record { x_asks = x_asks; y_asks = y_asks; suits = (past, below, small, passed); ahead = ahead below }
          where
            still_below : (k ≡ plan.stages → ⊥) → k < plan.stages
            still_below other = omega arith

-- ---- a bit

module _ (plan : Plan) (s : Store Entry) (valid : ValidPlan plan s) (level : ℕ) (inside : level < plan.levels) (b : Bool) where
  after : (x : ℕ) (c : Bool) → Asks plan s level x → Asks plan s (suc level) (cofactor s level c x)
  after x c asks = cofactor_asks plan s valid level c x inside asks

  stage_after : (k : ℕ) → plan.stage k ≡ level → suc k < plan.stages → suc level ≤ plan.stage (suc k)
  stage_after k here more = let rises = valid.stages_ascend k (suc k) (omega arith) more in omega arith

  swapping_sound : (k x y : ℕ) (seen : Bool) → plan.target < k → k ≤ plan.second → Asks plan s (suc level) x → Asks plan s (suc level) y
      → Passed plan k (suc level) → suc level ≤ plan.stage k → SoundAt plan s (suc level) (on_both (Swapping k seen) x y)
  swapping_sound k x y seen past up_to_lem x_asks y_asks passed ahead =
      record { x_asks = x_asks; y_asks = y_asks; suits = (past, up_to_lem, passed); ahead = ahead }

  at_target_sound : (x : ℕ) → Asks plan s level x → Passed plan plan.target level → plan.stage plan.target ≡ level
      → SoundAt plan s (suc level) (at_target plan s level b (suc plan.target) x)
  unfolding at_target
  at_target_sound x asks passed here = by_action (does_mix plan.act) (does_swap plan.act) refl
    where
      by_action : (mixes swaps : Bool) → does_swap plan.act ≡ swaps → SoundAt plan s (suc level) (cond mixes
          (paired plan b (cofactor s level false x) (cofactor s level true x))
          (cond swaps
          (on_both (Swapping (suc plan.target) b) (cofactor s level b x) (cofactor s level (not b) x))
          (chosen plan (suc plan.target) (phase plan.phases b) (cofactor s level b x) (cofactor s level (flipped (plan_rule plan) b) x))))
      by_action true swaps e =
          paired_sound plan s valid (suc level) (cofactor s level false x) (cofactor s level true x) (after x false asks) (after x true asks) b
      by_action false true e =
          let first = valid.target_first e in
          let last = valid.has_second in
          swapping_sound (suc plan.target) (cofactor s level b x) (cofactor s level (not b) x) b (omega arith) (omega arith)
          (after x b asks) (after x (not b) asks) (passed_stage plan plan.target level passed here) (stage_after plan.target here (omega arith))
      by_action false false e =
          let same = valid.target_only e in
          chosen_sound plan s valid (suc level) (cofactor s level b x) (cofactor s level (flipped (plan_rule plan) b) x) (after x b asks)
          (after x (flipped (plan_rule plan) b) asks) (suc plan.target) (phase plan.phases b) (phase_small plan s valid b)
          valid.has_target (omega arith) (passed_stage plan plan.target level passed here) (stage_after plan.target here)

  waiting_sound : (k x : ℕ) → k ≤ plan.target → Asks plan s (suc level) x → Passed plan k (suc level) → suc level ≤ plan.stage k
      → SoundAt plan s (suc level) (on_one (Waiting k) x)
  waiting_sound k x before asks passed ahead =
      record { x_asks = asks; y_asks = asks; suits = (before, refl, passed); ahead = ahead }

  next_sound_by : (m : Mode) (x y : ℕ) → Sound plan s level m x y → SoundAt plan s (suc level) (next_by plan s level b m x y)
  next_sound_by (Turning e) x y sound = alone_sound plan s valid (suc level) e (cofactor s level b x) sound.suits.0 (after x b sound.x_asks)
  next_sound_by Adding x y sound =
      paired_sound plan s valid (suc level) (cofactor s level b x) (cofactor s level b y) (after x b sound.x_asks) (after y b sound.y_asks) false
  next_sound_by Subtracting x y sound =
      paired_sound plan s valid (suc level) (cofactor s level b x) (cofactor s level b y) (after x b sound.x_asks) (after y b sound.y_asks) true
  next_sound_by (Waiting k) x y sound = by_stage (eqb (plan.stage k) level) refl
    where
      own : Asks plan s (suc level) (cofactor s level b x)
      own = after x b sound.x_asks

      at_stage : plan.stage k ≡ level → (t : Bool) → eqb plan.target k ≡ t
          → SoundAt plan s (suc level) (cond t (at_target plan s level b (suc k) x)
          (on_one (cond b (Waiting (suc k)) (Turning 0)) (cofactor s level b x)))
      at_stage here true e =
          let target : plan.target ≡ k = eqb-true _ _ e in
          subst (λ (j : ℕ). SoundAt plan s (suc level) (at_target plan s level b (suc j) x)) target
          (at_target_sound x sound.x_asks (subst⁻¹ (λ (j : ℕ). Passed plan j level) target sound.suits.2) (ap plan.stage target ∙ here))
      at_stage here false e = by_bit b
        where
          before_target : suc k ≤ plan.target
          before_target = strictly sound.suits.0 (eqb-false _ _ e)

          by_bit : (c : Bool) → SoundAt plan s (suc level) (on_one (cond c (Waiting (suc k)) (Turning 0)) (cofactor s level b x))
          by_bit true =
              let target_below = valid.has_target in
              waiting_sound (suc k) (cofactor s level b x) before_target own (passed_stage plan k level sound.suits.2 here)
              (stage_after k here (omega (arith, before_target)))
          by_bit false = alone_sound plan s valid (suc level) 0 (cofactor s level b x) (omega arith) own

      by_stage : (t : Bool) → eqb (plan.stage k) level ≡ t → SoundAt plan s (suc level) (cond t
          (cond (eqb plan.target k) (at_target plan s level b (suc k) x) (on_one (cond b (Waiting (suc k)) (Turning 0)) (cofactor s level b x)))
          (on_one (Waiting k) (cofactor s level b x)))
      by_stage true e = at_stage (eqb-true _ _ e) (eqb plan.target k) refl
      by_stage false e =
          waiting_sound k (cofactor s level b x) sound.suits.0 own (passed_later plan k level (suc level) (omega arith) sound.suits.2)
          (strictly sound.ahead (eqb-false _ _ e))
  next_sound_by (Swapping k seen) x y sound = by_stage (eqb (plan.stage k) level) refl
    where
      own : Asks plan s (suc level) (cofactor s level b x)
      own = after x b sound.x_asks

      plain : SoundAt plan s (suc level) (on_one (Turning 0) (cofactor s level b x))
      plain = alone_sound plan s valid (suc level) 0 (cofactor s level b x) (omega arith) own

      at_second : plan.stage k ≡ level → plan.second ≡ k → (same : Bool) → SoundAt plan s (suc level) (cond same
          (on_one (Turning 0) (cofactor s level b x)) (chosen plan (suc k) 0 (cofactor s level b x) (cofactor s level seen y)))
      at_second here is_second true = plain
      at_second here is_second false =
          let last = valid.has_second in
          chosen_sound plan s valid (suc level) (cofactor s level b x) (cofactor s level seen y) own (after y seen sound.y_asks) (suc k) 0
          (omega arith) (omega arith) (omega arith) (passed_stage plan k level sound.suits.2 here) (stage_after k here)

      at_control : plan.stage k ≡ level → (plan.second ≡ k → ⊥) → (c : Bool) → SoundAt plan s (suc level) (cond c
          (on_both (Swapping (suc k) seen) (cofactor s level b x) (cofactor s level b y)) (on_one (Turning 0) (cofactor s level b x)))
      at_control here other true =
          let past = sound.suits.0 in
          let last = valid.has_second in
          let more = strictly sound.suits.1 other in
          swapping_sound (suc k) (cofactor s level b x) (cofactor s level b y) seen (omega arith) more own (after y b sound.y_asks)
          (passed_stage plan k level sound.suits.2 here) (stage_after k here (omega arith))
      at_control here other false = plain

      at_stage : plan.stage k ≡ level → (t : Bool) → eqb plan.second k ≡ t → SoundAt plan s (suc level) (cond t
          (cond (beq b seen) (on_one (Turning 0) (cofactor s level b x)) (chosen plan (suc k) 0 (cofactor s level b x) (cofactor s level seen y)))
          (cond b (on_both (Swapping (suc k) seen) (cofactor s level b x) (cofactor s level b y)) (on_one (Turning 0) (cofactor s level b x))))
      at_stage here true e = at_second here (eqb-true _ _ e) (beq b seen)
      at_stage here false e = at_control here (eqb-false _ _ e) b

      by_stage : (t : Bool) → eqb (plan.stage k) level ≡ t → SoundAt plan s (suc level) (cond t
          (cond (eqb plan.second k)
          (cond (beq b seen) (on_one (Turning 0) (cofactor s level b x)) (chosen plan (suc k) 0 (cofactor s level b x) (cofactor s level seen y)))
          (cond b (on_both (Swapping (suc k) seen) (cofactor s level b x) (cofactor s level b y)) (on_one (Turning 0) (cofactor s level b x))))
          (on_both (Swapping k seen) (cofactor s level b x) (cofactor s level b y)))
      by_stage true e = at_stage (eqb-true _ _ e) (eqb plan.second k) refl
      by_stage false e =
          swapping_sound k (cofactor s level b x) (cofactor s level b y) seen sound.suits.0 sound.suits.1 own (after y b sound.y_asks)
          (passed_later plan k level (suc level) (omega arith) sound.suits.2) (strictly sound.ahead (eqb-false _ _ e))
  next_sound_by (Choosing k e) x y sound = by_stage (eqb (plan.stage k) level) refl
    where
      own : Asks plan s (suc level) (cofactor s level b x)
      own = after x b sound.x_asks

      other : Asks plan s (suc level) (cofactor s level b y)
      other = after y b sound.y_asks

      at_stage : plan.stage k ≡ level → (c : Bool) → SoundAt plan s (suc level) (cond c
          (chosen plan (suc k) e (cofactor s level b x) (cofactor s level b y))
          (on_one (Turning 0) (cofactor s level b x)))
      at_stage here true =
          let past = sound.suits.0 in
          chosen_sound plan s valid (suc level) (cofactor s level b x) (cofactor s level b y) own other (suc k) e sound.suits.2 sound.suits.1
          (omega arith) (passed_stage plan k level sound.suits.3 here) (stage_after k here)
      at_stage here false = alone_sound plan s valid (suc level) 0 (cofactor s level b x) (omega arith) own

      by_stage : (t : Bool) → eqb (plan.stage k) level ≡ t → SoundAt plan s (suc level) (cond t
          (cond b (chosen plan (suc k) e (cofactor s level b x) (cofactor s level b y)) (on_one (Turning 0) (cofactor s level b x)))
          (chosen plan k e (cofactor s level b x) (cofactor s level b y)))
      by_stage true here = at_stage (eqb-true _ _ here) b
      by_stage false elsewhere =
          let below = sound.suits.1 in
          chosen_sound plan s valid (suc level) (cofactor s level b x) (cofactor s level b y) own other k e sound.suits.2 (omega arith)
          sound.suits.0 (passed_later plan k level (suc level) (omega arith) sound.suits.3) (λ h. strictly sound.ahead (eqb-false _ _ elsewhere))

  -- a bit leads from a sound state to a sound state one level on
  pub next_sound : (σ : State) → SoundAt plan s level σ → SoundAt plan s (suc level) (next_state plan s level b σ)
  unfolding next_state
  next_sound σ sound = next_sound_by σ.mode σ.x σ.y sound
