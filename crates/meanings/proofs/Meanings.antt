-- What a state means: after a bit it is what the next state means, and a bit that nothing asks about does not count.
-- Assumes nothing.
use mathlib.Core.Path.{◌≡◌, refl, sym, ◌∙◌, ap, ap₂, subst, fun_ext, ◌≡⟨◌⟩◌, ◌∎}
use mathlib.Core.Bool.{Bool, true, false, not, cond, ◌&&◌, ◌||◌, beq}
use mathlib.Core.List.{◌∷◌}
use Prim.Native.Nat.{ℕ, suc, ◌-◌, ◌<◌, ◌≤◌}
use native.Mathlib.Omega.{arith}
use lib.Dec.{eqb}
use lib.ListN.{set}
use borrow.Author.Tests.{eqb-true, eqb-false}
use Rattle.algebra.specs.declared.Entry.{Entry}
use Rattle.algebra.specs.Entry.{𝟘, neg, ◌⊕◌, ◌⊖◌, turned}
use Rattle.algebra.specs.Matrix.{Bits}
use Rattle.algebra.proofs.Rings.{zero_add, neg_zero}
use Rattle.algebra.proofs.Entries.{entries, ⊕-zero, ⊖-is, turned_four}
use Rattle.gates.specs.Gate.{bit, all_set, exchanged}
use Rattle.gates.specs.Rule.{does_mix, does_swap, phase, flipped, acted}
use Rattle.diagrams.specs.Diagram.{Store, reached, ref_of}
use Rattle.diagrams.proofs.Tests.{both_true}
use Rattle.transitions.specs.declared.Mode.{Mode}
use Rattle.transitions.specs.declared.Mode.TheVariants.{Turning, Adding, Subtracting, Waiting, Swapping, Choosing}
use Rattle.transitions.specs.declared.State.{State}
use Rattle.transitions.specs.Plan.{Plan, plan_rule, control, is_zero}
use Rattle.transitions.specs.State.{meant_by, meaning, top}
use Rattle.transitions.specs.Source.{Refers}
use Rattle.transitions.specs.Next.{on_both, on_one, cofactor, paired, chosen, at_target, next_by, next_state}
use Rattle.transitions.specs.Valid.{ValidPlan, Passed}
use Rattle.meanings.proofs.Actions.{acted_later, made_at_target, acted_here, exchanged_here}
use Rattle.meanings.proofs.Stages.{controls_from, controls_first, controls_later, all_set_from}
use Rattle.meanings.proofs.Stages.{strictly, passed_stage, target_ahead, target_up_to, second_ahead}
use Rattle.meanings.proofs.Stages.{control_target, control_second, control_stage, control_between, all_passed}
use Rattle.meanings.proofs.Cofactors.{Asks, reached_cofactor, reached_passed, cofactor_asks, zero_reached}
use Rattle.meanings.proofs.Sound.{Sound, SoundAt, sound_later}

-- ---- entries

turned_zero : (x : Entry) → turned 0 x ≡ x
unfolding turned
turned_zero x = refl

⊖-zero : (x : Entry) → x ⊖ 𝟘 ≡ x
⊖-zero x = ⊖-is x 𝟘 ∙ ap (◌⊕◌ x) (neg_zero entries) ∙ ⊕-zero x

zero-⊖ : (x : Entry) → 𝟘 ⊖ x ≡ turned 4 x
zero-⊖ x = ⊖-is 𝟘 x ∙ zero_add entries (neg x) ∙ sym (turned_four x)

-- ---- the entries that a reference gives, and the choice between two by the controls

abbrev gives : Store Entry → ℕ → ℕ → Bits → Entry
gives s level x = reached 𝟘 s level (ref_of x)

abbrev choice : Bool → ℕ → Entry → Entry → Entry
choice active e taken own = cond active (turned e taken) own

-- ---- the states that a bit makes

module _ (plan : Plan) (s : Store Entry) (valid : ValidPlan plan s) (level : ℕ) (l : Bits) where
  abbrev at : ℕ → Entry
  at x = gives s level x l

  meaning_on : (m : Mode) (x y : ℕ) → meaning plan s level (on_both m x y) l ≡ meant_by plan s level m (ref_of x) (ref_of y) l
  unfolding meaning
  meaning_on m x y = refl

  alone_means : (e x : ℕ) → meaning plan s level (on_one (Turning e) x) l ≡ turned e (at x)
  alone_means e x = meaning_on (Turning e) x x

  plain_means : (x : ℕ) → meaning plan s level (on_one (Turning 0) x) l ≡ at x
  plain_means x = alone_means 0 x ∙ turned_zero (at x)

  module _ (x y : ℕ) where
    paired_by : (minus : Bool) (op : Entry → Entry → Entry) → Refers s (ref_of x) → Refers s (ref_of y)
        → meant_by plan s level (cond minus Subtracting Adding) (ref_of x) (ref_of y) l ≡ op (at x) (at y) → ((z : Entry) → op z 𝟘 ≡ z)
        → ((z : Entry) → op 𝟘 z ≡ turned (cond minus 4 0) z) → meaning plan s level (paired plan minus x y) l ≡ op (at x) (at y)
    unfolding paired
    paired_by minus op x_refers y_refers means op_zero zero_op = by_tests (is_zero plan.zero y) refl (is_zero plan.zero x) refl
      where
        by_tests : (y_zero : Bool) → is_zero plan.zero y ≡ y_zero → (x_zero : Bool) → is_zero plan.zero x ≡ x_zero
            → meaning plan s level (cond y_zero (on_one (Turning 0) x)
            (cond x_zero (on_one (Turning (cond minus 4 0)) y) (on_both (cond minus Subtracting Adding) x y))) l
            ≡ op (at x) (at y)
        by_tests true e x_zero f =
            plain_means x ∙ sym (op_zero (at x)) ∙ ap (op (at x)) (sym (zero_reached plan s valid y level l y_refers e))
        by_tests false e true f =
            alone_means (cond minus 4 0) y ∙ sym (zero_op (at y))
            ∙ ap (λ (z : Entry). op z (at y)) (sym (zero_reached plan s valid x level l x_refers f))
        by_tests false e false f = meaning_on (cond minus Subtracting Adding) x y ∙ means

    pub paired_means : (minus : Bool) → Refers s (ref_of x) → Refers s (ref_of y)
        → meaning plan s level (paired plan minus x y) l ≡ cond minus (at x ⊖ at y) (at x ⊕ at y)
    paired_means true x_refers y_refers = paired_by true ◌⊖◌ x_refers y_refers refl ⊖-zero zero-⊖
    paired_means false x_refers y_refers =
        paired_by false ◌⊕◌ x_refers y_refers refl ⊕-zero (λ z. zero_add entries z ∙ sym (turned_zero z))

    pub chosen_means : (k e : ℕ) → (k ≡ plan.stages → Passed plan k level)
        → meaning plan s level (chosen plan k e x y) l ≡ choice (all_set (controls_from plan level) l) e (at y) (at x)
    unfolding chosen
    chosen_means k e passed = by_tests (eqb k plan.stages) refl (eqb e 0 && eqb x y) refl
      where
        active : Bool
        active = all_set (controls_from plan level) l

        one : (t : Bool) → e ≡ 0 → x ≡ y → at x ≡ choice t e (at y) (at x)
        one true none same = ap at same ∙ sym (turned_zero (at y)) ∙ ap (λ (j : ℕ). turned j (at y)) (sym none)
        one false none same = refl

        by_tests : (last : Bool) → eqb k plan.stages ≡ last → (alike : Bool) → (eqb e 0 && eqb x y) ≡ alike
            → meaning plan s level (cond last (on_one (Turning e) y) (cond alike (on_one (Turning 0) x) (on_both (Choosing k e) x y))) l
            ≡ choice active e (at y) (at x)
        by_tests true is_last alike f =
            let k_last : k ≡ plan.stages = eqb-true _ _ is_last in
            alone_means e y
            ∙ ap (λ (t : Bool). choice t e (at y) (at x))
            (sym (all_passed plan s valid level l (subst (λ (j : ℕ). Passed plan j level) k_last (passed k_last))))
        by_tests false more true f =
            let tests = both_true (eqb e 0) (eqb x y) f in
            plain_means x ∙ one active (eqb-true _ _ tests.0) (eqb-true _ _ tests.1)
        by_tests false more false f = meaning_on (Choosing k e) x y

-- ---- the gate still to act

module _ (plan : Plan) (s : Store Entry) (valid : ValidPlan plan s) (level : ℕ) where
  -- on what x gives from a level on
  abbrev acting_on : ℕ → ℕ → Bits → Entry
  acting_on from x =
      acted (plan_rule plan) plan.phases (controls_from plan from) (plan.stage plan.target - from) (plan.stage plan.second - from) (gives s from x)

  -- past a swap's first target, whose bit was `seen`
  abbrev swapping_on : ℕ → Bool → ℕ → ℕ → Bits → Entry
  swapping_on from seen x y l =
      let q = plan.stage plan.second - from in
      cond (all_set (controls_from plan from) l) (cond (beq (bit l q) seen) (gives s from x l) (gives s from y (set l q seen))) (gives s from x l)

  module _ (b : Bool) (l : Bits) where
    -- before the target: a control at this level whose bit is 0 ends it
    acting_later : (x y : ℕ) → level < plan.stage plan.target → ((m : Bits) → gives s level x (b ∷ m) ≡ gives s (suc level) y m)
        → acting_on level x (b ∷ l) ≡ cond (not (control plan level) || b) (acting_on (suc level) y l) (gives s (suc level) y l)
    acting_later x y before goes =
        let one_less : plan.stage plan.target - level ≡ suc (plan.stage plan.target - suc level) = omega arith in
        let before' = second_not_before before in
        let one_less' : plan.stage plan.second - level ≡ suc (plan.stage plan.second - suc level) = omega arith in
        let act : (ℕ → Bool) → ℕ → ℕ → (Bits → Entry) → Bits → Entry = acted (plan_rule plan) plan.phases in
        let q = plan.stage plan.target - suc level in
        let q' = plan.stage plan.second - suc level in
        let F = gives s level x in
        acting_on level x (b ∷ l)
        ≡⟨ ap₂ (λ (t t' : ℕ). act (controls_from plan level) t t' F (b ∷ l)) one_less one_less' ⟩
        act (controls_from plan level) (suc q) (suc q') F (b ∷ l)
        ≡⟨ acted_later (plan_rule plan) plan.phases (controls_from plan level) F b l q q' ⟩
        cond (not (controls_from plan level 0) || b) (act (λ i. controls_from plan level (suc i)) q q' (λ m. F (b ∷ m)) l) (F (b ∷ l))
        ≡⟨ ap₂ (λ (t : Bool) (P : ℕ → Bool). cond (not t || b) (act P q q' (λ m. F (b ∷ m)) l) (F (b ∷ l)))
        (controls_first plan level) (controls_later plan level) ⟩
        cond (not (control plan level) || b) (act (controls_from plan (suc level)) q q' (λ m. F (b ∷ m)) l) (F (b ∷ l))
        ≡⟨ ap (λ (G : Bits → Entry). cond (not (control plan level) || b) (act (controls_from plan (suc level)) q q' G l) (G l)) (fun_ext goes) ⟩
        cond (not (control plan level) || b) (acting_on (suc level) y l) (gives s (suc level) y l) ∎
      where
        second_not_before : level < plan.stage plan.target → level < plan.stage plan.second
        second_not_before before = second_ahead plan s valid plan.target level (target_up_to plan s valid) before

    -- at the target
    acting_here : (x : ℕ) → plan.stage plan.target ≡ level → acting_on level x (b ∷ l)
        ≡ cond (all_set (controls_from plan (suc level)) l)
        (made_at_target (plan_rule plan) plan.phases (controls_from plan level) (gives s level x) b l (plan.stage plan.second - level))
        (gives s level x (b ∷ l))
    acting_here x here =
        let none_left : plan.stage plan.target - level ≡ 0 = omega arith in
        let F = gives s level x in
        let P = controls_from plan level in
        let q' = plan.stage plan.second - level in
        let made = made_at_target (plan_rule plan) plan.phases P F b l q' in
        ap (λ (t : ℕ). acted (plan_rule plan) plan.phases P t q' F (b ∷ l)) none_left
        ∙ acted_here (plan_rule plan) plan.phases P F b l q' (controls_first plan level ∙ control_target plan s valid level here)
        ∙ ap (λ (Q : ℕ → Bool). cond (all_set Q l) made (F (b ∷ l))) (controls_later plan level)

    -- before a swap's second target: a control at this level whose bit is 0 ends it
    swapping_later : (seen : Bool) (x y x' y' : ℕ) → level < plan.stage plan.second
        → ((m : Bits) → gives s level x (b ∷ m) ≡ gives s (suc level) x' m)
        → ((m : Bits) → gives s level y (b ∷ m) ≡ gives s (suc level) y' m)
        → swapping_on level seen x y (b ∷ l) ≡ cond (not (control plan level) || b) (swapping_on (suc level) seen x' y' l) (gives s (suc level) x' l)
    swapping_later seen x y x' y' before x_goes y_goes =
        let one_less : plan.stage plan.second - level ≡ suc (plan.stage plan.second - suc level) = omega arith in
        let j = plan.stage plan.second - suc level in
        ap₂ (λ (q : ℕ) (t : Bool). cond t (cond (beq (bit (b ∷ l) q) seen) (gives s level x (b ∷ l)) (gives s level y (set (b ∷ l) q seen)))
        (gives s level x (b ∷ l))) one_less (all_set_from plan level b l)
        ∙ ap₂ (λ (u w : Entry). cond ((not (control plan level) || b) && all_set (controls_from plan (suc level)) l)
        (cond (beq (bit l j) seen) u w) u) (x_goes l) (y_goes (set l j seen))
        ∙ split (not (control plan level) || b) (all_set (controls_from plan (suc level)) l) _ _
      where
        split : (t a : Bool) (u w : Entry) → cond (t && a) u w ≡ cond t (cond a u w) w
        split true a u w = refl
        split false a u w = refl

    -- where there is no control the gate is still to act
    acting_free : (x y : ℕ) → level < plan.stage plan.target → ((m : Bits) → gives s level x (b ∷ m) ≡ gives s (suc level) y m)
        → control plan level ≡ false → acting_on level x (b ∷ l) ≡ acting_on (suc level) y l
    acting_free x y before goes free =
        acting_later x y before goes ∙ ap (λ (t : Bool). cond (not t || b) (acting_on (suc level) y l) (gives s (suc level) y l)) free

    -- the choice between two references, by the first bit
    choosing_first : (k e x y : ℕ) → meant_by plan s level (Choosing k e) (ref_of x) (ref_of y) (b ∷ l)
        ≡ choice ((not (control plan level) || b) && all_set (controls_from plan (suc level)) l) e (gives s level y (b ∷ l)) (gives s level x (b ∷ l))
    choosing_first k e x y = ap (λ (t : Bool). choice t e (gives s level y (b ∷ l)) (gives s level x (b ∷ l))) (all_set_from plan level b l)

  -- ---- a bit that nothing asks about

  module _ (b : Bool) (l : Bits) where
    passed_by : (m : Mode) (x y : ℕ) → Sound plan s level m x y → Sound plan s (suc level) m x y
        → meant_by plan s level m (ref_of x) (ref_of y) (b ∷ l) ≡ meant_by plan s (suc level) m (ref_of x) (ref_of y) l
    passed_by (Turning e) x y now later = ap (turned e) (reached_passed plan s level b (ref_of x) l later.x_asks.from)
    passed_by Adding x y now later =
        ap₂ ◌⊕◌ (reached_passed plan s level b (ref_of x) l later.x_asks.from) (reached_passed plan s level b (ref_of y) l later.y_asks.from)
    passed_by Subtracting x y now later =
        ap₂ ◌⊖◌ (reached_passed plan s level b (ref_of x) l later.x_asks.from) (reached_passed plan s level b (ref_of y) l later.y_asks.from)
    passed_by (Waiting k) x y now later =
        let up_to_lem = now.suits.0 in
        let target_below = valid.has_target in
        acting_free b l x x (target_ahead plan s valid k level up_to_lem later.ahead)
        (λ m. reached_passed plan s level b (ref_of x) m later.x_asks.from)
        (control_between plan s valid k level (omega arith) now.suits.2 later.ahead)
    passed_by (Swapping k seen) x y now later =
        let last = valid.has_second in
        let up_to_lem = now.suits.1 in
        swapping_later b l seen x y x y (second_ahead plan s valid k level now.suits.1 later.ahead)
        (λ m. reached_passed plan s level b (ref_of x) m later.x_asks.from) (λ m. reached_passed plan s level b (ref_of y) m later.y_asks.from)
        ∙ ap (λ (t : Bool). cond (not t || b) (swapping_on (suc level) seen x y l) (gives s (suc level) x l))
        (control_between plan s valid k level (omega arith) now.suits.2 later.ahead)
    passed_by (Choosing k e) x y now later =
        let active = all_set (controls_from plan (suc level)) l in
        choosing_first b l k e x y
        ∙ ap (λ (t : Bool). choice ((not t || b) && active) e (gives s level y (b ∷ l)) (gives s level x (b ∷ l)))
        (control_between plan s valid k level now.suits.1 now.suits.3 later.ahead)
        ∙ ap₂ (choice active e)
        (reached_passed plan s level b (ref_of y) l later.y_asks.from) (reached_passed plan s level b (ref_of x) l later.x_asks.from)

    pub meaning_passed : (σ : State) → SoundAt plan s level σ → level < top plan s σ → meaning plan s level σ (b ∷ l) ≡ meaning plan s (suc level) σ l
    unfolding meaning
    meaning_passed σ sound before =
        passed_by σ.mode σ.x σ.y sound (sound_later plan s level (suc level) σ sound (omega arith) before)

  -- ---- a bit that is asked for

  module _ (inside : level < plan.levels) (b : Bool) (l : Bits) where
    abbrev own : Bool → ℕ → Entry
    own c x = gives s (suc level) (cofactor s level c x) l

    active : Bool
    active = all_set (controls_from plan (suc level)) l

    refers_after : (c : Bool) (x : ℕ) → Asks plan s level x → Refers s (ref_of (cofactor s level c x))
    refers_after c x asks = (cofactor_asks plan s valid level c x inside asks).refers

    at_target_means : (x : ℕ) → Asks plan s level x → plan.stage plan.target ≡ level → Passed plan plan.target level
        → acting_on level x (b ∷ l) ≡ meaning plan s (suc level) (at_target plan s level b (suc plan.target) x) l
    unfolding at_target active
    at_target_means x asks here passed = acting_here b l x here ∙ by_action (does_mix plan.act) (does_swap plan.act) refl refl
      where
        passed_target : Passed plan (suc plan.target) (suc level)
        passed_target = passed_stage plan plan.target level passed here

        goes : (c : Bool) → gives s level x (c ∷ l) ≡ own c x
        goes c = reached_cofactor s level c x l

        taken : Bool
        taken = flipped (plan_rule plan) b

        alone : does_mix plan.act ≡ true → active ≡ true
        alone mixes =
            let one = last (valid.mixes_alone mixes) valid.has_target in
            all_passed plan s valid (suc level) l (subst (λ (n : ℕ). Passed plan n (suc level)) one passed_target)
          where
            last : plan.stages ≡ 1 → plan.target < plan.stages → suc plan.target ≡ plan.stages
            last one below = omega arith

        mix : Entry → Entry → Entry
        mix u w = cond b (u ⊖ w) (u ⊕ w)

        made_by : Bool → Bool → Entry
        made_by mixes swaps =
            let F = gives s level x in
            cond active
            (cond mixes (mix (F (false ∷ l)) (F (true ∷ l)))
            (cond swaps (F (exchanged 0 (plan.stage plan.second - level) (b ∷ l))) (turned (phase plan.phases b) (F (taken ∷ l))))) (F (b ∷ l))

        by_action : (mixes swaps : Bool) → does_mix plan.act ≡ mixes → does_swap plan.act ≡ swaps → made_by mixes swaps
            ≡ meaning plan s (suc level) (cond mixes
            (paired plan b (cofactor s level false x) (cofactor s level true x))
            (cond swaps
            (on_both (Swapping (suc plan.target) b) (cofactor s level b x) (cofactor s level (not b) x))
            (chosen plan (suc plan.target) (phase plan.phases b) (cofactor s level b x) (cofactor s level taken x)))) l
        by_action true swaps mixes e =
            ap (λ (t : Bool). cond t (mix (gives s level x (false ∷ l)) (gives s level x (true ∷ l))) (gives s level x (b ∷ l))) (alone mixes)
            ∙ ap₂ mix (goes false) (goes true)
            ∙ sym (paired_means plan s valid (suc level) l (cofactor s level false x) (cofactor s level true x) b
            (refers_after false x asks) (refers_after true x asks))
        by_action false true moves e =
            let first = valid.target_first e in
            let rises = valid.stages_ascend plan.target plan.second first valid.has_second in
            let j = plan.stage plan.second - suc level in
            let one_less : plan.stage plan.second - level ≡ suc j = omega arith in
            ap (λ (q : ℕ). cond active (gives s level x (exchanged 0 q (b ∷ l))) (gives s level x (b ∷ l))) one_less
            ∙ ap (λ (u : Entry). cond active u (gives s level x (b ∷ l))) (exchanged_here (gives s level x) b l j)
            ∙ ap₂ (λ (u w : Entry). cond active (cond (beq (bit l j) b) u w) u) (goes b) (reached_cofactor s level (not b) x (set l j b))
            ∙ sym (meaning_on plan s valid (suc level) l (Swapping (suc plan.target) b) (cofactor s level b x) (cofactor s level (not b) x))
        by_action false false moves e =
            ap₂ (choice active (phase plan.phases b)) (goes taken) (goes b)
            ∙ sym (chosen_means plan s valid (suc level) l (cofactor s level b x) (cofactor s level taken x)
            (suc plan.target) (phase plan.phases b) (λ last. passed_target))

    waiting_means : (k x : ℕ)
        → meaning plan s (suc level) (on_one (Waiting k) (cofactor s level b x)) l ≡ acting_on (suc level) (cofactor s level b x) l
    waiting_means k x = meaning_on plan s valid (suc level) l (Waiting k) (cofactor s level b x) (cofactor s level b x)

    next_means_by : (m : Mode) (x y : ℕ) → Sound plan s level m x y
        → meant_by plan s level m (ref_of x) (ref_of y) (b ∷ l) ≡ meaning plan s (suc level) (next_by plan s level b m x y) l
    unfolding active
    next_means_by (Turning e) x y sound =
        ap (turned e) (reached_cofactor s level b x l) ∙ sym (alone_means plan s valid (suc level) l e (cofactor s level b x))
    next_means_by Adding x y sound =
        ap₂ ◌⊕◌ (reached_cofactor s level b x l) (reached_cofactor s level b y l)
        ∙ sym (paired_means plan s valid (suc level) l (cofactor s level b x) (cofactor s level b y) false
        (refers_after b x sound.x_asks) (refers_after b y sound.y_asks))
    next_means_by Subtracting x y sound =
        ap₂ ◌⊖◌ (reached_cofactor s level b x l) (reached_cofactor s level b y l)
        ∙ sym (paired_means plan s valid (suc level) l (cofactor s level b x) (cofactor s level b y) true
        (refers_after b x sound.x_asks) (refers_after b y sound.y_asks))
    next_means_by (Waiting k) x y sound = by_stage (eqb (plan.stage k) level) refl (eqb plan.target k) refl
      where
        below : k < plan.stages
        below = let up_to_lem = sound.suits.0 in let target_below = valid.has_target in omega arith

        by_bit : (c : Bool) → cond c (acting_on (suc level) (cofactor s level b x) l) (own b x)
            ≡ meaning plan s (suc level) (on_one (cond c (Waiting (suc k)) (Turning 0)) (cofactor s level b x)) l
        by_bit true = sym (waiting_means (suc k) x)
        by_bit false = sym (plain_means plan s valid (suc level) l (cofactor s level b x))

        by_stage : (here : Bool) → eqb (plan.stage k) level ≡ here → (target : Bool) → eqb plan.target k ≡ target
            → acting_on level x (b ∷ l) ≡ meaning plan s (suc level) (cond here
            (cond target (at_target plan s level b (suc k) x) (on_one (cond b (Waiting (suc k)) (Turning 0)) (cofactor s level b x)))
            (on_one (Waiting k) (cofactor s level b x))) l
        by_stage true e true f =
            let target : plan.target ≡ k = eqb-true _ _ f in
            let here : plan.stage plan.target ≡ level = ap plan.stage target ∙ eqb-true _ _ e in
            at_target_means x sound.x_asks here (subst (λ (j : ℕ). Passed plan j level) (sym target) sound.suits.2)
            ∙ ap (λ (j : ℕ). meaning plan s (suc level) (at_target plan s level b (suc j) x) l) target
        by_stage true e false f =
            let here : plan.stage k ≡ level = eqb-true _ _ e in
            let before = strictly sound.suits.0 (eqb-false _ _ f) in
            let rises = valid.stages_ascend k plan.target before valid.has_target in
            acting_later b l x (cofactor s level b x) (omega arith) (reached_cofactor s level b x)
            ∙ ap (λ (t : Bool). cond (not t || b) (acting_on (suc level) (cofactor s level b x) l) (own b x))
            (control_stage plan s valid k level below here (eqb-false _ _ f) (not_second before (target_up_to plan s valid)))
            ∙ by_bit b
          where
            not_second : k < plan.target → plan.target ≤ plan.second → plan.second ≡ k → ⊥
            not_second before up_to_lem same = omega arith
        by_stage false e target f =
            let ahead = strictly sound.ahead (eqb-false _ _ e) in
            acting_free b l x (cofactor s level b x) (target_ahead plan s valid k level sound.suits.0 ahead) (reached_cofactor s level b x)
            (control_between plan s valid k level below sound.suits.2 ahead)
            ∙ sym (waiting_means k x)
    next_means_by (Swapping k seen) x y sound = by_stage (eqb (plan.stage k) level) refl (eqb plan.second k) refl
      where
        x' : ℕ
        x' = cofactor s level b x

        y' : ℕ
        y' = cofactor s level b y

        below : k < plan.stages
        below = let up_to_lem = sound.suits.1 in let last = valid.has_second in omega arith

        later : level < plan.stage plan.second → swapping_on level seen x y (b ∷ l)
            ≡ cond (not (control plan level) || b) (swapping_on (suc level) seen x' y' l) (own b x)
        later before =
            swapping_later b l seen x y (cofactor s level b x) (cofactor s level b y) before
            (reached_cofactor s level b x) (reached_cofactor s level b y)

        swapping_means : (j : ℕ) → swapping_on (suc level) seen x' y' l ≡ meaning plan s (suc level) (on_both (Swapping j seen) x' y') l
        swapping_means j = sym (meaning_on plan s valid (suc level) l (Swapping j seen) x' y')

        at_second : plan.stage k ≡ level → plan.second ≡ k → (same : Bool) → beq b seen ≡ same
            → cond active (cond same (own b x) (own seen y)) (own b x) ≡ meaning plan s (suc level) (cond same
            (on_one (Turning 0) (cofactor s level b x)) (chosen plan (suc k) 0 (cofactor s level b x) (cofactor s level seen y))) l
        at_second here is_second true e = either active (own b x) ∙ sym (plain_means plan s valid (suc level) l (cofactor s level b x))
          where
            either : (t : Bool) (u : Entry) → cond t u u ≡ u
            either true u = refl
            either false u = refl
        at_second here is_second false e =
            ap (λ (u : Entry). cond active u (own b x)) (sym (turned_zero (own seen y)))
            ∙ sym (chosen_means plan s valid (suc level) l (cofactor s level b x) (cofactor s level seen y) (suc k) 0
            (λ last. passed_stage plan k level sound.suits.2 here))

        by_bit : (c : Bool) → cond c (swapping_on (suc level) seen x' y' l) (own b x)
            ≡ meaning plan s (suc level) (cond c (on_both (Swapping (suc k) seen) x' y') (on_one (Turning 0) x')) l
        by_bit true = swapping_means (suc k)
        by_bit false = sym (plain_means plan s valid (suc level) l (cofactor s level b x))

        by_stage : (here : Bool) → eqb (plan.stage k) level ≡ here → (second : Bool) → eqb plan.second k ≡ second
            → swapping_on level seen x y (b ∷ l) ≡ meaning plan s (suc level) (cond here
            (cond second
            (cond (beq b seen) (on_one (Turning 0) x') (chosen plan (suc k) 0 x' (cofactor s level seen y)))
            (cond b (on_both (Swapping (suc k) seen) x' y') (on_one (Turning 0) x')))
            (on_both (Swapping k seen) x' y')) l
        by_stage true e true f =
            let here : plan.stage k ≡ level = eqb-true _ _ e in
            let is_second : plan.second ≡ k = eqb-true _ _ f in
            let at : plan.stage plan.second ≡ level = ap plan.stage is_second ∙ here in
            let none_left : plan.stage plan.second - level ≡ 0 = omega arith in
            let F = gives s level in
            ap₂ (λ (q : ℕ) (t : Bool). cond t (cond (beq (bit (b ∷ l) q) seen) (F x (b ∷ l)) (F y (set (b ∷ l) q seen))) (F x (b ∷ l)))
            none_left (all_set_from plan level b l)
            ∙ ap (λ (t : Bool). cond ((not t || b) && active) (cond (beq b seen) (F x (b ∷ l)) (F y (seen ∷ l))) (F x (b ∷ l)))
            (control_second plan s valid level at)
            ∙ ap₂ (λ (u w : Entry). cond active (cond (beq b seen) u w) u) (reached_cofactor s level b x l) (reached_cofactor s level seen y l)
            ∙ at_second here is_second (beq b seen) refl
        by_stage true e false f =
            let here : plan.stage k ≡ level = eqb-true _ _ e in
            let more : k < plan.second = strictly sound.suits.1 (eqb-false _ _ f) in
            let rises = valid.stages_ascend k plan.second more valid.has_second in
            later (omega arith)
            ∙ ap (λ (t : Bool). cond (not t || b) (swapping_on (suc level) seen x' y' l) (own b x))
            (control_stage plan s valid k level below here (not_target sound.suits.0) (eqb-false _ _ f))
            ∙ by_bit b
          where
            not_target : plan.target < k → plan.target ≡ k → ⊥
            not_target past same = omega arith
        by_stage false e second f =
            let ahead = strictly sound.ahead (eqb-false _ _ e) in
            later (second_ahead plan s valid k level sound.suits.1 ahead)
            ∙ ap (λ (t : Bool). cond (not t || b) (swapping_on (suc level) seen x' y' l) (own b x))
            (control_between plan s valid k level below sound.suits.2 ahead)
            ∙ swapping_means k
    next_means_by (Choosing k e) x y sound =
        choosing_first b l k e x y
        ∙ ap₂ (choice ((not (control plan level) || b) && active) e) (reached_cofactor s level b y l) (reached_cofactor s level b x l)
        ∙ by_stage (eqb (plan.stage k) level) refl
      where
        chosen_next : (j : ℕ) → (j ≡ plan.stages → Passed plan j (suc level))
            → choice active e (own b y) (own b x) ≡ meaning plan s (suc level) (chosen plan j e (cofactor s level b x) (cofactor s level b y)) l
        chosen_next j passed = sym (chosen_means plan s valid (suc level) l (cofactor s level b x) (cofactor s level b y) j e passed)

        by_bit : (c : Bool) → plan.stage k ≡ level → choice (c && active) e (own b y) (own b x) ≡ meaning plan s (suc level) (cond c
            (chosen plan (suc k) e (cofactor s level b x) (cofactor s level b y)) (on_one (Turning 0) (cofactor s level b x))) l
        by_bit true here = chosen_next (suc k) (λ last. passed_stage plan k level sound.suits.3 here)
        by_bit false here = sym (plain_means plan s valid (suc level) l (cofactor s level b x))

        by_stage : (here : Bool) → eqb (plan.stage k) level ≡ here
            → choice ((not (control plan level) || b) && active) e (own b y) (own b x) ≡ meaning plan s (suc level) (cond here
            (cond b (chosen plan (suc k) e (cofactor s level b x) (cofactor s level b y)) (on_one (Turning 0) (cofactor s level b x)))
            (chosen plan k e (cofactor s level b x) (cofactor s level b y))) l
        by_stage true f =
            let here : plan.stage k ≡ level = eqb-true _ _ f in
            ap (λ (t : Bool). choice ((not t || b) && active) e (own b y) (own b x))
            (control_stage plan s valid k level sound.suits.1 here (apart sound.suits.0 (target_up_to plan s valid)) (past_second sound.suits.0))
            ∙ by_bit b here
          where
            apart : plan.second < k → plan.target ≤ plan.second → plan.target ≡ k → ⊥
            apart past up_to_lem target = omega arith

            past_second : plan.second < k → plan.second ≡ k → ⊥
            past_second past same = omega arith
        by_stage false f =
            ap (λ (t : Bool). choice ((not t || b) && active) e (own b y) (own b x))
            (control_between plan s valid k level sound.suits.1 sound.suits.3 (strictly sound.ahead (eqb-false _ _ f)))
            ∙ chosen_next k (λ last. absurd (apart sound.suits.1 last))
          where
            apart : k < plan.stages → k ≡ plan.stages → ⊥
            apart below last = omega arith

    -- after a bit, a state means what the next state does
    pub meaning_next : (σ : State) → SoundAt plan s level σ
        → meaning plan s level σ (b ∷ l) ≡ meaning plan s (suc level) (next_state plan s level b σ) l
    unfolding meaning next_state
    meaning_next σ sound = next_means_by σ.mode σ.x σ.y sound
