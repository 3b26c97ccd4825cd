-- The start of a step's walk: with a plan for a gate, from the root of a matrix's diagram, it makes the diagram of the product.
-- Assumes nothing.
use mathlib.Core.Path.{◌≡◌, refl, sym, ◌∙◌, ap, ap₂, fun_ext, ◌≡⟨◌⟩◌, ◌∎}
use mathlib.Core.Bool.{Bool, true, false, not, cond, ◌&&◌, ◌||◌, or_comm, true≢false}
use Prim.Native.Nat.{ℕ, ◌+◌, ◌-◌, ◌*◌, ◌<◌, zero-le, min, max}
use native.Mathlib.Decide.{dec_lt}
use native.Mathlib.Nat.{zero-add, sub-zero}
use native.Mathlib.Omega.{arith}
use lib.Dec.{eqb}
use lib.ListN.{length, get_or, set, length-set}
use borrow.Author.Tests.{eq-eqb, ne_eqb}
use Rattle.std.specs.Prelude.{Some, None}
use Rattle.algebra.specs.declared.Entry.{Entry}
use Rattle.algebra.specs.Entry.{𝟘, ◌⊕◌, ◌⊖◌, turned}
use Rattle.algebra.specs.Matrix.{Bits, Matrix, everywhere}
use Rattle.algebra.specs.Width.{entry_in_width}
use Rattle.gates.specs.declared.Act.{Act}
use Rattle.gates.specs.declared.Act.TheVariants.{Keeps, Flips, Mixes, Swaps}
use Rattle.gates.specs.declared.Phases.{Phases}
use Rattle.gates.specs.declared.Rule.{Rule}
use Rattle.gates.specs.Gate.{X, Y, Z, H, S, S†, T, T†, CNOT, CZ, Gate, on, pair, toffoli, fredkin}
use Rattle.gates.specs.Gate.{is, bit, in_mask, all_set, exchanged, names, Fits}
use Rattle.gates.specs.Rule.{does_flip, does_mix, does_swap, phases, phase, gate_rule, controls, target, second, mixed, moved, acted}
use Rattle.gates.proofs.Naming.{is_refl, is_sound, is_apart}
use Rattle.gates.proofs.LocalRules.{kind_alone, pair_alone}
use Rattle.diagrams.specs.Diagram.{Ref, code, Store, reached, ref_of}
use Rattle.diagrams.specs.Diagram.{levels, entries, same_entry, empty, reduce, diagram}
use Rattle.diagrams.proofs.Everywhere.{everywhere_ext}
use Rattle.diagrams.proofs.Again.{reduce_ext}
use Rattle.diagrams.proofs.Unique.{Walked, walked}
use Rattle.diagrams.proofs.Places.{levels_double}
use Rattle.diagrams.proofs.Diagrams.{diagram_reduced}
use Rattle.diagrams.proofs.References.{ref_of_code}
use Rattle.transitions.specs.Plan.{Plan, plan_rule, among, targeted, control}
use Rattle.transitions.specs.State.{meaning, made, inside}
use Rattle.transitions.specs.Next.{start}
use Rattle.transitions.specs.Valid.{IsZero, ValidPlan, ValidState}
use Rattle.plans.specs.Prepare.{as_number, side_level, product_on, PlanFor}
use Rattle.plans.proofs.Plans.{names_fit}
use Rattle.meanings.proofs.Stages.{among_none, among_one}
use Rattle.meanings.proofs.Cofactors.{Asks}
use Rattle.meanings.proofs.Sound.{SoundAt, sound_valid}
use Rattle.meanings.proofs.Sides.{level_on, side_level_is, Spreads, phases_on, product_place}
use Rattle.meanings.proofs.Walks.{made_from, inside_from}

-- ---- a numbered store refers to itself

-- the root is in the diagram's store, and so are the children of all its nodes
diagram_closed : (n : ℕ) (M : Matrix) → let D = diagram n M in Walked D.store D.root 0 0 (length D.store.nodes) (length D.store.values)
diagram_closed n M = walked (diagram n M).store (diagram_reduced n M).numbered (λ i h. absurd (none_below i h))
  where
    none_below : (i : ℕ) → i < 0 → ⊥
    none_below i h = omega arith

-- ---- a gate's data

rule_small : (g : Gate)
    → ((gate_rule g).left.zero < 8) × ((gate_rule g).left.one < 8) × ((gate_rule g).right.zero < 8) × ((gate_rule g).right.one < 8)
rule_small (on X q) = omega arith
rule_small (on Y q) = omega arith
rule_small (on Z q) = omega arith
rule_small (on H q) = omega arith
rule_small (on S q) = omega arith
rule_small (on S† q) = omega arith
rule_small (on T q) = omega arith
rule_small (on T† q) = omega arith
rule_small (pair CNOT p q) = omega arith
rule_small (pair CZ p q) = omega arith
rule_small (toffoli mask q) = omega arith
rule_small (fredkin mask p q) = omega arith

-- by what the plan has of the data
chosen_phases : (mixes right : Bool) (l r : Phases) → l.zero < 8 → l.one < 8 → r.zero < 8 → r.one < 8
    → let p = cond mixes (phases 0 4) (cond (eqb (as_number right) 1) r l) in (p.zero < 8) × (p.one < 8)
chosen_phases true right l r a b c d = omega arith
chosen_phases false true l r a b c d = (c, d)
chosen_phases false false l r a b c d = (a, b)

side_phases_is : (right mixes : Bool) (l r : Phases) → mixes ≡ false → cond mixes (phases 0 4) (cond (eqb (as_number right) 1) r l) ≡ cond right r l
side_phases_is right true l r e = absurd (true≢false e)
side_phases_is true false l r e = refl
side_phases_is false false l r e = refl

on_side : (right : Bool) (rule : Rule) → cond right rule.right rule.left ≡ phases_on right rule
on_side true rule = refl
on_side false rule = refl

-- ---- the rule, with a plan's data and over entries that agree

acted_alike : (rule rule' : Rule) (p p' : Phases) (P : ℕ → Bool) (q q' : ℕ) (F : Bits → Entry) (l : Bits) → rule.act ≡ rule'.act
    → (does_mix rule'.act ≡ false → p ≡ p') → acted rule p P q q' F l ≡ acted rule' p' P q q' F l
unfolding acted
acted_alike rule rule' p p' P q q' F l act_same phases_same =
    ap (λ (act : Act). cond (all_set P l) (cond (does_mix act) (mixed q F l) (cond (does_swap act) (F (exchanged q q' l))
    (turned (phase p (bit l q)) (F (cond (does_flip act) (set l q (not (bit l q))) l))))) (F l)) act_same
    ∙ ap (λ (x : Entry). cond (all_set P l) x (F l)) (by_mixes (does_mix rule'.act) refl)
  where
    rest : Phases → Entry
    rest r = cond (does_swap rule'.act) (F (exchanged q q' l)) (moved rule' r q F l)

    by_mixes : (m : Bool) → does_mix rule'.act ≡ m → cond m (mixed q F l) (rest p) ≡ cond m (mixed q F l) (rest p')
    by_mixes true e = refl
    by_mixes false e = ap rest (phases_same e)

acted_ext : (rule : Rule) (p : Phases) (P : ℕ → Bool) (q q' : ℕ) (F G : Bits → Entry) (l : Bits) → ((m : Bits) → length m ≡ length l → F m ≡ G m)
    → acted rule p P q q' F l ≡ acted rule p P q q' G l
unfolding acted
acted_ext rule p P q q' F G l same = ap₂ (cond (all_set P l)) (by_act rule.act) (same l refl)
  where
    by_act : (act : Act)
        → cond (does_mix act) (mixed q F l)
        (cond (does_swap act) (F (exchanged q q' l)) (turned (phase p (bit l q)) (F (cond (does_flip act) (set l q (not (bit l q))) l))))
        ≡ cond (does_mix act) (mixed q G l)
        (cond (does_swap act) (G (exchanged q q' l)) (turned (phase p (bit l q)) (G (cond (does_flip act) (set l q (not (bit l q))) l))))
    by_act Keeps = ap (turned (phase p (bit l q))) (same l refl)
    by_act Flips = ap (turned (phase p (bit l q))) (same (set l q (not (bit l q))) (length-set l q (not (bit l q))))
    by_act Mixes =
        ap₂ (λ (x y : Entry). cond (bit l q) (x ⊖ y) (x ⊕ y))
        (same (set l q false) (length-set l q false)) (same (set l q true) (length-set l q true))
    by_act Swaps = same (exchanged q q' l) (length-set (set l q (bit l q')) q' (bit l q) ∙ length-set l q (bit l q'))

-- ---- a plan for a gate

-- a level of a gate's side is one of the levels
side_below : (n q : ℕ) (right : Bool) → q < n → side_level (as_number right) q < levels n
side_below n q true h = let double = levels_double n in omega arith
side_below n q false h = let double = levels_double n in omega arith

side_apart : (side p q : ℕ) → side_level side p ≡ side_level side q → p ≡ q
side_apart side p q e = omega arith

-- what the gates' data say of their qubits: one that mixes names one qubit, and two targets are there just where it swaps
kind_mixes : (g : Gate) → does_mix (gate_rule g).act ≡ true → (i : ℕ) → names g i ≡ true → target g ≡ i
kind_mixes (on k q) e i named = is_sound q i named
kind_mixes (pair CNOT p q) e i named = absurd (true≢false (sym e))
kind_mixes (pair CZ p q) e i named = absurd (true≢false (sym e))
kind_mixes (toffoli mask q) e i named = absurd (true≢false (sym e))
kind_mixes (fredkin mask p q) e i named = absurd (true≢false (sym e))

swaps_two : (n : ℕ) (g : Gate) → Fits n g → does_swap (gate_rule g).act ≡ true → target g < second g
swaps_two n (on k q) fits e = absurd (true≢false (sym e ∙ kind_alone k))
swaps_two n (pair k p q) fits e = absurd (true≢false (sym e ∙ pair_alone k))
swaps_two n (toffoli mask q) fits e = absurd (true≢false (sym e))
swaps_two n (fredkin mask p q) fits e = by_order (dec_lt p q)
  where
    by_order : Dec (p < q) → min p q < max p q
    by_order (yes less) = omega arith
    by_order (no more) = let apart = fits.3 in further apart
      where
        further : (p ≡ q → ⊥) → min p q < max p q
        further apart = omega arith

keeps_one : (g : Gate) → does_swap (gate_rule g).act ≡ false → second g ≡ target g
keeps_one (on k q) e = refl
keeps_one (pair k p q) e = refl
keeps_one (toffoli mask q) e = refl
keeps_one (fredkin mask p q) e = absurd (true≢false e)

-- ---- the source's zero

-- the reference of a value that is 0
pub zero_found : (s : Store Entry) (k z : ℕ) → z ≡ 2 * k → get_or s.values k 𝟘 ≡ 𝟘 → IsZero s (Some z)
zero_found s k z is_k zero_there = ((λ j below here. ap (λ (m : ℕ). get_or s.values m 𝟘) (same j here) ∙ zero_there), (λ i below here. odd i here))
  where
    same : (j : ℕ) → Some z ≡ Some (2 * j) → j ≡ k
    same j here = let is : z ≡ 2 * j = cc in omega arith

    odd : (i : ℕ) → Some z ≡ Some (2 * i + 1) → ⊥
    odd i here = let is : z ≡ 2 * i + 1 = cc in omega arith

-- none, where no value is 0
pub zero_absent : (s : Store Entry) → IsZero s None
zero_absent s = ((λ j below here. absurd (none (2 * j) here)), (λ i below here. none (2 * i + 1) here))
  where
    none : (z : ℕ) → None ≡ Some z → ⊥
    none z here = cc

sides_apart : (right : Bool) (p q : ℕ) → level_on right p ≡ level_on (not right) q → ⊥
sides_apart false p q e = let a = levels_double p in let b = levels_double q in omega arith
sides_apart true p q e = let a = levels_double p in let b = levels_double q in omega arith

-- what a gate names and is no target is a control
but_target : (P : ℕ → Bool) (q i : ℕ) → P q ≡ false → ((P i || is q i) && not (is q i || is q i)) ≡ P i
but_target P q i free = cases (P i) (is q i) refl refl
  where
    cases : (a b : Bool) → P i ≡ a → is q i ≡ b → ((a || b) && not (b || b)) ≡ a
    cases true true e f = absurd (true≢false (sym e ∙ ap P (sym (is_sound q i f)) ∙ free))
    cases true false e f = refl
    cases false true e f = refl
    cases false false e f = refl

named_controls : (n : ℕ) (g : Gate) → Fits n g → (i : ℕ) → (names g i && not (is (target g) i || is (second g) i)) ≡ controls g i
named_controls n (on k q) fits i = none (is q i)
  where
    none : (a : Bool) → (a && not (a || a)) ≡ false
    none true = refl
    none false = refl
named_controls n (pair k p q) fits i = but_target (is p) q i (is_apart p q fits.2)
named_controls n (toffoli mask q) fits i = but_target (in_mask mask) q i fits.2
named_controls n (fredkin mask p q) fits i = by_order (dec_lt p q)
  where
    cases : (a b c : Bool) → in_mask mask i ≡ a → is p i ≡ b → is q i ≡ c → ((a || (b || c)) && not (b || c)) ≡ a
    cases true true c e f h = absurd (true≢false (sym e ∙ ap (in_mask mask) (sym (is_sound p i f)) ∙ fits.1.1))
    cases true false true e f h = absurd (true≢false (sym e ∙ ap (in_mask mask) (sym (is_sound q i h)) ∙ fits.2.1))
    cases true false false e f h = refl
    cases false true c e f h = refl
    cases false false true e f h = refl
    cases false false false e f h = refl

    in_order : (is p i || is q i) ≡ (is (min p q) i || is (max p q) i)
        → (names (fredkin mask p q) i && not (is (min p q) i || is (max p q) i)) ≡ in_mask mask i
    in_order e = ap (λ (b : Bool). names (fredkin mask p q) i && not b) (sym e) ∙ cases (in_mask mask i) (is p i) (is q i) refl refl refl

    by_order : Dec (p < q) → (names (fredkin mask p q) i && not (is (min p q) i || is (max p q) i)) ≡ in_mask mask i
    by_order (yes less) =
        let low : p ≡ min p q = omega arith in
        let high : q ≡ max p q = omega arith in
        in_order (ap₂ (λ (a b : ℕ). is a i || is b i) low high)
    by_order (no more) =
        let low : q ≡ min p q = omega arith in
        let high : p ≡ max p q = omega arith in
        in_order (or_comm (is p i) (is q i) ∙ ap₂ (λ (a b : ℕ). is a i || is b i) low high)

-- ---- the store of a diagram is a source of any plan for a gate

module _ (n : ℕ) (right : Bool) (g : Gate) (plan : Plan) (fits : Fits n g) (for : PlanFor n right g plan) where
  -- stages at one level are one
  one_stage : (j k : ℕ) → j < plan.stages → k < plan.stages → plan.stage j ≡ plan.stage k → j ≡ k
  one_stage j k h h' e = by_order (dec_lt j k) (dec_lt k j)
    where
      by_order : Dec (j < k) → Dec (k < j) → j ≡ k
      by_order (yes less) other = let rises = for.staged.ascend j k less h' in absurd (omega arith)
      by_order (no not_less) (yes more) = let rises = for.staged.ascend k j more h in absurd (omega arith)
      by_order (no not_less) (no not_more) = omega arith

  stage_below : (k : ℕ) → k < plan.stages → plan.stage k < plan.levels
  stage_below k h =
      let named = for.staged.each_named k h in
      let at = named.2 in
      let below = side_below n named.0 right (names_fit n g fits named.0 named.1) in
      let all = for.levels_are in
      omega arith

  first_of_two : does_swap plan.act ≡ true → plan.target < plan.second
  first_of_two e = by_order (dec_lt plan.target plan.second)
    where
      apart : target g < second g
      apart = swaps_two n g fits (ap does_swap (sym for.act_is) ∙ e)

      by_order : Dec (plan.target < plan.second) → plan.target < plan.second
      by_order (yes less) = less
      by_order (no more) = by_more (dec_lt plan.second plan.target)
        where
          at : plan.stage plan.target < plan.stage plan.second
          at = omega (arith, apart, for.target_at, for.second_at)

          by_more : Dec (plan.second < plan.target) → plan.target < plan.second
          by_more (yes after) = let rises = for.staged.ascend plan.second plan.target after for.target_in in absurd (omega (arith, at))
          by_more (no same) = let one : plan.target ≡ plan.second = omega arith in absurd (omega (arith, at, ap plan.stage one))

  one_target : does_swap plan.act ≡ false → plan.second ≡ plan.target
  one_target e =
      one_stage plan.second plan.target for.second_in for.target_in
      (for.second_at ∙ ap (side_level (as_number right)) (keeps_one g (ap does_swap (sym for.act_is) ∙ e)) ∙ sym for.target_at)

  -- a gate that mixes has one stage
  alone : does_mix plan.act ≡ true → plan.stages ≡ 1
  alone e = by_more (dec_lt 1 plan.stages)
    where
      at_target : (k : ℕ) → k < plan.stages → plan.stage k ≡ side_level (as_number right) (target g)
      at_target k h =
          let named = for.staged.each_named k h in
          named.2 ∙ ap (side_level (as_number right)) (sym (kind_mixes g (ap does_mix (sym for.act_is) ∙ e) named.0 named.1))

      by_more : Dec (1 < plan.stages) → plan.stages ≡ 1
      by_more (yes more) =
          let same = one_stage 0 1 (omega arith) more (at_target 0 (omega arith) ∙ sym (at_target 1 more)) in absurd (omega arith)
      by_more (no few) = let some = for.target_in in omega arith

  valid_for : (M : Matrix) → IsZero (diagram n M).store plan.zero → ValidPlan plan (diagram n M).store
  valid_for M is_zero =
      let 𝓡 = diagram_reduced n M in
      let (a, b, c, d) = rule_small g in
      let small = chosen_phases (does_mix (gate_rule g).act) right (gate_rule g).left (gate_rule g).right a b c d in
      record {
        levels_below = λ i h. let up_to_lem = 𝓡.reduced.tidy.levels_below i h in let all = for.levels_are in omega arith;
        levels_rise = 𝓡.reduced.tidy.levels_rise;
        closed = (diagram_closed n M).closed;
        few_stages = for.staged.few;
        has_target = for.target_in;
        has_second = for.second_in;
        target_first = first_of_two;
        target_only = one_target;
        stages_ascend = for.staged.ascend;
        stages_below = stage_below;
        mixes_alone = alone;
        phase_zero = let is = ap (λ (p : Phases). p.zero) for.phases_are in let below = small.0 in omega arith;
        phase_one = let is = ap (λ (p : Phases). p.one) for.phases_are in let below = small.1 in omega arith;
        zero_value = is_zero.0;
        zero_no_node = is_zero.1;
      }

  -- ---- its controls are the gate's, by level

  among_named : (q : ℕ) (b : Bool) → names g q ≡ b → among plan.stages plan.stage (side_level (as_number right) q) ≡ b
  among_named q true e =
      let found = for.staged.named_each q e in among_one plan.stages plan.stage (side_level (as_number right) q) found.0 found.1 found.2
  among_named q false e = among_none plan.stages plan.stage (side_level (as_number right) q) (λ j h here.
      let named = for.staged.each_named j h in
      true≢false (sym named.1 ∙ ap (names g) (side_apart (as_number right) named.0 q (sym named.2 ∙ here)) ∙ e))

  targeted_named : (q : ℕ) → targeted plan (side_level (as_number right) q) ≡ (is (target g) q || is (second g) q)
  targeted_named q = ap₂ ◌||◌ (at (target g) (plan.stage plan.target) for.target_at) (at (second g) (plan.stage plan.second) for.second_at)
    where
      at : (t level : ℕ) → level ≡ side_level (as_number right) t → eqb (side_level (as_number right) q) level ≡ is t q
      at t level here = by_name (is t q) refl
        where
          by_name : (b : Bool) → is t q ≡ b → eqb (side_level (as_number right) q) level ≡ b
          by_name true e = eq-eqb _ _ (ap (side_level (as_number right)) (sym (is_sound t q e)) ∙ sym here)
          by_name false e = ne_eqb _ _ (λ same. true≢false (sym (is_refl t) ∙ ap (is t) (side_apart (as_number right) t q (sym here ∙ sym same)) ∙ e))

  controls_spread : Spreads right (controls g) (control plan)
  controls_spread = record { same_side = λ q. same q; other_side = λ q. other q }
    where
      same : (q : ℕ) → control plan (level_on right q) ≡ controls g q
      same q =
          ap (control plan) (sym (side_level_is right q))
          ∙ ap₂ (λ (a b : Bool). a && not b) (among_named q (names g q) refl) (targeted_named q) ∙ named_controls n g fits q

      other : (q : ℕ) → control plan (level_on (not right) q) ≡ false
      other q = ap (λ (b : Bool). b && not (targeted plan (level_on (not right) q)))
          (among_none plan.stages plan.stage (level_on (not right) q) (λ j h here.
          let named = for.staged.each_named j h in sides_apart right named.0 q (sym (side_level_is right named.0) ∙ sym named.2 ∙ here)))

pub plan_valid : (n : ℕ) (right : Bool) (g : Gate) (M : Matrix) (plan : Plan) → Fits n g → PlanFor n right g plan
    → IsZero (diagram n M).store plan.zero → ValidPlan plan (diagram n M).store
plan_valid n right g M plan fits for is_zero = valid_for n right g plan fits for M is_zero

-- ---- the start

module _ (n : ℕ) (right : Bool) (g : Gate) (M : Matrix) (plan : Plan) (fits : Fits n g) (for : PlanFor n right g plan)
    (valid : ValidPlan plan (diagram n M).store) where
  abbrev source : Store Entry
  source = (diagram n M).store

  abbrev root : Ref
  root = (diagram n M).root

  start_sound : SoundAt plan source 0 (start root)
  start_sound =
      let seen = (diagram_closed n M).seen in
      let asks : Asks plan source 0 (code root) = record { refers = rw (ref_of_code root) seen; from = zero-le } in
      record { x_asks = asks; y_asks = asks; suits = (zero-le, refl, λ j h. absurd (none j h)); ahead = zero-le }
    where
      none : (j : ℕ) → j < 0 → ⊥
      none j h = omega arith

  pub start_valid : ValidState plan source (start root)
  start_valid = sound_valid plan source 0 (start root) start_sound

  -- from level 0 on the start means the product
  start_means : (l : Bits) → length l ≡ levels n → meaning plan source 0 (start root) l ≡ entries (product_on right n g M) l
  unfolding meaning
  start_means l size =
      let rule = gate_rule g in
      let side = phases_on right rule in
      let act : ℕ → ℕ → (Bits → Entry) → Bits → Entry = acted (plan_rule plan) plan.phases (control plan) in
      let t = level_on right (target g) in
      let t' = level_on right (second g) in
      acted (plan_rule plan) plan.phases (λ i. control plan (0 + i)) (plan.stage plan.target - 0) (plan.stage plan.second - 0)
      (reached 𝟘 source 0 (ref_of (code root))) l
      ≡⟨ ap₂ (λ (P : ℕ → Bool) (r : Ref). acted (plan_rule plan) plan.phases P (plan.stage plan.target - 0) (plan.stage plan.second - 0)
      (reached 𝟘 source 0 r) l) (fun_ext (λ i. ap (control plan) (zero-add i))) (ref_of_code root) ⟩
      act (plan.stage plan.target - 0) (plan.stage plan.second - 0) (reached 𝟘 source 0 root) l
      ≡⟨ ap₂ (λ (a b : ℕ). act a b (reached 𝟘 source 0 root) l)
      (sub-zero (plan.stage plan.target) ∙ for.target_at ∙ side_level_is right (target g))
      (sub-zero (plan.stage plan.second) ∙ for.second_at ∙ side_level_is right (second g)) ⟩
      act t t' (reached 𝟘 source 0 root) l
      ≡⟨ acted_alike (plan_rule plan) rule plan.phases side (control plan) t t' (reached 𝟘 source 0 root) l
      for.act_is (λ moves. for.phases_are ∙ side_phases_is right (does_mix rule.act) rule.left rule.right moves ∙ on_side right rule) ⟩
      acted rule side (control plan) t t' (reached 𝟘 source 0 root) l
      ≡⟨ acted_ext rule side (control plan) t t' (reached 𝟘 source 0 root) (entries M) l (λ m e. (diagram_reduced n M).gives m (e ∙ size)) ⟩
      acted rule side (control plan) t t' (entries M) l
      ≡⟨ sym (product_place n right g (control plan) fits (controls_spread n right g plan fits for) M l size) ⟩
      entries (product_on right n g M) l ∎

  all_levels : plan.levels - 0 ≡ levels n
  all_levels = sub-zero plan.levels ∙ for.levels_are

  pub start_made : made plan source (start root) empty ≡ diagram n (product_on right n g M)
  start_made =
      sym (made_from plan source valid 0 (start root) empty start_sound)
      ∙ ap (λ (left : ℕ). reduce same_entry left 0 (meaning plan source 0 (start root)) empty) all_levels
      ∙ reduce_ext same_entry (levels n) 0 (meaning plan source 0 (start root)) (entries (product_on right n g M)) empty start_means

  pub start_inside : inside plan source (start root) ≡ everywhere (levels n) (λ l. entry_in_width plan.width (entries (product_on right n g M) l))
  start_inside =
      sym (inside_from plan source valid 0 (start root) start_sound)
      ∙ ap (λ (left : ℕ). everywhere left (λ l. entry_in_width plan.width (meaning plan source 0 (start root) l))) all_levels
      ∙ everywhere_ext (levels n) (λ l. entry_in_width plan.width (meaning plan source 0 (start root) l))
      (λ l. entry_in_width plan.width (entries (product_on right n g M) l)) (λ l e. ap (entry_in_width plan.width) (start_means l e))
