-- Plans: the plan that is made for a gate's data is one for the gate. One argument over the mask of the qubits that it names.
-- Assumes nothing.
use mathlib.Core.Path.{◌≡◌, refl, sym, ◌∙◌, ap, ap₂, subst}
use mathlib.Core.Bool.{Bool, true, false, ◌||◌, or-true, or_assoc}
use mathlib.Core.List.{List, [], ◌∷◌}
use mathlib.Core.Logic.{◌⊎◌, inl, inr, ⊎_elim}
use Prim.Native.Nat.{ℕ, zero, suc, ◌+◌, ◌*◌, ◌^◌, ◌%◌, ◌<◌, ◌≤◌, min, max}
use native.Mathlib.Decide.{dec_lt}
use native.Mathlib.Nat.{zero-add}
use native.Mathlib.Omega.{arith}
use lib.Count.{ones, ones-le}
use lib.ListN.{length, get_or, set, length-set, replicate, length-replicate}
use lib.Seq.{get_or-set_same, get_or-set_other, sets}
use Rattle.std.specs.Prelude.{Option}
use Rattle.gates.specs.declared.Rule.{Rule}
use Rattle.stores.specs.declared.Used.{Used}
use Rattle.gates.specs.Gate.{Gate, on, pair, toffoli, fredkin, is, in_mask, names, Fits}
use Rattle.gates.specs.Rule.{target, second}
use Rattle.gates.proofs.Naming.{is_refl, is_sound, is_apart, either}
use Rattle.gates.proofs.Masks.{in_no_mask, mask_below, in_mask_add}
use Rattle.diagrams.proofs.Places.{levels_double}
use Rattle.transitions.specs.Plan.{Plan, plan_of}
use Rattle.plans.specs.Prepare.{as_number, side_of, side_number, side_level, side_phases, named_mask, levels_from, stage_levels}
use Rattle.plans.specs.Prepare.{StagedAs, PlanFor}
use Rattle.plans.specs.declared.Action.{Action}
use Rattle.plans.specs.declared.Sizes.{Sizes}
use Rattle.plans.specs.Layout.{Acts, planned}
use Rattle.plans.proofs.Staging.{length_levels, levels_ascend, levels_named, levels_at}

-- ---- the mask names the gate's qubits

in_power : (q i : ℕ) → in_mask (2 ^ q) i ≡ is q i
in_power q i = ap (λ (m : ℕ). in_mask m i) (omega arith) ∙ in_mask_add 0 q i (in_no_mask q) ∙ ap (λ (b : Bool). b || is q i) (in_no_mask i)

pub mask_names : (n : ℕ) (g : Gate) → Fits n g → (i : ℕ) → in_mask (named_mask g) i ≡ names g i
mask_names n (on k q) fits i = in_power q i
mask_names n (pair k p q) fits i =
    in_mask_add (2 ^ p) q i (in_power p q ∙ is_apart p q fits.2) ∙ ap (λ (b : Bool). b || is q i) (in_power p i)
mask_names n (toffoli mask q) fits i = in_mask_add mask q i fits.2
mask_names n (fredkin mask p q) fits i =
    in_mask_add (mask + 2 ^ p) q i (in_mask_add mask p q fits.1.1 ∙ ap₂ ◌||◌ fits.2.1 (is_apart p q fits.3))
    ∙ ap (λ (b : Bool). b || is q i) (in_mask_add mask p i fits.1.1) ∙ or_assoc (in_mask mask i) (is p i) (is q i)

-- ---- slots after a row of writes

module _ {A : Type 0} (d : A) where
  sets_out : (vs l : List A) (i k : ℕ) → (k < i) ⊎ (i + length vs ≤ k) → get_or (sets l i vs) k d ≡ get_or l k d
  sets_out [] l i k out = refl
  sets_out (v ∷ vs) l i k (inl before) = sets_out vs (set l i v) (suc i) k (inl (omega arith)) ∙ get_or-set_other l i k v d (λ e. omega (arith, e))
  sets_out (v ∷ vs) l i k (inr after) = sets_out vs (set l i v) (suc i) k (inr (omega arith)) ∙ get_or-set_other l i k v d (λ e. omega (arith, e))

  sets_in : (vs l : List A) (i k : ℕ) → k < length vs → i + length vs ≤ length l → get_or (sets l i vs) (i + k) d ≡ get_or vs k d
  sets_in [] l i k h room = absurd (omega arith)
  sets_in (v ∷ vs) l i zero h room =
      sets_out vs (set l i v) (suc i) (i + 0) (inl (omega arith))
      ∙ ap (λ (j : ℕ). get_or (set l i v) j d) (add_none i) ∙ get_or-set_same l i v d (omega arith)
    where
      add_none : (i : ℕ) → i + 0 ≡ i
      add_none i = omega arith
  sets_in (v ∷ vs) l i (suc k) h room =
      ap (λ (j : ℕ). get_or (sets (set l i v) (suc i) vs) j d) (shift i k)
      ∙ sets_in vs (set l i v) (suc i) k (omega arith) (let long = length-set l i v in omega (arith, long))
    where
      shift : (i k : ℕ) → i + suc k ≡ suc i + k
      shift i k = omega arith

-- ---- the plan is for the gate

-- a gate names its targets, and no qubit past the count
or_right : (a : Bool) {b : Bool} → b ≡ true → (a || b) ≡ true
or_right a e = ap (λ (x : Bool). a || x) e ∙ or-true a

named_targets : (g : Gate) → (names g (target g) ≡ true) × (names g (second g) ≡ true)
named_targets (on k q) = (is_refl q, is_refl q)
named_targets (pair k p q) = let own = or_right (is p q) (is_refl q) in (own, own)
named_targets (toffoli mask q) = let own = or_right (in_mask mask q) (is_refl q) in (own, own)
named_targets (fredkin mask p q) = by_order (dec_lt p q)
  where
    Names : ℕ → Type 0
    Names i = names (fredkin mask p q) i ≡ true

    first : Names p
    first = or_right (in_mask mask p) (ap (λ (b : Bool). b || is q p) (is_refl p))

    other : Names q
    other = or_right (in_mask mask q) (or_right (is p q) (is_refl q))

    by_order : Dec (p < q) → Names (min p q) × Names (max p q)
    by_order (yes less) = (subst Names (omega arith) first, subst Names (omega arith) other)
    by_order (no more) = (subst Names (omega arith) other, subst Names (omega arith) first)

pub names_fit : (n : ℕ) (g : Gate) → Fits n g → (i : ℕ) → names g i ≡ true → i < n
names_fit n g fits i e = by_gate g fits e
  where
    own : {q : ℕ} → q < n → is q i ≡ true → i < n
    own {q} below f = subst (λ (j : ℕ). j < n) (is_sound q i f) below

    by_gate : (g : Gate) → Fits n g → names g i ≡ true → i < n
    by_gate (on k q) fits e = own fits e
    by_gate (pair k p q) fits e = ⊎_elim (own fits.0) (own fits.1) (either (is p i) (is q i) e)
    by_gate (toffoli mask q) fits e = ⊎_elim (mask_below n mask i fits.0.0) (own fits.1) (either (in_mask mask i) (is q i) e)
    by_gate (fredkin mask p q) fits e =
        ⊎_elim (mask_below n mask i fits.0.0) (λ f. ⊎_elim (own fits.1.0) (own fits.2.0) (either (is p i) (is q i) f))
        (either (in_mask mask i) (is p i || is q i) e)

-- a gate's plan for a side
module _ (n : ℕ) (right : Bool) (g : Gate) (action : Action) (sizes : Sizes) (used : Used) (zero : Option ℕ) (acts : Acts n right g action) where
  abbrev side : ℕ
  side = as_number right

  abbrev mask : ℕ
  mask = named_mask g

  abbrev plan : Plan
  plan = plan_of (planned action n sizes used zero)

  mask_small : mask < 2 ^ 16
  mask_small = subst (λ (m : ℕ). m < 2 ^ 16) acts.named acts.small_named

  side_is : side_number action.side ≡ side
  side_is = ap side_number acts.side ∙ by_side right
    where
      by_side : (right : Bool) → side_number (side_of right) ≡ as_number right
      by_side true = refl
      by_side false = refl

  many : length (levels_from 16 side mask) ≡ ones mask
  many = length_levels 16 side mask mask_small

  few : ones mask ≤ 16
  few = ones-le 16 mask mask_small

  stages_is : plan.stages ≡ ones mask
  unfolding planned
  stages_is = ap ones acts.named

  stage_is : (k : ℕ) → k < ones mask → plan.stage k ≡ get_or (levels_from 16 side mask) k 0
  unfolding planned stage_levels
  stage_is k h =
      ap₂ (λ (s m : ℕ). get_or (sets (replicate 16 0) 0 (levels_from 16 s m)) k 0) side_is acts.named
      ∙ ap (λ (j : ℕ). get_or (sets (replicate 16 0) 0 (levels_from 16 side mask)) j 0) (sym (zero-add k))
      ∙ sets_in 0 (levels_from 16 side mask) (replicate 16 0) 0 k (omega (arith, h, many)) (omega (arith, many, few, length-replicate {A = ℕ} 16 0))

  target_is : plan.target ≡ ones (mask % 2 ^ target g)
  unfolding planned
  target_is = ap₂ (λ (m q : ℕ). ones (m % 2 ^ q)) acts.named acts.low

  second_is : plan.second ≡ ones (mask % 2 ^ second g)
  unfolding planned
  second_is = ap₂ (λ (m q : ℕ). ones (m % 2 ^ q)) acts.named acts.high

  -- the stage of a named qubit
  stage_of : (q : ℕ) → names g q ≡ true → (ones (mask % 2 ^ q) < plan.stages) × (plan.stage (ones (mask % 2 ^ q)) ≡ side_level side q)
  stage_of q e =
      let at = levels_at 16 side mask q mask_small (mask_names n g acts.fits q ∙ e) in
      (omega (arith, at.0, many, stages_is), stage_is _ (omega (arith, at.0, many)) ∙ (at.1 ∙ turn side q))
    where
      turn : (side q : ℕ) → side + 2 * q ≡ 2 * q + side
      turn side q = omega arith

  staged : StagedAs side (names g) plan
  staged = record {
    few = omega (arith, stages_is, few);
    ascend = ascending;
    each_named = named;
    named_each = λ q e. (ones (mask % 2 ^ q), (stage_of q e).0, (stage_of q e).1);
  }
    where
      within : (k : ℕ) → k < plan.stages → k < ones mask
      within k below = omega (arith, stages_is)

      ascending : (j k : ℕ) → j < k → k < plan.stages → plan.stage j < plan.stage k
      ascending j k less below =
          let inside = within k below in
          let up = levels_ascend 16 side mask j k less (omega (arith, inside, many)) in
          omega (arith, up, stage_is j (omega (arith, inside)), stage_is k inside)

      named : (k : ℕ) → k < plan.stages → (q : ℕ) × (names g q ≡ true) × (plan.stage k ≡ side_level side q)
      named k below =
          let inside = within k below in
          let found = levels_named 16 side mask k (omega (arith, inside, many)) in
          (found.0, sym (mask_names n g acts.fits found.0) ∙ found.1, omega (arith, found.2, stage_is k inside))

  -- the plan is one for the gate
  pub planned_for : PlanFor n right g plan
  unfolding planned
  planned_for = record {
    levels_are = sym (levels_double n);
    act_is = ap (λ (r : Rule). r.act) acts.rule;
    phases_are = ap₂ side_phases side_is acts.rule;
    staged = staged;
    target_in = subst (λ (k : ℕ). k < plan.stages) (sym target_is) (stage_of (target g) (named_targets g).0).0;
    target_at = ap plan.stage target_is ∙ (stage_of (target g) (named_targets g).0).1;
    second_in = subst (λ (k : ℕ). k < plan.stages) (sym second_is) (stage_of (second g) (named_targets g).1).0;
    second_at = ap plan.stage second_is ∙ (stage_of (second g) (named_targets g).1).1;
  }
