-- The turns of a run: what holds between two steps, what a step makes of it, and how the run ends.
-- Assumes nothing.
use mathlib.Core.Path.{◌≡◌, refl, sym, ◌∙◌, ap, ap₂, subst}
use mathlib.Core.Bool.{Bool, true, false}
use mathlib.Core.List.{List, [], ◌∷◌}
use Prim.Native.Nat.{ℕ, ◌+◌, ◌-◌, ◌<◌, ◌≤◌}
use native.Mathlib.Numerals.{add-one}
use native.Mathlib.Omega.{arith}
use lib.ListN.{length, get_or, drop}
use lib.Seq.{drop-cons, drop-length}
use Rattle.algebra.specs.Width.{fit_width}
use Rattle.gates.specs.Gate.{Gate, halves}
use Rattle.gates.specs.Rule.{does_mix}
use Rattle.stores.specs.Columns.{Columns}
use Rattle.std.specs.Prelude.{Result, Ok, Err}
use Rattle.miters.specs.declared.StepFault.{StepFault}
use Rattle.miters.specs.declared.StepFault.TheVariants.{OutsideWidth, NoRoom}
use Rattle.miters.specs.declared.Refusal.{Refusal}
use Rattle.miters.specs.declared.Refusal.TheVariants.{Step as at_step}
use Rattle.miters.specs.Miter.{Over, Step, stepped, table, lowered, steps}
use Rattle.miters.proofs.LeastForms.{lower_raised}
use Rattle.miters.specs.Run.{Lent, Ended, done, stopped, follow}
use Rattle.miters.proofs.Runs.{follow_too_wide, follow_too_full, follow_on}
use Rattle.plans.specs.Prepare.{as_number, product_on}
use Rattle.plans.specs.declared.Sizes.{Sizes}
use Rattle.steps.specs.declared.Taken.{Taken}
use Rattle.plans.specs.declared.Scratch.{Scratch as LentScratch}
use Rattle.plans.specs.Layout.{Acts}
use Rattle.steps.specs.Stepping.{Source, Long, Scratch, Took, built, too_large, too_wide}
use Rattle.steps.specs.Stepping as stepping
use Rattle.plans.specs.declared.Action.{Action}
use Rattle.choices.specs.declared.Lists.{Lists as Readers}
use Rattle.runs.specs.Running.{Ran, ran, refused}
use Rattle.choices.specs.Choosing.{Chosen}
use Rattle.choices.specs.Choosing.{Left as ReadOn}
use Rattle.runs.specs.Inside.{current}
use Rattle.choices.proofs.Gates.{gate_halves, as_number_few}
use Rattle.runs.proofs.Reached.{Fitting, Turn, turn, placed, takes_steps, Reached, reached_next, reached_root}

-- ---- between two steps

-- i steps are taken and have come to M, whose diagram is in these columns; the gates left fit the rest of the schedule, and along
-- it the run ends as the whole run does
pub record Running (lent : Lent) (n : ℕ) (schedule : List ℕ) (whole : Ended) (readers : Readers) (taken : Taken) (i : ℕ) (C : Columns) : Type 0 where
  pub us : List Gate
  pub vs : List Gate
  pub M : Over
  pub within : i ≤ length schedule
  pub lists : ReadOn n readers us vs
  pub fitting : Fitting us vs (drop i schedule)
  pub reached : Reached n M
  pub ends : whole ≡ follow lent n i (steps (drop i schedule) us vs) M
  pub power : taken.exponent ≡ M.power
  pub few : taken.exponent ≤ i
  pub holds : Source n M.entries lent.nodes lent.values taken.used C

pub ran_stopped : {lent : Lent} {n : ℕ} {first : Columns} {whole : Ended} {why given : Refusal} → whole ≡ stopped why → given ≡ why
    → Ran lent n first whole (Err given)
ran_stopped {lent} {n} {first} {given = given} e f =
    subst (λ (x : Ended). Ran lent n first x (Err given)) (sym (e ∙ ap stopped (sym f))) refused

-- ---- a step

product_stepped : (side : Bool) (n : ℕ) (g : Gate) (M : Over) → product_on side n g M.entries ≡ (stepped n (placed side g) M).entries
unfolding stepped
product_stepped false n g M = refl
product_stepped true n g M = refl

power_stepped : (side : Bool) (n : ℕ) (g : Gate) (M : Over) → (stepped n (placed side g) M).power ≡ M.power + halves g
unfolding stepped
power_stepped false n g M = refl
power_stepped true n g M = refl

module _ {lent : Lent} {n : ℕ} {schedule : List ℕ} {whole : Ended} {readers : Readers} {taken : Taken} {i : ℕ} {C : Columns}
    (r : Running lent n schedule whole readers taken i C) (more : i < length schedule) where
  pub split : drop i schedule ≡ get_or schedule i 0 ∷ drop (i + 1) schedule
  split = drop-cons schedule i 0 more ∙ ap (λ (k : ℕ). get_or schedule i 0 ∷ drop k schedule) (sym (add-one i))

  abbrev this : Turn (get_or schedule i 0) (drop (i + 1) schedule) r.us r.vs
  this = turn (get_or schedule i 0) (drop (i + 1) schedule) r.us r.vs (subst (Fitting r.us r.vs) split r.fitting)

  -- the step's product, and what is left of it
  abbrev P' : Over
  P' = stepped n (placed this.side this.gate) r.M

  abbrev M' : Over
  M' = lowered n P'

  abbrev later : List Step
  later = steps (drop (i + 1) schedule) this.us' this.vs'

  from_here : whole ≡ follow lent n i (placed this.side this.gate ∷ later) r.M
  from_here =
      r.ends ∙ ap (λ (s : List ℕ). follow lent n i (steps s r.us r.vs) r.M) split
      ∙ ap (λ (ss : List Step). follow lent n i ss r.M) (takes_steps (drop (i + 1) schedule) this.takes)

  module _ (few : n ≤ 16) {readers' : Readers} {action : Action} (chosen : Chosen readers readers' (get_or schedule i 0) n action) where
    pub picked : Acts n this.side this.gate action × ReadOn n readers' this.us' this.vs'
    picked = chosen.next r.us r.vs this.us' this.vs' this.side this.gate this.takes few r.lists

    -- what the step is given
    abbrev pub turn_task : {sizes : Sizes} {T : LentScratch} {other : Columns} → fit_width sizes.width ≡ true → Long lent.nodes lent.values other
        → Scratch lent.nodes lent.values sizes T → stepping.Task (record { action = action; n = n; sizes = sizes; used = taken.used }) C other T
    turn_task width room scratch = record {
      N = lent.nodes;
      L = lent.values;
      right = this.side;
      gate = this.gate;
      matrix = r.M.entries;
      few_qubits = few;
      width = width;
      acts = picked.0;
      given = r.holds;
      room = room;
      scratch = scratch;
    }

    -- what it leaves
    module _ {C' : Columns} {answer : Result Taken StepFault} {h : ℕ} (h_is : h ≡ as_number (does_mix action.rule.act))
        (took : Took lent n (table (taken.exponent + h) (product_on this.side n this.gate r.M.entries)) C' answer) where
      added : h ≡ halves this.gate
      added = h_is ∙ ap (λ rule. as_number (does_mix rule.act)) picked.0.rule ∙ gate_halves this.gate

      power_is : taken.exponent + h ≡ P'.power
      power_is = ap₂ ◌+◌ r.power added ∙ sym (power_stepped this.side n this.gate r.M)

      leaves : Took lent n P' C' answer
      leaves = subst (λ (P : Over). Took lent n P C' answer) (λ t. table (power_is t) (product_stepped this.side n this.gate r.M t)) took

      pub turn_runs : {taken' : Taken} → 1 ≤ n → answer ≡ Ok taken' → Running lent n schedule whole readers' taken' (i + 1) C'
      turn_runs {taken'} some going = by_took leaves going
        where
          reached' : Reached n M'
          reached' = reached_next n r.M r.reached this.takes r.lists.fit_u r.lists.fit_v

          -- dividing takes from the exponent, if anything
          few_power : M'.power ≤ i + 1
          few_power = omega (arith, r.few, power_is, as_number_few _ h_is, (lower_raised n P'.power P'.entries).power)

          by_took : {given : Result Taken StepFault} → Took lent n P' C' given → given ≡ Ok taken'
              → Running lent n schedule whole readers' taken' (i + 1) C'
          by_took (built wide room {used = counted} nodes values held) e =
              let same : record { used = counted; exponent = M'.power } ≡ taken' = cc in record {
                us = this.us';
                vs = this.vs';
                M = M';
                within = omega (arith, more);
                lists = picked.1;
                fitting = this.others;
                reached = reached';
                ends = from_here ∙ follow_on lent n i r.M (placed this.side this.gate) later wide room
                    ∙ ap (λ (k : ℕ). follow lent n k later M') (sym (add-one i));
                power = ap (λ (x : Taken). x.exponent) (sym same);
                few = subst (λ (x : Taken). x.exponent ≤ i + 1) same few_power;
                holds = record {
                  holds = held;
                  nodes = ap (λ (x : Taken). x.used.nodes) (sym same) ∙ nodes;
                  values = ap (λ (x : Taken). x.used.values) (sym same) ∙ values;
                  root = reached_root n M' some reached';
                };
              }
          by_took (too_large wide room) e = cc
          by_took (too_wide wide) e = cc

      pub turn_stops : {fault : StepFault} (first : Columns) → answer ≡ Err fault → Ran lent n first whole (Err (at_step fault i))
      turn_stops {fault} first stops = by_took leaves stops
        where
          refused_by : (x : StepFault) → x ≡ fault → whole ≡ stopped (at_step x i) → Ran lent n first whole (Err (at_step fault i))
          refused_by x same e = ran_stopped e (ap (λ (f : StepFault). at_step f i) (sym same))

          by_took : {given : Result Taken StepFault} → Took lent n P' C' given → given ≡ Err fault
              → Ran lent n first whole (Err (at_step fault i))
          by_took (built wide room nodes values held) e = cc
          by_took (too_large wide room) e = let same : NoRoom ≡ fault = cc in
              refused_by NoRoom same (from_here ∙ follow_too_full lent n i r.M (placed this.side this.gate) later wide room)
          by_took (too_wide wide) e = let same : OutsideWidth ≡ fault = cc in
              refused_by OutsideWidth same (from_here ∙ follow_too_wide lent n i r.M (placed this.side this.gate) later wide)

-- an answer that is no product is a fault
pub fault_of : (given : Result Taken StepFault) → ((x : Taken) → given ≡ Ok x → ⊥) → (fault : StepFault) × (given ≡ Err fault)
fault_of (Ok x) not_ok = absurd (not_ok x refl)
fault_of (Err fault) not_ok = (fault, refl)

-- ---- after the last step

pub run_ends : {lent : Lent} {n : ℕ} {schedule : List ℕ} {whole : Ended} {readers : Readers} {taken : Taken} {i : ℕ} (first second : Columns)
    → Running lent n schedule whole readers taken i (current (length schedule - i) first second) → length schedule ≤ i
    → Ran lent n first whole (Ok (record { steps = length schedule; exponent = taken.exponent; used = taken.used }))
run_ends {lent} {n} {schedule} {whole} {readers} {taken} {i} first second r end =
    subst (λ (x : Ended). Ran lent n first x (Ok (record { steps = length schedule; exponent = taken.exponent; used = taken.used }))) (sym finished)
    (subst (λ (k : ℕ). Ran lent n first (done i r.M) (Ok (record { steps = k; exponent = taken.exponent; used = taken.used }))) all
    (subst (λ (k : ℕ). Ran lent n first (done i r.M) (Ok (record { steps = i; exponent = k; used = taken.used }))) (sym r.power) (ran in_first)))
  where
    all : i ≡ length schedule
    all = omega (arith, r.within, end)

    gone : drop i schedule ≡ []
    gone = ap (λ (k : ℕ). drop k schedule) all ∙ drop-length schedule

    finished : whole ≡ done i r.M
    finished = r.ends ∙ ap (λ (s : List ℕ). follow lent n i (steps s r.us r.vs) r.M) gone

    none_left : length schedule - i ≡ 0
    none_left = omega (arith, end)

    in_first : Source n r.M.entries lent.nodes lent.values taken.used first
    in_first = subst (λ (k : ℕ). Source n r.M.entries lent.nodes lent.values taken.used (current k first second)) none_left r.holds
