-- The three demands hold of the call's answer: `demand_1`, `demand_2`, `demand_3`.
-- Assumes nothing.
use mathlib.Core.Path.{◌≡◌, sym, ◌∙◌, ap, subst, subst₂}
use mathlib.Core.Bool.{true}
use mathlib.Core.Logic.{◌↔◌, ◌⊎◌, inl, inr}
use mathlib.Core.List.{List}
use mathlib.Core.Option.{Option, none, some}
use Prim.Native.Nat.{ℕ, zero, suc, ◌+◌, ◌≤◌}
use native.Mathlib.Omega.{arith}
use lib.ListN.{length}
use Rattle.algebra.specs.declared.Entry.{Entry}
use Rattle.algebra.specs.Entry.{◌⊗◌, √2^}
use Rattle.algebra.specs.Matrix.{Matrix, Bits}
use Rattle.gates.specs.Gate.{Gate}
use Rattle.circuits.specs.Refusals.{base_limits}
use Rattle.circuits.specs.Reading.{Circuit}
use Rattle.circuits.specs.Within.{Within}
use Rattle.circuits.proofs.Readings.{read_value}
use Rattle.circuits.proofs.Within.{decoded_within}
use Rattle.schedules.specs.Schedule.{fits}
use Rattle.diagrams.specs.Diagram.{levels, diagram}
use Rattle.stores.specs.Columns.{Columns}
use Rattle.diagrams.proofs.Diagrams.{diagram_reduced, diagram_unique}
use Rattle.miters.specs.declared.Refusal.{Refusal}
use Rattle.miters.specs.declared.Report.{Report}
use Rattle.miters.specs.declared.Verdict.TheVariants.{Equal as equal_with, Refused}
use Rattle.miters.specs.Miter.{steps, miter, Equal}
use Rattle.miters.specs.Report.{lowest, forbids, verdict_by, verdict, finished, refused}
use Rattle.miters.specs.Run.{Lent, Ended, done, stopped, Outcome, outcome, judged}
use Rattle.miters.proofs.Schedules.{miter_least_power}
use Rattle.miters.proofs.Scalars.{turns_unique}
use Rattle.miters.specs.Claims.{Says, Ends, Answered, Agree}
use Rattle.miters.proofs.Runs.{ended_ends, ends_only, judged_miter, two_runs}
use Rattle.miters.proofs.Verdicts.{verdict_says, verdict_equal_iff}
use Rattle.checks.specs.Checks.{lengths, Checks, refuses, passes}
use Rattle.judges.specs.Answer.{lent, answer_by, answer}
use Rattle.judges.specs.Calls.{leaving}
use Rattle.checks.specs.Table.{all_hold}
use Rattle.judges.specs.Demands.{answered, all_zero, Line, BeforeRun, InRun, Demand1, ReadAs, Demand2, Demand3}
use Rattle.checks.proofs.Checks.{checks_checking, checking_checks}

-- ---- demand 1

module _ (u v schedule : List ℕ) (w : ℕ) (first second : Columns) where
  abbrev o : Outcome
  o = answered u v schedule w first second

  abbrev all_0 : Columns
  all_0 = all_zero u v schedule w first second

  abbrev Row : Checks → Type 0
  Row = Line u v schedule w first second

  abbrev Early : Refusal → Type 0
  Early = BeforeRun u v schedule w first second

  abbrev Late : Refusal → Type 0
  Late = InRun u v schedule w first second

  line_answer : {x : Checks} → Row x → o ≡ answer_by schedule w first second x
  unfolding answer
  line_answer line = rw (checking_checks u v schedule w (lengths first) (lengths second) line)

  line_unchanged : (why : Refusal) → Early why → o ≡ leaving (refused why) first second
  line_unchanged why line = line_answer line

  passed_answer : {c d : Circuit} → Row (passes c d) → {e : Ended}
      → Ends (lent w first) c.qubits (steps schedule c.gates d.gates) e → o ≡ outcome (lent w first) c.qubits e
  unfolding judged
  passed_answer {c} {d} pass ends = line_answer pass ∙ ap (outcome (lent w first) c.qubits) (ends_only (lent w first) c.qubits _ ends)

  run_all_0 : (why : Refusal) → Late why → o ≡ leaving (refused why) all_0 all_0
  run_all_0 why in_run = passed_answer in_run.pass in_run.stops

  verdict_of : {p : Outcome} (why : Refusal) {left right : Columns} → p ≡ leaving (refused why) left right → p.report.verdict ≡ Refused why
  unfolding refused
  verdict_of why e = ap (λ (o : Outcome). o.report.verdict) e

  is_due : (why : Refusal) → Early why ⊎ Late why → o.report.verdict ≡ Refused why
  is_due why (inl line) = verdict_of why (line_unchanged why line)
  is_due why (inr in_run) = verdict_of why (run_all_0 why in_run)

  -- a verdict is no refusal
  unrefused : (n : ℕ) (M : Matrix) (why : Refusal) → verdict n M ≡ Refused why → ⊥
  unfolding verdict
  unrefused n M why e = by_search (lowest (levels n) (forbids n M)) e
    where
      by_search : (x : Option Bits) → verdict_by n M x ≡ Refused why → ⊥
      by_search none e = let z : ◌≡◌ {A = ℕ} 0 1 = cc in omega arith
      by_search (some l) e = let z : ◌≡◌ {A = ℕ} 0 1 = cc in omega arith

  one_refusal : {r : Report} (why other : Refusal) → r ≡ refused other → r.verdict ≡ Refused why → other ≡ why
  unfolding refused
  one_refusal why other e f = let both : Refused other ≡ Refused why = sym (ap (λ (x : Report). x.verdict) e) ∙ f in cc

  ended_due : {c d : Circuit} → Row (passes c d) → (e : Ended) → Ends (lent w first) c.qubits (steps schedule c.gates d.gates) e
      → (why : Refusal) → o.report.verdict ≡ Refused why → Late why
  unfolding finished
  ended_due {c} {d} pass (done k M) ends why is =
      absurd (unrefused c.qubits M.entries why (sym (ap (λ (o : Outcome). o.report.verdict) (passed_answer pass ends)) ∙ is))
  ended_due {c} {d} pass (stopped other) ends why is =
      subst Late (one_refusal why other (ap (λ (o : Outcome). o.report) (passed_answer pass ends)) is)
      (record { c = c; d = d; pass = pass; stops = ends })

  due : (x : Checks) → Row x → (why : Refusal) → o.report.verdict ≡ Refused why → Early why ⊎ Late why
  due (refuses other) line why is =
      inl (subst Early (one_refusal why other (ap (λ (o : Outcome). o.report) (line_unchanged other line)) is) line)
  due (passes c d) line why is = inr (ended_due line _ (ended_ends (lent w first) c.qubits (steps schedule c.gates d.gates)) why is)

  pub demand_1 : Demand1 u v schedule w first second
  demand_1 = record {
    exactly = λ why. (due _ (checks_checking u v schedule w (lengths first) (lengths second)) why, is_due why);
    unchanged = line_unchanged;
    all_0 = run_all_0;
  }

-- ---- demand 2

module _ (u v schedule : List ℕ) (w : ℕ) (first second : Columns) where
  abbrev Passes : Circuit → Circuit → Type 0
  Passes c d = Line u v schedule w first second (passes c d)

  record Passed : Type 0 where
    c : Circuit
    d : Circuit
    pass : Passes c d

  passed_by : (x : Checks) → Line u v schedule w first second x → Answered (answered u v schedule w first second) → Passed
  passed_by (refuses why) line unrefused = absurd (unrefused why (is_due u v schedule w first second why (inl line)))
  passed_by (passes c d) line unrefused = record { c = c; d = d; pass = line }

  passed : Answered (answered u v schedule w first second) → Passed
  passed = passed_by _ (checks_checking u v schedule w (lengths first) (lengths second))

  module _ {c d : Circuit} where
    pass_read : Passes c d → ReadAs u v c d
    pass_read (all_hold both one_count fitting) = record {
      first_end = both.first_end;
      first_read = both.first_read;
      second_end = both.second_end;
      second_read = both.second_read;
      one_count = one_count;
    }

    pass_fits : Passes c d → fits (length c.gates) (length d.gates) schedule ≡ true
    pass_fits (all_hold both one_count fitting) = fitting

    pass_judged : Passes c d → answered u v schedule w first second ≡ judged (lent w first) c.qubits schedule c.gates d.gates first second
    pass_judged pass = line_answer u v schedule w first second pass

    pass_miter : Passes c d → Answered (answered u v schedule w first second)
        → answered u v schedule w first second
        ≡ outcome (lent w first) c.qubits (done (length c.gates + length d.gates) (miter c.qubits c.gates d.gates))
    pass_miter pass unrefused =
        let is = pass_judged pass in
        is ∙ judged_miter (lent w first) c.qubits schedule c.gates d.gates first second (pass_fits pass) (subst Answered is unrefused)

-- lists that were read are within the limits, at the one count
read_within : {u v : List ℕ} {c d : Circuit} → ReadAs u v c d → Within base_limits c.qubits c.gates × Within base_limits c.qubits d.gates
read_within {u} {v} {c} {d} lists = (
  decoded_within base_limits u lists.first_read,
  subst (λ (n : ℕ). Within base_limits n d.gates) (sym lists.one_count) (decoded_within base_limits v lists.second_read),
)

pub demand_2 : (u v schedule : List ℕ) (w : ℕ) (first second : Columns)
    → let o = answer u v schedule w first second in Answered o → Demand2 u v o
unfolding finished
demand_2 u v schedule w first second unrefused =
    let p = passed u v schedule w first second unrefused in
    let n = p.c.qubits in
    let us = p.c.gates in
    let vs = p.d.gates in
    let lists = pass_read u v schedule w first second p.pass in
    let fit = (read_within lists).1.all_fit in
    let is = pass_miter u v schedule w first second p.pass unrefused in
    record {
      c = p.c;
      d = p.d;
      lists = lists;
      equal_iff = subst (λ (o : Outcome). ((z : Entry) × (o.report.verdict ≡ equal_with z)) ↔ Equal n us vs) (sym is) (verdict_equal_iff n us vs fit);
      says = subst (λ (o : Outcome). Says n us vs o.report.verdict) (sym is) (verdict_says n us vs fit);
      exponent_is = ap (λ (o : Outcome). o.report.exponent) is;
      least = λ N means.
          subst (λ (k : ℕ). k ≤ N.power) (sym (ap (λ (o : Outcome). o.report.exponent) is)) (miter_least_power n us vs N means);
      steps_are = ap (λ (o : Outcome). o.report.steps) is;
      one_factor = λ z e turns.
          ap (λ (k : ℕ). z ⊗ √2^ k) (ap (λ (o : Outcome). o.report.exponent) is) ∙ turns_unique n us vs fit z e turns;
    }

-- ---- demand 3

runs_agree : (n : ℕ) (us vs : List Gate) → Within base_limits n us → Within base_limits n vs
    → (lent lent' : Lent) (s s' : List ℕ) → fits (length us) (length vs) s ≡ true → fits (length us) (length vs) s' ≡ true
    → (first second first' second' : Columns)
    → let o = judged lent n s us vs first second in let p = judged lent' n s' us vs first' second' in
    Answered o → Answered p → Agree lent lent' (diagram n (miter n us vs).entries) o p
runs_agree zero us vs in_u in_v lent lent' s s' fit fit' first second first' second' unrefused unrefused' = absurd (omega (arith, in_u.some_qubit))
runs_agree (suc n) us vs in_u in_v lent lent' s s' fit fit' first second first' second' unrefused unrefused' =
    two_runs n us vs in_u.all_fit in_v.all_fit (diagram (suc n) (miter (suc n) us vs).entries) (diagram_reduced (suc n) (miter (suc n) us vs).entries)
    lent lent' s s' fit fit' first second first' second' unrefused unrefused'

pub demand_3 : (u v s s' : List ℕ) (w w' : ℕ) (first second first' second' : Columns)
    → let o = answer u v s w first second in let p = answer u v s' w' first' second' in
    Answered o → Answered p → Demand3 u v (lent w first) (lent w' first') o p
demand_3 u v s s' w w' first second first' second' unrefused unrefused' =
    let one = passed u v s w first second unrefused in
    let other = passed u v s' w' first' second' unrefused' in
    let lists = pass_read u v s w first second one.pass in
    let lists' = pass_read u v s' w' first' second' other.pass in
    let c = one.c in
    let d = one.d in
    let n = c.qubits in
    let M = (miter n c.gates d.gates).entries in
    let pass' : Passes u v s' w' first' second' c d = subst₂ (Passes u v s' w' first' second')
    (read_value (sym lists'.first_read ∙ lists.first_read)) (read_value (sym lists'.second_read ∙ lists.second_read)) other.pass in
    let is = pass_judged u v s w first second one.pass in
    let is' = pass_judged u v s' w' first' second' pass' in
    record {
      c = c;
      d = d;
      lists = lists;
      D = diagram n M;
      reduced = diagram_reduced n M;
      only = diagram_unique n M;
      agree = subst₂ (Agree (lent w first) (lent w' first') (diagram n M)) (sym is) (sym is')
          (runs_agree n c.gates d.gates (read_within lists).0 (read_within lists).1 (lent w first) (lent w' first') s s'
          (pass_fits u v s w first second one.pass) (pass_fits u v s' w' first' second' pass') first second first' second'
          (subst Answered is unrefused) (subst Answered is' unrefused'));
      first_is = ap (λ (o : Outcome). o.first) (pass_miter u v s w first second one.pass unrefused);
      first_is' = ap (λ (o : Outcome). o.first) (pass_miter u v s' w' first' second' pass' unrefused');
    }
