-- Any two runs that are not refused agree: one report and one used part, whatever the schedules, widths, stores and their
-- earlier contents; and that part is the miter's reduced diagram.
-- Assumes nothing.
use mathlib.Core.Path.{◌≡◌, refl, sym, ◌∙◌, ap, subst, ◌≡⟨◌⟩◌, ◌∎}
use mathlib.Core.Bool.{Bool, true, false, cond, ◌&&◌, true≢false}
use mathlib.Core.List.{List, [], ◌∷◌, ◌++◌, map, append-nil}
use mathlib.Core.Logic.{◌↔◌}
use Prim.Native.Nat.{ℕ, zero, suc, ◌+◌, ◌-◌}
use native.Mathlib.Nat.{add-zero, zero-add}
use native.Mathlib.Omega.{arith}
use lib.Dec.{eqb, leb, leb-suc-zero, leb-suc-suc}
use lib.IntN.{pos}
use lib.ListN.{length, take, replicate, length-map}
use borrow.Author.Tests.{eqb-true}
use Rattle.algebra.specs.declared.Entry.{Entry}
use Rattle.algebra.specs.Entry.{𝟘}
use Rattle.algebra.specs.Matrix.{Bits, Matrix}
use Rattle.algebra.specs.Width.{entry_in_width}
use Rattle.gates.specs.Gate.{Gate, AllFit}
use Rattle.schedules.specs.Schedule.{count, only_steps, fits}
use Rattle.diagrams.specs.Diagram.{node, code, Node, Diagram, ReducedOf, levels, entries, diagram}
use Rattle.stores.specs.Columns.{Columns, column, held, cleared}
use Rattle.diagrams.proofs.Tests.{both_true}
use Rattle.stores.proofs.Columns.{take_column}
use Rattle.diagrams.proofs.Diagrams.{diagram_unique, diagram_ext}
use Rattle.miters.specs.declared.StepFault.TheVariants.{OutsideWidth, NoRoom}
use Rattle.miters.specs.declared.Refusal.{Refusal}
use Rattle.miters.specs.declared.Refusal.TheVariants.{Step as at_step}
use Rattle.miters.specs.Miter.{Over, start, Step, stepped, taken, run, steps, miter}
use Rattle.miters.specs.Report.{finished, refused}
use Rattle.miters.specs.Run.{Lent, in_width, has_room, Ended, done, stopped, follow, ended, Outcome, outcome, judged, used}
use Rattle.miters.specs.Claims.{Pass, Follows, finishes, too_wide, too_full, Ends, full_at_once, follows, Answered, Agree}
use Rattle.diagrams.proofs.Everywhere.{entries_everywhere}
use Rattle.miters.proofs.LeastForms.{SameTable}
use Rattle.miters.proofs.Schedules.{schedule_miter}
use Rattle.miters.proofs.Verdicts.{verdict_ext}
use Rattle.miters.proofs.Roots.{miter_root}

-- ---- the test of 13 looks at every entry

pub in_width_iff : (lent : Lent) (n : ℕ) (M : Matrix)
    → (in_width lent n M ≡ true) ↔ ((r c : Bits) → length r ≡ n → length c ≡ n → entry_in_width lent.width (M r c) ≡ true)
in_width_iff lent n M = entries_everywhere n (entry_in_width lent.width) M

-- ---- how a run ends

abbrev Unstopped : Ended → Type 0
Unstopped e = (r : Refusal) → e ≡ stopped r → ⊥

module _ (lent : Lent) (n : ℕ) where
  pass_none : (M : Over) (ss : List Step) → Pass lent n M ss 0
  pass_none M ss i h = absurd (omega arith)

  module _ (before : ℕ) (M : Over) (s : Step) (ss : List Step) where
    abbrev next : Over
    next = taken n s M

    pass_cons : (k : ℕ) → in_width lent n (stepped n s M).entries ≡ true → has_room lent n next.entries ≡ true
        → Pass lent n next ss k → Pass lent n M (s ∷ ss) (suc k)
    pass_cons k wide room pass zero h = (wide, room)
    pass_cons k wide room pass (suc i) h = pass i (omega arith)

    follows_cons : {e : Ended} → in_width lent n (stepped n s M).entries ≡ true → has_room lent n next.entries ≡ true
        → Follows lent n (suc before) next ss e → Follows lent n before M (s ∷ ss) e
    follows_cons wide room (finishes pass) =
        subst (λ (k : ℕ). Follows lent n before M (s ∷ ss) (done k (run n ss next))) (omega arith) (finishes (pass_cons (length ss) wide room pass))
    follows_cons wide room (too_wide k h pass out) =
        subst (λ (i : ℕ). Follows lent n before M (s ∷ ss) (stopped (at_step OutsideWidth i))) (omega arith)
        (too_wide (suc k) (omega arith) (pass_cons k wide room pass) out)
    follows_cons wide room (too_full k h pass fit out) =
        subst (λ (i : ℕ). Follows lent n before M (s ∷ ss) (stopped (at_step NoRoom i))) (omega arith)
        (too_full (suc k) (omega arith) (pass_cons k wide room pass) fit out)

    pub follow_too_wide : in_width lent n (stepped n s M).entries ≡ false → follow lent n before (s ∷ ss) M ≡ stopped (at_step OutsideWidth before)
    follow_too_wide wide = rw wide

    pub follow_too_full : in_width lent n (stepped n s M).entries ≡ true → has_room lent n next.entries ≡ false
        → follow lent n before (s ∷ ss) M ≡ stopped (at_step NoRoom before)
    follow_too_full wide room = rw (wide, room)

    pub follow_on : in_width lent n (stepped n s M).entries ≡ true → has_room lent n next.entries ≡ true
        → follow lent n before (s ∷ ss) M ≡ follow lent n (suc before) ss next
    follow_on wide room = rw (wide, room)

    follows_step : (a b : Bool) → in_width lent n (stepped n s M).entries ≡ a → has_room lent n next.entries ≡ b
        → Follows lent n (suc before) next ss (follow lent n (suc before) ss next) → Follows lent n before M (s ∷ ss) (follow lent n before (s ∷ ss) M)
    follows_step false b wide room onward = subst (Follows lent n before M (s ∷ ss))
        (ap (λ (i : ℕ). stopped (at_step OutsideWidth i)) (add-zero before) ∙ sym (follow_too_wide wide))
        (too_wide 0 (omega arith) (pass_none M (s ∷ ss)) wide)
    follows_step true false wide room onward = subst (Follows lent n before M (s ∷ ss))
        (ap (λ (i : ℕ). stopped (at_step NoRoom i)) (add-zero before) ∙ sym (follow_too_full wide room))
        (too_full 0 (omega arith) (pass_none M (s ∷ ss)) wide room)
    follows_step true true wide room onward = subst (Follows lent n before M (s ∷ ss)) (sym (follow_on wide room)) (follows_cons wide room onward)

  follow_follows : (before : ℕ) (ss : List Step) (M : Over) → Follows lent n before M ss (follow lent n before ss M)
  follow_follows before [] M = subst (λ (k : ℕ). Follows lent n before M [] (done k M)) (add-zero before) (finishes (pass_none M []))
  follow_follows before (s ∷ ss) M =
      let M' = taken n s M in
      follows_step before M s ss (in_width lent n (stepped n s M).entries) (has_room lent n M'.entries) refl refl (follow_follows (suc before) ss M')

  pub ended_ends : (ss : List Step) → Ends lent n ss (ended lent n ss)
  unfolding ended
  ended_ends ss = by_test (has_room lent n start.entries) refl
    where
      by_test : (b : Bool) → has_room lent n start.entries ≡ b → Ends lent n ss (cond b (follow lent n 0 ss start) (stopped (at_step NoRoom 0)))
      by_test true room = follows room (follow_follows 0 ss start)
      by_test false room = full_at_once room

  -- it ends so in no other way
  module _ (before : ℕ) (M : Over) (s : Step) (ss : List Step) where
    abbrev RestOnly : Type 0
    RestOnly = (e : Ended) → Follows lent n (suc before) (taken n s M) ss e → follow lent n (suc before) ss (taken n s M) ≡ e

    pass_rest : (k : ℕ) → Pass lent n M (s ∷ ss) (suc k) → Pass lent n (taken n s M) ss k
    pass_rest k pass i h = pass (suc i) (omega arith)

    passed_on : (k : ℕ) → Pass lent n M (s ∷ ss) (suc k) → {e : Ended} → Follows lent n (suc before) (taken n s M) ss e → RestOnly
        → follow lent n before (s ∷ ss) M ≡ e
    passed_on k pass rest only = let first = pass 0 (omega arith) in follow_on before M s ss first.0 first.1 ∙ only _ rest

    follows_step_only : RestOnly → {e : Ended} → Follows lent n before M (s ∷ ss) e → follow lent n before (s ∷ ss) M ≡ e
    follows_step_only only (finishes pass) =
        passed_on (length ss) pass (finishes (pass_rest (length ss) pass)) only ∙ ap (λ (k : ℕ). done k (run n ss (taken n s M))) (omega arith)
    follows_step_only only (too_wide zero h pass out) =
        follow_too_wide before M s ss out ∙ ap (λ (k : ℕ). stopped (at_step OutsideWidth k)) (sym (add-zero before))
    follows_step_only only (too_wide (suc k) h pass out) =
        passed_on k pass (too_wide k (omega arith) (pass_rest k pass) out) only ∙ ap (λ (i : ℕ). stopped (at_step OutsideWidth i)) (omega arith)
    follows_step_only only (too_full zero h pass fit out) =
        follow_too_full before M s ss fit out ∙ ap (λ (k : ℕ). stopped (at_step NoRoom k)) (sym (add-zero before))
    follows_step_only only (too_full (suc k) h pass fit out) =
        passed_on k pass (too_full k (omega arith) (pass_rest k pass) fit out) only ∙ ap (λ (i : ℕ). stopped (at_step NoRoom i)) (omega arith)

  follows_only : (before : ℕ) (ss : List Step) (M : Over) {e : Ended} → Follows lent n before M ss e → follow lent n before ss M ≡ e
  follows_only before [] M (finishes pass) = ap (λ (k : ℕ). done k M) (sym (add-zero before))
  follows_only before [] M (too_wide k h pass out) = absurd (omega arith)
  follows_only before [] M (too_full k h pass fit out) = absurd (omega arith)
  follows_only before (s ∷ ss) M on = follows_step_only before M s ss (λ e rest. follows_only (suc before) ss (taken n s M) rest) on

  pub ends_only : (ss : List Step) {e : Ended} → Ends lent n ss e → ended lent n ss ≡ e
  unfolding ended
  ends_only ss (full_at_once room) = rw room
  ends_only ss (follows room on) = rw room (follows_only 0 ss start on)

  unstopped_done : (ss : List Step) {e : Ended} → Ends lent n ss e → Unstopped e → e ≡ done (length ss) (run n ss start)
  unstopped_done ss (full_at_once room) unstopped = absurd (unstopped _ refl)
  unstopped_done ss (follows room (finishes pass)) unstopped = ap (λ (k : ℕ). done k (run n ss start)) (zero-add (length ss))
  unstopped_done ss (follows room (too_wide k h pass out)) unstopped = absurd (unstopped _ refl)
  unstopped_done ss (follows room (too_full k h pass fit out)) unstopped = absurd (unstopped _ refl)

-- a schedule that fits takes every gate
steps_counted : (s : List ℕ) (us vs : List Gate) → count 0 s ≡ length us → count 1 s ≡ length vs → only_steps s ≡ true
    → length (steps s us vs) ≡ length us + length vs
steps_counted [] [] [] a b o = refl
steps_counted [] [] (v ∷ vs) a b o = absurd (omega arith)
steps_counted [] (u ∷ us) vs a b o = absurd (omega arith)
steps_counted (zero ∷ s) [] vs a b o = absurd (omega arith)
steps_counted (zero ∷ s) (u ∷ us) vs a b o = omega (arith, steps_counted s us vs (omega arith) b o)
steps_counted (suc zero ∷ s) us [] a b o = absurd (omega arith)
steps_counted (suc zero ∷ s) us (v ∷ vs) a b o = omega (arith, steps_counted s us vs a (omega arith) o)
steps_counted (suc (suc x) ∷ s) us vs a b o =
    absurd (true≢false (sym (both_true (leb (suc (suc x)) 1) (only_steps s) o).0 ∙ leb-suc-suc (suc x) 0 ∙ leb-suc-zero x))

steps_length : (s : List ℕ) (us vs : List Gate) → fits (length us) (length vs) s ≡ true → length (steps s us vs) ≡ length us + length vs
unfolding fits
steps_length s us vs e =
    let (u, rest) = both_true (eqb (count 0 s) (length us)) (eqb (count 1 s) (length vs) && only_steps s) e in
    let (v, o) = both_true (eqb (count 1 s) (length vs)) (only_steps s) rest in
    steps_counted s us vs (eqb-true (count 0 s) (length us) u) (eqb-true (count 1 s) (length vs) v) o

-- ---- the used part of the first store

used_column : {A B : Type 0} (nought : B) (N : ℕ) (f : A → B) (l : List A)
    → take (length l) (column nought N (map f l)) ≡ column nought (length l) (map f l)
used_column nought N f l =
    let len : length (map f l) ≡ length l = length-map l f in
    let none_left : length l - length (map f l) ≡ 0 = omega arith in
    take (length l) (column nought N (map f l)) ≡⟨ ap (λ (k : ℕ). take k (column nought N (map f l))) (sym len) ⟩
    take (length (map f l)) (column nought N (map f l)) ≡⟨ take_column nought N (map f l) ⟩
    map f l ≡⟨ sym (append-nil (map f l)) ⟩
    map f l ++ replicate 0 nought ≡⟨ ap (λ (k : ℕ). map f l ++ replicate k nought) (sym none_left) ⟩
    column nought (length l) (map f l) ∎

used_held : (lent : Lent) (n k : ℕ) (M : Over) → let s = (diagram n M.entries).store in
    used (outcome lent n (done k M)) ≡ held (length s.nodes) (length s.values) s
unfolding used held finished
used_held lent n k M =
    let s = (diagram n M.entries).store in
    λ i. record {
      level = used_column 0 lent.nodes (λ (m : Node). m.level) s.nodes i;
      low = used_column 0 lent.nodes (λ (m : Node). code m.low) s.nodes i;
      high = used_column 0 lent.nodes (λ (m : Node). code m.high) s.nodes i;
      a = used_column (pos 0) lent.values (λ (x : Entry). x.a) s.values i;
      b = used_column (pos 0) lent.values (λ (x : Entry). x.b) s.values i;
      c = used_column (pos 0) lent.values (λ (x : Entry). x.c) s.values i;
      d = used_column (pos 0) lent.values (λ (x : Entry). x.d) s.values i;
    }

-- ---- what a run leaves that is not refused

answered_unstopped : (lent : Lent) (n : ℕ) (e : Ended) → Answered (outcome lent n e) → Unstopped e
unfolding refused
answered_unstopped lent n e answered r is = answered r (ap (λ (x : Ended). (outcome lent n x).report.verdict) is)

-- a finished run's outcome looks at the entries on n qubits and at the exponent
outcome_same : (lent : Lent) (n k : ℕ) (M N : Over) → SameTable n M N → outcome lent n (done k M) ≡ outcome lent n (done k N)
unfolding finished
outcome_same lent n k M N same = λ i. record {
  report = record {
    verdict = verdict_ext n same.entries i;
    exponent = same.power i;
    steps = k;
    nodes = length (drawn i).store.nodes;
    values = length (drawn i).store.values;
  };
  first = held lent.nodes lent.values (drawn i).store;
  second = cleared lent.nodes lent.values;
}
  where
    drawn : diagram n M.entries ≡ diagram n N.entries
    drawn = diagram_ext n M.entries N.entries same.entries.at

-- its outcome is the miter's
pub judged_miter : (lent : Lent) (n : ℕ) (s : List ℕ) (us vs : List Gate) (first second : Columns) → fits (length us) (length vs) s ≡ true
    → Answered (judged lent n s us vs first second)
    → judged lent n s us vs first second ≡ outcome lent n (done (length us + length vs) (miter n us vs))
unfolding judged
judged_miter lent n s us vs first second fit answered =
    let ss = steps s us vs in
    outcome lent n (ended lent n ss)
    ≡⟨ ap (outcome lent n) (unstopped_done lent n ss (ended_ends lent n ss) (answered_unstopped lent n (ended lent n ss) answered)) ⟩
    outcome lent n (done (length ss) (run n ss start)) ≡⟨ ap (λ (k : ℕ). outcome lent n (done k (run n ss start))) (steps_length s us vs fit) ⟩
    outcome lent n (done (length us + length vs) (run n ss start))
    ≡⟨ outcome_same lent n (length us + length vs) (run n ss start) (miter n us vs) (schedule_miter n s us vs fit) ⟩
    outcome lent n (done (length us + length vs) (miter n us vs)) ∎

-- ---- two runs

-- over all lists whose gates fit, all schedules that fit, all widths and store sizes, and all earlier contents
pub two_runs : (n : ℕ) (us vs : List Gate) → AllFit (suc n) us → AllFit (suc n) vs
    → (D : Diagram Entry) → ReducedOf 𝟘 (levels (suc n)) (entries (miter (suc n) us vs).entries) D
    → (lent lent' : Lent) (s s' : List ℕ) → fits (length us) (length vs) s ≡ true → fits (length us) (length vs) s' ≡ true
    → (first second first' second' : Columns)
    → let o = judged lent (suc n) s us vs first second in let p = judged lent' (suc n) s' us vs first' second' in
    Answered o → Answered p → Agree lent lent' D o p
unfolding finished
two_runs n us vs fit_u fit_v D reduced lent lent' s s' fit fit' first second first' second' answered answered' =
    let M = miter (suc n) us vs in
    let is_D : diagram (suc n) M.entries ≡ D = sym (diagram_unique (suc n) M.entries D reduced) in
    let is = judged_miter lent (suc n) s us vs first second fit answered in
    let is' = judged_miter lent' (suc n) s' us vs first' second' fit' answered' in
    let used_held₁ = ap used is ∙ used_held lent (suc n) (length us + length vs) M in
    let used_held₂ = ap used is' ∙ used_held lent' (suc n) (length us + length vs) M in
    record {
      reports = ap (λ (x : Outcome). x.report) is ∙ sym (ap (λ (x : Outcome). x.report) is');
      used_parts = used_held₁ ∙ sym used_held₂;
      used_is = used_held₁ ∙ ap (λ (x : Diagram Entry). held (length x.store.nodes) (length x.store.values) x.store) is_D;
      nodes_are = ap (λ (x : Outcome). x.report.nodes) is ∙ ap (λ (x : Diagram Entry). length x.store.nodes) is_D;
      values_are = ap (λ (x : Outcome). x.report.values) is ∙ ap (λ (x : Diagram Entry). length x.store.values) is_D;
      root_is = subst (λ (x : Diagram Entry). (i : ℕ) × (x.root ≡ node i) × (suc i ≡ length x.store.nodes)) is_D (miter_root n us vs fit_u fit_v);
      second_is = ap (λ (x : Outcome). x.second) is;
      second_is' = ap (λ (x : Outcome). x.second) is';
    }
