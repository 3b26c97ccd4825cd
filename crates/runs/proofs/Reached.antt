-- Schedules that fit, step by step; and what a run has come to: the miter of the gates taken so far, whose root is its last node.
-- Assumes nothing.
use mathlib.Core.Path.{◌≡◌, refl, sym, ◌∙◌, ap, subst, ◌≡⟨◌⟩◌, ◌∎}
use mathlib.Core.Bool.{Bool, true, false, cond, ◌&&◌, true≢false}
use mathlib.Core.List.{List, [], ◌∷◌, ◌++◌}
use Prim.Native.Nat.{ℕ, zero, suc, ◌+◌, ◌≤◌}
use native.Mathlib.Omega.{arith}
use borrow.Author.Tests.{eqb-true, eq-eqb}
use lib.Dec.{eqb, leb, leb-suc-zero, leb-suc-suc}
use lib.ListN.{length, length-append}
use Rattle.gates.specs.Gate.{Gate, AllFit, inverse}
use Rattle.circuits.proofs.Within.{append_fit}
use Rattle.schedules.specs.Schedule.{count, only_steps, fits}
use Rattle.diagrams.specs.Diagram.{diagram}
use Rattle.diagrams.proofs.Tests.{both_true, true_both}
use Rattle.miters.specs.Miter.{Over, start, Step, left, right, taken, run, steps, miter}
use Rattle.miters.proofs.LeastForms.{SameTable}
use Rattle.diagrams.proofs.Diagrams.{diagram_ext}
use Rattle.miters.proofs.Schedules.{schedule_miter}
use Rattle.miters.proofs.Roots.{LastRoot, miter_root}
use Rattle.choices.specs.Choosing.{Takes, from_U, from_V}

-- ---- schedules that fit

-- as many 0s and 1s as there are gates, and no other byte
pub record Fitting (us vs : List Gate) (s : List ℕ) : Type 0 where
  pub zeros : count 0 s ≡ length us
  pub ones : count 1 s ≡ length vs
  pub only : only_steps s ≡ true

module _ (us vs : List Gate) (s : List ℕ) where
  pub fits_fitting : fits (length us) (length vs) s ≡ true → Fitting us vs s
  unfolding fits
  fits_fitting e =
      let (zeros, rest) = both_true (eqb (count 0 s) (length us)) (eqb (count 1 s) (length vs) && only_steps s) e in
      let (ones, only) = both_true (eqb (count 1 s) (length vs)) (only_steps s) rest in
      record { zeros = eqb-true _ _ zeros; ones = eqb-true _ _ ones; only = only }

  fitting_fits : Fitting us vs s → fits (length us) (length vs) s ≡ true
  unfolding fits
  fitting_fits f = true_both (eq-eqb _ _ f.zeros) (true_both (eq-eqb _ _ f.ones) f.only)

-- what the first byte takes, and that the others fit what is left
pub record Turn (b : ℕ) (s : List ℕ) (us vs : List Gate) : Type 0 where
  pub side : Bool
  pub gate : Gate
  pub us' : List Gate
  pub vs' : List Gate
  pub takes : Takes b us vs side gate us' vs'
  pub others : Fitting us' vs' s

pub turn : (b : ℕ) (s : List ℕ) (us vs : List Gate) → Fitting us vs (b ∷ s) → Turn b s us vs
turn zero s [] vs f = absurd (omega (arith, f.zeros))
turn zero s (u ∷ us) vs f = record {
  side = false;
  gate = u;
  us' = us;
  vs' = vs;
  takes = from_U;
  others = record { zeros = omega (arith, f.zeros); ones = f.ones; only = f.only };
}
turn (suc zero) s us [] f = absurd (omega (arith, f.ones))
turn (suc zero) s us (v ∷ vs) f = record {
  side = true;
  gate = inverse v;
  us' = us;
  vs' = vs;
  takes = from_V;
  others = record { zeros = f.zeros; ones = omega (arith, f.ones); only = f.only };
}
turn (suc (suc b)) s us vs f =
    absurd (true≢false (sym (both_true (leb (suc (suc b)) 1) (only_steps s) f.only).0 ∙ leb-suc-suc (suc b) 0 ∙ leb-suc-zero b))

-- the step of a side and a gate
abbrev pub placed : Bool → Gate → Step
placed false g = left g
placed true g = right g

pub takes_steps : {b : ℕ} {us vs us' vs' : List Gate} {side : Bool} {g : Gate} (s : List ℕ) → Takes b us vs side g us' vs'
    → steps (b ∷ s) us vs ≡ placed side g ∷ steps s us' vs'
takes_steps s from_U = refl
takes_steps s from_V = refl

pub fitting_length : (s : List ℕ) (us vs : List Gate) → Fitting us vs s → length s ≡ length us + length vs
fitting_length [] us vs f = omega (arith, f.zeros, f.ones)
fitting_length (b ∷ s) us vs f = let t = turn b s us vs f in by_takes t.takes (fitting_length s t.us' t.vs' t.others)
  where
    by_takes : {b : ℕ} {us vs us' vs' : List Gate} {side : Bool} {g : Gate} → Takes b us vs side g us' vs'
        → length s ≡ length us' + length vs' → suc (length s) ≡ length us + length vs
    by_takes from_U e = omega arith
    by_takes from_V e = omega arith

-- ---- a schedule after a schedule

count_after : (b : ℕ) (s t : List ℕ) → count b (s ++ t) ≡ count b s + count b t
count_after b [] t = omega arith
count_after b (x ∷ s) t = by_byte (eqb x b) (count_after b s t)
  where
    by_byte : (is : Bool) → count b (s ++ t) ≡ count b s + count b t
        → cond is (suc (count b (s ++ t))) (count b (s ++ t)) ≡ cond is (suc (count b s)) (count b s) + count b t
    by_byte true e = omega arith
    by_byte false e = e

only_after : (s t : List ℕ) → only_steps s ≡ true → only_steps t ≡ true → only_steps (s ++ t) ≡ true
only_after [] t p q = q
only_after (x ∷ s) t p q = let (first, others) = both_true (leb x 1) (only_steps s) p in true_both first (only_after s t others q)

fitting_after : (s t : List ℕ) (us vs us₁ vs₁ : List Gate) → Fitting us vs s → Fitting us₁ vs₁ t → Fitting (us ++ us₁) (vs ++ vs₁) (s ++ t)
fitting_after s t us vs us₁ vs₁ f g = record {
  zeros = omega (arith, count_after 0 s t, length-append us us₁, f.zeros, g.zeros);
  ones = omega (arith, count_after 1 s t, length-append vs vs₁, f.ones, g.ones);
  only = only_after s t f.only g.only;
}

steps_after : (s t : List ℕ) (us vs us₁ vs₁ : List Gate) → Fitting us vs s → steps (s ++ t) (us ++ us₁) (vs ++ vs₁) ≡ steps s us vs ++ steps t us₁ vs₁
steps_after [] t [] [] us₁ vs₁ f = refl
steps_after [] t [] (v ∷ vs) us₁ vs₁ f = absurd (omega (arith, f.ones))
steps_after [] t (u ∷ us) vs us₁ vs₁ f = absurd (omega (arith, f.zeros))
steps_after (b ∷ s) t us vs us₁ vs₁ f =
    let n = turn b s us vs f in
    by_takes n.takes (steps_after s t n.us' n.vs' us₁ vs₁ n.others)
  where
    by_takes : {b : ℕ} {us vs us' vs' : List Gate} {side : Bool} {g : Gate} → Takes b us vs side g us' vs'
        → steps (s ++ t) (us' ++ us₁) (vs' ++ vs₁) ≡ steps s us' vs' ++ steps t us₁ vs₁
        → steps (b ∷ (s ++ t)) (us ++ us₁) (vs ++ vs₁) ≡ steps (b ∷ s) us vs ++ steps t us₁ vs₁
    by_takes (from_U {g = g}) e = ap (λ (l : List Step). left g ∷ l) e
    by_takes (from_V {g = g}) e = ap (λ (l : List Step). right (inverse g) ∷ l) e

run_after : (n : ℕ) (ss more : List Step) (M : Over) → run n (ss ++ more) M ≡ run n more (run n ss M)
run_after n [] more M = refl
run_after n (s ∷ ss) more M = run_after n ss more (taken n s M)

-- ---- what a run has come to

-- gates that fit, taken along some schedule, come to this matrix
pub record Reached (n : ℕ) (M : Over) : Type 0 where
  pub us : List Gate
  pub vs : List Gate
  pub schedule : List ℕ
  pub fit_u : AllFit n us
  pub fit_v : AllFit n vs
  pub fitting : Fitting us vs schedule
  pub comes : run n (steps schedule us vs) start ≡ M

pub reached_start : (n : ℕ) → Reached n start
reached_start n = record {
  us = [];
  vs = [];
  schedule = [];
  fit_u = tt;
  fit_v = tt;
  fitting = record { zeros = refl; ones = refl; only = refl };
  comes = refl;
}

module _ (n : ℕ) (M : Over) (reached : Reached n M) where
  -- further gates along a further schedule
  further : (us₁ vs₁ : List Gate) (t : List ℕ) → AllFit n us₁ → AllFit n vs₁ → Fitting us₁ vs₁ t → Reached n (run n (steps t us₁ vs₁) M)
  further us₁ vs₁ t fit_u fit_v fitting = record {
    us = reached.us ++ us₁;
    vs = reached.vs ++ vs₁;
    schedule = reached.schedule ++ t;
    fit_u = append_fit n reached.us us₁ reached.fit_u fit_u;
    fit_v = append_fit n reached.vs vs₁ reached.fit_v fit_v;
    fitting = fitting_after reached.schedule t reached.us reached.vs us₁ vs₁ reached.fitting fitting;
    comes =
        run n (steps (reached.schedule ++ t) (reached.us ++ us₁) (reached.vs ++ vs₁)) start
        ≡⟨ ap (λ (ss : List Step). run n ss start) (steps_after reached.schedule t reached.us reached.vs us₁ vs₁ reached.fitting) ⟩
        run n (steps reached.schedule reached.us reached.vs ++ steps t us₁ vs₁) start
        ≡⟨ run_after n (steps reached.schedule reached.us reached.vs) (steps t us₁ vs₁) start ⟩
        run n (steps t us₁ vs₁) (run n (steps reached.schedule reached.us reached.vs) start)
        ≡⟨ ap (run n (steps t us₁ vs₁)) reached.comes ⟩
        run n (steps t us₁ vs₁) M ∎;
  }

  pub reached_next : {b : ℕ} {us vs us' vs' : List Gate} {side : Bool} {g : Gate} → Takes b us vs side g us' vs' → AllFit n us → AllFit n vs
      → Reached n (taken n (placed side g) M)
  reached_next (from_U {g = g}) fit_u fit_v =
      further (g ∷ []) [] (0 ∷ []) (fit_u.0, tt) tt (record { zeros = refl; ones = refl; only = refl })
  reached_next (from_V {g = g}) fit_u fit_v =
      further [] (g ∷ []) (1 ∷ []) tt (fit_v.0, tt) (record { zeros = refl; ones = refl; only = refl })

pub reached_root : (n : ℕ) (M : Over) → 1 ≤ n → Reached n M → LastRoot (diagram n M.entries)
reached_root zero M some reached = absurd (omega arith)
reached_root (suc n) M some r = subst (λ (N : Over). LastRoot (diagram (suc n) N.entries)) r.comes
    (subst LastRoot (sym drawn) (miter_root n r.us r.vs r.fit_u r.fit_v))
  where
    same : SameTable (suc n) (run (suc n) (steps r.schedule r.us r.vs) start) (miter (suc n) r.us r.vs)
    same = schedule_miter (suc n) r.schedule r.us r.vs (fitting_fits r.us r.vs r.schedule r.fitting)

    drawn : diagram (suc n) (run (suc n) (steps r.schedule r.us r.vs) start).entries ≡ diagram (suc n) (miter (suc n) r.us r.vs).entries
    drawn = diagram_ext (suc n) _ _ same.entries.at
