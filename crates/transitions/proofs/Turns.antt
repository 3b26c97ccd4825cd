-- What a control's bit makes of a gate that is still to act, and of a swap between its targets. Assumes nothing.
use mathlib.Core.Path.{◌≡◌, sym, ap, ◌∙◌}
use mathlib.Core.Bool.{Bool, true, false, cond}
use Prim.Native.Nat.{ℕ, suc, ◌+◌}
use native.Mathlib.Numerals.{add-one}
use borrow.Author.Tests.{eq-eqb, ne_eqb}
use Rattle.algebra.specs.declared.Entry.{Entry}
use Rattle.diagrams.specs.Diagram.{Store}
use Rattle.transitions.specs.declared.Mode.{Mode}
use Rattle.transitions.specs.declared.Mode.TheVariants.{Turning, Waiting, Swapping}
use Rattle.transitions.specs.Plan.{Plan}
use Rattle.transitions.specs.Next.{on_both, on_one, cofactor, next_by}

cond_true : {A : Type 0} (b : Bool) (x y : A) → b ≡ true → x ≡ cond b x y
cond_true b x y e = ap (λ (t : Bool). cond t x y) (sym e)

cond_false : {A : Type 0} (b : Bool) (x y : A) → b ≡ false → y ≡ cond b x y
cond_false b x y e = ap (λ (t : Bool). cond t x y) (sym e)

module _ (plan : Plan) (s : Store Entry) (level k : ℕ) (b : Bool) (own : ℕ) (here : plan.stage k ≡ level) where
  -- past a control of 1 the gate is still to act, from the next stage on
  pub waiting_set : (x : ℕ) → (plan.target ≡ k → ⊥) → b ≡ true → own ≡ cofactor s level b x
      → on_one (Waiting (k + 1)) own ≡ next_by plan s level b (Waiting k) x x
  waiting_set x control set own_is =
      rw (eq-eqb _ _ here, ne_eqb _ _ control, add-one)
      (ap (on_one (Waiting (suc k))) own_is ∙ ap (λ (m : Mode). on_one m (cofactor s level b x)) (cond_true b (Waiting (suc k)) (Turning 0) set))

  -- a control of 0 ends a swap between its targets
  pub swapping_clear : (seen : Bool) (x y : ℕ) → (plan.second ≡ k → ⊥) → b ≡ false → own ≡ cofactor s level b x
      → on_one (Turning 0) own ≡ next_by plan s level b (Swapping k seen) x y
  swapping_clear seen x y control clear own_is =
      rw (eq-eqb _ _ here, ne_eqb _ _ control)
      (ap (on_one (Turning 0)) own_is
      ∙ cond_false b (on_both (Swapping (suc k) seen) (cofactor s level b x) (cofactor s level b y))
      (on_one (Turning 0) (cofactor s level b x)) clear)
