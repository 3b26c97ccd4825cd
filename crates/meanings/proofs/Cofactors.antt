-- Cofactors: what a reference reaches after a bit, and where it asks next.
-- Assumes nothing.
use mathlib.Core.Path.{◌≡◌, refl, sym, ◌∙◌, ap, subst}
use mathlib.Core.Bool.{Bool, true, false, cond, true≢false}
use mathlib.Core.List.{[], ◌∷◌}
use Prim.Native.Nat.{ℕ, suc, ◌<◌, ◌≤◌}
use native.Mathlib.Omega.{arith}
use lib.Dec.{eqb}
use lib.ListN.{get_or}
use borrow.Author.Tests.{ne_eqb, eqb-true, eqb-false}
use Rattle.std.specs.Prelude.{Option, Some, None}
use Rattle.algebra.specs.declared.Entry.{Entry}
use Rattle.algebra.specs.Entry.{𝟘}
use Rattle.algebra.specs.Matrix.{Bits}
use Rattle.diagrams.specs.Diagram.{Ref, value, node, code, Store, node_at, reached, From, ref_of}
use Rattle.diagrams.proofs.References.{ref_of_code, code_ref_of}
use Rattle.transitions.specs.Plan.{Plan, is_zero}
use Rattle.transitions.specs.State.{level_of}
use Rattle.transitions.specs.Source.{Refers}
use Rattle.transitions.specs.Next.{cofactor_by, cofactor}
use Rattle.transitions.specs.Valid.{ValidPlan}

-- ---- as references

abbrev below : Store Entry → ℕ → Bool → Ref → Ref
below s level b (value j) = value j
below s level b (node i) = cond (eqb (node_at s i).level level) (cond b (node_at s i).high (node_at s i).low) (node i)

cofactor_ref : (s : Store Entry) (level : ℕ) (b : Bool) (x : ℕ) → ref_of (cofactor s level b x) ≡ below s level b (ref_of x)
unfolding cofactor
cofactor_ref s level b x = by_ref (ref_of x) refl
  where
    by_ref : (r : Ref) → ref_of x ≡ r → ref_of (cofactor_by s level b x r) ≡ below s level b r
    by_ref (value j) e = e
    by_ref (node i) e = by_level (eqb (node_at s i).level level)
      where
        by_level : (t : Bool) → ref_of (cond t (code (cond b (node_at s i).high (node_at s i).low)) x)
            ≡ cond t (cond b (node_at s i).high (node_at s i).low) (node i)
        by_level true = ref_of_code (cond b (node_at s i).high (node_at s i).low)
        by_level false = e

-- ---- what is reached

reached_below : (s : Store Entry) (level : ℕ) (b : Bool) (r : Ref) (l : Bits)
    → reached 𝟘 s level r (b ∷ l) ≡ reached 𝟘 s (suc level) (below s level b r) l
reached_below s level b (value j) l = refl
reached_below s level b (node i) l = by_level (eqb (node_at s i).level level)
  where
    by_level : (t : Bool)
        → cond t (reached 𝟘 s (suc level) (cond b (node_at s i).high (node_at s i).low) l) (reached 𝟘 s (suc level) (node i) l)
        ≡ reached 𝟘 s (suc level) (cond t (cond b (node_at s i).high (node_at s i).low) (node i)) l
    by_level true = refl
    by_level false = refl

-- by the cofactor of the first bit
pub reached_cofactor : (s : Store Entry) (level : ℕ) (b : Bool) (x : ℕ) (l : Bits)
    → reached 𝟘 s level (ref_of x) (b ∷ l) ≡ reached 𝟘 s (suc level) (ref_of (cofactor s level b x)) l
reached_cofactor s level b x l =
    reached_below s level b (ref_of x) l ∙ ap (λ (r : Ref). reached 𝟘 s (suc level) r l) (sym (cofactor_ref s level b x))

-- a value is reached by any bits
pub reached_value : (s : Store Entry) (level j : ℕ) (l : Bits) → reached 𝟘 s level (value j) l ≡ get_or s.values j 𝟘
reached_value s level j [] = refl
reached_value s level j (b ∷ l) = reached_value s (suc level) j l

-- with no bit left the level does not count
pub reached_nil : (s : Store Entry) (level level' : ℕ) (r : Ref) → reached 𝟘 s level r [] ≡ reached 𝟘 s level' r []
reached_nil s level level' (value j) = refl
reached_nil s level level' (node i) = refl

-- before the level that a reference asks at, the bit does not count
pub reached_passed : (plan : Plan) (s : Store Entry) (level : ℕ) (b : Bool) (r : Ref) (l : Bits) → level < level_of plan s r
    → reached 𝟘 s level r (b ∷ l) ≡ reached 𝟘 s (suc level) r l
reached_passed plan s level b (value j) l ahead = refl
reached_passed plan s level b (node i) l ahead =
    ap (λ (t : Bool). cond t (reached 𝟘 s (suc level) (cond b (node_at s i).high (node_at s i).low) l) (reached 𝟘 s (suc level) (node i) l))
    (ne_eqb _ _ (λ e. absurd (apart e)))
  where
    apart : (node_at s i).level ≡ level → ⊥
    apart e = omega arith

-- ---- where they ask

-- a reference into the store that asks at the level or later
pub record Asks (plan : Plan) (s : Store Entry) (level x : ℕ) : Type 0 where
  pub refers : Refers s (ref_of x)
  pub from : level ≤ level_of plan s (ref_of x)

module _ (plan : Plan) (s : Store Entry) (valid : ValidPlan plan s) where
  pub level_most : (r : Ref) → Refers s r → level_of plan s r ≤ plan.levels
  level_most (value j) h = omega arith
  level_most (node i) h = let below_all = valid.levels_below i h in omega arith

  from_level : (level : ℕ) (r : Ref) → level < plan.levels → From s (suc level) r → level < level_of plan s r
  from_level level (value j) h from = h
  from_level level (node i) h from = from

  below_asks : (level : ℕ) (b : Bool) (r : Ref) → level < plan.levels → Refers s r → level ≤ level_of plan s r
      → Refers s (below s level b r) × (level < level_of plan s (below s level b r))
  below_asks level b (value j) h refers from = (refers, h)
  below_asks level b (node i) h refers from = by_level (eqb (node_at s i).level level) refl
    where
      child : (r : Ref) → (node_at s i).level ≡ level → Refers s r → From s (suc (node_at s i).level) r → Refers s r × (level < level_of plan s r)
      child r e inside from = (inside, from_level level r h (subst (λ (m : ℕ). From s (suc m) r) e from))

      children : (node_at s i).level ≡ level → (c : Bool) → Refers s (cond c (node_at s i).high (node_at s i).low)
          × (level < level_of plan s (cond c (node_at s i).high (node_at s i).low))
      children e true = child (node_at s i).high e (valid.closed i refers).1 (valid.levels_rise i refers).1
      children e false = child (node_at s i).low e (valid.closed i refers).0 (valid.levels_rise i refers).0

      by_level : (t : Bool) → eqb (node_at s i).level level ≡ t
          → Refers s (cond t (cond b (node_at s i).high (node_at s i).low) (node i))
          × (level < level_of plan s (cond t (cond b (node_at s i).high (node_at s i).low) (node i)))
      by_level true e = children (eqb-true _ _ e) b
      by_level false e = let other = eqb-false _ _ e in (refers, later other)
        where
          later : ((node_at s i).level ≡ level → ⊥) → level < (node_at s i).level
          later other = omega arith

  -- after its level's bit a reference asks later
  pub cofactor_asks : (level : ℕ) (b : Bool) (x : ℕ) → level < plan.levels → Asks plan s level x → Asks plan s (suc level) (cofactor s level b x)
  cofactor_asks level b x h asks =
      let after = below_asks level b (ref_of x) h asks.refers asks.from in
      record { refers = rw (cofactor_ref s level b x) after.0; from = rw (cofactor_ref s level b x) after.1 }

  -- what has the zero's number reaches 0
  pub zero_reached : (x level : ℕ) (l : Bits) → Refers s (ref_of x) → is_zero plan.zero x ≡ true → reached 𝟘 s level (ref_of x) l ≡ 𝟘
  zero_reached x level l refers e = by_ref (ref_of x) refers (the_zero plan.zero x e ∙ ap Some (sym (code_ref_of x)))
    where
      the_zero : (zero : Option ℕ) (x : ℕ) → is_zero zero x ≡ true → zero ≡ Some x
      the_zero None x e = absurd (true≢false (sym e))
      the_zero (Some z) x e = ap Some (sym (eqb-true x z e))

      by_ref : (r : Ref) → Refers s r → plan.zero ≡ Some (code r) → reached 𝟘 s level r l ≡ 𝟘
      by_ref (value j) h is_zero = reached_value s level j l ∙ valid.zero_value j h is_zero
      by_ref (node i) h is_zero = absurd (valid.zero_no_node i h is_zero)
