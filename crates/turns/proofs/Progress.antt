-- How a turn's two walks and its node come to the walk of the state: in each way that they can end. Assumes nothing.
use mathlib.Core.Path.{◌≡◌, refl, sym, ap, ap₂, ◌∙◌, subst, subst⁻¹}
use mathlib.Core.Bool.{Bool, true, false, ◌&&◌}
use Prim.Native.Nat.{ℕ, ◌+◌, ◌≤◌, ◌<◌}
use Rattle.std.specs.Prelude.{Ok, Err}
use native.Mathlib.Omega.{arith}
use borrow.Author.Tests.{leb-true, le-leb}
use lib.Dec.{leb}
use lib.ListN.{length, length-append}
use Rattle.algebra.specs.declared.Entry.{Entry}
use Rattle.diagrams.specs.Diagram.{Ref, code, ref_of, branch, Store, Diagram, make_node}
use Rattle.diagrams.proofs.Again.{Extends, extends_trans, make_node_extends}
use Rattle.diagrams.proofs.References.{ref_of_code}
use Rattle.diagrams.proofs.Tests.{both_true, true_both}
use Rattle.transitions.specs.declared.State.{State}
use Rattle.transitions.specs.Plan.{Plan}
use Rattle.transitions.specs.State.{made, inside}
use Rattle.meanings.proofs.Walks.{made_extends}
use Rattle.turns.specs.declared.OutsideWidth.{OutsideWidth}
use Rattle.turns.specs.Progress.{reference_limit, Progress, building, out, roomy, node_over, Walks, built, filled, left, still_full, left_full}
use Rattle.turns.specs.Progress.{Finish, no_more, joined, overflows}

-- ---- room

roomy_within : (N L : ℕ) {s t : Store Entry} → Extends s t → roomy N L t ≡ true → roomy N L s ≡ true
roomy_within N L {s} {t} e h =
    let both = both_true (leb (length t.nodes) N) (leb (length t.values) L) h in
    let nodes : length t.nodes ≤ N = leb-true _ _ both.0 in
    let values : length t.values ≤ L = leb-true _ _ both.1 in
    let more_nodes : length t.nodes ≡ length s.nodes + length e.more_nodes
    = ap length e.nodes_are ∙ length-append s.nodes e.more_nodes in
    let more_values : length t.values ≡ length s.values + length e.more_values
    = ap length e.values_are ∙ length-append s.values e.more_values in
    true_both (le-leb (length s.nodes) N (omega arith)) (le-leb (length s.values) L (omega arith))

-- what a store has no room for, no store has that holds more
pub not_roomy : (N L : ℕ) {s t : Store Entry} → Extends s t → roomy N L s ≡ false → roomy N L t ≡ false
not_roomy N L {s} {t} e h = by (roomy N L t) refl
  where
    by : (b : Bool) → roomy N L t ≡ b → b ≡ false
    by true p = sym (roomy_within N L e p) ∙ h
    by false p = refl

-- ---- what is made is walked

pub made_walks : {N L : ℕ} {plan : Plan} {s t : Store Entry} {σ : State} {D : Diagram Entry} → D ≡ made plan s σ t → inside plan s σ ≡ true
    → roomy N L D.store ≡ true → code D.root < reference_limit → Walks N L plan s σ (building t) (building D.store) (Ok (code D.root))
made_walks {N} {L} {plan} {s} {t} {σ} e a c x =
    subst⁻¹ (λ (E : Diagram Entry). Walks N L plan s σ (building t) (building E.store) (Ok (code E.root))) e
    (built a (ap (λ (E : Diagram Entry). roomy N L E.store) (sym e) ∙ c) (subst (λ (E : Diagram Entry). code E.root < reference_limit) e x))

-- ---- a turn

module _ (N L : ℕ) (plan : Plan) (s : Store Entry) (σ low high : State) (level : ℕ)
    (made_is : (t : Store Entry) → let lo = made plan s low t in let hi = made plan s high lo.store in
    made plan s σ t ≡ make_node (branch level lo.root hi.root) hi.store)
    (inside_is : inside plan s σ ≡ (inside plan s low && inside plan s high)) where
  both_inside : inside plan s low ≡ true → inside plan s high ≡ true → inside plan s σ ≡ true
  both_inside p q = inside_is ∙ ap₂ ◌&&◌ p q

  low_outside : inside plan s low ≡ false → inside plan s σ ≡ false
  low_outside p = inside_is ∙ ap (λ (b : Bool). b && inside plan s high) p

  high_outside : inside plan s low ≡ true → inside plan s high ≡ false → inside plan s σ ≡ false
  high_outside p q = inside_is ∙ ap₂ ◌&&◌ p q

  -- the product's store holds what its low part needs, and what its high part needs after it
  module _ (t : Store Entry) where
    abbrev lo_store : Store Entry
    lo_store = (made plan s low t).store

    high_in : Extends (made plan s high lo_store).store (made plan s σ t).store
    high_in =
        rw (made_is t)
        (make_node_extends (branch level (made plan s low t).root (made plan s high lo_store).root) (made plan s high lo_store).store)

    low_in : Extends lo_store (made plan s σ t).store
    low_in = extends_trans (made_extends plan s high lo_store) high_in

    -- the node over the two answers is the product's root
    node_is : {l h : ℕ} → l ≡ code (made plan s low t).root → h ≡ code (made plan s high lo_store).root
        → node_over level l h (made plan s high lo_store).store ≡ made plan s σ t
    node_is {l} {h} el eh =
        let low_is : ref_of l ≡ (made plan s low t).root = ap ref_of el ∙ ref_of_code (made plan s low t).root in
        let high_is : ref_of h ≡ (made plan s high lo_store).root = ap ref_of eh ∙ ref_of_code (made plan s high lo_store).root in
        ap₂ (λ (x y : Ref). make_node (branch level x y) (made plan s high lo_store).store) low_is high_is ∙ sym (made_is t)

  -- ---- the turn

  -- both its walks answer
  pub turn_walks : {p p₁ p₂ p₃ : Progress} {l h r : ℕ} → Walks N L plan s low p p₁ (Ok l) → Walks N L plan s high p₁ p₂ (Ok h)
      → Finish N L level l h p₂ p₃ r → Walks N L plan s σ p p₃ (Ok r)
  turn_walks (built {t = t} a c x) (built b d y) (joined e z) = made_walks (node_is t refl refl) (both_inside a b) e z
  turn_walks (built {t = t} a c x) (built b d y) (overflows e) =
      filled (both_inside a b) (ap (λ (D : Diagram Entry). roomy N L D.store) (sym (node_is t refl refl)) ∙ e)
  turn_walks (built {t = t} a c x) (filled b d) no_more = filled (both_inside a b) (not_roomy N L (high_in t) d)
  turn_walks (filled {t = t} a c) (still_full b) no_more = filled (both_inside a b) (not_roomy N L (low_in t) c)
  turn_walks (still_full a) (still_full b) no_more = still_full (both_inside a b)

  -- the first leaves the width
  pub low_leaves : {p : Progress} {e o : OutsideWidth} → Walks N L plan s low p out (Err e) → Walks N L plan s σ p out (Err o)
  low_leaves (left a) = left (low_outside a)
  low_leaves (left_full a) = left_full (low_outside a)

  -- the second does
  pub high_leaves : {p p₁ : Progress} {l : ℕ} {e o : OutsideWidth} → Walks N L plan s low p p₁ (Ok l) → Walks N L plan s high p₁ out (Err e)
      → Walks N L plan s σ p out (Err o)
  high_leaves (built a c x) (left b) = left (high_outside a b)
  high_leaves (filled a c) (left_full b) = left (high_outside a b)
  high_leaves (still_full a) (left_full b) = left_full (high_outside a b)
