-- What `reduce` does to a store: it only appends, to reduce again changes nothing, and a level that is not asked for is skipped.
-- Assumes nothing.
use mathlib.Core.Path.{◌≡◌, refl, sym, ◌∙◌, ap, subst}
use mathlib.Core.Bool.{Bool, true, false}
use mathlib.Core.List.{List, [], ◌∷◌, ◌++◌, append_assoc, append-nil}
use Prim.Native.Nat.{ℕ, zero, suc}
use lib.ListN.{length}
use Rattle.algebra.specs.Matrix.{Bits}
use Rattle.diagrams.specs.Diagram.{Ref, value, node, Node, branch, Store, holding, Diagram, rooted}
use Rattle.diagrams.specs.Diagram.{slot, keep, same_ref, same_node, put_value, put_node, make_node, reduce}
use Rattle.diagrams.proofs.Tests.{Decides, ref_decides, node_decides}
use Rattle.diagrams.proofs.Keeping.{keep_extends, keep_again}

-- ---- a store that holds what another does, in the same slots

pub record Extends {X : Type 0} (s t : Store X) : Type 0 where
  pub more_nodes : List Node
  pub more_values : List X
  pub nodes_are : t.nodes ≡ s.nodes ++ more_nodes
  pub values_are : t.values ≡ s.values ++ more_values

pub extends_refl : {X : Type 0} (s : Store X) → Extends s s
extends_refl s = record { more_nodes = []; more_values = []; nodes_are = sym (append-nil s.nodes); values_are = sym (append-nil s.values) }

pub extends_trans : {X : Type 0} {s t u : Store X} → Extends s t → Extends t u → Extends s u
extends_trans {X} {s} g h = record {
  more_nodes = g.more_nodes ++ h.more_nodes;
  more_values = g.more_values ++ h.more_values;
  nodes_are = h.nodes_are ∙ ap (λ (l : List Node). l ++ h.more_nodes) g.nodes_are ∙ append_assoc s.nodes g.more_nodes h.more_nodes;
  values_are = h.values_are ∙ ap (λ (l : List X). l ++ h.more_values) g.values_are ∙ append_assoc s.values g.more_values h.more_values;
}

-- ---- nodes

module _ {X : Type 0} where
  pub make_node_alike : (n : Node) (s : Store X) → same_ref n.low n.high ≡ true → make_node n s ≡ rooted s n.low
  make_node_alike n s alike = rw alike

  pub make_node_apart : (n : Node) (s : Store X) → same_ref n.low n.high ≡ false → make_node n s ≡ put_node n s
  make_node_apart n s apart = rw apart

  put_node_extends : (n : Node) (s : Store X) → Extends s (put_node n s).store
  put_node_extends n s =
      let grown = keep_extends node_decides n s.nodes in
      record { more_nodes = grown.0; more_values = []; nodes_are = grown.1; values_are = sym (append-nil s.values) }

  pub make_node_extends : (n : Node) (s : Store X) → Extends s (make_node n s).store
  make_node_extends n s = by_test (same_ref n.low n.high) refl
    where
      by_test : (b : Bool) → same_ref n.low n.high ≡ b → Extends s (make_node n s).store
      by_test true alike = subst (λ (D : Diagram X). Extends s D.store) (sym (make_node_alike n s alike)) (extends_refl s)
      by_test false apart = subst (λ (D : Diagram X). Extends s D.store) (sym (make_node_apart n s apart)) (put_node_extends n s)

  put_node_again : (n : Node) (s t : Store X) → Extends (put_node n s).store t → put_node n t ≡ rooted t (put_node n s).root
  put_node_again n s t g =
      let again = keep_again node_decides n s.nodes g.more_nodes in
      let kept : keep same_node n t.nodes ≡ t.nodes = ap (keep same_node n) g.nodes_are ∙ again.0 ∙ sym g.nodes_are in
      let found : slot same_node n t.nodes ≡ slot same_node n s.nodes = ap (slot same_node n) g.nodes_are ∙ again.1 in
      λ i. rooted (holding (kept i) t.values) (node (found i))

  pub make_node_again : (n : Node) (s t : Store X) → Extends (make_node n s).store t → make_node n t ≡ rooted t (make_node n s).root
  make_node_again n s t g = by_test (same_ref n.low n.high) refl
    where
      by_test : (b : Bool) → same_ref n.low n.high ≡ b → make_node n t ≡ rooted t (make_node n s).root
      by_test true alike = make_node_alike n t alike ∙ ap (λ (D : Diagram X). rooted t D.root) (sym (make_node_alike n s alike))
      by_test false apart = make_node_apart n t apart
          ∙ put_node_again n s t (subst (λ (D : Diagram X). Extends D.store t) (make_node_apart n s apart) g)
          ∙ ap (λ (D : Diagram X). rooted t D.root) (sym (make_node_apart n s apart))

-- ---- one level of a reduction

module _ {X : Type 0} (same : X → X → Bool) where
  pub reduce_step : (left level : ℕ) (f : Bits → X) (s s₁ s₂ : Store X) (low high : Ref)
      → reduce same left (suc level) (λ l. f (false ∷ l)) s ≡ rooted s₁ low
      → reduce same left (suc level) (λ l. f (true ∷ l)) s₁ ≡ rooted s₂ high
      → reduce same (suc left) level f s ≡ make_node (branch level low high) s₂
  unfolding reduce
  reduce_step left level f s s₁ s₂ low high e₁ e₂ =
      ap (λ (p : Diagram X). over p (reduce same left (suc level) (λ l. f (true ∷ l)) p.store)) e₁
      ∙ ap (over (rooted s₁ low)) e₂
    where
      over : Diagram X → Diagram X → Diagram X
      over p q = make_node (branch level p.root q.root) q.store

  -- only what f is on lists of the right length counts
  pub reduce_ext : (left level : ℕ) (f g : Bits → X) (s : Store X) → ((l : Bits) → length l ≡ left → f l ≡ g l)
      → reduce same left level f s ≡ reduce same left level g s
  unfolding reduce
  reduce_ext zero level f g s alike = ap (λ (x : X). put_value same x s) (alike [] refl)
  reduce_ext (suc left) level f g s alike =
      let low : Diagram X = reduce same left (suc level) (λ l. g (false ∷ l)) s in
      let high : Diagram X = reduce same left (suc level) (λ l. g (true ∷ l)) low.store in
      reduce_step left level f s low.store high.store low.root high.root
      (reduce_ext left (suc level) (λ l. f (false ∷ l)) (λ l. g (false ∷ l)) s (λ l e. alike (false ∷ l) (ap suc e)))
      (reduce_ext left (suc level) (λ l. f (true ∷ l)) (λ l. g (true ∷ l)) low.store (λ l e. alike (true ∷ l) (ap suc e)))

-- what a computed table may hold: in this store, f is known to be r
abbrev pub Known : {X : Type 0} → (X → X → Bool) → ℕ → ℕ → (Bits → X) → Store X → Ref → Type 0
Known same left level f s r = reduce same left level f s ≡ rooted s r

module _ {X : Type 0} {same : X → X → Bool} (𝓓 : Decides same) where
  -- ---- a reduction only appends

  pub put_value_extends : (x : X) (s : Store X) → Extends s (put_value same x s).store
  put_value_extends x s =
      let grown = keep_extends 𝓓 x s.values in
      record { more_nodes = []; more_values = grown.0; nodes_are = sym (append-nil s.nodes); values_are = grown.1 }

  pub reduce_extends : (left level : ℕ) (f : Bits → X) (s : Store X) → Extends s (reduce same left level f s).store
  unfolding reduce
  reduce_extends zero level f s = put_value_extends (f []) s
  reduce_extends (suc left) level f s =
      let low : Diagram X = reduce same left (suc level) (λ l. f (false ∷ l)) s in
      let high : Diagram X = reduce same left (suc level) (λ l. f (true ∷ l)) low.store in
      let node_added = make_node_extends (branch level low.root high.root) high.store in
      let high_added = extends_trans (reduce_extends left (suc level) (λ l. f (true ∷ l)) low.store) node_added in
      extends_trans (reduce_extends left (suc level) (λ l. f (false ∷ l)) s) high_added

  -- ---- to reduce again in a store that holds the result changes nothing and gives the same reference

  pub put_value_again : (x : X) (s t : Store X) → Extends (put_value same x s).store t → put_value same x t ≡ rooted t (put_value same x s).root
  put_value_again x s t g =
      let again = keep_again 𝓓 x s.values g.more_values in
      let kept : keep same x t.values ≡ t.values = ap (keep same x) g.values_are ∙ again.0 ∙ sym g.values_are in
      let found : slot same x t.values ≡ slot same x s.values = ap (slot same x) g.values_are ∙ again.1 in
      λ i. rooted (holding t.nodes (kept i)) (value (found i))

  pub reduce_again : (left level : ℕ) (f : Bits → X) (s t : Store X) → Extends (reduce same left level f s).store t
      → reduce same left level f t ≡ rooted t (reduce same left level f s).root
  unfolding reduce
  reduce_again zero level f s t g = put_value_again (f []) s t g
  reduce_again (suc left) level f s t g =
      let low : Diagram X = reduce same left (suc level) (λ l. f (false ∷ l)) s in
      let high : Diagram X = reduce same left (suc level) (λ l. f (true ∷ l)) low.store in
      let n : Node = branch level low.root high.root in
      let from_high : Extends high.store t = extends_trans (make_node_extends n high.store) g in
      let from_low : Extends low.store t = extends_trans (reduce_extends left (suc level) (λ l. f (true ∷ l)) low.store) from_high in
      reduce_step same left level f t t t low.root high.root
      (reduce_again left (suc level) (λ l. f (false ∷ l)) s t from_low)
      (reduce_again left (suc level) (λ l. f (true ∷ l)) low.store t from_high)
      ∙ make_node_again n high.store t g

  -- ---- what is made is known

  pub known_made : (left level : ℕ) (f : Bits → X) (s : Store X)
      → let D = reduce same left level f s in Known same left level f D.store D.root
  known_made left level f s = let D = reduce same left level f s in reduce_again left level f s D.store (extends_refl D.store)

  -- ---- skipped levels

  -- both halves come to one reference
  pub reduce_alike : (left level : ℕ) (f : Bits → X) (s t : Store X) (r : Ref)
      → reduce same left (suc level) (λ l. f (false ∷ l)) s ≡ rooted t r
      → Known same left (suc level) (λ l. f (true ∷ l)) t r
      → reduce same (suc left) level f s ≡ rooted t r
  reduce_alike left level f s t r e₁ e₂ =
      reduce_step same left level f s t t r r e₁ e₂ ∙ make_node_alike (branch level r r) t (ref_decides.reflexive r)

  -- f does not depend on the first bit
  pub reduce_skip : (left level : ℕ) (f : Bits → X) (s : Store X) → ((l : Bits) → length l ≡ left → f (false ∷ l) ≡ f (true ∷ l))
      → reduce same (suc left) level f s ≡ reduce same left (suc level) (λ l. f (false ∷ l)) s
  reduce_skip left level f s alike =
      let low : Diagram X = reduce same left (suc level) (λ l. f (false ∷ l)) s in
      reduce_alike left level f s low.store low.root refl
      (reduce_ext same left (suc level) (λ l. f (true ∷ l)) (λ l. f (false ∷ l)) low.store (λ l e. sym (alike l e))
      ∙ known_made left (suc level) (λ l. f (false ∷ l)) s)
