-- Uniqueness: a reduced diagram, numbered as the walk finishes it, is what `reduce` makes of the function that it gives.
-- Assumes nothing.
use mathlib.Core.Path.{◌≡◌, refl, sym, ◌∙◌, ap, subst, fun_ext, ◌≡⟨◌⟩◌, ◌∎}
use mathlib.Core.Bool.{Bool, true, false, cond}
use mathlib.Core.List.{◌∷◌}
use Prim.Native.Nat.{ℕ, zero, suc, ◌+◌, ◌<◌, ◌≤◌}
use native.Mathlib.Omega.{arith}
use native.Mathlib.Decide.{dec_lt}
use lib.ListN.{length, take}
use lib.Seq.{take_all}
use lib.Dec.{eqb}
use borrow.Author.Tests.{eqb-true, eqb-false}
use Rattle.algebra.specs.Matrix.{Bits}
use Rattle.diagrams.specs.Diagram.{Ref, value, node, Node, branch, Store, holding, Diagram, rooted, unused, node_at, reached, empty}
use Rattle.diagrams.specs.Reference.{Seen, Closed}
use Rattle.diagrams.specs.Diagram.{Both, From, Tidy, Walk, old_value, new_value, old_node, new_node, ReducedOf}
use Rattle.diagrams.specs.Diagram.{same_node, make_node, reduce}
use Rattle.diagrams.proofs.Tests.{Decides, apart_false, ref_decides, node_decides}
use Rattle.diagrams.proofs.Keeping.{Keeps, keep_old, keep_next}
use Rattle.diagrams.proofs.Again.{make_node_apart, reduce_step, reduce_ext, reduce_alike}

-- ---- what a walk leaves

pub seen_more : (i j i' j' : ℕ) → i ≤ i' → j ≤ j' → (r : Ref) → Seen r i j → Seen r i' j'
seen_more i j i' j' p q (value v) h = omega arith
seen_more i j i' j' p q (node n) h = omega arith

pub both_map : {P Q : Ref → Type 0} (n : Node) → ((r : Ref) → P r → Q r) → Both P n → Both Q n
both_map n implies both = (implies n.low both.0, implies n.high both.1)

module _ {X : Type 0} (s : Store X) where
  pub closed_more : (i j j' : ℕ) → j ≤ j' → Closed s i j → Closed s i j'
  closed_more i j j' p closed n h = both_map (node_at s n) (seen_more i j i j' (omega arith) p) (closed n h)

  closed_suc : (i j : ℕ) → Closed s i j → Both (λ r. Seen r i j) (node_at s i) → Closed s (suc i) j
  closed_suc i j closed last n h = by_order (dec_lt n i)
    where
      more : (n : ℕ) → Both (λ r. Seen r i j) (node_at s n) → Both (λ r. Seen r (suc i) j) (node_at s n)
      more n seen = both_map (node_at s n) (seen_more i j (suc i) j (omega arith) (omega arith)) seen

      by_order : Dec (n < i) → Both (λ r. Seen r (suc i) j) (node_at s n)
      by_order (yes k) = more n (closed n k)
      by_order (no k) =
          let e : i ≡ n = omega arith in
          subst (λ (m : ℕ). Both (λ r. Seen r (suc i) j) (node_at s m)) e (more i last)

  pub record Walked (r : Ref) (i j i' j' : ℕ) : Type 0 where
    pub more_nodes : i ≤ i'
    pub more_values : j ≤ j'
    pub seen : Seen r i' j'
    pub closed : Closed s i' j'

  pub walked : {r : Ref} {i j i' j' : ℕ} → Walk s r i j i' j' → Closed s i j → Walked r i j i' j'
  walked (old_value h) closed = record { more_nodes = omega arith; more_values = omega arith; seen = h; closed = closed }
  walked (new_value {i = i} {j = j}) closed = record {
    more_nodes = omega arith;
    more_values = omega arith;
    seen = omega arith;
    closed = closed_more i j (suc j) (omega arith) closed;
  }
  walked (old_node h) closed = record { more_nodes = omega arith; more_values = omega arith; seen = h; closed = closed }
  walked (new_node {i₁ = i₁} {j₁ = j₁} {n = n} {j' = j'} low high) closed =
      let l = walked low closed in
      let h = walked high l.closed in
      record {
        more_nodes = omega arith;
        more_values = omega arith;
        seen = omega arith;
        closed = closed_suc n j' h.closed (seen_more i₁ j₁ n j' h.more_nodes h.more_values (node_at s n).low l.seen, h.seen);
      }

  pub old_walk : (r : Ref) (i j : ℕ) → Seen r i j → Walk s r i j i j
  old_walk (value v) i j h = old_value h
  old_walk (node n) i j h = old_node h

  -- ---- reducing what a reference gives, along the walk

  -- the first nodes and values
  abbrev pub prefix : ℕ → ℕ → Store X
  prefix i j = holding (take i s.nodes) (take j s.values)

  pub prefix_all : prefix (length s.nodes) (length s.values) ≡ s
  prefix_all = λ t. holding (take_all (length s.nodes) s.nodes (omega arith) t) (take_all (length s.values) s.values (omega arith) t)

  module _ {same : X → X → Bool} (𝓓 : Decides same) (blank : X) (levels : ℕ) (𝓣 : Tidy blank levels s) where
    open 𝓣 use {children_differ, no_two_nodes, no_value_twice, levels_below, levels_rise}

    -- what r gives from a level on, reduced into the store as the walk found it, leaves the store as the walk leaves it
    abbrev Rebuilds : ℕ → ℕ → Type 0
    Rebuilds left level = (r : Ref) (i j i' j' : ℕ) → From s level r → Walk s r i j i' j' → Closed s i j → i' ≤ length s.nodes → j' ≤ length s.values
        → reduce same left level (reached blank s level r) (prefix i j) ≡ rooted (prefix i' j') r

    rebuilds_value : (level v i j i' j' : ℕ) → Walk s (value v) i j i' j' → j' ≤ length s.values
        → reduce same zero level (reached blank s level (value v)) (prefix i j) ≡ rooted (prefix i' j') (value v)
    unfolding reduce
    rebuilds_value level v i j i' j' (old_value h) b =
        let kept = keep_old 𝓓 blank s.values no_value_twice v j h b in
        λ t. rooted (holding (take i s.nodes) (kept.0 t)) (value (kept.1 t))
    rebuilds_value level v i j i' j' new_value b =
        let kept = keep_next 𝓓 blank s.values no_value_twice j b in
        λ t. rooted (holding (take i s.nodes) (kept.0 t)) (value (kept.1 t))

    rebuilds_node : (n i j i' : ℕ) → n < length s.nodes → Keeps same_node (node_at s n) (take i s.nodes) (take i' s.nodes) n
        → make_node (node_at s n) (prefix i j) ≡ rooted (prefix i' j) (node n)
    rebuilds_node n i j i' h kept =
        make_node_apart (node_at s n) (prefix i j) (apart_false ref_decides (node_at s n).low (node_at s n).high (children_differ n h))
        ∙ (λ t. rooted (holding (kept.0 t) (take j s.values)) (node (kept.1 t)))

    -- a node of this level, both of whose children are rebuilt
    rebuilds_children : (left level n i j i₁ j₁ i₂ j₂ i' : ℕ) → eqb (node_at s n).level level ≡ true → n < length s.nodes
        → reduce same left (suc level) (reached blank s (suc level) (node_at s n).low) (prefix i j) ≡ rooted (prefix i₁ j₁) (node_at s n).low
        → reduce same left (suc level) (reached blank s (suc level) (node_at s n).high) (prefix i₁ j₁) ≡ rooted (prefix i₂ j₂) (node_at s n).high
        → Keeps same_node (node_at s n) (take i₂ s.nodes) (take i' s.nodes) n
        → reduce same (suc left) level (reached blank s level (node n)) (prefix i j) ≡ rooted (prefix i' j₂) (node n)
    rebuilds_children left level n i j i₁ j₁ i₂ j₂ i' e h low high kept =
        reduce same (suc left) level (reached blank s level (node n)) (prefix i j) ≡⟨ reduce_step same left level _ _ _ _ _ _ low_down high_down ⟩
        make_node (branch level (node_at s n).low (node_at s n).high) (prefix i₂ j₂)
        ≡⟨ ap (λ (d : ℕ). make_node (branch d (node_at s n).low (node_at s n).high) (prefix i₂ j₂)) (sym (eqb-true (node_at s n).level level e)) ⟩
        make_node (node_at s n) (prefix i₂ j₂) ≡⟨ rebuilds_node n i₂ j₂ i' h kept ⟩
        rooted (prefix i' j₂) (node n) ∎
      where
        down : (b : Bool) → (λ l. reached blank s level (node n) (b ∷ l)) ≡ reached blank s (suc level) (cond b (node_at s n).high (node_at s n).low)
        down b = fun_ext (λ l. rw e)

        low_down : reduce same left (suc level) (λ l. reached blank s level (node n) (false ∷ l)) (prefix i j)
            ≡ rooted (prefix i₁ j₁) (node_at s n).low
        low_down = ap (λ (f : Bits → X). reduce same left (suc level) f (prefix i j)) (down false) ∙ low

        high_down : reduce same left (suc level) (λ l. reached blank s level (node n) (true ∷ l)) (prefix i₁ j₁)
            ≡ rooted (prefix i₂ j₂) (node_at s n).high
        high_down = ap (λ (f : Bits → X). reduce same left (suc level) f (prefix i₁ j₁)) (down true) ∙ high

    child_rises : (level n : ℕ) (r : Ref) → eqb (node_at s n).level level ≡ true → From s (suc (node_at s n).level) r → From s (suc level) r
    child_rises level n r e h = subst (λ (d : ℕ). From s (suc d) r) (eqb-true (node_at s n).level level e) h

    rebuilds_asked : (left level n i j i' j' : ℕ) → eqb (node_at s n).level level ≡ true → Walk s (node n) i j i' j' → Closed s i j
        → i' ≤ length s.nodes → j' ≤ length s.values → Rebuilds left (suc level)
        → reduce same (suc left) level (reached blank s level (node n)) (prefix i j) ≡ rooted (prefix i' j') (node n)
    rebuilds_asked left level n i j i' j' e (old_node h) closed p q below =
        let low = (node_at s n).low in
        let high = (node_at s n).high in
        rebuilds_children left level n i j i j i j i e (omega arith)
        (below low i j i j (child_rises level n low e (levels_rise n (omega arith)).0) (old_walk low i j (closed n h).0) closed p q)
        (below high i j i j (child_rises level n high e (levels_rise n (omega arith)).1) (old_walk high i j (closed n h).1) closed p q)
        (keep_old node_decides unused s.nodes no_two_nodes n i h p)
    rebuilds_asked left level n i j i' j' e (new_node {i₁ = i₁} {j₁ = j₁} w₁ w₂) closed p q below =
        let low = (node_at s n).low in
        let high = (node_at s n).high in
        let after_low = walked w₁ closed in
        let after_high = walked w₂ after_low.closed in
        rebuilds_children left level n i j i₁ j₁ n j' (suc n) e (omega arith)
        (below low i j i₁ j₁ (child_rises level n low e (levels_rise n (omega arith)).0) w₁ closed (omega arith) (omega arith))
        (below high i₁ j₁ n j' (child_rises level n high e (levels_rise n (omega arith)).1) w₂ after_low.closed (omega arith) q)
        (keep_next node_decides unused s.nodes no_two_nodes n (omega arith))

    -- a level that the reference does not ask for
    rebuilds_passed : (left level : ℕ) (r : Ref) (i j i' j' : ℕ)
        → ((b : Bool) → (λ l. reached blank s level r (b ∷ l)) ≡ reached blank s (suc level) r)
        → From s (suc level) r → Walk s r i j i' j' → Closed s i j → i' ≤ length s.nodes → j' ≤ length s.values → Rebuilds left (suc level)
        → reduce same (suc left) level (reached blank s level r) (prefix i j) ≡ rooted (prefix i' j') r
    rebuilds_passed left level r i j i' j' past from walk closed p q rebuilds =
        let after = walked walk closed in
        reduce_alike 𝓓 left level (reached blank s level r) (prefix i j) (prefix i' j') r
        (ap (λ (f : Bits → X). reduce same left (suc level) f (prefix i j)) (past false) ∙ rebuilds r i j i' j' from walk closed p q)
        (ap (λ (f : Bits → X). reduce same left (suc level) f (prefix i' j')) (past true)
        ∙ rebuilds r i' j' i' j' from (old_walk r i' j' after.seen) after.closed p q)

    pub rebuilds : (left level : ℕ) → left + level ≡ levels → Rebuilds left level
    rebuilds zero level e (value v) i j i' j' from walk closed p q = rebuilds_value level v i j i' j' walk q
    rebuilds zero level e (node n) i j i' j' from walk closed p q =
        let after = walked walk closed in
        let seen : n < i' = after.seen in
        let below : (node_at s n).level < levels = levels_below n (omega arith) in
        let at_least : level ≤ (node_at s n).level = from in
        absurd (omega arith)
    rebuilds (suc left) level e (value v) i j i' j' from walk closed p q =
        rebuilds_passed left level (value v) i j i' j' (λ b. refl) tt walk closed p q (rebuilds left (suc level) (omega arith))
    rebuilds (suc left) level e (node n) i j i' j' from walk closed p q =
        by_test (eqb (node_at s n).level level) refl (rebuilds left (suc level) (omega arith))
      where
        by_test : (b : Bool) → eqb (node_at s n).level level ≡ b → Rebuilds left (suc level)
            → reduce same (suc left) level (reached blank s level (node n)) (prefix i j) ≡ rooted (prefix i' j') (node n)
        by_test true asked below = rebuilds_asked left level n i j i' j' asked walk closed p q below
        by_test false asked below =
            let other : (node_at s n).level ≡ level → ⊥ = eqb-false (node_at s n).level level asked in
            rebuilds_passed left level (node n) i j i' j' (λ b. fun_ext (λ l. rw asked)) (omega arith) walk closed p q below

-- ---- the one reduced diagram

none_below : (n : ℕ) → n < 0 → ⊥
none_below n h = omega arith

from_zero : {X : Type 0} (s : Store X) (r : Ref) → From s 0 r
from_zero s (value v) = tt
from_zero s (node n) = omega arith

pub reduced_unique : {X : Type 0} {same : X → X → Bool} (𝓓 : Decides same) (blank : X) (levels : ℕ) (f : Bits → X) (D : Diagram X)
    → ReducedOf blank levels f D → D ≡ reduce same levels 0 f empty
reduced_unique {X} {same = same} 𝓓 blank levels f D 𝓡 =
    D ≡⟨ sym (ap (λ (s : Store X). rooted s D.root) (prefix_all D.store)) ⟩
    rooted (prefix D.store N L) D.root ≡⟨ sym rebuilt ⟩
    reduce same levels 0 (reached blank D.store 0 D.root) empty ≡⟨ reduce_ext same levels 0 (reached blank D.store 0 D.root) f empty 𝓡.gives ⟩
    reduce same levels 0 f empty ∎
  where
    N : ℕ
    N = length D.store.nodes

    L : ℕ
    L = length D.store.values

    rebuilt : reduce same levels 0 (reached blank D.store 0 D.root) empty ≡ rooted (prefix D.store N L) D.root
    rebuilt = rebuilds D.store 𝓓 blank levels 𝓡.reduced.tidy levels 0 (omega arith) D.root 0 0 N L
        (from_zero D.store D.root) 𝓡.numbered (λ n h. absurd (none_below n h)) (omega arith) (omega arith)
