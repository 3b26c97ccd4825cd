-- The reduced diagram of the identity: for every number of qubits from one on, it is the store of specs/Identity.antt.
-- Assumes nothing.
use mathlib.Core.Path.{◌≡◌, refl, sym, ◌∙◌, ap, subst}
use mathlib.Core.Bool.{Bool, true, false}
use mathlib.Core.List.{List, [], ◌∷◌, ◌++◌, append_assoc}
use Prim.Native.Nat.{ℕ, zero, suc, ◌+◌, ◌*◌, ◌<◌, ◌≤◌}
use native.Mathlib.Omega.{arith}
use lib.ListN.{length, get_or, length-append}
use Rattle.algebra.specs.declared.Entry.{Entry}
use Rattle.algebra.specs.Entry.{𝟘, 𝟙}
use Rattle.algebra.specs.Matrix.{identity}
use Rattle.diagrams.specs.Diagram.{Ref, value, node, Node, branch, unused, Store, holding, Diagram, rooted, same_node, same_entry}
use Rattle.diagrams.specs.Diagram.{put_value, put_node, make_node, reduce, levels, entries, empty, diagram}
use Rattle.identities.specs.Identity.{identity_root, identity_nodes, identity_store}
use Rattle.diagrams.proofs.Tests.{Decides, apart_false, ref_decides, node_decides, entry_decides}
use Rattle.diagrams.proofs.Keeping.{all_snoc, Absent, Kept, kept, found, fresh}
use Rattle.diagrams.proofs.Again.{Extends, make_node_apart, reduce_step, reduce_again, reduce_skip}
use Rattle.identities.proofs.Identities.{length_identity}

-- ---- a constant has a terminal alone

pub reduce_constant : {X : Type 0} {same : X → X → Bool} (𝓓 : Decides same) (left level : ℕ) (x : X) (s : Store X)
    → reduce same left level (λ _. x) s ≡ put_value same x s
unfolding reduce
reduce_constant 𝓓 zero level x s = refl
reduce_constant 𝓓 (suc left) level x s = reduce_skip 𝓓 left level (λ _. x) s (λ _ _. refl) ∙ reduce_constant 𝓓 left (suc level) x s

-- ---- a node that is not there is appended

pub make_fresh : {X : Type 0} (n : Node) (s : Store X) → (n.low ≡ n.high → ⊥) → Absent unused n s.nodes
    → make_node n s ≡ rooted (holding (s.nodes ++ (n ∷ [])) s.values) (node (length s.nodes))
make_fresh n s differ absent = make_node_apart n s (apart_false ref_decides n.low n.high differ) ∙ by_kept (kept node_decides unused n s.nodes)
  where
    by_kept : Kept same_node unused n s.nodes → put_node n s ≡ rooted (holding (s.nodes ++ (n ∷ [])) s.values) (node (length s.nodes))
    by_kept (found j h e k) = absurd (absent j h e)
    by_kept (fresh a k) = λ i. rooted (holding (k.0 i) s.values) (node (k.1 i))

-- ---- the nodes of the identity

-- every node asks at a level from this one on
abbrev From : ℕ → List Node → Type 0
From level ns = (i : ℕ) → i < length ns → level ≤ (get_or ns i unused).level

below_absent : (level : ℕ) (n : Node) (ns : List Node) → n.level < level → From level ns → Absent unused n ns
below_absent level n ns less all j h e = absurd (omega (arith, all j h, ap (λ (m : Node). m.level) e))

snoc_three : (l : List Node) (a b c : Node) → ((l ++ (a ∷ [])) ++ (b ∷ [])) ++ (c ∷ []) ≡ l ++ (a ∷ b ∷ c ∷ [])
snoc_three l a b c = simp append_assoc

identity_from : (level n : ℕ) → From level (identity_nodes level n)
unfolding identity_nodes
identity_from level zero = λ i below. absurd (omega arith)
identity_from level (suc n) =
    let below = identity_nodes (suc (suc level)) n in
    let n₁ = branch (suc level) (identity_root n) (value 1) in
    let n₂ = branch (suc level) (value 1) (identity_root n) in
    let n₃ = branch level (node (3 * n)) (node (3 * n + 1)) in
    let later : From level below = λ i h. omega (arith, identity_from (suc (suc level)) n i h) in
    let P : Node → Type 0 = λ m. level ≤ m.level in
    subst (From level) (snoc_three below n₁ n₂ n₃)
    (all_snoc P unused n₃ ((below ++ (n₁ ∷ [])) ++ (n₂ ∷ []))
    (all_snoc P unused n₂ (below ++ (n₁ ∷ [])) (all_snoc P unused n₁ below later (omega arith)) (omega arith)) (omega arith))

-- the root is not the zero
root_apart : (n : ℕ) → identity_root n ≡ value 1 → ⊥
unfolding identity_root
root_apart zero e = let z : ◌≡◌ {A = ℕ} 0 1 = cc in omega arith
root_apart (suc n) e = let z : ◌≡◌ {A = ℕ} 0 1 = cc in omega arith

-- ---- the diagram

-- with no qubit there is no zero
abbrev identity_values : ℕ → List Entry
identity_values zero = 𝟙 ∷ []
identity_values (suc n) = 𝟙 ∷ 𝟘 ∷ []

put_zero : (n : ℕ) (ns : List Node) → put_value same_entry 𝟘 (holding ns (identity_values n)) ≡ rooted (holding ns (𝟙 ∷ 𝟘 ∷ [])) (value 1)
unfolding 𝟘 𝟙
put_zero zero ns = refl
put_zero (suc n) ns = refl

values_grow : (n : ℕ) → (more : List Entry) × (𝟙 ∷ 𝟘 ∷ [] ≡ identity_values n ++ more)
values_grow zero = (𝟘 ∷ [], refl)
values_grow (suc n) = ([], refl)

-- the identity put into an empty store, from a level on
abbrev reduced_identity : ℕ → ℕ → Diagram Entry
reduced_identity level n = reduce same_entry (levels n) level (entries identity) empty

module _ (level n : ℕ) where
  abbrev below : List Node
  below = identity_nodes (suc (suc level)) n

  abbrev x : Ref
  x = identity_root n

  abbrev first : Node
  first = branch (suc level) x (value 1)

  abbrev second : Node
  second = branch (suc level) (value 1) x

  abbrev third : Node
  third = branch level (node (3 * n)) (node (3 * n + 1))

  abbrev one : List Node
  one = below ++ (first ∷ [])

  abbrev two : List Node
  two = one ++ (second ∷ [])

  -- the store below, and nodes with both values
  abbrev inner : Store Entry
  inner = holding below (identity_values n)

  abbrev outer : List Node → Store Entry
  outer ns = holding ns (𝟙 ∷ 𝟘 ∷ [])

  length_one : length one ≡ 3 * n + 1
  length_one = omega (arith, length-append below (first ∷ []), length_identity (suc (suc level)) n)

  length_two : length two ≡ 3 * n + 2
  length_two = omega (arith, length-append one (second ∷ []), length_one)

  from_two : From (suc level) two
  from_two =
      let P : Node → Type 0 = λ m. suc level ≤ m.level in
      let later : From (suc level) below = λ i h. omega (arith, identity_from (suc (suc level)) n i h) in
      all_snoc P unused second one (all_snoc P unused first below later (omega arith)) (omega arith)

  inner_absent : (m : Node) → m.level ≡ suc level → Absent unused m below
  inner_absent m e = below_absent (suc (suc level)) m below (omega arith) (identity_from (suc (suc level)) n)

  second_absent : Absent unused second one
  second_absent =
      all_snoc (λ m. m ≡ second → ⊥) unused first below (inner_absent second refl) (λ e. root_apart n (ap (λ (m : Node). m.low) e))

  module _ (inner_reduced : reduced_identity (suc (suc level)) n ≡ rooted inner x) where
    -- the row bit 0: the rest of the identity, and zero
    low_row : reduce same_entry (suc (levels n)) (suc level) (λ l. entries identity (false ∷ l)) empty ≡ rooted (outer one) (node (3 * n))
    unfolding identity
    low_row =
        reduce_step same_entry (levels n) (suc level) (λ l. entries identity (false ∷ l)) empty inner (outer below) x (value 1) inner_reduced
        (reduce_constant entry_decides (levels n) (suc (suc level)) 𝟘 inner ∙ put_zero n below)
        ∙ make_fresh first (outer below) (root_apart n) (inner_absent first refl)
        ∙ ap (λ (k : ℕ). rooted (outer one) (node k)) (length_identity (suc (suc level)) n)

    -- the row bit 1: zero, and the rest again
    high_row : reduce same_entry (suc (levels n)) (suc level) (λ l. entries identity (true ∷ l)) (outer one) ≡ rooted (outer two) (node (3 * n + 1))
    unfolding identity
    high_row =
        reduce_step same_entry (levels n) (suc level) (λ l. entries identity (true ∷ l)) (outer one) (outer one) (outer one) (value 1) x
        (reduce_constant entry_decides (levels n) (suc (suc level)) 𝟘 (outer one) ∙ put_zero (suc n) one)
        (reduce_again entry_decides (levels n) (suc (suc level)) (entries identity) empty (outer one) grown
        ∙ ap (λ (D : Diagram Entry). rooted (outer one) D.root) inner_reduced)
        ∙ make_fresh second (outer one) (λ e. root_apart n (sym e)) second_absent
        ∙ ap (λ (k : ℕ). rooted (outer two) (node k)) length_one
      where
        grown : Extends (reduced_identity (suc (suc level)) n).store (outer one)
        grown = subst (λ (D : Diagram Entry). Extends D.store (outer one)) (sym inner_reduced) (record {
          more_nodes = first ∷ [];
          more_values = (values_grow n).0;
          nodes_are = refl;
          values_are = (values_grow n).1;
        })

    qubit_reduced : reduced_identity level (suc n) ≡ rooted (outer (identity_nodes level (suc n))) (node (3 * n + 2))
    unfolding identity_nodes
    qubit_reduced =
        reduce_step same_entry (suc (levels n)) level (entries identity) empty (outer one) (outer two)
        (node (3 * n)) (node (3 * n + 1)) low_row high_row
        ∙ make_fresh third (outer two) children_differ (below_absent (suc level) third two (omega arith) from_two)
        ∙ ap (λ (k : ℕ). rooted (outer (two ++ (third ∷ []))) (node k)) length_two
        ∙ ap (λ (ns : List Node). rooted (outer ns) (node (3 * n + 2))) (snoc_three below first second third)
      where
        children_differ : node (3 * n) ≡ node (3 * n + 1) → ⊥
        children_differ e = let same : 3 * n ≡ 3 * n + 1 = cc in omega arith

identity_reduced : (n level : ℕ) → reduced_identity level n ≡ rooted (holding (identity_nodes level n) (identity_values n)) (identity_root n)
unfolding reduce identity identity_nodes identity_root
identity_reduced zero level = refl
identity_reduced (suc n) level = qubit_reduced level n (identity_reduced n (suc (suc level)))

pub identity_diagram : (n : ℕ) → 0 < n → diagram n identity ≡ rooted (identity_store n) (identity_root n)
identity_diagram zero some = absurd (omega arith)
identity_diagram (suc n) some = identity_reduced (suc n) 0
