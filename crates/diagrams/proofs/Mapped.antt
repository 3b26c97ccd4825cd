-- The reduced diagram of entries that are all changed by a one-to-one function: the same nodes, and each value changed.
-- Every value is an entry, so a test of all values is the test of all entries.
-- Assumes nothing.
use mathlib.Core.Path.{◌≡◌, refl, sym, ◌∙◌, ap, ap₂}
use mathlib.Core.Bool.{Bool, true, false, cond, ◌&&◌, and-true, and_assoc}
use mathlib.Core.List.{List, [], ◌∷◌, map}
use Prim.Native.Nat.{ℕ, zero, suc}
use Rattle.algebra.specs.Matrix.{Bits, everywhere}
use Rattle.algebra.specs.Lowering.{every}
use Rattle.diagrams.specs.Diagram.{value, Node, Store, holding, Diagram, rooted, slot, keep, same_ref, put_node, make_node, branch, reduce}
use Rattle.diagrams.proofs.Tests.{Decides}
use Rattle.diagrams.proofs.Again.{reduce_step}

abbrev mapped : {X : Type 0} → (X → X) → Store X → Store X
mapped g s = holding s.nodes (map g s.values)

abbrev pub diagram_mapped : {X : Type 0} → (X → X) → Diagram X → Diagram X
diagram_mapped g D = rooted (mapped g D.store) D.root

module _ {X : Type 0} (same : X → X → Bool) (g : X → X) (one_to_one : (x y : X) → same (g x) (g y) ≡ same x y) where
  slot_map : (x : X) (l : List X) → slot same (g x) (map g l) ≡ slot same x l
  slot_map x [] = refl
  slot_map x (y ∷ l) = ap₂ (λ (b : Bool) (k : ℕ). cond b 0 (suc k)) (one_to_one y x) (slot_map x l)

  keep_map : (x : X) (l : List X) → keep same (g x) (map g l) ≡ map g (keep same x l)
  keep_map x [] = refl
  keep_map x (y ∷ l) = ap₂ (λ (b : Bool) (k : List X). cond b (g y ∷ map g l) (g y ∷ k)) (one_to_one y x) (keep_map x l) ∙ inside (same y x)
    where
      inside : (b : Bool) → cond b (g y ∷ map g l) (g y ∷ map g (keep same x l)) ≡ map g (cond b (y ∷ l) (y ∷ keep same x l))
      inside true = refl
      inside false = refl

  make_node_map : (n : Node) (s : Store X) → make_node n (mapped g s) ≡ diagram_mapped g (make_node n s)
  make_node_map n s = by (same_ref n.low n.high)
    where
      by : (b : Bool) → cond b (rooted (mapped g s) n.low) (put_node n (mapped g s)) ≡ diagram_mapped g (cond b (rooted s n.low) (put_node n s))
      by true = refl
      by false = refl

  pub reduce_map : (left level : ℕ) (f : Bits → X) (s : Store X)
      → reduce same left level (λ l. g (f l)) (mapped g s) ≡ diagram_mapped g (reduce same left level f s)
  unfolding reduce
  reduce_map zero level f s = λ i. rooted (holding s.nodes (keep_map (f []) s.values i)) (value (slot_map (f []) s.values i))
  reduce_map (suc left) level f s =
      let low : Diagram X = reduce same left (suc level) (λ l. f (false ∷ l)) s in
      let high : Diagram X = reduce same left (suc level) (λ l. f (true ∷ l)) low.store in
      reduce_step same left level (λ l. g (f l)) (mapped g s) (mapped g low.store) (mapped g high.store) low.root high.root
      (reduce_map left (suc level) (λ l. f (false ∷ l)) s) (reduce_map left (suc level) (λ l. f (true ∷ l)) low.store)
      ∙ make_node_map (branch level low.root high.root) high.store

-- ---- a test of all values

module _ {X : Type 0} {same : X → X → Bool} (𝓓 : Decides same) (test : X → Bool) where
  and_again : (a b : Bool) → (a && b) ≡ ((a && b) && a)
  and_again true true = refl
  and_again true false = refl
  and_again false b = refl

  every_keep : (x : X) (l : List X) → every test (keep same x l) ≡ (every test l && test x)
  every_keep x [] = and-true (test x)
  every_keep x (y ∷ l) = by (same y x) refl (every_keep x l)
    where
      by : (b : Bool) → same y x ≡ b → every test (keep same x l) ≡ (every test l && test x)
          → every test (cond b (y ∷ l) (y ∷ keep same x l)) ≡ ((test y && every test l) && test x)
      by true e h = and_again (test y) (every test l) ∙ ap (λ (z : X). (test y && every test l) && test z) (𝓓.sound y x e)
      by false e h = ap (◌&&◌ (test y)) h ∙ sym (and_assoc (test y) (every test l) (test x))

  make_node_values : (n : Node) (s : Store X) → (make_node n s).store.values ≡ s.values
  make_node_values n s = by (same_ref n.low n.high)
    where
      by : (b : Bool) → (cond b (rooted s n.low) (put_node n s)).store.values ≡ s.values
      by true = refl
      by false = refl

  pub reduce_every : (left level : ℕ) (f : Bits → X) (s : Store X)
      → every test (reduce same left level f s).store.values ≡ (every test s.values && everywhere left (λ l. test (f l)))
  unfolding reduce
  reduce_every zero level f s = every_keep (f []) s.values
  reduce_every (suc left) level f s =
      let low : Diagram X = reduce same left (suc level) (λ l. f (false ∷ l)) s in
      let high : Diagram X = reduce same left (suc level) (λ l. f (true ∷ l)) low.store in
      ap (every test) (make_node_values (branch level low.root high.root) high.store)
      ∙ reduce_every left (suc level) (λ l. f (true ∷ l)) low.store
      ∙ ap (λ (b : Bool). b && everywhere left (λ l. test (f (true ∷ l)))) (reduce_every left (suc level) (λ l. f (false ∷ l)) s)
      ∙ and_assoc (every test s.values) (everywhere left (λ l. test (f (false ∷ l)))) (everywhere left (λ l. test (f (true ∷ l))))
