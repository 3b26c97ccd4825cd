-- The identity's reduced diagram: as its nodes are written qubit by qubit, and that it is `diagram n identity`.
-- Assumes nothing.
use mathlib.Core.Path.{◌≡◌, refl, sym, ◌∙◌, ap, ap₂, ◌≡⟨◌⟩◌, ◌∎}
use mathlib.Core.List.{List, [], ◌∷◌, ◌++◌, map, map-append, append_assoc}
use Prim.Native.Nat.{ℕ, zero, suc, ◌+◌, ◌*◌, ◌-◌, ◌<◌, ◌≤◌}
use native.Mathlib.Numerals.{add-one}
use native.Mathlib.Omega.{arith}
use lib.IntN.{ℤ, pos}
use lib.ListN.{length, take, drop, length-append, length-map}
use lib.Seq.{take_at}
use Rattle.algebra.specs.Entry.{𝟘, 𝟙}
use Rattle.diagrams.specs.Diagram.{value, node, Node, branch, code}
use Rattle.stores.specs.Columns.{Columns, columns, over, NodesWritten, Published}
use Rattle.identities.specs.Identity.{identity_root, identity_nodes, put_from, QubitSet}
use borrow.Rule.Slice.PartMut.{put_mid}
use Rattle.std.proofs.lemmas.List.{drop-drop}
use Rattle.std.proofs.lemmas.Slice.{drop-append-drop}

-- three nodes a qubit
pub length_identity : (level n : ℕ) → length (identity_nodes level n) ≡ 3 * n
unfolding identity_nodes
length_identity level zero = refl
length_identity level (suc n) =
    length-append (identity_nodes (suc (suc level)) n) _ ∙ ap (λ (k : ℕ). k + 3) (length_identity (suc (suc level)) n) ∙ omega arith

-- ---- written

-- numbers put behind those that stand over a column
over_more : {A : Type 0} (m part l : List A) (from : ℕ) → length m ≡ from
    → take from (over m l) ++ (part ++ drop (from + length part) (over m l)) ≡ over (m ++ part) l
over_more m part l from long =
    ap₂ ◌++◌ (take_at m _ from long) (ap (λ (past : List _). part ++ past) rest)
    ∙ sym (append_assoc m part _)
    ∙ ap (λ (k : ℕ). (m ++ part) ++ drop k l) (omega (arith, length-append m part))
  where
    rest : drop (from + length part) (over m l) ≡ drop (from + length part) l
    rest = ap (λ (k : ℕ). drop (from + length part) (m ++ drop k l)) long ∙ drop-append-drop from l m (from + length part) (omega arith) long

-- the identity's values
pub pairs_published : (C : Columns) {a b c d : List ℤ} → a ≡ pos 0 ∷ pos 0 ∷ [] → b ≡ pos 0 ∷ pos 0 ∷ [] → c ≡ pos 0 ∷ pos 0 ∷ []
    → d ≡ pos 1 ∷ pos 0 ∷ []
    → Published (𝟙 ∷ 𝟘 ∷ []) C (columns C.level C.low C.high (a ++ drop 2 C.a) (b ++ drop 2 C.b) (c ++ drop 2 C.c) (d ++ drop 2 C.d))
unfolding 𝟘 𝟙
pairs_published C p q r s = record {
  of_a = ap (λ (l : List ℤ). l ++ drop 2 C.a) p;
  of_b = ap (λ (l : List ℤ). l ++ drop 2 C.b) q;
  of_c = ap (λ (l : List ℤ). l ++ drop 2 C.c) r;
  of_d = ap (λ (l : List ℤ). l ++ drop 2 C.d) s;
  nodes = record { same_level = refl; same_low = refl; same_high = refl };
}

-- three numbers of a qubit's nodes
pub three_put : (k : ℕ) (l part : List ℕ) {new : List ℕ} → new ≡ part → length part ≡ 3
    → put_mid (3 * k) (3 * k + 3 - 3 * k) l new ≡ put_from (3 * k) part l
three_put k l part is long =
    let three : 3 * k + 3 - 3 * k ≡ length part = omega (arith, long) in
    rw (three, is, drop-drop (length part) (3 * k) l)

-- the nodes of k qubits, with x for their root, and those of one qubit more
module _ (lv k x : ℕ) {C C₀ C₁ : Columns} where
  pub qubit_written : NodesWritten (identity_nodes (suc (suc lv)) k) C C₀ → x ≡ code (identity_root k) → QubitSet k lv x C₀ C₁
      → NodesWritten (identity_nodes lv (k + 1)) C C₁
  unfolding identity_nodes
  qubit_written w root is = rw (add-one k) (record {
    of_level = column (λ m. m.level) C.level ((lv + 1) ∷ (lv + 1) ∷ lv ∷ []) w.of_level is.of_level (simp add-one);
    of_low = column (λ m. code m.low) C.low (x ∷ 2 ∷ (6 * k + 1) ∷ []) w.of_low is.of_low (rw (root, first_child k));
    of_high = column (λ m. code m.high) C.high (2 ∷ x ∷ (6 * k + 3) ∷ []) w.of_high is.of_high (rw (root, second_child k));
    values = record {
      same_a = is.values.same_a ∙ w.values.same_a;
      same_b = is.values.same_b ∙ w.values.same_b;
      same_c = is.values.same_c ∙ w.values.same_c;
      same_d = is.values.same_d ∙ w.values.same_d;
    };
  })
    where
      before : List Node
      before = identity_nodes (suc (suc lv)) k

      three : List Node
      three =
          branch (suc lv) (identity_root k) (value 1)
          ∷ branch (suc lv) (value 1) (identity_root k)
          ∷ branch lv (node (3 * k)) (node (3 * k + 1))
          ∷ []

      first_child : (k : ℕ) → 6 * k + 1 ≡ 2 * (3 * k) + 1
      first_child k = omega arith

      second_child : (k : ℕ) → 6 * k + 3 ≡ 2 * (3 * k + 1) + 1
      second_child k = omega arith

      column : (f : Node → ℕ) (l part : List ℕ) {l₀ l₁ : List ℕ} → l₀ ≡ over (map f before) l → l₁ ≡ put_from (3 * k) part l₀
          → part ≡ map f three → l₁ ≡ over (map f (before ++ three)) l
      column f l part {l₀} {l₁} old new is =
          l₁ ≡⟨ new ∙ ap₂ (put_from (3 * k)) is old ⟩
          put_from (3 * k) (map f three) (over (map f before) l) ≡⟨ over_more (map f before) (map f three) l (3 * k) long ⟩
          over (map f before ++ map f three) l ≡⟨ ap (λ (m : List ℕ). over m l) (sym (map-append f before three)) ⟩
          over (map f (before ++ three)) l ∎
        where
          long : length (map f before) ≡ 3 * k
          long = length-map before f ∙ length_identity (suc (suc lv)) k

-- a loop has written the nodes of the last k qubits of n, with x for their root
pub record Writing (n : ℕ) (C₀ C : Columns) (k x : ℕ) : Type 0 where
  pub bound : k ≤ n
  pub root : x ≡ code (identity_root k)
  pub nodes : NodesWritten (identity_nodes (2 * (n - k)) k) C₀ C

module _ {n : ℕ} {C₀ : Columns} where
  pub writing_starts : Writing n C₀ C₀ 0 0
  unfolding identity_root identity_nodes
  writing_starts = record {
    bound = omega arith;
    root = refl;
    nodes = record { of_level = refl; of_low = refl; of_high = refl; values = record { same_a = refl; same_b = refl; same_c = refl; same_d = refl } };
  }

  pub writing_goes : {C C' : Columns} {k x : ℕ} → Writing n C₀ C k x → k < n → QubitSet k (2 * (n - 1 - k)) x C C'
      → Writing n C₀ C' (k + 1) (6 * k + 5)
  unfolding identity_root
  writing_goes {k = k} {x = x} w less is = record {
    bound = omega arith;
    root = rw (add-one k) (third k);
    nodes = rw (← next_level) (qubit_written (2 * (n - 1 - k)) k x (rw (sym this_level) w.nodes) w.root is);
  }
    where
      third : (k : ℕ) → 6 * k + 5 ≡ 2 * (3 * k + 2) + 1
      third k = omega arith

      this_level : 2 * (n - k) ≡ suc (suc (2 * (n - 1 - k)))
      this_level = omega arith

      next_level : 2 * (n - 1 - k) ≡ 2 * (n - (k + 1))
      next_level = omega arith
