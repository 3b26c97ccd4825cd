-- A gate times its inverse, either way round, is a power of 2 times the identity: √2 twice for each H.
-- Assumes nothing.
use mathlib.Core.Path.{◌≡◌, refl, sym, ◌∙◌, ap, ap₂, subst, ◌≡⟨◌⟩◌, ◌∎}
use mathlib.Core.Bool.{Bool, true, false, cond, ◌&&◌, beq}
use Prim.Native.Nat.{ℕ, ◌+◌, ◌<◌}
use native.Mathlib.Omega.{arith}
use lib.ListN.{length, set}
use lib.Seq.{get_or-set_same}
use Rattle.algebra.specs.declared.Entry.{Entry}
use Rattle.algebra.specs.Entry.{𝟘, 𝟙, neg, ◌⊕◌, ◌⊗◌, turned, times_w8, times_√2, √2^}
use Rattle.algebra.specs.Matrix.{Bits, total, product, same, identity}
use Rattle.algebra.proofs.Rings.{mul_zero, one_mul}
use Rattle.algebra.proofs.Entries.{entries, ⊕-zero, cond_one, cond_cond}
use Rattle.algebra.proofs.Matrices.{Alike, scaled, product_alike, ◌≈⟨◌⟩◌, ◌■}
use Rattle.gates.specs.Gate.{Kind, Z, S, S†, T, T†, X, Y, H, Pair, CZ, CNOT, Gate, on, pair, toffoli, fredkin}
use Rattle.gates.specs.Gate.{is, bit, agree, in_mask, all_set, matrix, Fits, inverse, inverse_kind, halves}
use Rattle.gates.specs.Rule.{left_matrix, gate_rule, kind_rule, pair_rule, toffoli_rule}
use Rattle.gates.proofs.Naming.{is_refl, is_apart, all_set_set, agree_same, agree_set}
use Rattle.gates.proofs.Rules.{four}
use Rattle.gates.proofs.LocalRules.{where_set, on_target, row_times, on_target_sum, line_of, matrix_left, all_set_none}
use Rattle.gates.proofs.Swaps.{swapped_twice, swapped_line, swapped_sum}

-- ---- the small matrices

-- row x and column y of a product of two small matrices, where the controls are as told
abbrev small_product : (Bool → Bool → Entry) → (Bool → Bool → Entry) → Bool → Bool → Bool → Entry
small_product m m' active x y = row_times (where_set m active) x (λ b. where_set m' active b y)

-- it is √2 to the power k times the identity
abbrev Undone : (Bool → Bool → Entry) → (Bool → Bool → Entry) → ℕ → Bool → Bool → Bool → Type 0
Undone m m' k active x y = small_product m m' active x y ≡ cond (beq x y) (√2^ k) 𝟘

kind_undone : (k : Kind) (q : ℕ) (x y : Bool)
    → Undone (left_matrix (kind_rule k)) (left_matrix (kind_rule (inverse_kind k))) (halves (on k q) + halves (on k q)) true x y
unfolding 𝟘 𝟙 neg ◌⊕◌ ◌⊗◌ turned times_w8 times_√2 √2^
kind_undone Z q = four _ refl refl refl refl
kind_undone S q = four _ refl refl refl refl
kind_undone S† q = four _ refl refl refl refl
kind_undone T q = four _ refl refl refl refl
kind_undone T† q = four _ refl refl refl refl
kind_undone X q = four _ refl refl refl refl
kind_undone Y q = four _ refl refl refl refl
kind_undone H q = four _ refl refl refl refl

pair_undone : (k : Pair) (active x y : Bool) → Undone (left_matrix (pair_rule k)) (left_matrix (pair_rule k)) 0 active x y
unfolding 𝟘 𝟙 neg ◌⊕◌ ◌⊗◌ turned times_w8 times_√2 √2^
pair_undone CZ true = four _ refl refl refl refl
pair_undone CZ false = four _ refl refl refl refl
pair_undone CNOT true = four _ refl refl refl refl
pair_undone CNOT false = four _ refl refl refl refl

toffoli_undone : (active x y : Bool) → Undone (left_matrix toffoli_rule) (left_matrix toffoli_rule) 0 active x y
unfolding 𝟘 𝟙 neg ◌⊕◌ ◌⊗◌ turned times_w8 times_√2 √2^
toffoli_undone true = four _ refl refl refl refl
toffoli_undone false = four _ refl refl refl refl

-- ---- the product of two small matrices on one target

row_times_cond : (m : Bool → Bool → Entry) (x a : Bool) (f : Bool → Entry) → row_times m x (λ b. cond a (f b) 𝟘) ≡ cond a (row_times m x f) 𝟘
row_times_cond m x true f = refl
row_times_cond m x false f = ap₂ ◌⊕◌ (mul_zero entries (m x false)) (mul_zero entries (m x true)) ∙ ⊕-zero 𝟘

on_target_product : (n : ℕ) (m m' : Bool → Bool → Entry) (P : ℕ → Bool) (q : ℕ) → q < n → P q ≡ false → (r c : Bits) → length r ≡ n
    → product n (on_target m P q) (on_target m' P q) r c ≡ cond (agree (is q) r c) (small_product m m' (all_set P r) (bit r q) (bit c q)) 𝟘
unfolding product
on_target_product n m m' P q h free r c e =
    on_target_sum n m P q (λ x. on_target m' P q x c) r h e
    ∙ ap₂ (λ y z. row (bit r q) false ⊗ y ⊕ row (bit r q) true ⊗ z) (at false) (at true)
    ∙ row_times_cond row (bit r q) (agree (is q) r c) column
  where
    row : Bool → Bool → Entry
    row = where_set m (all_set P r)

    column : Bool → Entry
    column b = where_set m' (all_set P r) b (bit c q)

    at : (b : Bool) → on_target m' P q (set r q b) c ≡ cond (agree (is q) r c) (column b) 𝟘
    at b =
        cond (agree (is q) (set r q b) c) (where_set m' (all_set P (set r q b)) (bit (set r q b) q) (bit c q)) 𝟘
        ≡⟨ ap₂ (λ a k. cond a (where_set m' k (bit (set r q b) q) (bit c q)) 𝟘) (agree_set (is q) r c q b (is_refl q)) (all_set_set P r q b free) ⟩
        cond (agree (is q) r c) (where_set m' (all_set P r) (bit (set r q b) q) (bit c q)) 𝟘
        ≡⟨ ap (λ x. cond (agree (is q) r c) (where_set m' (all_set P r) x (bit c q)) 𝟘) (get_or-set_same r q b false (omega arith)) ⟩
        cond (agree (is q) r c) (column b) 𝟘 ∎

-- ---- gates

-- a small matrix on a target that is no control, times one that undoes it
on_target_undone : (n : ℕ) (m m' : Bool → Bool → Entry) (P : ℕ → Bool) (q k : ℕ) → q < n → P q ≡ false
    → ((l : Bits) (x y : Bool) → Undone m m' k (all_set P l) x y)
    → Alike n (product n (on_target m P q) (on_target m' P q)) (scaled (√2^ k) identity)
unfolding identity
on_target_undone n m m' P q k q<n free undone = record { at = at_entries }
  where
    s : Entry
    s = √2^ k

    at_entries : (r c : Bits) → length r ≡ n → length c ≡ n → product n (on_target m P q) (on_target m' P q) r c ≡ s ⊗ cond (same r c) 𝟙 𝟘
    at_entries r c e f =
        product n (on_target m P q) (on_target m' P q) r c ≡⟨ on_target_product n m m' P q q<n free r c e ⟩
        cond (agree (is q) r c) (small_product m m' (all_set P r) (bit r q) (bit c q)) 𝟘
        ≡⟨ ap (λ x. cond (agree (is q) r c) x 𝟘) (undone r (bit r q) (bit c q)) ⟩
        cond (agree (is q) r c) (cond (beq (bit r q) (bit c q)) s 𝟘) 𝟘 ≡⟨ cond_cond (agree (is q) r c) (beq (bit r q) (bit c q)) s ⟩
        cond (agree (is q) r c && beq (bit r q) (bit c q)) s 𝟘 ≡⟨ ap (λ b. cond b s 𝟘) (agree_same q r c (omega (arith, q<n))) ⟩
        cond (same r c) s 𝟘 ≡⟨ cond_one (same r c) s ⟩
        s ⊗ cond (same r c) 𝟙 𝟘 ∎

-- two targets exchanged twice
swapped_undone : (n : ℕ) (P : ℕ → Bool) (p q : ℕ) → p < n → q < n → P p ≡ false → P q ≡ false
    → Alike n (product n (swapped_line P p q) (swapped_line P p q)) (scaled (√2^ 0) identity)
unfolding product identity √2^
swapped_undone n P p q p<n q<n p_free q_free = record { at = at_entries }
  where
    at_entries : (r c : Bits) → length r ≡ n → length c ≡ n
        → total n (λ x. swapped_line P p q r x ⊗ swapped_line P p q x c) ≡ 𝟙 ⊗ cond (same r c) 𝟙 𝟘
    at_entries r c e f =
        swapped_sum n P p q (λ x. swapped_line P p q x c) r e
        ∙ ap (λ l. cond (same l c) 𝟙 𝟘) (swapped_twice P p q p_free q_free r (omega (arith, p<n)) (omega (arith, q<n)))
        ∙ sym (one_mul entries (cond (same r c) 𝟙 𝟘))

-- the inverse has the same controls and targets
lines_undone : (n : ℕ) (g : Gate) → Fits n g
    → Alike n (product n (line_of g (gate_rule g).left) (line_of (inverse g) (gate_rule (inverse g)).left))
    (scaled (√2^ (halves g + halves g)) identity)
lines_undone n (on k q) h =
    on_target_undone n (left_matrix (kind_rule k)) (left_matrix (kind_rule (inverse_kind k))) (λ i. false) q
    (halves (on k q) + halves (on k q)) h refl (λ l x y. rw (all_set_none l) (kind_undone k q x y))
lines_undone n (pair k p q) h =
    on_target_undone n (left_matrix (pair_rule k)) (left_matrix (pair_rule k)) (is p) q 0 h.1 (is_apart p q h.2)
    (λ l. pair_undone k (all_set (is p) l))
lines_undone n (toffoli mask q) h =
    on_target_undone n (left_matrix toffoli_rule) (left_matrix toffoli_rule) (in_mask mask) q 0 h.1 h.2
    (λ l. toffoli_undone (all_set (in_mask mask) l))
lines_undone n (fredkin mask p q) h = swapped_undone n (in_mask mask) p q h.1.0 h.2.0 h.1.1 h.2.1

pub inverse_fits : (n : ℕ) (g : Gate) → Fits n g → Fits n (inverse g)
inverse_fits n (on k q) h = h
inverse_fits n (pair k p q) h = h
inverse_fits n (toffoli mask q) h = h
inverse_fits n (fredkin mask p q) h = h

matrix_alike : (n : ℕ) (g : Gate) → Fits n g → Alike n (matrix g) (line_of g (gate_rule g).left)
matrix_alike n g h = record { at = λ r c e f. matrix_left n g h r c e }

pub gate_inverse : (n : ℕ) (g : Gate) → Fits n g → Alike n (product n (matrix g) (matrix (inverse g))) (scaled (√2^ (halves g + halves g)) identity)
gate_inverse n g h =
    product n (matrix g) (matrix (inverse g)) ≈⟨ product_alike n (matrix_alike n g h) (matrix_alike n (inverse g) (inverse_fits n g h)) ⟩
    product n (line_of g (gate_rule g).left) (line_of (inverse g) (gate_rule (inverse g)).left) ≈⟨ lines_undone n g h ⟩
    scaled (√2^ (halves g + halves g)) identity ■

-- ---- the inverse's inverse is the gate

kind_involutive : (k : Kind) (q : ℕ) → (inverse_kind (inverse_kind k) ≡ k) × (halves (on (inverse_kind k) q) ≡ halves (on k q))
kind_involutive Z q = (refl, refl)
kind_involutive S q = (refl, refl)
kind_involutive S† q = (refl, refl)
kind_involutive T q = (refl, refl)
kind_involutive T† q = (refl, refl)
kind_involutive X q = (refl, refl)
kind_involutive Y q = (refl, refl)
kind_involutive H q = (refl, refl)

pub inverse_inverse : (g : Gate) → inverse (inverse g) ≡ g
inverse_inverse (on k q) = ap (λ j. on j q) (kind_involutive k q).0
inverse_inverse (pair k p q) = refl
inverse_inverse (toffoli mask q) = refl
inverse_inverse (fredkin mask p q) = refl

pub inverse_halves : (g : Gate) → halves (inverse g) ≡ halves g
inverse_halves (on k q) = (kind_involutive k q).1
inverse_halves (pair k p q) = refl
inverse_halves (toffoli mask q) = refl
inverse_halves (fredkin mask p q) = refl

pub inverse_gate : (n : ℕ) (g : Gate) → Fits n g → Alike n (product n (matrix (inverse g)) (matrix g)) (scaled (√2^ (halves g + halves g)) identity)
inverse_gate n g h =
    subst (λ k. Alike n (product n (matrix (inverse g)) (matrix g)) (scaled (√2^ (k + k)) identity)) (inverse_halves g)
    (subst (λ x. Alike n (product n (matrix (inverse g)) (matrix x)) (scaled (√2^ (halves (inverse g) + halves (inverse g))) identity))
    (inverse_inverse g) (gate_inverse n (inverse g) (inverse_fits n g h)))
