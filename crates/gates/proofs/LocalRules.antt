-- The product with a gate is its local rule, from the right and from the left: one argument over the gate's data.
-- Assumes nothing.
use mathlib.Core.Path.{◌≡◌, refl, sym, ◌∙◌, ap, ap₂, ◌≡⟨◌⟩◌, ◌∎}
use mathlib.Core.Bool.{Bool, true, false, not, cond, ◌&&◌, ◌||◌, beq, and-true}
use mathlib.Core.List.{[], ◌∷◌}
use Prim.Native.Nat.{ℕ, zero, suc, ◌<◌, min, max}
use native.Mathlib.Omega.{arith}
use lib.ListN.{length, set}
use lib.Seq.{get_or-set_same, set-get_or}
use Rattle.algebra.specs.declared.Entry.{Entry}
use Rattle.algebra.specs.Entry.{𝟘, 𝟙, neg, ◌⊕◌, ◌⊖◌, ◌⊗◌, turned, w8^}
use Rattle.algebra.specs.Matrix.{Bits, Matrix, total, product}
use Rattle.algebra.proofs.Rings.{zero_add, one_mul, zero_mul, neg_mul}
use Rattle.algebra.proofs.Entries.{entries, ⊕-zero, ⊖-is, turned_is, cond-⊗, cond_cond}
use Rattle.algebra.proofs.Sums.{beq_sym, total_ext}
use Rattle.algebra.proofs.Matrices.{product_transpose}
use Rattle.gates.specs.declared.Phases.{Phases}
use Rattle.gates.specs.declared.Rule.{Rule}
use Rattle.gates.specs.declared.Act.TheVariants.{Swaps}
use Rattle.gates.specs.Gate.{Kind, Z, S, S†, T, T†, X, Y, H, Pair, CZ, CNOT, Gate, on, pair, toffoli, fredkin, small, table}
use Rattle.gates.specs.Gate.{is, bit, agree, agree_in, in_mask, all_set, exchanged, names, matrix, Fits}
use Rattle.gates.specs.Rule.{phase, acting, controlled, kind_rule, pair_rule, toffoli_rule, fredkin_rule, gate_rule, controls, target}
use Rattle.gates.specs.Rule.{second, mixed, moved, acted, does_flip, does_mix, does_swap}
use Rattle.gates.proofs.Naming.{is_sound, without, without_first, without_controls, exchanged_ordered, all_set_agree}
use Rattle.gates.proofs.Naming.{agree_and, agree_sym, agree_without, total_agree, spread_one}
use Rattle.gates.proofs.Rules.{kind_right, kind_left, pair_right, pair_left, toffoli_data}
use Rattle.gates.proofs.Swaps.{swapped_sym, swap_agrees, swapped_line, swapped_sum}

-- ---- a small matrix on a target, where every control is 1

-- the small matrix where the controls are set, the identity elsewhere
abbrev pub where_set : (Bool → Bool → Entry) → Bool → Bool → Bool → Entry
where_set m active x y = cond active (m x y) (cond (beq x y) 𝟙 𝟘)

abbrev pub on_target : (Bool → Bool → Entry) → (ℕ → Bool) → ℕ → Matrix
on_target m P q r c = cond (agree (is q) r c) (where_set m (all_set P r) (bit r q) (bit c q)) 𝟘

-- row x of a small matrix times a column
abbrev pub row_times : (Bool → Bool → Entry) → Bool → (Bool → Entry) → Entry
row_times m x f = m x false ⊗ f false ⊕ m x true ⊗ f true

-- a row with one entry, at bit z
row_times_one : (u : Entry) (z : Bool) (f : Bool → Entry) → row_times (λ x y. cond (beq z y) u 𝟘) z f ≡ u ⊗ f z
row_times_one u true f = ap (λ x. x ⊕ u ⊗ f true) (zero_mul entries (f false)) ∙ zero_add entries (u ⊗ f true)
row_times_one u false f = ap (◌⊕◌ (u ⊗ f false)) (zero_mul entries (f true)) ∙ ⊕-zero (u ⊗ f false)

-- of the lists only the two count that are l but for the target's bit
pub on_target_sum : (n : ℕ) (m : Bool → Bool → Entry) (P : ℕ → Bool) (q : ℕ) (F : Bits → Entry) (l : Bits) → q < n → length l ≡ n
    → total n (λ c. on_target m P q l c ⊗ F c) ≡ row_times (where_set m (all_set P l)) (bit l q) (λ b. F (set l q b))
on_target_sum n m P q F l h e =
    total n (λ c. cond (agree (is q) l c) (row (bit c q)) 𝟘 ⊗ F c) ≡⟨ total_ext n _ _ (λ c k. cond-⊗ (agree (is q) l c) (row (bit c q)) (F c)) ⟩
    total n (λ c. cond (agree (is q) l c) (row (bit c q) ⊗ F c) 𝟘) ≡⟨ total_agree n (is q) l term e ∙ spread_one q l term (omega arith) ⟩
    term (set l q false) ⊕ term (set l q true) ≡⟨ ap₂ ◌⊕◌ (at false) (at true) ⟩
    row false ⊗ F (set l q false) ⊕ row true ⊗ F (set l q true) ∎
  where
    row : Bool → Entry
    row = where_set m (all_set P l) (bit l q)

    term : Bits → Entry
    term c = row (bit c q) ⊗ F c

    at : (b : Bool) → row (bit (set l q b) q) ⊗ F (set l q b) ≡ row b ⊗ F (set l q b)
    at b = ap (λ x. row x ⊗ F (set l q b)) (get_or-set_same l q b false (omega arith))

-- ---- the gate's data as such a matrix

-- the signs of H: a sum in row 0, a difference in row 1
row_times_mixed : (x : Bool) (f : Bool → Entry) → row_times (table 𝟙 𝟙 𝟙 (neg 𝟙)) x f ≡ cond x (f false ⊖ f true) (f false ⊕ f true)
row_times_mixed false f = ap₂ ◌⊕◌ (one_mul entries (f false)) (one_mul entries (f true))
row_times_mixed true f =
    𝟙 ⊗ f false ⊕ neg 𝟙 ⊗ f true ≡⟨ ap₂ ◌⊕◌ (one_mul entries (f false)) (neg_mul entries 𝟙 (f true) ∙ ap neg (one_mul entries (f true))) ⟩
    f false ⊕ neg (f true) ≡⟨ sym (⊖-is (f false) (f true)) ⟩
    f false ⊖ f true ∎

acted_is : (rule : Rule) (p : Phases) (P : ℕ → Bool) (q q' : ℕ) (F : Bits → Entry) (l : Bits) → does_swap rule.act ≡ false
    → row_times (where_set (acting rule p) (all_set P l)) (bit l q) (λ b. F (set l q b)) ≡ acted rule p P q q' F l
unfolding acted
acted_is rule p P q q' F l alone =
    cases (all_set P l) (does_mix rule.act) (does_flip rule.act)
    ∙ ap (λ b. cond (all_set P l) (cond (does_mix rule.act) (mixed q F l) (cond b (F (exchanged q q' l)) (moved rule p q F l))) (F l)) (sym alone)
  where
    at : Bool → Entry
    at b = F (set l q b)

    unchanged : set l q (bit l q) ≡ l
    unchanged = set-get_or l q false

    moved_to : (flips : Bool) → set l q (cond flips (not (bit l q)) (bit l q)) ≡ cond flips (set l q (not (bit l q))) l
    moved_to true = refl
    moved_to false = unchanged

    power : ℕ
    power = phase p (bit l q)

    entry : Bool → Bool → Bool → Bool → Entry
    entry mixes flips x y = cond mixes (table 𝟙 𝟙 𝟙 (neg 𝟙) x y) (cond (beq (cond flips (not x) x) y) (w8^ (phase p x)) 𝟘)

    cases : (active mixes flips : Bool) → row_times (where_set (entry mixes flips) active) (bit l q) at
        ≡ cond active (cond mixes (mixed q F l) (turned power (F (cond flips (set l q (not (bit l q))) l)))) (F l)
    cases false mixes flips =
        row_times_one 𝟙 (bit l q) at ∙ one_mul entries (at (bit l q)) ∙ ap F unchanged
    cases true true flips = row_times_mixed (bit l q) at
    cases true false flips =
        row_times_one (w8^ power) (cond flips (not (bit l q)) (bit l q)) at
        ∙ sym (turned_is power (at (cond flips (not (bit l q)) (bit l q)))) ∙ ap (λ m. turned power (F m)) (moved_to flips)

-- ---- a gate's matrix as such a matrix, by rows and by columns

-- the entry at the named qubits that a small matrix on the target gives
abbrev controlled_by : (ℕ → Bool) → ℕ → (Bool → Bool → Entry) → Matrix
controlled_by P q m r c = cond (agree_in P r c) (where_set m (all_set P r) (bit r q) (bit c q)) 𝟘

-- with the row and the column exchanged where there is one control
exchanged_pair : (m : Bool → Bool → Entry) (c t c' t' : Bool) → controlled (λ x y. m y x) c t c' t' ≡ controlled m c' t' c t
exchanged_pair m true t true t' = refl
exchanged_pair m true t false t' = refl
exchanged_pair m false t true t' = refl
exchanged_pair m false t false t' = ap (λ b. cond b 𝟙 𝟘) (beq_sym t t')

pub all_set_none : (l : Bits) → all_set (λ i. false) l ≡ true
all_set_none [] = refl
all_set_none (x ∷ l) = all_set_none l

all_set_one : (p : ℕ) (l : Bits) → p < length l → all_set (is p) l ≡ bit l p
all_set_one p [] h = absurd (omega arith)
all_set_one zero (x ∷ l) h = ap (◌&&◌ x) (all_set_none l) ∙ and-true x
all_set_one (suc p) (x ∷ l) h = all_set_one p l (omega arith)

-- one control
one_control : (p q : ℕ) (m : Bool → Bool → Entry) → (p ≡ q → ⊥) → (r c : Bits) → p < length r
    → cond (agree (λ i. is p i || is q i) r c) (controlled m (bit r p) (bit r q) (bit c p) (bit c q)) 𝟘 ≡ on_target m (is p) q r c
one_control p q m apart r c h =
    cond (agree named r c) (cond (beq (bit r p) (bit c p)) (here (bit r p)) 𝟘) 𝟘
    ≡⟨ cond_cond (agree named r c) (beq (bit r p) (bit c p)) (here (bit r p)) ⟩
    cond (agree named r c && beq (bit r p) (bit c p)) (here (bit r p)) 𝟘
    ≡⟨ ap₂ (λ a b. cond a (here b) 𝟘) (agree_without named r c p h) (sym (all_set_one p r h)) ⟩
    cond (agree (without named p) r c) (here (all_set (is p) r)) 𝟘
    ≡⟨ ap (λ n. cond (agree n r c) (here (all_set (is p) r)) 𝟘) (without_first p q apart) ⟩
    cond (agree (is q) r c) (here (all_set (is p) r)) 𝟘 ∎
  where
    named : ℕ → Bool
    named i = is p i || is q i

    here : Bool → Entry
    here active = where_set m active (bit r q) (bit c q)

-- any set of controls that the target is not in
many_controls : (P : ℕ → Bool) (q : ℕ) (m : Bool → Bool → Entry) → P q ≡ false → (r c : Bits)
    → cond (agree (λ i. P i || is q i) r c) (controlled_by P q m r c) 𝟘 ≡ on_target m P q r c
many_controls P q m free r c =
    cond_cond (agree (λ i. P i || is q i) r c) (agree_in P r c) (where_set m (all_set P r) (bit r q) (bit c q))
    ∙ ap (λ a. cond a (where_set m (all_set P r) (bit r q) (bit c q)) 𝟘)
    (agree_and (λ i. P i || is q i) (λ i. not (P i)) r c ∙ ap (λ named. agree named r c) (without_controls P (is q) other))
  where
    other : (i : ℕ) → is q i ≡ true → P i ≡ false
    other i e = ap P (sym (is_sound q i e)) ∙ free

-- the flip of a target where the controls are 1 is X there
toffoli_entry : (m : Bool → Bool → Entry) → ((x y : Bool) → m x y ≡ small X x y) → (agrees active t t' : Bool)
    → cond (agrees && beq (cond active (not t) t) t') 𝟙 𝟘 ≡ cond agrees (where_set m active t t') 𝟘
toffoli_entry m is_X false active t t' = refl
toffoli_entry m is_X true false t t' = refl
toffoli_entry m is_X true true false false = sym (is_X false false)
toffoli_entry m is_X true true false true = sym (is_X false true)
toffoli_entry m is_X true true true false = sym (is_X true false)
toffoli_entry m is_X true true true true = sym (is_X true true)

-- ---- a gate's matrix, a line at a time

-- the line of the gate's matrix at l: a row with the left-hand phases, a column with the right-hand ones
abbrev pub line_of : Gate → Phases → Matrix
line_of (on k q) p l x = on_target (acting (kind_rule k) p) (λ i. false) q l x
line_of (pair k p' q) p l x = on_target (acting (pair_rule k) p) (is p') q l x
line_of (toffoli mask q) p l x = on_target (acting toffoli_rule p) (in_mask mask) q l x
line_of (fredkin mask p' q) p l x = swapped_line (in_mask mask) p' q l x

pub matrix_left : (n : ℕ) (g : Gate) → Fits n g → (r c : Bits) → length r ≡ n → matrix g r c ≡ line_of g (gate_rule g).left r c
unfolding matrix
matrix_left n (on k q) h r c e =
    ap₂ (λ x b. cond (agree (is q) r c) (cond b x (cond (beq (bit r q) (bit c q)) 𝟙 𝟘)) 𝟘)
    (sym (kind_left k (bit r q) (bit c q))) (sym (all_set_none r))
matrix_left n (pair k p q) h r c e =
    ap (λ x. cond (agree (λ i. is p i || is q i) r c) x 𝟘) (sym (pair_left k (bit r p) (bit r q) (bit c p) (bit c q)))
    ∙ one_control p q (acting (pair_rule k) (pair_rule k).left) h.2 r c (omega (arith, h.0))
matrix_left n (toffoli mask q) h r c e =
    ap (λ x. cond (agree (names (toffoli mask q)) r c) x 𝟘)
    (toffoli_entry (acting toffoli_rule toffoli_rule.left) (λ x y. (toffoli_data x y).1) (agree_in (in_mask mask) r c) (all_set (in_mask mask) r)
    (bit r q) (bit c q))
    ∙ many_controls (in_mask mask) q (acting toffoli_rule toffoli_rule.left) h.2 r c
matrix_left n (fredkin mask p q) h r c e =
    cond_cond (agree (names (fredkin mask p q)) r c) _ 𝟙
    ∙ ap (λ b. cond b 𝟙 𝟘) (swap_agrees (in_mask mask) p q h.1.1 h.2.1 h.3 r c (omega (arith, h.1.0)) (omega (arith, h.2.0)))

-- a symmetric small matrix on a target that is no control makes a symmetric matrix
on_target_sym : (m : Bool → Bool → Entry) → ((x y : Bool) → m x y ≡ m y x) → (P : ℕ → Bool) (q : ℕ) → P q ≡ false → (r c : Bits)
    → on_target m P q r c ≡ on_target m P q c r
on_target_sym m symmetric P q free r c =
    cases (agree (is q) r c) refl ∙ ap (λ b. cond b (where_set m (all_set P c) (bit c q) (bit r q)) 𝟘) (agree_sym (is q) r c)
  where
    other : (i : ℕ) → is q i ≡ true → P i ≡ false
    other i e = ap P (sym (is_sound q i e)) ∙ free

    turned_round : (active x y : Bool) → where_set m active x y ≡ where_set m active y x
    turned_round true x y = symmetric x y
    turned_round false x y = ap (λ b. cond b 𝟙 𝟘) (beq_sym x y)

    cases : (b : Bool) → agree (is q) r c ≡ b
        → cond b (where_set m (all_set P r) (bit r q) (bit c q)) 𝟘 ≡ cond b (where_set m (all_set P c) (bit c q) (bit r q)) 𝟘
    cases true e = ap (λ a. where_set m a (bit r q) (bit c q)) (all_set_agree P (is q) r c other e) ∙ turned_round (all_set P c) (bit r q) (bit c q)
    cases false e = refl

small_X_sym : (x y : Bool) → small X x y ≡ small X y x
small_X_sym true true = refl
small_X_sym true false = refl
small_X_sym false true = refl
small_X_sym false false = refl

matrix_right : (n : ℕ) (g : Gate) → Fits n g → (r c : Bits) → length r ≡ n → length c ≡ n → matrix g r c ≡ line_of g (gate_rule g).right c r
unfolding matrix
matrix_right n (on k q) h r c e f =
    ap₂ (λ a x. cond a x 𝟘) (agree_sym (is q) r c) (sym (kind_right k (bit r q) (bit c q)))
    ∙ ap (λ b. cond (agree (is q) c r) (where_set (acting (kind_rule k) (kind_rule k).right) b (bit c q) (bit r q)) 𝟘) (sym (all_set_none c))
matrix_right n (pair k p q) h r c e f =
    ap₂ (λ a x. cond a x 𝟘) (agree_sym (λ i. is p i || is q i) r c)
    (sym (pair_right k (bit r p) (bit r q) (bit c p) (bit c q))
    ∙ exchanged_pair (acting (pair_rule k) (pair_rule k).right) (bit r p) (bit r q) (bit c p) (bit c q))
    ∙ one_control p q (acting (pair_rule k) (pair_rule k).right) h.2 c r (omega (arith, h.0))
matrix_right n (toffoli mask q) h r c e f =
    matrix_left n (toffoli mask q) h r c e
    ∙ on_target_sym (acting toffoli_rule toffoli_rule.right) (λ x y. (toffoli_data x y).1 ∙ small_X_sym x y ∙ sym (toffoli_data y x).1)
    (in_mask mask) q h.2 r c
matrix_right n (fredkin mask p q) h r c e f =
    matrix_left n (fredkin mask p q) h r c e
    ∙ ap (λ b. cond b 𝟙 𝟘) (swapped_sym (in_mask mask) p q h.1.1 h.2.1 r c
    (omega (arith, h.1.0)) (omega (arith, h.2.0)) (omega (arith, h.1.0)) (omega (arith, h.2.0)))

-- ---- the theorem

pub target_fits : (n : ℕ) (g : Gate) → Fits n g → target g < n
target_fits n (on k q) h = h
target_fits n (pair k p q) h = h.1
target_fits n (toffoli mask q) h = h.1
target_fits n (fredkin mask p q) h = omega (arith, h.1.0)

pub second_fits : (n : ℕ) (g : Gate) → Fits n g → second g < n
second_fits n (on k q) h = h
second_fits n (pair k p q) h = h.1
second_fits n (toffoli mask q) h = h.1
second_fits n (fredkin mask p q) h = omega (arith, h.1.0, h.2.0)

-- a sum over a line on one target is the local rule, and so is one over a line with two targets
on_target_acts : (n : ℕ) (rule : Rule) (p : Phases) (P : ℕ → Bool) (q q' : ℕ) → does_swap rule.act ≡ false → q < n
    → (F : Bits → Entry) (l : Bits) → length l ≡ n → total n (λ x. on_target (acting rule p) P q l x ⊗ F x) ≡ acted rule p P q q' F l
on_target_acts n rule p P q q' alone h F l e = on_target_sum n (acting rule p) P q F l h e ∙ acted_is rule p P q q' F l alone

swapped_acts : (n : ℕ) (P : ℕ → Bool) (p q : ℕ) (ph : Phases) (rule : Rule) → rule.act ≡ Swaps
    → (F : Bits → Entry) (l : Bits) → length l ≡ n → total n (λ x. swapped_line P p q l x ⊗ F x) ≡ acted rule ph P (min p q) (max p q) F l
unfolding acted
swapped_acts n P p q ph rule swaps F l e =
    swapped_sum n P p q F l e ∙ cases (all_set P l)
  where
    cases : (b : Bool) → F (cond b (exchanged p q l) l)
        ≡ cond b (cond (does_mix rule.act) (mixed (min p q) F l)
        (cond (does_swap rule.act) (F (exchanged (min p q) (max p q) l)) (moved rule ph (min p q) F l))) (F l)
    cases true = rw swaps (ap F (exchanged_ordered p q l))
    cases false = refl

pub kind_alone : (k : Kind) → does_swap (kind_rule k).act ≡ false
kind_alone Z = refl
kind_alone S = refl
kind_alone S† = refl
kind_alone T = refl
kind_alone T† = refl
kind_alone X = refl
kind_alone Y = refl
kind_alone H = refl

pub pair_alone : (k : Pair) → does_swap (pair_rule k).act ≡ false
pair_alone CZ = refl
pair_alone CNOT = refl

-- a sum over a line of the gate's matrix, a row or a column, is the local rule with that side's phases
line_acts : (n : ℕ) (g : Gate) → Fits n g → (p : Phases) (line F : Bits → Entry) (l : Bits) → length l ≡ n
    → ((x : Bits) → length x ≡ n → line x ≡ line_of g p l x)
    → total n (λ x. line x ⊗ F x) ≡ acted (gate_rule g) p (controls g) (target g) (second g) F l
line_acts n g h p line F l e is_line = total_ext n _ _ (λ x k. ap (λ y. y ⊗ F x) (is_line x k)) ∙ acts g h
  where
    acts : (g : Gate) → Fits n g → total n (λ x. line_of g p l x ⊗ F x) ≡ acted (gate_rule g) p (controls g) (target g) (second g) F l
    acts (on k q) h = on_target_acts n (kind_rule k) p (λ i. false) q q (kind_alone k) h F l e
    acts (pair k p' q) h = on_target_acts n (pair_rule k) p (is p') q q (pair_alone k) h.1 F l e
    acts (toffoli mask q) h = on_target_acts n toffoli_rule p (in_mask mask) q q refl h.1 F l e
    acts (fredkin mask p' q) h = swapped_acts n (in_mask mask) p' q p fredkin_rule refl F l e

pub product_right : (n : ℕ) (g : Gate) → Fits n g → (M : Matrix) (r c : Bits) → length c ≡ n
    → product n M (matrix g) r c ≡ acted (gate_rule g) (gate_rule g).right (controls g) (target g) (second g) (M r) c
unfolding product
product_right n g h M r c e =
    ap (λ A. A r c) (product_transpose n M (matrix g))
    ∙ line_acts n g h (gate_rule g).right (λ x. matrix g x c) (M r) c e (λ x k. matrix_right n g h x c k e)

pub product_left : (n : ℕ) (g : Gate) → Fits n g → (M : Matrix) (r c : Bits) → length r ≡ n
    → product n (matrix g) M r c ≡ acted (gate_rule g) (gate_rule g).left (controls g) (target g) (second g) (λ x. M x c) r
unfolding product
product_left n g h M r c e = line_acts n g h (gate_rule g).left (matrix g r) (λ x. M x c) r e (λ x k. matrix_left n g h r x e)
