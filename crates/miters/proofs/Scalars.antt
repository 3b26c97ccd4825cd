-- Two lists are equal just where their miter is scalar; then its corner is the factor, and no other number is one.
-- Assumes nothing.
use mathlib.Core.Path.{◌≡◌, refl, sym, ◌∙◌, ap, ◌≡⟨◌⟩◌, ◌∎}
use mathlib.Core.Bool.{Bool, true, false, cond}
use mathlib.Core.Logic.{◌↔◌}
use mathlib.Core.List.{List, [], ◌∷◌}
use Prim.Native.Nat.{ℕ, ◌+◌}
use native.Mathlib.Nat.{add_comm}
use native.Mathlib.Omega.{arith}
use lib.ListN.{length, replicate, length-replicate}
use Rattle.algebra.specs.declared.Entry.{Entry}
use Rattle.algebra.specs.Entry.{𝟘, 𝟙, ◌⊗◌, √2^}
use Rattle.algebra.specs.Matrix.{Bits, Matrix, product, same, identity}
use Rattle.algebra.proofs.Rings.{mul_zero, one_mul, mul_lcomm}
use Rattle.algebra.proofs.Entries.{entries, ⊗-assoc, ⊗-comm, ⊗-one, one_not_zero, √2^_add, √2^_zero, √2^_cancel}
use Rattle.algebra.proofs.Sums.{same_refl, same_sound, total_ext}
use Rattle.algebra.proofs.Matrices.{scaled, product_assoc, scaled_product, product_scaled, scaled_scaled, product_absorb}
use Rattle.algebra.proofs.Matrices.{Alike, ◌≈⟨◌⟩◌, ◌■, alike_sym, alike_of, product_alike, scaled_alike, identity_product, product_identity}
use Rattle.gates.specs.Gate.{Gate, matrix, inverse, halves, AllFit}
use Rattle.gates.proofs.Inverses.{gate_inverse, inverse_gate}
use Rattle.miters.specs.Miter.{list_matrix, exponent, Over, start, left, right, stepped, in_turn, miter, corner, Turns, Equal, Scalar}
use Rattle.miters.proofs.LeastForms.{multiplied}
use Rattle.miters.proofs.Schedules.{undivided, undivided_power, miter_raised}

-- ---- inverses up to a power of √2

-- A times B is √2 to the power k times the identity
abbrev pub Inverses : ℕ → Matrix → Matrix → ℕ → Type 0
Inverses n A B k = Alike n (product n A B) (scaled (√2^ k) identity)

inverses_product : (n : ℕ) (A B C D : Matrix) (j k : ℕ) → Inverses n A B j → Inverses n C D k → Inverses n (product n A C) (product n D B) (j + k)
inverses_product n A B C D j k p q =
    product n (product n A C) (product n D B) ≈⟨ alike_of (product_assoc n A C (product n D B)) ⟩
    product n A (product n C (product n D B)) ≈⟨ product_alike n (A ■) (product_absorb n C D B (√2^ k) q) ⟩
    product n A (scaled (√2^ k) B) ≈⟨ alike_of (product_scaled n (√2^ k) A B) ⟩
    scaled (√2^ k) (product n A B) ≈⟨ scaled_alike (√2^ k) p ⟩
    scaled (√2^ k) (scaled (√2^ j) identity) ≈⟨ alike_of (scaled_scaled (√2^ k) (√2^ j) identity) ⟩
    scaled (√2^ k ⊗ √2^ j) identity ≈⟨ alike_of (ap (λ z. scaled z identity) (⊗-comm (√2^ k) (√2^ j) ∙ √2^_add j k)) ⟩
    scaled (√2^ (j + k)) identity ■

identity_inverses : (n : ℕ) → Inverses n identity identity 0
unfolding √2^
identity_inverses n =
    product n identity identity ≈⟨ identity_product n identity ⟩
    identity ≈⟨ record { at = λ r c e f. sym (one_mul entries (identity r c)) } ⟩
    scaled 𝟙 identity ■

-- the product of the inverses of a list's gates, its first gate's leftmost
unfoldable pub list_inverse : ℕ → List Gate → Matrix
list_inverse n [] = identity
list_inverse n (g ∷ gs) = product n (matrix (inverse g)) (list_inverse n gs)

doubled : (a b : ℕ) → (a + b) + (a + b) ≡ (a + a) + (b + b)
doubled a b = omega arith

list_times_inverse : (n : ℕ) (gs : List Gate) → AllFit n gs → Inverses n (list_matrix n gs) (list_inverse n gs) (exponent gs + exponent gs)
unfolding list_matrix list_inverse
list_times_inverse n [] h = identity_inverses n
list_times_inverse n (g ∷ gs) h =
    rw (doubled (halves g) (exponent gs), add_comm (halves g + halves g) (exponent gs + exponent gs))
    (inverses_product n _ _ _ _ _ _ (list_times_inverse n gs h.1) (gate_inverse n g h.0))

pub inverse_times_list : (n : ℕ) (gs : List Gate) → AllFit n gs → Inverses n (list_inverse n gs) (list_matrix n gs) (exponent gs + exponent gs)
unfolding list_matrix list_inverse
inverse_times_list n [] h = identity_inverses n
inverse_times_list n (g ∷ gs) h =
    rw (doubled (halves g) (exponent gs)) (inverses_product n _ _ _ _ _ _ (inverse_gate n g h.0) (inverse_times_list n gs h.1))

-- ---- the undivided product is U's matrix times V's inverse

multiplied_in_turn : (n : ℕ) (us vs : List Gate) (M : Over)
    → Alike n (multiplied n (in_turn us vs) M).entries (product n (product n (list_matrix n us) M.entries) (list_inverse n vs))
unfolding list_matrix list_inverse stepped
multiplied_in_turn n [] [] M =
    M.entries ≈⟨ alike_sym (identity_product n M.entries) ⟩
    product n identity M.entries ≈⟨ alike_sym (product_identity n (product n identity M.entries)) ⟩
    product n (product n identity M.entries) identity ■
multiplied_in_turn n [] (v ∷ vs) M =
    (multiplied n (in_turn [] vs) (stepped n (right (inverse v)) M)).entries ≈⟨ multiplied_in_turn n [] vs (stepped n (right (inverse v)) M) ⟩
    product n (product n identity (product n M.entries N)) I ≈⟨ alike_of (ap (λ A. product n A I) (sym (product_assoc n identity M.entries N))) ⟩
    product n (product n (product n identity M.entries) N) I ≈⟨ alike_of (product_assoc n (product n identity M.entries) N I) ⟩
    product n (product n identity M.entries) (product n N I) ■
  where
    N : Matrix
    N = matrix (inverse v)

    I : Matrix
    I = list_inverse n vs
multiplied_in_turn n (u ∷ us) vs M =
    (multiplied n (in_turn us vs) (stepped n (left u) M)).entries ≈⟨ multiplied_in_turn n us vs (stepped n (left u) M) ⟩
    product n (product n (list_matrix n us) (product n (matrix u) M.entries)) I
    ≈⟨ alike_of (ap (λ A. product n A I) (sym (product_assoc n (list_matrix n us) (matrix u) M.entries))) ⟩
    product n (product n (product n (list_matrix n us) (matrix u)) M.entries) I ■
  where
    I : Matrix
    I = list_inverse n vs

undivided_is : (n : ℕ) (us vs : List Gate) → Alike n (undivided n us vs).entries (product n (list_matrix n us) (list_inverse n vs))
unfolding undivided start
undivided_is n us vs =
    (multiplied n (in_turn us vs) start).entries ≈⟨ multiplied_in_turn n us vs start ⟩
    product n (product n (list_matrix n us) identity) (list_inverse n vs)
    ≈⟨ product_alike n (product_identity n (list_matrix n us)) (list_inverse n vs ■) ⟩
    product n (list_matrix n us) (list_inverse n vs) ■

identity_at : (r c : Bits) (b : Bool) → same r c ≡ b → identity r c ≡ cond b 𝟙 𝟘
unfolding identity
identity_at r c b e = ap (λ x. cond x 𝟙 𝟘) e

module _ (n : ℕ) (us vs : List Gate) where
  abbrev W : Matrix
  W = (undivided n us vs).entries

  abbrev Us : Matrix
  Us = list_matrix n us

  abbrev Vs : Matrix
  Vs = list_matrix n vs

  abbrev I : Matrix
  I = list_inverse n vs

  -- V's matrix times its inverse is that much
  abbrev twice : Entry
  twice = √2^ (exponent vs + exponent vs)

  -- ---- from a number that turns V's matrix into U's

  module _ (fit : AllFit n vs) (z : Entry) (e : ℕ) (turns : Turns n us vs z e) where
    abbrev number : Entry
    number = √2^ (exponent us) ⊗ z

    abbrev over : Entry
    over = √2^ (e + exponent vs)

    undivided_multiple : Alike n (scaled over W) (scaled (number ⊗ twice) identity)
    undivided_multiple =
        scaled over W ≈⟨ scaled_alike over (undivided_is n us vs) ⟩
        scaled over (product n Us I) ≈⟨ alike_of (sym (scaled_product n over Us I)) ⟩
        product n (scaled over Us) I ≈⟨ product_alike n (alike_sym given) (I ■) ⟩
        product n (scaled number Vs) I ≈⟨ alike_of (scaled_product n number Vs I) ⟩
        scaled number (product n Vs I) ≈⟨ scaled_alike number (list_times_inverse n vs fit) ⟩
        scaled number (scaled twice identity) ≈⟨ alike_of (scaled_scaled number twice identity) ⟩
        scaled (number ⊗ twice) identity ■
      where
        given : Alike n (scaled number Vs) (scaled over Us)
        given = record { at = λ r c h k. ⊗-assoc (√2^ (exponent us)) z (Vs r c) ∙ turns r c h k }

    diagonal : (r : Bits) → length r ≡ n → over ⊗ W r r ≡ number ⊗ twice
    diagonal r h = undivided_multiple.at r r h h ∙ ap (◌⊗◌ (number ⊗ twice)) (identity_at r r true (same_refl r)) ∙ ⊗-one (number ⊗ twice)

    turns_undivided : Scalar n (undivided n us vs).entries
    turns_undivided = record {
      off = λ r c h k apart. √2^_zero (e + exponent vs) (W r c)
          (undivided_multiple.at r c h k ∙ ap (◌⊗◌ (number ⊗ twice)) (identity_at r c false apart) ∙ mul_zero entries (number ⊗ twice));
      alike = λ r c h k. √2^_cancel (e + exponent vs) (W r r) (W c c) (diagonal r h ∙ sym (diagonal c k));
    }

    -- no other number than its corner over √2 to the number of H gates does it
    turns_undivided_unique : z ⊗ √2^ (exponent us + exponent vs) ≡ corner n (undivided n us vs).entries ⊗ √2^ e
    turns_undivided_unique = √2^_cancel (exponent vs) _ _ (
        √2^ (exponent vs) ⊗ (z ⊗ √2^ (exponent us + exponent vs)) ≡⟨ (simp (← √2^_add, ⊗-assoc, ⊗-comm, mul_lcomm entries)) ⟩
        number ⊗ twice ≡⟨ sym (diagonal (replicate n false) (length-replicate n false)) ⟩
        over ⊗ corner n W ≡⟨ (simp (← √2^_add, ⊗-assoc, ⊗-comm, mul_lcomm entries)) ⟩
        √2^ (exponent vs) ⊗ (corner n W ⊗ √2^ e) ∎)

  -- ---- from a scalar product

  module _ (fit : AllFit n vs) (scalar : Scalar n (undivided n us vs).entries) where
    abbrev factor : Entry
    factor = corner n W

    scalar_is : Alike n W (scaled factor identity)
    scalar_is = record { at = λ r c h k. by_same r c (same r c) refl h k }
      where
        by_same : (r c : Bits) (b : Bool) → same r c ≡ b → length r ≡ n → length c ≡ n → W r c ≡ factor ⊗ identity r c
        by_same r c true e h k =
            W r c ≡⟨ ap (W r) (sym (same_sound r c e)) ∙ scalar.alike r (replicate n false) h (length-replicate n false) ⟩
            factor ≡⟨ sym (⊗-one factor) ∙ ap (◌⊗◌ factor) (sym (identity_at r c true e)) ⟩
            factor ⊗ identity r c ∎
        by_same r c false e h k = scalar.off r c h k e ∙ sym (mul_zero entries factor) ∙ ap (◌⊗◌ factor) (sym (identity_at r c false e))

    factor_times : Alike n (scaled factor Vs) (scaled twice Us)
    factor_times =
        scaled factor Vs ≈⟨ scaled_alike factor (alike_sym (identity_product n Vs)) ⟩
        scaled factor (product n identity Vs) ≈⟨ alike_of (sym (scaled_product n factor identity Vs)) ⟩
        product n (scaled factor identity) Vs ≈⟨ product_alike n (alike_sym scalar_is) (Vs ■) ⟩
        product n W Vs ≈⟨ product_alike n (undivided_is n us vs) (Vs ■) ⟩
        product n (product n Us I) Vs ≈⟨ alike_of (product_assoc n Us I Vs) ⟩
        product n Us (product n I Vs) ≈⟨ product_alike n (Us ■) (inverse_times_list n vs fit) ⟩
        product n Us (scaled twice identity) ≈⟨ alike_of (product_scaled n twice Us identity) ⟩
        scaled twice (product n Us identity) ≈⟨ scaled_alike twice (product_identity n Us) ⟩
        scaled twice Us ■

    -- its corner over √2 to the number of H gates turns V's matrix into U's
    undivided_turns : Turns n us vs (corner n (undivided n us vs).entries) (exponent us + exponent vs)
    undivided_turns r c h k =
        √2^ (exponent us) ⊗ (factor ⊗ Vs r c) ≡⟨ ap (◌⊗◌ (√2^ (exponent us))) (factor_times.at r c h k) ⟩
        √2^ (exponent us) ⊗ (twice ⊗ Us r c) ≡⟨ (simp (← √2^_add, ⊗-assoc)) ⟩
        √2^ (exponent us + exponent vs + exponent vs) ⊗ Us r c ∎

-- ---- the miter, which is the product over its least exponent

module _ (n : ℕ) (us vs : List Gate) where
  abbrev M : Over
  M = miter n us vs

  -- the power of √2 that the product is raised by
  abbrev more : ℕ
  more = (miter_raised n us vs).by

  raised_at : (r c : Bits) → length r ≡ n → length c ≡ n → (undivided n us vs).entries r c ≡ √2^ more ⊗ M.entries r c
  raised_at = (miter_raised n us vs).entries.at

  corner_at : corner n (undivided n us vs).entries ≡ √2^ more ⊗ corner n M.entries
  corner_at = raised_at (replicate n false) (replicate n false) (length-replicate n false) (length-replicate n false)

  power_is : exponent us + exponent vs ≡ more + M.power
  power_is = sym (undivided_power n us vs) ∙ (miter_raised n us vs).power

  scalar_lowered : Scalar n (undivided n us vs).entries → Scalar n M.entries
  scalar_lowered h = record {
    off = λ r c p q apart. √2^_zero more (M.entries r c) (sym (raised_at r c p q) ∙ h.off r c p q apart);
    alike = λ r c p q. √2^_cancel more (M.entries r r) (M.entries c c) (sym (raised_at r r p p) ∙ h.alike r c p q ∙ raised_at c c q q);
  }

  scalar_raised : Scalar n M.entries → Scalar n (undivided n us vs).entries
  scalar_raised h = record {
    off = λ r c p q apart. raised_at r c p q ∙ ap (◌⊗◌ (√2^ more)) (h.off r c p q apart) ∙ mul_zero entries (√2^ more);
    alike = λ r c p q. raised_at r r p p ∙ ap (◌⊗◌ (√2^ more)) (h.alike r c p q) ∙ sym (raised_at c c q q);
  }

  module _ (fit : AllFit n vs) where
    -- the corner over √2 to the miter's exponent turns V's matrix into U's
    pub scalar_turns : Scalar n (miter n us vs).entries → Turns n us vs (corner n (miter n us vs).entries) (miter n us vs).power
    scalar_turns scalar r c h k = √2^_cancel more _ _ (
        √2^ more ⊗ (√2^ (exponent us) ⊗ (z ⊗ Vrc)) ≡⟨ (simp (⊗-assoc, ⊗-comm, mul_lcomm entries)) ⟩
        √2^ (exponent us) ⊗ ((√2^ more ⊗ z) ⊗ Vrc) ≡⟨ ap (λ y. √2^ (exponent us) ⊗ (y ⊗ Vrc)) (sym corner_at) ⟩
        √2^ (exponent us) ⊗ (corner n (undivided n us vs).entries ⊗ Vrc) ≡⟨ undivided_turns n us vs fit (scalar_raised scalar) r c h k ⟩
        √2^ (exponent us + exponent vs + exponent vs) ⊗ Urc ≡⟨ ap (λ (e : ℕ). √2^ (e + exponent vs) ⊗ Urc) power_is ⟩
        √2^ (more + M.power + exponent vs) ⊗ Urc ≡⟨ (simp (← √2^_add, ⊗-assoc)) ⟩
        √2^ more ⊗ (√2^ M.power ⊗ (√2^ (exponent vs) ⊗ Urc)) ≡⟨ (simp (← √2^_add, ⊗-assoc)) ⟩
        √2^ more ⊗ (√2^ (M.power + exponent vs) ⊗ Urc) ∎)
      where
        z : Entry
        z = corner n M.entries

        Vrc : Entry
        Vrc = list_matrix n vs r c

        Urc : Entry
        Urc = list_matrix n us r c

    -- no other number does it
    pub turns_unique : (z : Entry) (e : ℕ) → Turns n us vs z e → z ⊗ √2^ (miter n us vs).power ≡ corner n (miter n us vs).entries ⊗ √2^ e
    turns_unique z e turns = √2^_cancel more _ _ (
        √2^ more ⊗ (z ⊗ √2^ M.power) ≡⟨ mul_lcomm entries (√2^ more) z (√2^ M.power) ⟩
        z ⊗ (√2^ more ⊗ √2^ M.power) ≡⟨ ap (◌⊗◌ z) (√2^_add more M.power ∙ ap √2^ (sym power_is)) ⟩
        z ⊗ √2^ (exponent us + exponent vs) ≡⟨ turns_undivided_unique n us vs fit z e turns ⟩
        corner n (undivided n us vs).entries ⊗ √2^ e ≡⟨ ap (λ y. y ⊗ √2^ e) corner_at ∙ ⊗-assoc (√2^ more) (corner n M.entries) (√2^ e) ⟩
        √2^ more ⊗ (corner n M.entries ⊗ √2^ e) ∎)

    pub equal_iff_scalar : Equal n us vs ↔ Scalar n (miter n us vs).entries
    equal_iff_scalar = (
      λ equal. scalar_lowered (turns_undivided n us vs fit equal.factor equal.over equal.turns),
      λ scalar. record { factor = corner n (miter n us vs).entries; over = (miter n us vs).power; turns = scalar_turns scalar },
    )

-- ---- no two rows of a miter are alike

-- the product of the lists exchanged undoes it
undivided_inverses : (n : ℕ) (us vs : List Gate) → AllFit n us → AllFit n vs
    → Inverses n (undivided n us vs).entries (undivided n vs us).entries (exponent us + exponent us + (exponent vs + exponent vs))
undivided_inverses n us vs hu hv =
    product n (undivided n us vs).entries (undivided n vs us).entries ≈⟨ product_alike n (undivided_is n us vs) (undivided_is n vs us) ⟩
    product n (product n (list_matrix n us) (list_inverse n vs)) (product n (list_matrix n vs) (list_inverse n us))
    ≈⟨ inverses_product n _ _ _ _ _ _ (list_times_inverse n us hu) (inverse_times_list n vs hv) ⟩
    scaled (√2^ (exponent us + exponent us + (exponent vs + exponent vs))) identity ■

rows_alike : (n : ℕ) (A B : Matrix) (r s c : Bits) → ((m : Bits) → length m ≡ n → A r m ≡ A s m) → product n A B r c ≡ product n A B s c
unfolding product
rows_alike n A B r s c h = total_ext n _ _ (λ m e. ap (λ x. x ⊗ B m c) (h m e))

undivided_rows_differ : (n : ℕ) (us vs : List Gate) → AllFit n us → AllFit n vs → (r s : Bits) → length r ≡ n → length s ≡ n → same r s ≡ false
    → ((m : Bits) → length m ≡ n → (undivided n us vs).entries r m ≡ (undivided n us vs).entries s m) → ⊥
undivided_rows_differ n us vs hu hv r s e f apart h = one_not_zero (√2^_zero k 𝟙 (
    √2^ k ⊗ 𝟙 ≡⟨ ap (◌⊗◌ (√2^ k)) (sym (identity_at s s true (same_refl s))) ∙ sym (undone.at s s f f) ⟩
    product n A B s s ≡⟨ sym (rows_alike n A B r s s h) ⟩
    product n A B r s ≡⟨ undone.at r s e f ∙ ap (◌⊗◌ (√2^ k)) (identity_at r s false apart) ⟩
    √2^ k ⊗ 𝟘 ≡⟨ mul_zero entries (√2^ k) ⟩
    𝟘 ∎))
  where
    A : Matrix
    A = (undivided n us vs).entries

    B : Matrix
    B = (undivided n vs us).entries

    k : ℕ
    k = exponent us + exponent us + (exponent vs + exponent vs)

    undone : Inverses n A B k
    undone = undivided_inverses n us vs hu hv

pub rows_differ : (n : ℕ) (us vs : List Gate) → AllFit n us → AllFit n vs → (r s : Bits) → length r ≡ n → length s ≡ n → same r s ≡ false
    → ((m : Bits) → length m ≡ n → (miter n us vs).entries r m ≡ (miter n us vs).entries s m) → ⊥
rows_differ n us vs hu hv r s e f apart h = undivided_rows_differ n us vs hu hv r s e f apart
    (λ m k. raised_at n us vs r m e k ∙ ap (◌⊗◌ (√2^ (more n us vs))) (h m k) ∙ sym (raised_at n us vs s m f k))
