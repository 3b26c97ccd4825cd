-- Matrices: the laws of products, transposes, multiples and the identity, and matrices that are alike on n qubits.
-- Assumes nothing.
use mathlib.Core.Path.{◌≡◌, refl, sym, ◌∙◌, ap, ap₂, fun_ext, ◌≡⟨◌⟩◌, ◌∎}
use mathlib.Core.Bool.{cond}
use Prim.Native.Nat.{ℕ}
use lib.ListN.{length}
use Rattle.algebra.specs.declared.Entry.{Entry}
use Rattle.algebra.specs.Entry.{𝟘, 𝟙, ◌⊗◌}
use Rattle.algebra.specs.Matrix.{Bits, Matrix, total, product, same, identity}
use Rattle.algebra.proofs.Rings.{one_mul}
use Rattle.algebra.proofs.Entries.{entries, ⊗-assoc, ⊗-comm, cond-⊗}
use Rattle.algebra.proofs.Sums.{same_sym, total_ext, ⊗-total, total-⊗, total_swap, total_pick}

-- ---- equalities of matrices

abbrev pub transpose : Matrix → Matrix
transpose A r c = A c r

-- z times each entry
abbrev pub scaled : Entry → Matrix → Matrix
scaled z A r c = z ⊗ A r c

by_entries : {A B : Matrix} → ((r c : Bits) → A r c ≡ B r c) → A ≡ B
by_entries h = fun_ext (λ r. fun_ext (λ c. h r c))

-- what holds of products from the left holds from the right
pub product_transpose : (n : ℕ) (A B : Matrix) → product n A B ≡ transpose (product n (transpose B) (transpose A))
unfolding product
product_transpose n A B = by_entries (λ r c. total_ext n (λ m. A r m ⊗ B m c) (λ m. B m c ⊗ A r m) (λ m e. ⊗-comm (A r m) (B m c)))

pub product_assoc : (n : ℕ) (A B C : Matrix) → product n (product n A B) C ≡ product n A (product n B C)
unfolding product
product_assoc n A B C = by_entries (λ r c.
    total n (λ m. total n (λ k. A r k ⊗ B k m) ⊗ C m c) ≡⟨ total_ext n _ _ (λ m e. total-⊗ n (C m c) (λ k. A r k ⊗ B k m)) ⟩
    total n (λ m. total n (λ k. A r k ⊗ B k m ⊗ C m c)) ≡⟨ total_swap n n (λ m k. A r k ⊗ B k m ⊗ C m c) ⟩
    total n (λ k. total n (λ m. A r k ⊗ B k m ⊗ C m c)) ≡⟨ total_ext n _ _ (λ k e. total_ext n _ _ (λ m f. ⊗-assoc (A r k) (B k m) (C m c))) ⟩
    total n (λ k. total n (λ m. A r k ⊗ (B k m ⊗ C m c))) ≡⟨ total_ext n _ _ (λ k e. sym (⊗-total n (A r k) (λ m. B k m ⊗ C m c))) ⟩
    total n (λ k. A r k ⊗ total n (λ m. B k m ⊗ C m c)) ∎)

pub scaled_product : (n : ℕ) (z : Entry) (A B : Matrix) → product n (scaled z A) B ≡ scaled z (product n A B)
unfolding product
scaled_product n z A B = by_entries (λ r c.
    total n (λ m. z ⊗ A r m ⊗ B m c) ≡⟨ total_ext n _ _ (λ m e. ⊗-assoc z (A r m) (B m c)) ⟩
    total n (λ m. z ⊗ (A r m ⊗ B m c)) ≡⟨ sym (⊗-total n z (λ m. A r m ⊗ B m c)) ⟩
    z ⊗ total n (λ m. A r m ⊗ B m c) ∎)

pub product_scaled : (n : ℕ) (z : Entry) (A B : Matrix) → product n A (scaled z B) ≡ scaled z (product n A B)
product_scaled n z A B =
    product n A (scaled z B) ≡⟨ product_transpose n A (scaled z B) ⟩
    transpose (product n (scaled z (transpose B)) (transpose A)) ≡⟨ ap transpose (scaled_product n z (transpose B) (transpose A)) ⟩
    scaled z (transpose (product n (transpose B) (transpose A))) ≡⟨ ap (scaled z) (sym (product_transpose n A B)) ⟩
    scaled z (product n A B) ∎

pub scaled_scaled : (y z : Entry) (A : Matrix) → scaled y (scaled z A) ≡ scaled (y ⊗ z) A
scaled_scaled y z A = by_entries (λ r c. sym (⊗-assoc y z (A r c)))

pub identity_transpose : transpose identity ≡ identity
unfolding identity
identity_transpose = by_entries (λ r c. ap (λ b. cond b 𝟙 𝟘) (same_sym c r))

-- ---- matrices that are alike on n qubits

pub record Alike (n : ℕ) (A B : Matrix) : Type 0 where
  pub at : (r c : Bits) → length r ≡ n → length c ≡ n → A r c ≡ B r c

infix 3 ◌■
infixr 2 ◌≈⟨◌⟩◌
abbrev pub ◌≈⟨◌⟩◌ : (A : Matrix) {n : ℕ} {B C : Matrix} → Alike n A B → Alike n B C → Alike n A C
◌≈⟨◌⟩◌ A p q = record { at = λ r c e f. p.at r c e f ∙ q.at r c e f }

abbrev pub ◌■ : (A : Matrix) {n : ℕ} → Alike n A A
◌■ A = record { at = λ r c e f. refl }

pub alike_sym : {n : ℕ} {A B : Matrix} → Alike n A B → Alike n B A
alike_sym p = record { at = λ r c e f. sym (p.at r c e f) }

pub alike_of : {n : ℕ} {A B : Matrix} → A ≡ B → Alike n A B
alike_of p = record { at = λ r c e f. ap (λ A. A r c) p }

pub product_alike : (n : ℕ) {A A' B B' : Matrix} → Alike n A A' → Alike n B B' → Alike n (product n A B) (product n A' B')
unfolding product
product_alike n p q = record { at = λ r c e f. total_ext n _ _ (λ m h. ap₂ ◌⊗◌ (p.at r m e h) (q.at m c h f)) }

pub scaled_alike : {n : ℕ} (z : Entry) {A A' : Matrix} → Alike n A A' → Alike n (scaled z A) (scaled z A')
scaled_alike z p = record { at = λ r c e f. ap (◌⊗◌ z) (p.at r c e f) }

pub transpose_alike : {n : ℕ} {A B : Matrix} → Alike n A B → Alike n (transpose A) (transpose B)
transpose_alike p = record { at = λ r c e f. p.at c r f e }

pub identity_product : (n : ℕ) (A : Matrix) → Alike n (product n identity A) A
unfolding product identity
identity_product n A = record {
  at = λ r c e f.
      total n (λ m. cond (same r m) 𝟙 𝟘 ⊗ A m c) ≡⟨ total_ext n _ _ (λ m h. cond-⊗ (same r m) 𝟙 (A m c)) ⟩
      total n (λ m. cond (same r m) (𝟙 ⊗ A m c) 𝟘) ≡⟨ total_pick n r (λ m. 𝟙 ⊗ A m c) e ⟩
      𝟙 ⊗ A r c ≡⟨ one_mul entries (A r c) ⟩
      A r c ∎;
}

pub product_identity : (n : ℕ) (A : Matrix) → Alike n (product n A identity) A
product_identity n A =
    product n A identity ≈⟨ alike_of (product_transpose n A identity) ⟩
    transpose (product n (transpose identity) (transpose A)) ≈⟨ alike_of (ap (λ I. transpose (product n I (transpose A))) identity_transpose) ⟩
    transpose (product n identity (transpose A)) ≈⟨ transpose_alike (identity_product n (transpose A)) ⟩
    A ■

-- where A-as-B is z times the identity, A·(B-as-C) is z times C
pub product_absorb : (n : ℕ) (A B C : Matrix) (z : Entry) → Alike n (product n A B) (scaled z identity)
    → Alike n (product n A (product n B C)) (scaled z C)
product_absorb n A B C z h =
    product n A (product n B C) ≈⟨ alike_of (sym (product_assoc n A B C)) ⟩
    product n (product n A B) C ≈⟨ product_alike n h (C ■) ⟩
    product n (scaled z identity) C ≈⟨ alike_of (scaled_product n z identity C) ⟩
    scaled z (product n identity C) ≈⟨ scaled_alike z (identity_product n C) ⟩
    scaled z C ■
