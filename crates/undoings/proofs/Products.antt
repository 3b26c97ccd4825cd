-- The matrix of a list followed by its inverse is a power of 2 times the identity: √2 twice for each H.
-- Assumes nothing.
use mathlib.Core.Path.{◌≡◌, refl, sym, ◌∙◌, ap}
use mathlib.Core.List.{List, [], ◌∷◌, ◌++◌}
use Prim.Native.Nat.{ℕ, ◌+◌}
use native.Mathlib.Omega.{arith}
use Rattle.algebra.specs.Entry.{𝟙, ◌⊗◌, √2^}
use Rattle.algebra.specs.Matrix.{product, identity}
use Rattle.algebra.proofs.Rings.{one_mul}
use Rattle.algebra.proofs.Entries.{entries}
use Rattle.algebra.proofs.Matrices.{scaled, product_assoc}
use Rattle.algebra.proofs.Matrices.{Alike, ◌≈⟨◌⟩◌, ◌■, alike_sym, alike_of, product_alike, identity_product, product_identity}
use Rattle.gates.specs.Gate.{Gate, matrix, inverse, AllFit}
use Rattle.gates.proofs.Inverses.{inverse_halves}
use Rattle.miters.specs.Miter.{list_matrix, exponent, Equal}
use Rattle.miters.proofs.Scalars.{list_inverse, inverse_times_list}
use Rattle.inverses.specs.Inverse.{undone}

-- ---- exponents

exponent_append : (gs hs : List Gate) → exponent (gs ++ hs) ≡ exponent gs + exponent hs
exponent_append [] hs = omega arith
exponent_append (g ∷ gs) hs = omega (arith, exponent_append gs hs)

exponent_undone : (gs : List Gate) → exponent (undone gs) ≡ exponent gs
exponent_undone [] = refl
exponent_undone (g ∷ gs) = omega (arith, exponent_append (undone gs) (inverse g ∷ []), exponent_undone gs, inverse_halves g)

exponent_twice : (gs : List Gate) → exponent (gs ++ undone gs) ≡ exponent gs + exponent gs
exponent_twice gs = omega (arith, exponent_append gs (undone gs), exponent_undone gs)

-- ---- matrices

module _ (n : ℕ) where
  -- the later gates are leftmost
  list_matrix_append : (gs hs : List Gate) → Alike n (list_matrix n (gs ++ hs)) (product n (list_matrix n hs) (list_matrix n gs))
  unfolding list_matrix
  list_matrix_append [] hs = alike_sym (product_identity n (list_matrix n hs))
  list_matrix_append (g ∷ gs) hs =
      product n (list_matrix n (gs ++ hs)) (matrix g) ≈⟨ product_alike n (list_matrix_append gs hs) (matrix g ■) ⟩
      product n (product n (list_matrix n hs) (list_matrix n gs)) (matrix g)
      ≈⟨ alike_of (product_assoc n (list_matrix n hs) (list_matrix n gs) (matrix g)) ⟩
      product n (list_matrix n hs) (product n (list_matrix n gs) (matrix g)) ■

  undone_matrix : (gs : List Gate) → Alike n (list_matrix n (undone gs)) (list_inverse n gs)
  unfolding list_matrix list_inverse
  undone_matrix [] = identity ■
  undone_matrix (g ∷ gs) =
      list_matrix n (undone gs ++ (inverse g ∷ [])) ≈⟨ list_matrix_append (undone gs) (inverse g ∷ []) ⟩
      product n (product n identity (matrix (inverse g))) (list_matrix n (undone gs))
      ≈⟨ product_alike n (identity_product n (matrix (inverse g))) (undone_matrix gs) ⟩
      product n (matrix (inverse g)) (list_inverse n gs) ■

  followed_matrix : (gs : List Gate) → AllFit n gs → Alike n (list_matrix n (gs ++ undone gs)) (scaled (√2^ (exponent gs + exponent gs)) identity)
  followed_matrix gs fit =
      list_matrix n (gs ++ undone gs) ≈⟨ list_matrix_append gs (undone gs) ⟩
      product n (list_matrix n (undone gs)) (list_matrix n gs) ≈⟨ product_alike n (undone_matrix gs) (list_matrix n gs ■) ⟩
      product n (list_inverse n gs) (list_matrix n gs) ≈⟨ inverse_times_list n gs fit ⟩
      scaled (√2^ (exponent gs + exponent gs)) identity ■

  -- the number 1 turns the identity into it
  pub followed_equal : (gs : List Gate) → AllFit n gs → Equal n (gs ++ undone gs) []
  unfolding list_matrix √2^
  followed_equal gs fit = record {
    factor = 𝟙;
    over = 0;
    turns = λ r c h k.
        ap (λ (e : ℕ). √2^ e ⊗ (𝟙 ⊗ identity r c)) (exponent_twice gs)
        ∙ ap (◌⊗◌ (√2^ (exponent gs + exponent gs))) (one_mul entries (identity r c))
        ∙ sym ((followed_matrix gs fit).at r c h k)
        ∙ sym (one_mul entries (list_matrix n (gs ++ undone gs) r c));
  }
