-- The product with a power of w8 goes round the eight numbers a, b, c, d, −a, −b, −c, −d. Assumes nothing.
use mathlib.Core.Path.{◌≡◌, refl, sym, ap, ◌∙◌}
use Prim.Native.Nat.{ℕ, zero, suc, ◌+◌, ◌*◌, ◌%◌, ◌/◌}
use native.Mathlib.Nat.{div-add-mod'}
use native.Mathlib.Numerals.{add-one, add-two, add-three}
use native.Mathlib.Omega.{arith}
use lib.IntN.{neg_ℤ-neg_ℤ}
use Rattle.algebra.specs.declared.Entry.{Entry}
use Rattle.algebra.specs.Entry.{entry, times_w8, turned}
use Rattle.algebra.specs.Numbers.{part}

module _ (x : Entry) where
  part_eight : (m : ℕ) → part x (suc (suc (suc (suc (suc (suc (suc (suc m)))))))) ≡ part x m
  part_eight m = neg_ℤ-neg_ℤ (part x m)

  part_rounds : (rounds m : ℕ) → part x (rounds * 8 + m) ≡ part x m
  part_rounds zero m = let none : 0 * 8 + m ≡ m = omega arith in ap (part x) none
  part_rounds (suc rounds) m =
      let one_more : suc rounds * 8 + m ≡ suc (suc (suc (suc (suc (suc (suc (suc (rounds * 8 + m)))))))) = omega arith in
      ap (part x) one_more ∙ part_eight (rounds * 8 + m) ∙ part_rounds rounds m

  pub part_at : (m : ℕ) {k : ℕ} → m % 8 ≡ k → part x k ≡ part x m
  part_at m e = ap (part x) (sym e) ∙ sym (part_rounds (m / 8) (m % 8)) ∙ ap (part x) (div-add-mod' m 8)

  -- places counted from j modulo 8 are those counted from j
  pub part_shift : (j k : ℕ) → part x (j % 8 + k) ≡ part x (j + k)
  part_shift j k =
      let same : j / 8 * 8 + (j % 8 + k) ≡ j + k = omega (arith, div-add-mod' j 8) in
      sym (part_rounds (j / 8) (j % 8 + k)) ∙ ap (part x) same

  turned_from : (j : ℕ) → turned j x ≡ entry (part x j) (part x (suc j)) (part x (suc (suc j))) (part x (suc (suc (suc j))))
  unfolding turned times_w8
  turned_from zero = refl
  turned_from (suc j) = ap times_w8 (turned_from j)

  pub turned_parts : (j : ℕ) → turned j x ≡ entry (part x j) (part x (j + 1)) (part x (j + 2)) (part x (j + 3))
  turned_parts j = turned_from j ∙ sym (simp (add-one, add-two, add-three))
