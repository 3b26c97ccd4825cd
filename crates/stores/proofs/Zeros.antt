-- The first slot of an element, as a search from the first slot on meets it; and the reference of zero.
-- Assumes nothing.
use mathlib.Core.Path.{◌≡◌, refl, ◌∙◌, ap}
use mathlib.Core.Bool.{Bool, true, false}
use mathlib.Core.List.{List, [], ◌∷◌}
use Prim.Native.Nat.{ℕ, zero, suc, ◌*◌, ◌<◌, ◌≤◌}
use native.Mathlib.Omega.{arith}
use Rattle.std.proofs.Common.{Option, Some, None}
use Rattle.std.specs.Option.{MatchOption, IsSomeAnd}
use borrow.Author.Tests.{lt-ltb, le-ltb}
use lib.ListN.{length, get_or}
use Rattle.algebra.specs.declared.Entry.{Entry}
use Rattle.algebra.specs.Entry.{𝟘}
use Rattle.diagrams.specs.Diagram.{slot, same_entry}
use Rattle.stores.specs.Columns.{zero_ref}
use Rattle.uniques.specs.UniqueTable.{listed}
use Rattle.uniques.proofs.Chains.{length_listed, get_d_listed}

module _ {A : Type 0} (same : A → A → Bool) (x blank : A) where
  slot_met : (l : List A) (i : ℕ) → i < length l → same (get_or l i blank) x ≡ true
      → ((k : ℕ) → k < i → same (get_or l k blank) x ≡ false) → slot same x l ≡ i
  slot_met [] i below met before = absurd (omega arith)
  slot_met (y ∷ l) zero below met before = rw met
  slot_met (y ∷ l) (suc i) below met before =
      rw (before 0 (omega arith)) (ap suc (slot_met l i (omega arith) met (λ k less. before (suc k) (omega arith))))

  slot_missed : (l : List A) → ((k : ℕ) → k < length l → same (get_or l k blank) x ≡ false) → slot same x l ≡ length l
  slot_missed [] before = refl
  slot_missed (y ∷ l) before = rw (before 0 (omega arith)) (ap suc (slot_missed l (λ k less. before (suc k) (omega arith))))

module _ (used : ℕ) (at : ℕ → Entry) where
  zero_met : (j : ℕ) → j < used → same_entry (at j) 𝟘 ≡ true → ((k : ℕ) → k < j → same_entry (at k) 𝟘 ≡ false)
      → Some (2 * j) ≡ zero_ref (listed used at)
  zero_met j below met before =
      let here : slot same_entry 𝟘 (listed used at) ≡ j = slot_met same_entry 𝟘 𝟘 (listed used at) j (omega (arith, length_listed used at))
      (rw (get_d_listed used at 𝟘 j below) met) (λ k less. rw (get_d_listed used at 𝟘 k (omega arith)) (before k less)) in
      rw (here, lt-ltb j (length (listed used at)) (omega (arith, length_listed used at)))

  zero_missed : ((k : ℕ) → k < used → same_entry (at k) 𝟘 ≡ false) → None ≡ zero_ref (listed used at)
  zero_missed before =
      let nowhere : slot same_entry 𝟘 (listed used at) ≡ length (listed used at) = slot_missed same_entry 𝟘 𝟘 (listed used at)
      (λ k less. let less : k < used = omega (arith, length_listed used at) in rw (get_d_listed used at 𝟘 k less) (before k less)) in
      rw (nowhere, le-ltb (length (listed used at)) (length (listed used at)) (omega arith))

  -- what a search for it over the numbers of the slots answers, made a reference
  pub zero_found : {P : ℕ → ℕ → Type 0} (o r : Option ℕ)
      → MatchOption o ((k : ℕ) → 0 ≤ k → k < used → same_entry (at k) 𝟘 ≡ false)
      (λ j. (0 ≤ j) × (j < used) × (same_entry (at j) 𝟘 ≡ true) × ((k : ℕ) → 0 ≤ k → k < j → same_entry (at k) 𝟘 ≡ false))
      → MatchOption o (r ≡ None) (λ j. IsSomeAnd r (P j)) → ((j x : ℕ) → P j x → x ≡ 2 * j) → r ≡ zero_ref (listed used at)
  zero_found None r before none is = none ∙ zero_missed (λ k less. before k (omega arith) less)
  zero_found (Some j) None at_j some is = absurd some
  zero_found (Some j) (Some x) at_j some is =
      ap Some (is j x some) ∙ zero_met j at_j.1 at_j.2 (λ k less. at_j.3 k (omega arith) less)
