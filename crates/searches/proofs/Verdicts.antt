-- What is sought from the root on comes to the verdict.
-- Assumes nothing.
use mathlib.Core.Path.{◌≡◌, refl, sym, ◌∙◌, ap, subst}
use mathlib.Core.Bool.{Bool, true, false, cond, not}
use mathlib.Core.List.{[], ◌∷◌}
use mathlib.Core.Option.{Option as Lowest, none, some}
use Prim.Native.Nat.{ℕ, zero, suc, ◌+◌, ◌*◌, ◌/◌, ◌^◌}
use native.Mathlib.Nat.{pow-suc}
use native.Mathlib.Omega.{arith}
use lib.ListN.{length}
use lib.Dec.{eqb}
use Rattle.algebra.specs.declared.Entry.{Entry}
use Rattle.algebra.specs.Entry.{𝟘}
use Rattle.algebra.specs.Matrix.{Bits, Matrix, same}
use Rattle.diagrams.specs.Diagram.{levels, place, rows, columns, same_entry}
use Rattle.diagrams.proofs.Places.{length_halves}
use Rattle.miters.specs.declared.Verdict.{Verdict}
use Rattle.miters.specs.declared.Verdict.TheVariants.{Equal, Different}
use Rattle.miters.specs.Miter.{corner}
use Rattle.miters.specs.Report.{number, forbids, lowest, verdict_by, verdict}
use Rattle.miters.proofs.Verdicts.{Searched, nowhere, least, lowest_searched, lowest_ext}
use Rattle.std.specs.Prelude.{Option, Some, None}
use Rattle.places.specs.declared.Place.{Place}
use Rattle.places.specs.declared.Task.{Task}
use Rattle.places.specs.Search.{onward, is_zero, allows, forbids_from, found_at, found_from, sought}
use Rattle.places.proofs.Blocks.{onward_eqb}

-- two answers that agree on none and on all bits of the right length agree on the lowest
at_lowest : {A : Type 0} (k : ℕ) (test : Bits → Bool) (f g : Lowest Bits → A) → f none ≡ g none
    → ((l : Bits) → length l ≡ k → f (some l) ≡ g (some l)) → f (lowest k test) ≡ g (lowest k test)
at_lowest k test f g without within = by_search (lowest k test) (lowest_searched k test)
  where
    by_search : (o : Lowest Bits) → Searched k test o → f o ≡ g o
    by_search o (nowhere clear) = without
    by_search o (least {l = l} low) = within l low.long

-- ---- the numbers of a place

onward_number : (x : ℕ) (l : Bits) → onward x l ≡ x * 2 ^ length l + number l
onward_number x [] = omega arith
onward_number x (true ∷ l) = omega (arith, onward_number (2 * x + 1) l, ap (λ (p : ℕ). x * p) (pow-suc 2 (length l)))
onward_number x (false ∷ l) = omega (arith, onward_number (2 * x) l, ap (λ (p : ℕ). x * p) (pow-suc 2 (length l)))

number_onward : (l : Bits) → onward 0 l ≡ number l
number_onward l = onward_number 0 l ∙ (omega arith)

halves_place : (n : ℕ) (l : Bits) → length l ≡ levels n → place (rows l) (columns l) ≡ l
halves_place zero [] e = refl
halves_place (suc n) [] e = absurd (omega arith)
halves_place zero (x ∷ []) e = absurd (omega arith)
halves_place (suc n) (x ∷ []) e = absurd (omega arith)
halves_place zero (x ∷ (y ∷ l)) e = absurd (omega arith)
halves_place (suc n) (x ∷ (y ∷ l)) e = ap (λ (m : Bits). x ∷ y ∷ m) (halves_place n l (omega arith))

-- ---- what is found from the root on

-- what is answered: the factor, or the place found with it
abbrev pub answered : (ℕ → Entry) → Entry → Option Place → Verdict
answered entry_of factor None = Equal factor
answered entry_of factor (Some place) =
    Different (record { row = place.row; column = place.column; entry = entry_of (place.value / 2); corner = factor })

-- f lands on references, and g gives their entries
module _ (n : ℕ) (task : Task) (entry_of : ℕ → Entry) (f : Bits → ℕ) (g : Bits → Entry) where
  abbrev M : Matrix
  M r c = g (place r c)

  -- the references tell the corner and zero from other entries
  pub record Tells (l : Bits) : Type 0 where
    pub entry_is : entry_of (f l / 2) ≡ g l
    pub tells_corner : eqb (f l) task.corner ≡ same_entry (g l) (corner n M)
    pub tells_zero : is_zero task.zero (f l) ≡ same_entry (g l) 𝟘

  pub sought_verdict : ((l : Bits) → length l ≡ levels n → Tells l)
      → answered entry_of (corner n M) (sought found_at task (levels n) f 0 0) ≡ verdict n M
  unfolding sought verdict
  sought_verdict tells =
      ap (λ (o : Lowest Bits). answered entry_of (corner n M) (found_from found_at f 0 0 o))
      (lowest_ext (levels n) (forbids_from task f 0 0) (forbids n M) forbids_same)
      ∙ at_lowest (levels n) (forbids n M) (λ o. answered entry_of (corner n M) (found_from found_at f 0 0 o)) (verdict_by n M) refl different
    where
      tested : (l : Bits) → Tells l → (t : Bool) → allows task t (f l) ≡ same_entry (g l) (cond t (corner n M) 𝟘)
      tested l tell true = tell.tells_corner
      tested l tell false = tell.tells_zero

      forbids_same : (l : Bits) → length l ≡ levels n → forbids_from task f 0 0 l ≡ forbids n M l
      forbids_same l e =
          let h = length_halves n l e in
          ap (λ (t : Bool). not (allows task t (f l))) (onward_eqb 0 0 (rows l) (columns l) (h.0 ∙ sym h.1))
          ∙ ap not (tested l (tells l e) (same (rows l) (columns l)))
          ∙ ap (λ (m : Bits). not (same_entry (g m) (cond (same (rows l) (columns l)) (corner n M) 𝟘))) (sym (halves_place n l e))

      different : (l : Bits) → length l ≡ levels n → answered entry_of (corner n M) (found_from found_at f 0 0 (some l)) ≡ verdict_by n M (some l)
      different l e = λ i. Different (record {
        row = number_onward (rows l) i;
        column = number_onward (columns l) i;
        entry = ((tells l e).entry_is ∙ ap g (sym (halves_place n l e))) i;
        corner = corner n M;
      })

-- what is found is one of the references that f lands on
pub sought_lands : (task : Task) (k : ℕ) (f : Bits → ℕ) (P : ℕ → Type 0) → ((l : Bits) → length l ≡ k → P (f l))
    → {place : Place} → sought found_at task k f 0 0 ≡ Some place → P place.value
unfolding sought
sought_lands task k f P lands {place} e = by_search (lowest k (forbids_from task f 0 0)) (lowest_searched k (forbids_from task f 0 0)) e
  where
    by_search : (o : Lowest Bits) → Searched k (forbids_from task f 0 0) o → found_from found_at f 0 0 o ≡ Some place → P place.value
    by_search o (nowhere clear) e = cc
    by_search o (least {l = l} low) e = let is : f l ≡ place.value = cc in subst P is (lands l low.long)
