-- What is sought from a place on: one bit at a time, and where there is nothing.
-- Assumes nothing.
use mathlib.Core.Path.{◌≡◌, refl, sym, ◌∙◌, ap, ap₂, fun_ext, ◌≡⟨◌⟩◌, ◌∎}
use mathlib.Core.Bool.{Bool, true, false, cond, not, ◌&&◌, beq, and-true, and-false, and_assoc}
use mathlib.Core.List.{[], ◌∷◌}
use mathlib.Core.Option.{Option as Lowest, none, some}
use Prim.Native.Nat.{ℕ, zero, suc, ◌+◌, ◌*◌}
use native.Mathlib.Omega.{arith}
use lib.ListN.{length}
use lib.Dec.{eqb}
use borrow.Author.Tests.{eqb-true, eqb-false, eq-eqb, ne_eqb}
use Rattle.algebra.specs.Matrix.{Bits, same}
use Rattle.diagrams.specs.Diagram.{levels, rows, columns}
use Rattle.diagrams.proofs.Places.{length_halves}
use Rattle.miters.specs.Report.{first_found, lowest}
use Rattle.miters.proofs.Verdicts.{lowest_ext}
use Rattle.std.specs.Prelude.{Option, Some, None}
use Rattle.places.specs.declared.Place.{Place}
use Rattle.places.specs.declared.Task.{Task}
use Rattle.places.specs.Search.{onward, is_zero, allows, forbids_from, found_at, found_from, sought}

-- ---- the lowest bits that pass a test

lowest_never : (k : ℕ) → lowest k (λ l. false) ≡ none
lowest_never zero = refl
lowest_never (suc k) = ap₂ first_found (lowest_never k) (lowest_never k)

-- ---- numbers bit by bit

pub eqb_iff : (m n i j : ℕ) → (m ≡ n → i ≡ j) → (i ≡ j → m ≡ n) → eqb m n ≡ eqb i j
eqb_iff m n i j to from = by_test (eqb i j) refl
  where
    by_test : (t : Bool) → eqb i j ≡ t → eqb m n ≡ t
    by_test true e = eq-eqb m n (from (eqb-true i j e))
    by_test false e = ne_eqb m n (λ p. eqb-false i j e (to p))

-- two numbers with one more bit each are equal exactly if the numbers and the bits are
eqb_onward : (x y : ℕ) (a b : Bool) → eqb (cond a (2 * x + 1) (2 * x)) (cond b (2 * y + 1) (2 * y)) ≡ (eqb x y && beq a b)
eqb_onward x y true true = eqb_iff (2 * x + 1) (2 * y + 1) x y (λ e. omega arith) (λ e. omega arith) ∙ sym (and-true (eqb x y))
eqb_onward x y true false = ne_eqb (2 * x + 1) (2 * y) (λ e. omega arith) ∙ sym (and-false (eqb x y))
eqb_onward x y false true = ne_eqb (2 * x) (2 * y + 1) (λ e. omega arith) ∙ sym (and-false (eqb x y))
eqb_onward x y false false = eqb_iff (2 * x) (2 * y) x y (λ e. omega arith) (λ e. omega arith) ∙ sym (and-true (eqb x y))

pub onward_eqb : (x y : ℕ) (r c : Bits) → length r ≡ length c → eqb (onward x r) (onward y c) ≡ (eqb x y && same r c)
onward_eqb x y [] [] e = sym (and-true (eqb x y))
onward_eqb x y [] (b ∷ c) e = absurd (omega arith)
onward_eqb x y (a ∷ r) [] e = absurd (omega arith)
onward_eqb x y (a ∷ r) (b ∷ c) e =
    eqb (onward x' r) (onward y' c) ≡⟨ onward_eqb x' y' r c (omega arith) ⟩
    (eqb x' y' && same r c) ≡⟨ ap (λ (t : Bool). t && same r c) (eqb_onward x y a b) ⟩
    (eqb x y && beq a b && same r c) ≡⟨ and_assoc (eqb x y) (beq a b) (same r c) ⟩
    (eqb x y && (beq a b && same r c)) ∎
  where
    x' : ℕ
    x' = cond a (2 * x + 1) (2 * x)

    y' : ℕ
    y' = cond b (2 * y + 1) (2 * y)

-- ---- one bit

-- the bits after a first one change places
halves_cons : (b : Bool) (l : Bits) → (rows (b ∷ l) ≡ b ∷ columns l) × (columns (b ∷ l) ≡ rows l)
halves_cons b [] = (refl, refl)
halves_cons b (c ∷ l) = let h = halves_cons c l in (ap (λ (m : Bits). b ∷ m) (sym h.1), sym h.0)

-- what is found first
abbrev pub first_of : Option Place → Option Place → Option Place
first_of None other = other
first_of (Some place) other = Some place

-- a place that is found ends the search
abbrev pub Ends : (ℕ → ℕ → ℕ → Option Place) → Type 0
Ends at = (x y v : ℕ) (other : Option Place) → first_of (at x y v) other ≡ at x y v

module _ (at : ℕ → ℕ → ℕ → Option Place) (f : Bits → ℕ) (x y : ℕ) where
  abbrev turned : ℕ → ℕ → ℕ → Option Place
  turned = λ y x v. at x y v

  found_cons : (b : Bool) (l : Bits)
      → found_from at f x y (some (b ∷ l)) ≡ found_from turned (λ m. f (b ∷ m)) y (cond b (2 * x + 1) (2 * x)) (some l)
  found_cons b l = let h = halves_cons b l in ap₂ (λ (r c : Bits). at (onward x r) (onward y c) (f (b ∷ l))) h.0 h.1

  found_lower : Ends at → (p q : Lowest Bits) → found_from at f x y (first_found p q)
      ≡ first_of (found_from turned (λ l. f (false ∷ l)) y (2 * x) p) (found_from turned (λ l. f (true ∷ l)) y (2 * x + 1) q)
  found_lower ends none none = refl
  found_lower ends none (some l) = found_cons true l
  found_lower ends (some l) q = found_cons false l ∙ sym (ends _ _ _ _)

  module _ (task : Task) where
    forbids_cons : (b : Bool) (l : Bits) → forbids_from task f x y (b ∷ l) ≡ forbids_from task (λ m. f (b ∷ m)) y (cond b (2 * x + 1) (2 * x)) l
    forbids_cons b l =
        let h = halves_cons b l in
        ap (λ (t : Bool). not (allows task t (f (b ∷ l))))
        (ap₂ (λ (r c : Bits). eqb (onward x r) (onward y c)) h.0 h.1
        ∙ eqb_iff (onward x (b ∷ columns l)) (onward y (rows l)) (onward y (rows l)) (onward x (b ∷ columns l)) sym sym)

    -- what is found low, or else high
    pub sought_cons : Ends at → (k : ℕ) → sought at task (suc k) f x y
        ≡ first_of (sought turned task k (λ l. f (false ∷ l)) y (2 * x)) (sought turned task k (λ l. f (true ∷ l)) y (2 * x + 1))
    unfolding sought
    sought_cons ends k =
        ap₂ (λ (p q : Bits → Bool). found_from at f x y (first_found (lowest k p) (lowest k q))) (down false) (down true)
        ∙ found_lower ends (lowest k (below false)) (lowest k (below true))
      where
        below : Bool → Bits → Bool
        below b = forbids_from task (λ m. f (b ∷ m)) y (cond b (2 * x + 1) (2 * x))

        down : (b : Bool) → (λ l. forbids_from task f x y (b ∷ l)) ≡ below b
        down b = fun_ext (forbids_cons b)

-- ---- nothing

pub first_nowhere : (p q : Option Place) → first_of p q ≡ None → p ≡ None
first_nowhere None q e = refl
first_nowhere (Some place) q e = cc

module _ (task : Task) (k : ℕ) (f : Bits → ℕ) (x y : ℕ) where
  -- nothing is found exactly if no place forbids
  none_nowhere : lowest k (forbids_from task f x y) ≡ none → sought found_at task k f x y ≡ None
  unfolding sought
  none_nowhere e = ap (found_from found_at f x y) e

  nowhere_none : sought found_at task k f x y ≡ None → lowest k (forbids_from task f x y) ≡ none
  unfolding sought
  nowhere_none e = by_lowest (lowest k (forbids_from task f x y)) e
    where
      by_lowest : (o : Lowest Bits) → found_from found_at f x y o ≡ None → o ≡ none
      by_lowest none e = refl
      by_lowest (some l) e = cc

-- where the row and the column have as many bits left
module _ (task : Task) (q : ℕ) (f : Bits → ℕ) where
  -- of the bits before only counts whether they agree
  forbids_by : (x y : ℕ) (l : Bits) → length l ≡ levels q
      → forbids_from task f x y l ≡ not (allows task (eqb x y && same (rows l) (columns l)) (f l))
  forbids_by x y l e =
      let h = length_halves q l e in
      ap (λ (t : Bool). not (allows task t (f l))) (onward_eqb x y (rows l) (columns l) (h.0 ∙ sym h.1))

  pub nowhere_again : (x y x' y' : ℕ) → eqb x y ≡ eqb x' y'
      → sought found_at task (levels q) f x y ≡ None → sought found_at task (levels q) f x' y' ≡ None
  nowhere_again x y x' y' agree e =
      none_nowhere task (levels q) f x' y'
      (lowest_ext (levels q) (forbids_from task f x' y') (forbids_from task f x y) alike ∙ nowhere_none task (levels q) f x y e)
    where
      alike : (l : Bits) → length l ≡ levels q → forbids_from task f x' y' l ≡ forbids_from task f x y l
      alike l h = forbids_by x' y' l h
          ∙ ap (λ (t : Bool). not (allows task (t && same (rows l) (columns l)) (f l))) (sym agree)
          ∙ sym (forbids_by x y l h)

  -- off the diagonal nothing is found where all is zero
  pub zero_nowhere : (x y : ℕ) → eqb x y ≡ false → ((l : Bits) → is_zero task.zero (f l) ≡ true) → sought found_at task (levels q) f x y ≡ None
  zero_nowhere x y apart vanishes = none_nowhere task (levels q) f x y
      (lowest_ext (levels q) (forbids_from task f x y) (λ l. false) never ∙ lowest_never (levels q))
    where
      never : (l : Bits) → length l ≡ levels q → forbids_from task f x y l ≡ false
      never l h = forbids_by x y l h
          ∙ ap (λ (t : Bool). not (allows task (t && same (rows l) (columns l)) (f l))) apart
          ∙ ap not (vanishes l)

-- ---- at a place

pub sought_end : (task : Task) (f : Bits → ℕ) (x y : ℕ)
    → sought found_at task 0 f x y ≡ cond (allows task (eqb x y) (f [])) None (found_at x y (f []))
unfolding sought
sought_end task f x y = by_test (allows task (eqb x y) (f []))
  where
    by_test : (t : Bool) → found_from found_at f x y (cond (not t) (some []) none) ≡ cond t None (found_at x y (f []))
    by_test true = refl
    by_test false = refl
