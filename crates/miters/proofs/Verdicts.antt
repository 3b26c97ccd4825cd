-- The verdict is equal exactly if no place forbids it, so exactly if the miter is scalar and the lists are equal; different
-- shows the lowest place that forbids it.
-- Assumes nothing.
use mathlib.Core.Path.{◌≡◌, refl, sym, ◌∙◌, ap, ap₂, subst}
use mathlib.Core.Bool.{Bool, true, false, not, cond, true≢false}
use mathlib.Core.List.{List, [], ◌∷◌}
use mathlib.Core.Option.{Option, none, some}
use mathlib.Core.Logic.{◌↔◌}
use Prim.Native.Nat.{ℕ, zero, suc, ◌^◌, ◌<◌}
use native.Mathlib.Nat.{pow-suc}
use native.Mathlib.Omega.{arith}
use lib.ListN.{length, replicate, length-replicate}
use borrow.Author.Tests.{not-false}
use Rattle.algebra.specs.declared.Entry.{Entry}
use Rattle.algebra.specs.Entry.{𝟘}
use Rattle.algebra.specs.Matrix.{Bits, Matrix, same}
use Rattle.algebra.proofs.Sums.{same_refl, same_sound}
use Rattle.algebra.proofs.Matrices.{Alike}
use Rattle.gates.specs.Gate.{Gate, AllFit}
use Rattle.diagrams.specs.Diagram.{levels, place, rows, columns, same_entry, entries}
use Rattle.diagrams.proofs.Tests.{entry_decides}
use Rattle.diagrams.proofs.Places.{length_place, length_halves, place_halves}
use Rattle.miters.specs.declared.Difference.{Difference}
use Rattle.miters.specs.declared.Verdict.{Verdict}
use Rattle.miters.specs.declared.Verdict.TheVariants.{Equal as equal_with, Different}
use Rattle.miters.specs.Miter.{corner, miter, Equal, Scalar}
use Rattle.miters.specs.Claims.{Least, Says, says_equal, says_different}
use Rattle.miters.proofs.Scalars.{scalar_turns, equal_iff_scalar}
use Rattle.miters.specs.Report.{number, forbids, first_found, lowest, difference, verdict_by, verdict}

-- ---- the lowest bits that pass a test

pub data Searched (k : ℕ) (test : Bits → Bool) : Option Bits → Type 0 where
  nowhere : ((l : Bits) → length l ≡ k → test l ≡ false) → Searched k test none
  least : {l : Bits} → Least k test l → Searched k test (some l)

number_below : (l : Bits) → number l < 2 ^ length l
number_below [] = omega arith
number_below (true ∷ l) = omega (arith, number_below l, pow-suc 2 (length l))
number_below (false ∷ l) = omega (arith, number_below l, pow-suc 2 (length l))

searched_nil : (test : Bits → Bool) (b : Bool) → test [] ≡ b → Searched 0 test (cond b (some []) none)
searched_nil test true e = least (record { long = refl; passes = e; lower_fail = none_lower })
  where
    none_lower : (m : Bits) → length m ≡ 0 → number m < 0 → test m ≡ false
    none_lower m h below = absurd (omega arith)
searched_nil test false e = nowhere only
  where
    only : (l : Bits) → length l ≡ 0 → test l ≡ false
    only [] h = e
    only (b ∷ l) h = absurd (omega arith)

searched_cons : (k : ℕ) (test : Bits → Bool) (x y : Option Bits) → Searched k (λ l. test (false ∷ l)) x → Searched k (λ l. test (true ∷ l)) y
    → Searched (suc k) test (first_found x y)
searched_cons k test x y (nowhere p) (nowhere q) = nowhere both
  where
    both : (l : Bits) → length l ≡ suc k → test l ≡ false
    both [] h = absurd (omega arith)
    both (false ∷ l) h = p l (omega arith)
    both (true ∷ l) h = q l (omega arith)
searched_cons k test x y (nowhere p) (least {l = l} q) = least (record { long = ap suc q.long; passes = q.passes; lower_fail = lower_ones })
  where
    lower_ones : (m : Bits) → length m ≡ suc k → number m < number (true ∷ l) → test m ≡ false
    lower_ones [] h below = absurd (omega arith)
    lower_ones (false ∷ m) h below = p m (omega arith)
    lower_ones (true ∷ m) h below =
        let long : length m ≡ k = omega arith in
        q.lower_fail m long (omega (arith, ap (λ (i : ℕ). 2 ^ i) (long ∙ sym q.long)))
searched_cons k test x y (least {l = l} p) q = least (record { long = ap suc p.long; passes = p.passes; lower_fail = lower_ones })
  where
    lower_ones : (m : Bits) → length m ≡ suc k → number m < number (false ∷ l) → test m ≡ false
    lower_ones [] h below = absurd (omega arith)
    lower_ones (false ∷ m) h below = p.lower_fail m (omega arith) (omega arith)
    lower_ones (true ∷ m) h below =
        let long : length m ≡ k = omega arith in
        absurd (omega (arith, number_below l, ap (λ (i : ℕ). 2 ^ i) (long ∙ sym p.long)))

pub lowest_searched : (k : ℕ) (test : Bits → Bool) → Searched k test (lowest k test)
lowest_searched zero test = searched_nil test (test []) refl
lowest_searched (suc k) test = searched_cons k test (lowest k (λ l. test (false ∷ l))) (lowest k (λ l. test (true ∷ l)))
    (lowest_searched k (λ l. test (false ∷ l))) (lowest_searched k (λ l. test (true ∷ l)))

-- ---- no place forbids: the matrix is scalar

module _ (n : ℕ) (M : Matrix) where
  abbrev pub Clear : Type 0
  Clear = (l : Bits) → length l ≡ levels n → forbids n M l ≡ false

  clear_entry : Clear → (r c : Bits) → length r ≡ n → length c ≡ n → M r c ≡ cond (same r c) (corner n M) 𝟘
  clear_entry clear r c e f =
      let halves = place_halves r c (e ∙ sym f) in
      subst (λ (p : Bits × Bits). M p.0 p.1 ≡ cond (same p.0 p.1) (corner n M) 𝟘) (λ i. (halves.0 i, halves.1 i))
      (entry_decides.sound _ _ (not-false _ (clear (place r c) (length_place n r c e f))))

  clear_scalar : Clear → Scalar n M
  clear_scalar clear = record {
    off = λ r c e f apart. clear_entry clear r c e f ∙ ap (λ (b : Bool). cond b (corner n M) 𝟘) apart;
    alike = λ r c e f. diagonal r e ∙ sym (diagonal c f);
  }
    where
      diagonal : (r : Bits) → length r ≡ n → M r r ≡ corner n M
      diagonal r e = clear_entry clear r r e e ∙ ap (λ (b : Bool). cond b (corner n M) 𝟘) (same_refl r)

  scalar_entry : Scalar n M → (r c : Bits) → length r ≡ n → length c ≡ n → (b : Bool) → same r c ≡ b → M r c ≡ cond b (corner n M) 𝟘
  scalar_entry scalar r c e f true s = ap (M r) (sym (same_sound r c s)) ∙ scalar.alike r (replicate n false) e (length-replicate n false)
  scalar_entry scalar r c e f false s = scalar.off r c e f s

  scalar_clear : Scalar n M → Clear
  scalar_clear scalar l e =
      let long = length_halves n l e in
      ap (λ (x : Entry). not (same_entry x (cond (same (rows l) (columns l)) (corner n M) 𝟘)))
      (scalar_entry scalar (rows l) (columns l) long.0 long.1 (same (rows l) (columns l)) refl)
      ∙ ap not (entry_decides.reflexive (cond (same (rows l) (columns l)) (corner n M) 𝟘))

-- ---- the verdict on two lists

module _ (n : ℕ) (us vs : List Gate) (fit : AllFit n vs) where
  abbrev W : Matrix
  W = (miter n us vs).entries

  says : (x : Option Bits) → Searched (levels n) (forbids n W) x → Says n us vs (verdict_by n W x)
  says x (nowhere clear) =
      let scalar = clear_scalar n W clear in
      says_equal ((equal_iff_scalar n us vs fit).1 scalar) (scalar_turns n us vs fit scalar)
  says x (least {l = l} low) = says_different unequal l low
    where
      unequal : Equal n us vs → ⊥
      unequal equal = true≢false (sym low.passes ∙ scalar_clear n W ((equal_iff_scalar n us vs fit).0 equal) l low.long)

  pub verdict_says : Says n us vs (verdict n W)
  unfolding verdict
  verdict_says = says (lowest (levels n) (forbids n W)) (lowest_searched (levels n) (forbids n W))

  -- equal exactly if the lists are
  pub verdict_equal_iff : ((z : Entry) × (verdict n W ≡ equal_with z)) ↔ Equal n us vs
  verdict_equal_iff = by_says (verdict n W) verdict_says
    where
      clash : (d : Difference) (z : Entry) → Different d ≡ equal_with z → ⊥
      clash d z e = let impossible : ◌≡◌ {A = ℕ} 0 1 = cc in omega arith

      by_says : (v : Verdict) → Says n us vs v → ((z : Entry) × (v ≡ equal_with z)) ↔ Equal n us vs
      by_says v (says_equal equal turns) = (λ given. equal, λ given. (corner n W, refl))
      by_says v (says_different unequal l low) = (λ given. absurd (clash (difference n W l) given.0 given.1), λ equal. absurd (unequal equal))

-- ---- the verdict looks at the entries on n qubits only

pub lowest_ext : (k : ℕ) (p q : Bits → Bool) → ((l : Bits) → length l ≡ k → p l ≡ q l) → lowest k p ≡ lowest k q
lowest_ext zero p q h = ap (λ (b : Bool). cond b (some []) none) (h [] refl)
lowest_ext (suc k) p q h = ap₂ first_found
    (lowest_ext k (λ l. p (false ∷ l)) (λ l. q (false ∷ l)) (λ l e. h (false ∷ l) (ap suc e)))
    (lowest_ext k (λ l. p (true ∷ l)) (λ l. q (true ∷ l)) (λ l e. h (true ∷ l) (ap suc e)))

module _ (n : ℕ) {M N : Matrix} (alike : Alike n M N) where
  corner_ext : corner n M ≡ corner n N
  corner_ext = alike.at (replicate n false) (replicate n false) (length-replicate n false) (length-replicate n false)

  entry_ext : (l : Bits) → length l ≡ levels n → entries M l ≡ entries N l
  entry_ext l e = let long = length_halves n l e in alike.at (rows l) (columns l) long.0 long.1

  forbids_ext : (l : Bits) → length l ≡ levels n → forbids n M l ≡ forbids n N l
  forbids_ext l e = ap₂ (λ (x y : Entry). not (same_entry x (cond (same (rows l) (columns l)) y 𝟘))) (entry_ext l e) corner_ext

  by_ext : (x : Option Bits) → Searched (levels n) (forbids n M) x → verdict_by n M x ≡ verdict_by n N x
  by_ext x (nowhere h) = ap equal_with corner_ext
  by_ext x (least {l = l} low) = ap Different (ap₂ (λ (e c : Entry). differing e c) (entry_ext l low.long) corner_ext)
    where
      differing : Entry → Entry → Difference
      differing e c = record { row = number (rows l); column = number (columns l); entry = e; corner = c }

  pub verdict_ext : verdict n M ≡ verdict n N
  unfolding verdict
  verdict_ext = by_ext (lowest (levels n) (forbids n M)) (lowest_searched (levels n) (forbids n M))
      ∙ ap (verdict_by n N) (lowest_ext (levels n) (forbids n M) (forbids n N) forbids_ext)
