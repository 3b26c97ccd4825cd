-- Find or append: where `slot` finds an element, and what `keep` makes of the list.
-- Assumes nothing.
use mathlib.Core.Path.{◌≡◌, refl, sym, ◌∙◌, ap, subst}
use mathlib.Core.Bool.{Bool, true, false, cond}
use mathlib.Core.List.{List, [], ◌∷◌, ◌++◌, append-nil}
use Prim.Native.Nat.{ℕ, zero, suc, ◌+◌, ◌<◌, ◌≤◌}
use native.Mathlib.Omega.{arith}
use native.Mathlib.Decide.{dec_lt}
use lib.ListN.{length, get_or, take, length-append, get_or-append}
use lib.Seq.{take-suc, get_or-take, length-take-le, get_or_at}
use Rattle.diagrams.specs.Diagram.{slot, keep, Distinct}
use Rattle.diagrams.proofs.Tests.{Decides, false_apart}

-- ---- lists with one more element

-- what holds of all elements of a list, and of one more
pub all_snoc : {A : Type 0} (P : A → Type 0) (blank x : A) (l : List A) → ((i : ℕ) → i < length l → P (get_or l i blank)) → P x
    → (i : ℕ) → i < length (l ++ (x ∷ [])) → P (get_or (l ++ (x ∷ [])) i blank)
all_snoc P blank x l all last i below = by_order (dec_lt i (length l))
  where
    by_order : Dec (i < length l) → P (get_or (l ++ (x ∷ [])) i blank)
    by_order (yes h) = subst P (sym (get_or-append l (x ∷ []) blank i h)) (all i h)
    by_order (no h) = subst P (sym (get_or_at l x [] blank i (omega (arith, length-append l (x ∷ []))))) last

abbrev pub Absent : {A : Type 0} → A → A → List A → Type 0
Absent blank x l = (j : ℕ) → j < length l → get_or l j blank ≡ x → ⊥

pub distinct_snoc : {A : Type 0} (blank x : A) (l : List A) → Distinct blank l → Absent blank x l → Distinct blank (l ++ (x ∷ []))
distinct_snoc blank x l once absent i j p q e = by_order (dec_lt i (length l)) (dec_lt j (length l))
  where
    len : length (l ++ (x ∷ [])) ≡ length l + 1
    len = length-append l (x ∷ [])

    old : (k : ℕ) → k < length l → get_or (l ++ (x ∷ [])) k blank ≡ get_or l k blank
    old k h = get_or-append l (x ∷ []) blank k h

    new : (k : ℕ) → (k < length l → ⊥) → k < length (l ++ (x ∷ [])) → get_or (l ++ (x ∷ [])) k blank ≡ x
    new k h m = get_or_at l x [] blank k (omega (arith, len))

    by_order : Dec (i < length l) → Dec (j < length l) → i ≡ j
    by_order (yes h) (yes k) = once i j h k (sym (old i h) ∙ e ∙ old j k)
    by_order (yes h) (no k) = absurd (absent i h (sym (old i h) ∙ e ∙ new j k q))
    by_order (no h) (yes k) = absurd (absent j k (sym (old j k) ∙ sym e ∙ new i h p))
    by_order (no h) (no k) = omega (arith, len)

-- x is found in l at j, or put there, and the list becomes l'
abbrev pub Keeps : {A : Type 0} → (A → A → Bool) → A → List A → List A → ℕ → Type 0
Keeps same x l l' j = (keep same x l ≡ l') × (slot same x l ≡ j)

-- found, or appended
pub data Kept {A : Type 0} (same : A → A → Bool) (blank x : A) (l : List A) : Type 0 where
  found : (j : ℕ) → j < length l → get_or l j blank ≡ x → Keeps same x l l j → Kept same blank x l
  fresh : Absent blank x l → Keeps same x l (l ++ (x ∷ [])) (length l) → Kept same blank x l

module _ {A : Type 0} {same : A → A → Bool} (𝓓 : Decides same) where
  keeps_cons : (x y : A) (l l' : List A) (j : ℕ) → same y x ≡ false → Keeps same x l l' j → Keeps same x (y ∷ l) (y ∷ l') (suc j)
  keeps_cons x y l l' j e k = (rw e (ap (λ (m : List A). y ∷ m) k.0), rw e (ap suc k.1))

  kept_cons : (blank x y : A) (l : List A) → same y x ≡ false → Kept same blank x l → Kept same blank x (y ∷ l)
  kept_cons blank x y l e (found j h g k) = found (suc j) (omega arith) g (keeps_cons x y l l j e k)
  kept_cons blank x y l e (fresh u k) = fresh (absent u) (keeps_cons x y l (l ++ (x ∷ [])) (length l) e k)
    where
      absent : Absent blank x l → Absent blank x (y ∷ l)
      absent u zero h g = false_apart 𝓓 y x e g
      absent u (suc j) h g = u j (omega arith) g

  pub kept : (blank x : A) (l : List A) → Kept same blank x l
  kept blank x [] = fresh (λ j h. absurd (none_below j h)) (refl, refl)
    where
      none_below : (j : ℕ) → j < 0 → ⊥
      none_below j h = omega arith
  kept blank x (y ∷ l) = by_test (same y x) refl (kept blank x l)
    where
      by_test : (b : Bool) → same y x ≡ b → Kept same blank x l → Kept same blank x (y ∷ l)
      by_test true e k = found 0 (omega arith) (𝓓.sound y x e) (rw e, rw e)
      by_test false e k = kept_cons blank x y l e k

  pub keep_extends : (x : A) (l : List A) → (more : List A) × (keep same x l ≡ l ++ more)
  keep_extends x l = by_kept (kept x x l)
    where
      by_kept : Kept same x x l → (more : List A) × (keep same x l ≡ l ++ more)
      by_kept (found j h g k) = ([], k.0 ∙ sym (append-nil l))
      by_kept (fresh u k) = (x ∷ [], k.0)

  -- what is kept stays kept, in its slot, whatever comes after it
  pub keep_again : (x : A) (l more : List A) → Keeps same x (keep same x l ++ more) (keep same x l ++ more) (slot same x l)
  keep_again x [] more = (rw (𝓓.reflexive x), rw (𝓓.reflexive x))
  keep_again x (y ∷ l) more = by_test (same y x) refl (keep_again x l more)
    where
      by_test : (b : Bool) → same y x ≡ b → Keeps same x (keep same x l ++ more) (keep same x l ++ more) (slot same x l)
          → Keeps same x (cond b (y ∷ l) (y ∷ keep same x l) ++ more) (cond b (y ∷ l) (y ∷ keep same x l) ++ more) (cond b 0 (suc (slot same x l)))
      by_test true e k = (rw e, rw e)
      by_test false e k = keeps_cons x y (keep same x l ++ more) (keep same x l ++ more) (slot same x l) e k

  -- ---- in the first n elements of a list that has none twice

  module _ (blank : A) (l : List A) (once : Distinct blank l) where
    pub keep_old : (j n : ℕ) → j < n → n ≤ length l → Keeps same (get_or l j blank) (take n l) (take n l) j
    keep_old j n h k = by_kept (kept blank (get_or l j blank) (take n l))
      where
        len : length (take n l) ≡ n
        len = length-take-le n l k

        by_kept : Kept same blank (get_or l j blank) (take n l) → Keeps same (get_or l j blank) (take n l) (take n l) j
        by_kept (found i m g (p, q)) = (p, q ∙ once i j (omega (arith, len)) (omega arith) (sym (get_or-take n l i blank (omega (arith, len))) ∙ g))
        by_kept (fresh u k) = absurd (u j (omega (arith, len)) (get_or-take n l j blank h))

    pub keep_next : (n : ℕ) → n < length l → Keeps same (get_or l n blank) (take n l) (take (suc n) l) n
    keep_next n h = by_kept (kept blank (get_or l n blank) (take n l))
      where
        len : length (take n l) ≡ n
        len = length-take-le n l (omega arith)

        not_itself : (i : ℕ) → i < n → i ≡ n → ⊥
        not_itself i k e = omega arith

        by_kept : Kept same blank (get_or l n blank) (take n l) → Keeps same (get_or l n blank) (take n l) (take (suc n) l) n
        by_kept (found i m g k) =
            absurd (not_itself i (omega (arith, len)) (once i n (omega (arith, len)) h (sym (get_or-take n l i blank (omega (arith, len))) ∙ g)))
        by_kept (fresh u (p, q)) = (p ∙ sym (take-suc l n blank h), q ∙ len)
