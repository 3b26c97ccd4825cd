-- Columns: cleared from a slot on, or written by a loop slot by slot from the first on.
-- Assumes nothing.
use mathlib.Core.Path.{◌≡◌, refl, sym, ◌∙◌, ap, ◌≡⟨◌⟩◌, ◌∎}
use mathlib.Core.List.{List, [], ◌∷◌, ◌++◌, map, map-append, append_assoc, append-nil}
use Prim.Native.Nat.{ℕ, zero, suc, ◌+◌, ◌-◌, ◌<◌, ◌≤◌}
use native.Mathlib.Numerals.{add-one}
use native.Mathlib.Omega.{arith}
use lib.ListN.{length, get_or, take, drop, set, replicate, length-append, length-replicate, length-take, length-drop}
use lib.ListN.{get_or-replicate, get_or-append, drop_of_length-le}
use borrow.Rule.Slice.PartMut.{put_mid}
use lib.Seq.{drop-cons, set_at, take-suc, length-take-le, get_or-append-add}
use Rattle.std.proofs.lemmas.List.{drop-drop}
use Rattle.stores.specs.Columns.{column, over, zeroed}
use Rattle.uniques.specs.UniqueTable.{listed}
use Rattle.uniques.proofs.Chains.{length_listed}

-- one slot more of a list that is written from a slot on
pub patch_snoc : {A : Type 0} (from : ℕ) (l old : List A) (x : A) (i : ℕ) → from ≤ length old → from + length l ≡ i → i < length old
    → set (take from old ++ (l ++ drop i old)) i x ≡ take from old ++ ((l ++ (x ∷ [])) ++ drop (i + 1) old)
patch_snoc {A} from l old x i within is below =
    set (kept ++ (l ++ drop i old)) i x ≡⟨ ap (λ (d : List A). set (kept ++ (l ++ d)) i x) (drop-cons old i x below) ⟩
    set (kept ++ (l ++ (get_or old i x ∷ rest))) i x ≡⟨ ap (λ (d : List A). set d i x) (sym (append_assoc kept l (get_or old i x ∷ rest))) ⟩
    set ((kept ++ l) ++ (get_or old i x ∷ rest)) i x ≡⟨ set_at (kept ++ l) (get_or old i x) rest x i long ⟩
    (kept ++ l) ++ (x ∷ rest) ≡⟨ append_assoc kept l (x ∷ rest) ⟩
    kept ++ (l ++ ((x ∷ []) ++ rest)) ≡⟨ ap (λ (d : List A). kept ++ d) (sym (append_assoc l (x ∷ []) rest)) ⟩
    kept ++ ((l ++ (x ∷ [])) ++ rest) ≡⟨ ap (λ (k : ℕ). kept ++ ((l ++ (x ∷ [])) ++ drop k old)) (sym (add-one i)) ⟩
    kept ++ ((l ++ (x ∷ [])) ++ drop (i + 1) old) ∎
  where
    kept : List A
    kept = take from old

    rest : List A
    rest = drop (suc i) old

    long : length (kept ++ l) ≡ i
    long = omega (arith, length-append kept l, length-take-le from old within)

-- ---- cleared

module _ {A : Type 0} (nought : A) (l : List A) (from : ℕ) where
  -- as a part of a column leaves it that was filled
  pub part_zeroed : (to : ℕ) {part : List A} → from ≤ to → to ≤ length l → part ≡ replicate (length (take (to - from) (drop from l))) nought
      → put_mid from (to - from) l part ≡ zeroed nought from to l
  unfolding zeroed
  part_zeroed to le fits is =
      let rejoined : from + (to - from) ≡ to = omega arith in
      let long : length (take (to - from) (drop from l)) ≡ to - from = simp (length-take, length-drop) (omega arith) in
      rw (is, long, drop-drop (to - from) from l, rejoined)

  pub length_zeroed : (to : ℕ) → from ≤ to → to ≤ length l → length (zeroed nought from to l) ≡ length l
  unfolding zeroed
  length_zeroed to le fits = simp (length-append, length-replicate, length-take, length-drop) (omega arith)

  pub get_d_zeroed : (to i : ℕ) (d : A) → from ≤ i → i < to → to ≤ length l → get_or (zeroed nought from to l) i d ≡ nought
  unfolding zeroed
  get_d_zeroed to i d le below fits =
      get_or (take from l ++ rest) i d ≡⟨ ap (λ (k : ℕ). get_or (take from l ++ rest) k d) split ⟩
      get_or (take from l ++ rest) (length (take from l) + (i - from)) d ≡⟨ get_or-append-add (take from l) rest (i - from) d ⟩
      get_or rest (i - from) d ≡⟨ get_or-append (replicate (to - from) nought) (drop to l) d (i - from) (simp length-replicate (omega arith)) ⟩
      get_or (replicate (to - from) nought) (i - from) d ≡⟨ get_or-replicate (to - from) (i - from) nought d (omega arith) ⟩
      nought ∎
    where
      rest : List A
      rest = replicate (to - from) nought ++ drop to l

      split : i ≡ length (take from l) + (i - from)
      split = omega (arith, length-take-le from l (omega arith))

  -- to the end: a column whose unused slots are 0
  pub zeroed_column : from ≤ length l → zeroed nought from (length l) l ≡ column nought (length l) (take from l)
  unfolding zeroed
  zeroed_column fits =
      rw (drop_of_length-le l {i = length l} (omega arith), append-nil (replicate (length l - from) nought), length-take-le from l fits)

-- ---- filled

module _ {A : Type 0} (g : ℕ → A) (old : List A) where
  -- the first i slots have g 0, g 1, ..
  abbrev pub filled : ℕ → List A
  filled i = listed i g ++ drop i old

  pub filled_none : old ≡ filled 0
  unfolding listed
  filled_none = refl

  pub filled_more : (i : ℕ) → i < length old → set (filled i) i (g i) ≡ filled (i + 1)
  unfolding listed
  filled_more i below =
      patch_snoc 0 (listed i g) old (g i) i (omega arith) (omega (arith, length_listed i g)) below
      ∙ ap (λ (k : ℕ). listed k g ++ drop (i + 1) old) (sym (add-one i))

  pub filled_over : (i : ℕ) → filled i ≡ over (listed i g) old
  filled_over i = ap (λ (k : ℕ). listed i g ++ drop k old) (sym (length_listed i g))

pub map_listed : {A B : Type 0} (f : A → B) (n : ℕ) (g : ℕ → A) → map f (listed n g) ≡ listed n (λ i. f (g i))
unfolding listed
map_listed f zero g = refl
map_listed {B = B} f (suc n) g = map-append f (listed n g) (g n ∷ []) ∙ ap (λ (l : List B). l ++ (f (g n) ∷ [])) (map_listed f n g)

-- what the first slots of a column have
pub listed_take : {A : Type 0} (l : List A) (blank : A) (n : ℕ) → n ≤ length l → listed n (λ i. get_or l i blank) ≡ take n l
unfolding listed
listed_take l blank zero h = refl
listed_take {A} l blank (suc n) h =
    ap (λ (m : List A). m ++ (get_or l n blank ∷ [])) (listed_take l blank n (omega arith)) ∙ sym (take-suc l n blank h)
