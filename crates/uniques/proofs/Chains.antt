-- Hash chains, over elements of any type and any hash: a search along one finds what `slot` finds, what is made of its answer,
-- and how a chain grows.
-- Assumes nothing.
use mathlib.Core.Path.{◌≡◌, refl, sym, ◌∙◌, ap}
use mathlib.Core.Bool.{Bool, true, false, cond}
use mathlib.Core.List.{List, [], ◌∷◌, ◌++◌}
use mathlib.Core.Logic.{⊎_elim, ◌≢◌}
use Prim.Native.Nat.{ℕ, zero, suc, ◌+◌, ◌<◌, ◌≤◌}
use native.Mathlib.Decide.{dec_lt}
use native.Mathlib.Nat.{eq-or-lt_of_le}
use native.Mathlib.Numerals.{add-one}
use native.Mathlib.Omega.{arith}
use lib.Dec.{eqb}
use lib.ListN.{length, get_or, set, length-append, length-set, get_or-append}
use lib.Seq.{get_or_at, get_or-set_same, get_or-set_other}
use borrow.Author.Tests.{eqb-true, eqb-false, lt-ltb, le-ltb}
use Rattle.std.proofs.Common.{Option, Some, None}
use Rattle.uniques.specs.UniqueTable.{listed, last_with, hash_at, Indexed, Falls, Met, at_end, here, later, found, Put}
use Rattle.diagrams.proofs.Tests.{Decides, false_apart}
use Rattle.diagrams.proofs.Keeping.{Absent, Keeps, Kept, kept, distinct_snoc}
use Rattle.diagrams.proofs.Keeping as keeping

-- ---- what the first slots hold

module _ {A : Type 0} where
  pub length_listed : (n : ℕ) (f : ℕ → A) → length (listed n f) ≡ n
  unfolding listed
  length_listed zero f = refl
  length_listed (suc n) f = length-append (listed n f) (f n ∷ []) ∙ ap (λ (k : ℕ). k + 1) (length_listed n f) ∙ add-one n

  pub get_d_listed : (n : ℕ) (f : ℕ → A) (blank : A) (i : ℕ) → i < n → get_or (listed n f) i blank ≡ f i
  unfolding listed
  get_d_listed zero f blank i h = absurd (omega arith)
  get_d_listed (suc n) f blank i h =
      ⊎_elim
      (λ (e : i ≡ n). get_or_at (listed n f) (f n) [] blank i (length_listed n f ∙ sym e) ∙ ap f (sym e))
      (λ (k : i < n). get_or-append (listed n f) (f n ∷ []) blank i (omega (arith, length_listed n f)) ∙ get_d_listed n f blank i k)
      (eq-or-lt_of_le (omega arith))

  pub listed_agree : (n : ℕ) (f g : ℕ → A) → ((i : ℕ) → i < n → g i ≡ f i) → listed n g ≡ listed n f
  unfolding listed
  listed_agree zero f g same = refl
  listed_agree (suc n) f g same = rw (listed_agree n f g (λ i h. same i (omega arith)), same n (omega arith))

  pub listed_snoc : (n : ℕ) (f g : ℕ → A) (x : A) → ((i : ℕ) → i < n → g i ≡ f i) → g n ≡ x → listed (suc n) g ≡ listed n f ++ (x ∷ [])
  unfolding listed
  listed_snoc n f g x same e = rw (listed_agree n f g same, e)

-- ---- the last element of a hash

module _ (f : ℕ → ℕ) (h : ℕ) where
  pub last_bound : (n : ℕ) → last_with f h n ≤ n
  unfolding last_with
  last_bound zero = omega arith
  last_bound (suc n) = by_test (eqb (f n) h) (last_bound n)
    where
      by_test : (t : Bool) → last_with f h n ≤ n → cond t (suc n) (last_with f h n) ≤ suc n
      by_test true e = omega arith
      by_test false e = omega arith

  -- a number of a chain is that of an element of its hash
  last_hash : (i : ℕ) → last_with f h (suc i) ≡ suc i → f i ≡ h
  unfolding last_with
  last_hash i = by_test (eqb (f i) h) refl
    where
      by_test : (t : Bool) → eqb (f i) h ≡ t → cond t (suc i) (last_with f h i) ≡ suc i → f i ≡ h
      by_test true e g = eqb-true (f i) h e
      by_test false e g = absurd (omega (arith, last_bound i))

  last_again : (n : ℕ) → last_with f h (last_with f h n) ≡ last_with f h n
  unfolding last_with
  last_again zero = refl
  last_again (suc n) = by_test (eqb (f n) h) refl (last_again n)
    where
      by_test : (t : Bool) → eqb (f n) h ≡ t → last_with f h (last_with f h n) ≡ last_with f h n
          → last_with f h (cond t (suc n) (last_with f h n)) ≡ cond t (suc n) (last_with f h n)
      by_test true e before = rw e
      by_test false e before = before

  -- between a number of a chain and the next one there is none of the hash
  last_gap : (n k : ℕ) → last_with f h n ≤ k → k < n → f k ≡ h → ⊥
  unfolding last_with
  last_gap zero k from below e = omega arith
  last_gap (suc n) k from below e = by_test (eqb (f n) h) refl (last_gap n k) from
    where
      by_test : (t : Bool) → eqb (f n) h ≡ t → (last_with f h n ≤ k → k < n → f k ≡ h → ⊥) → cond t (suc n) (last_with f h n) ≤ k → ⊥
      by_test true g before from = omega arith
      by_test false g before from =
          ⊎_elim (λ (p : k ≡ n). eqb-false (f n) h g (ap f (sym p) ∙ e)) (λ (p : k < n). before from p e) (eq-or-lt_of_le (omega arith))

last_agree : (f g : ℕ → ℕ) (h n : ℕ) → ((k : ℕ) → k < n → g k ≡ f k) → last_with g h n ≡ last_with f h n
unfolding last_with
last_agree f g h zero same = refl
last_agree f g h (suc n) same = rw (same n (omega arith), last_agree f g h n (λ k e. same k (omega arith)))

-- ---- a search along a chain

-- p is a number of the chain of x, or its end, and x is not among the elements from p on
pub record Searching {A : Type 0} (hash : A → ℕ) (blank : A) (l : List A) (x : A) (p : ℕ) : Type 0 where
  pub below : p ≤ length l
  pub linked : last_with (hash_at hash blank l) (hash x) p ≡ p
  pub passed : (k : ℕ) → p ≤ k → k < length l → get_or l k blank ≡ x → ⊥

module _ {A : Type 0} {hash : A → ℕ} {blank : A} {N heads : ℕ} {l : List A} {index : List ℕ}
    (indexed : Indexed hash blank N heads l index) (x : A) where
  abbrev f : ℕ → ℕ
  f = hash_at hash blank l

  search_starts : (p : ℕ) → hash x < heads → p ≡ get_or index (N + hash x) 0 → Searching hash blank l x p
  search_starts p h is = rw (is ∙ indexed.head (hash x) h) (record {
    below = last_bound f (hash x) (length l);
    linked = last_again f (hash x) (length l);
    passed = λ k from below e. last_gap f (hash x) (length l) k from below (ap hash e);
  })

  -- on to the next number of the chain
  search_steps : (i : ℕ) → Searching hash blank l x (suc i) → (get_or l i blank ≡ x → ⊥)
      → Searching hash blank l x (get_or index i 0) × (get_or index i 0 < suc i)
  search_steps i s other =
      let goes : get_or index i 0 ≡ last_with f (hash x) i =
      indexed.next i s.below ∙ ap (λ (h : ℕ). last_with f h i) (last_hash f (hash x) i s.linked) in
      rw goes (
        record {
          below = omega (arith, last_bound f (hash x) i, s.below);
          linked = last_again f (hash x) i;
          passed = λ k from below e. by_order k from below e (dec_lt k i);
        },
        omega (arith, last_bound f (hash x) i),
      )
    where
      by_order : (k : ℕ) → last_with f (hash x) i ≤ k → k < length l → get_or l k blank ≡ x → Dec (k < i) → ⊥
      by_order k from below e (yes less) = last_gap f (hash x) i k from less (ap hash e)
      by_order k from below e (no more) =
          ⊎_elim
          (λ (p : i ≡ k). other (ap (λ (k : ℕ). get_or l k blank) p ∙ e))
          (λ (later : i < k). s.passed k later below e)
          (eq-or-lt_of_le (omega arith))

  module _ {same : A → A → Bool} (𝓓 : Decides same) where
    search_ends : Searching hash blank l x 0 → None ≡ found same x l
    search_ends s = by_kept (kept 𝓓 blank x l)
      where
        by_kept : Kept same blank x l → None ≡ found same x l
        by_kept (keeping.found j h e k) = absurd (s.passed j (omega arith) h e)
        by_kept (keeping.fresh a k) = rw (k.1, le-ltb (length l) (length l) (omega arith))

    search_finds : (i : ℕ) → Searching hash blank l x (suc i) → get_or l i blank ≡ x → Some i ≡ found same x l
    search_finds i s e = by_kept (kept 𝓓 blank x l)
      where
        by_kept : Kept same blank x l → Some i ≡ found same x l
        by_kept (keeping.found j h g k) = rw (k.1, lt-ltb j (length l) h) (ap Some (indexed.once i j s.below h (e ∙ sym g)))
        by_kept (keeping.fresh a k) = absurd (a i s.below e)

-- ---- a search by a test

-- as a loop comes by it: from p on the next element, if there is one, is p − 1
module _ {says : ℕ → Bool → Type 0} {index : List ℕ} (p : ℕ) where
  pub met_end : p ≡ 0 → Met says index p None
  met_end e = rw e at_end

  pub met_here : (i : ℕ) {t : Bool} → p ≡ suc i → says i t → t ≡ true → Met says index p (Some i)
  met_here i there is e = rw there (here (rw e at is))

  pub met_later : (i : ℕ) {t : Bool} {r : Option ℕ} → p ≡ suc i → says i t → t ≡ false → Met says index (get_or index i 0) r → Met says index p r
  met_later i there is e rest = rw there (later (rw e at is) rest)

-- It tests the first slots: of element i it says whether it is x.
module _ {A : Type 0} {hash : A → ℕ} {blank : A} {N heads : ℕ} (used : ℕ) (at : ℕ → A) {index : List ℕ}
    (indexed : Indexed hash blank N heads (listed used at) index) (x : A) (small : hash x < heads)
    (first : ℕ) (starts : first ≡ get_or index (N + hash x) 0) where
  abbrev Search : ℕ → Type 0
  Search p = Searching hash blank (listed used at) x p

  begun : Search first
  begun = search_starts indexed x first small starts

  -- the elements of the chain are in the first slots, and these are in the table
  pub chain_within : (first ≤ used) × (used ≤ N)
  chain_within = (omega (arith, begun.below, length_listed used at), omega (arith, indexed.room, length_listed used at))

  pub chain_falls : Falls index first
  chain_falls = record {
    within = omega (arith, chain_within.0, chain_within.1, indexed.long);
    falls = λ i below. falls_at i (omega (arith, chain_within.0, length_listed used at));
  }
    where
      falls_at : (i : ℕ) → i < length (listed used at) → get_or index i 0 ≤ i
      falls_at i below =
          let f = hash_at hash blank (listed used at) in
          omega (arith, indexed.next i below, last_bound f (f i) i)

  module _ {same : A → A → Bool} (𝓓 : Decides same) {says : ℕ → Bool → Type 0}
      (test : (i : ℕ) (t : Bool) → i < used → says i t → t ≡ same (at i) x) where
    tested : (i : ℕ) {t : Bool} → Search (suc i) → says i t → t ≡ same (get_or (listed used at) i blank) x
    tested i {t} s is =
        let below : i < used = omega (arith, s.below, length_listed used at) in
        test i t below is ∙ ap (λ (y : A). same y x) (sym (get_d_listed used at blank i below))

    met_from : {p : ℕ} {r : Option ℕ} → Met says index p r → Search p → r ≡ found same x (listed used at)
    met_from at_end s = search_ends indexed x 𝓓 s
    met_from (here {i = i} is) s = search_finds indexed x 𝓓 i s (𝓓.sound _ x (sym (tested i s is)))
    met_from (later {i = i} is rest) s = met_from rest (search_steps indexed x i s (false_apart 𝓓 _ x (sym (tested i s is)))).0

    pub met_found : {r : Option ℕ} → Met says index first r → r ≡ found same x (listed used at)
    met_found met = met_from met begun

-- ---- what is found, and what follows

module _ {A : Type 0} {same : A → A → Bool} (𝓓 : Decides same) (blank x : A) (l : List A) where
  -- what an answer r of a search says of the list
  pub data Searched (r : Option ℕ) : Type 0 where
    there : (i : ℕ) → r ≡ Some i → i < length l → Keeps same x l l i → Searched r
    nowhere : r ≡ None → Absent blank x l → Keeps same x l (l ++ (x ∷ [])) (length l) → Searched r

  pub searched : (r : Option ℕ) → r ≡ found same x l → Searched r
  searched r e = by_kept (kept 𝓓 blank x l)
    where
      by_kept : Kept same blank x l → Searched r
      by_kept (keeping.found j h g k) = there j (e ∙ rw (k.1, lt-ltb j (length l) h)) h k
      by_kept (keeping.fresh a k) = nowhere (e ∙ rw (k.1, le-ltb (length l) (length l) (omega arith))) a k

  -- where it found, the element stands there
  pub found_there : (i : ℕ) → Some i ≡ found same x l → (i < length l) × Keeps same x l l i
  found_there i e = by_search (searched (Some i) e)
    where
      by_search : Searched (Some i) → (i < length l) × Keeps same x l l i
      by_search (there j q h k) = let here : j ≡ i = cc in rw (← here) (h, k)
      by_search (nowhere q a k) = absurd (cc)

  -- and where not, it is absent
  pub found_nowhere : None ≡ found same x l → Absent blank x l × Keeps same x l (l ++ (x ∷ [])) (length l)
  found_nowhere e = by_search (searched None e)
    where
      by_search : Searched None → Absent blank x l × Keeps same x l (l ++ (x ∷ [])) (length l)
      by_search (there j q h k) = absurd (cc)
      by_search (nowhere q a k) = (a, k)

  module _ (answer : ℕ → ℕ) (N : ℕ) (Held : List A → Type 0) (Unchanged : Type 0) where
    -- it is there: nothing changes
    pub put_there : (i : ℕ) → Some i ≡ found same x l → length l ≤ N → Held l → Put same answer N x l (Some (answer i)) Held Unchanged
    put_there i e room held = let (_, k) = found_there i e in record {
      kept = λ _. (ap (λ (j : ℕ). Some (answer j)) (sym k.1), rw k.0 held);
      missing = λ less. absurd (omega (arith, ap length k.0));
    }

    -- it is not: it takes the next slot
    pub put_next : (used : ℕ) → None ≡ found same x l → used ≡ length l → used < N → (Absent blank x l → Held (l ++ (x ∷ [])))
        → Put same answer N x l (Some (answer used)) Held Unchanged
    put_next used e u room held = let (a, k) = found_nowhere e in record {
      kept = λ _. (ap (λ (j : ℕ). Some (answer j)) (u ∙ sym k.1), rw k.0 (held a));
      missing = λ less. absurd (omega (arith, ap length k.0, length-append l (x ∷ [])));
    }

    -- and no slot is left
    pub put_full : None ≡ found same x l → N ≤ length l → Unchanged → Put same answer N x l None Held Unchanged
    put_full e none_left unchanged = let (_, k) = found_nowhere e in record {
      kept = λ fits. absurd (omega (arith, ap length k.0, length-append l (x ∷ [])));
      missing = λ _. (refl, unchanged);
    }

-- ---- one more element

module _ {A : Type 0} {hash : A → ℕ} {blank : A} {N heads : ℕ} {l : List A} {index : List ℕ}
    (indexed : Indexed hash blank N heads l index) (x : A) where
  -- the index with x linked as the first of its chain
  abbrev linked : List ℕ
  linked = set (set index (length l) (get_or index (N + hash x) 0)) (N + hash x) (length l + 1)

  old : (k : ℕ) → k < length l → hash_at hash blank (l ++ (x ∷ [])) k ≡ hash_at hash blank l k
  old k h = ap hash (get_or-append l (x ∷ []) blank k h)

  new : hash_at hash blank (l ++ (x ∷ [])) (length l) ≡ hash x
  new = ap hash (get_or_at l x [] blank (length l) refl)

  last_old : (h n : ℕ) → n ≤ length l → last_with (hash_at hash blank (l ++ (x ∷ []))) h n ≡ last_with (hash_at hash blank l) h n
  last_old h n le = last_agree (hash_at hash blank l) (hash_at hash blank (l ++ (x ∷ []))) h n (λ k below. old k (omega arith))

  module _ (room : length l < N) (small : hash x < heads) where
    length_linked : length linked ≡ length index
    length_linked = length-set (set index (length l) (get_or index (N + hash x) 0)) (N + hash x) (length l + 1)
        ∙ length-set index (length l) (get_or index (N + hash x) 0)

    -- the slots of other elements and of other heads stay
    linked_other : (k : ℕ) → k ≢ N + hash x → k ≢ length l → get_or linked k 0 ≡ get_or index k 0
    linked_other k p q = get_or-set_other (set index (length l) (get_or index (N + hash x) 0)) (N + hash x) k (length l + 1) 0 p
        ∙ get_or-set_other index (length l) k (get_or index (N + hash x) 0) 0 q

    head_more : (h : ℕ) → h < heads → get_or linked (N + h) 0 ≡ last_with (hash_at hash blank (l ++ (x ∷ []))) h (suc (length l))
    unfolding last_with
    head_more h below = by_test (eqb (hash_at hash blank (l ++ (x ∷ [])) (length l)) h) refl
      where
        by_test : (t : Bool) → eqb (hash_at hash blank (l ++ (x ∷ [])) (length l)) h ≡ t
            → get_or linked (N + h) 0 ≡ cond t (suc (length l)) (last_with (hash_at hash blank (l ++ (x ∷ []))) h (length l))
        by_test true e =
            let is : hash x ≡ h = sym new ∙ eqb-true _ h e in
            rw (← is) (get_or-set_same (set index (length l) (get_or index (N + hash x) 0)) (N + hash x) (length l + 1) 0
            (omega (arith, indexed.long, length-set index (length l) (get_or index (N + hash x) 0))) ∙ add-one (length l))
        by_test false e =
            linked_other (N + h) (λ q. eqb-false _ h e (new ∙ omega arith)) (omega arith)
            ∙ indexed.head h below ∙ sym (last_old h (length l) (omega arith))

    next_more : (i : ℕ) → i < suc (length l)
        → get_or linked i 0 ≡ last_with (hash_at hash blank (l ++ (x ∷ []))) (hash_at hash blank (l ++ (x ∷ [])) i) i
    next_more i below = ⊎_elim newest older (eq-or-lt_of_le (omega arith))
      where
        newest : i ≡ length l → get_or linked i 0 ≡ last_with (hash_at hash blank (l ++ (x ∷ []))) (hash_at hash blank (l ++ (x ∷ [])) i) i
        newest e = rw (e, new)
            (get_or-set_other (set index (length l) (get_or index (N + hash x) 0)) (N + hash x) (length l) (length l + 1) 0 (omega arith)
            ∙ get_or-set_same index (length l) (get_or index (N + hash x) 0) 0 (omega (arith, indexed.long))
            ∙ indexed.head (hash x) small
            ∙ sym (last_old (hash x) (length l) (omega arith)))

        older : i < length l → get_or linked i 0 ≡ last_with (hash_at hash blank (l ++ (x ∷ []))) (hash_at hash blank (l ++ (x ∷ [])) i) i
        older less = linked_other i (omega arith) (omega arith) ∙ indexed.next i less
            ∙ sym (last_old (hash_at hash blank l i) i (omega arith))
            ∙ ap (λ (h : ℕ). last_with (hash_at hash blank (l ++ (x ∷ []))) h i) (sym (old i less))

    pub indexed_snoc : (used first : ℕ) → used ≡ length l → first ≡ get_or index (N + hash x) 0 → Absent blank x l
        → Indexed hash blank N heads (l ++ (x ∷ [])) (set (set index used first) (N + hash x) (used + 1))
    indexed_snoc used first u f absent = rw (u, f) (record {
      limit = indexed.limit;
      some_head = indexed.some_head;
      long = omega (arith, indexed.long, length_linked);
      room = omega (arith, length-append l (x ∷ []));
      once = distinct_snoc blank x l indexed.once absent;
      head = λ h below. head_more h below
          ∙ ap (last_with (hash_at hash blank (l ++ (x ∷ []))) h) (sym (length-append l (x ∷ []) ∙ add-one (length l)));
      next = λ i below. next_more i (omega (arith, length-append l (x ∷ [])));
    })
