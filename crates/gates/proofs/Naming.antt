-- Bit lists that agree off the named qubits: laws of the agreement, and sums over the lists that agree with a given one.
-- Assumes nothing.
use mathlib.Core.Path.{◌≡◌, refl, sym, ◌∙◌, ap, ap₂, fun_ext}
use mathlib.Core.Bool.{Bool, true, false, not, cond, ◌&&◌, ◌||◌, beq, and-true, and-false, and_assoc, and-not_self, true≢false}
use mathlib.Core.Logic.{◌⊎◌, inl, inr}
use mathlib.Core.List.{[], ◌∷◌}
use Prim.Native.Nat.{ℕ, zero, suc, ◌<◌, min, max}
use native.Mathlib.Decide.{dec_lt}
use native.Mathlib.Omega.{arith}
use lib.ListN.{length, set, length-set}
use lib.Seq.{get_or-set_same, get_or-set_other, set-get_or, set-set}
use Rattle.algebra.specs.declared.Entry.{Entry}
use Rattle.algebra.specs.Entry.{𝟘, ◌⊕◌}
use Rattle.algebra.specs.Matrix.{Bits, total, same}
use Rattle.algebra.proofs.Rings.{zero_add}
use Rattle.algebra.proofs.Entries.{entries, ⊕-zero}
use Rattle.algebra.proofs.Sums.{beq_sym, at_bit, total_zero}
use Rattle.gates.specs.Gate.{is, bit, agree, all_set, exchanged}

-- ---- names

pub is_refl : (q : ℕ) → is q q ≡ true
is_refl zero = refl
is_refl (suc q) = is_refl q

pub is_sound : (p q : ℕ) → is p q ≡ true → p ≡ q
is_sound zero zero e = refl
is_sound zero (suc q) e = absurd (true≢false (sym e))
is_sound (suc p) zero e = absurd (true≢false (sym e))
is_sound (suc p) (suc q) e = ap suc (is_sound p q e)

pub is_apart : (p q : ℕ) → (p ≡ q → ⊥) → is p q ≡ false
is_apart p q apart = by_name (is p q) refl
  where
    by_name : (b : Bool) → is p q ≡ b → b ≡ false
    by_name true e = absurd (apart (is_sound p q e))
    by_name false e = refl

-- what two sets name together, one of them does
pub either : (a b : Bool) → (a || b) ≡ true → (a ≡ true) ⊎ (b ≡ true)
either true b e = inl refl
either false b e = inr e

-- the set without q
abbrev pub without : (ℕ → Bool) → ℕ → ℕ → Bool
without named q i = named i && not (is q i)

without_self : (q : ℕ) → without (is q) q ≡ (λ i. false)
without_self q = fun_ext (λ i. and-not_self (is q i))

-- a set of names without those of P, where the others are not in P
pub without_controls : (P rest : ℕ → Bool) → ((i : ℕ) → rest i ≡ true → P i ≡ false) → ◌≡◌ {A = ℕ → Bool} (λ i. (P i || rest i) && not (P i)) rest
without_controls P rest apart = fun_ext (λ i. cases i (P i) (rest i) refl refl)
  where
    cases : (i : ℕ) (a b : Bool) → P i ≡ a → rest i ≡ b → ((a || b) && not a) ≡ b
    cases i true true e f = absurd (true≢false (sym e ∙ apart i f))
    cases i true false e f = refl
    cases i false true e f = refl
    cases i false false e f = refl

pub without_first : (p q : ℕ) → (p ≡ q → ⊥) → without (λ i. is p i || is q i) p ≡ is q
without_first p q apart = without_controls (is p) (is q) (λ i e. ap (is p) (sym (is_sound q i e)) ∙ is_apart p q apart)

-- ---- bits that are exchanged

-- one of the two is the first
exchanged_first : (x : Bool) (q : ℕ) (l : Bits) → q < length l → bit (set l q x) q ∷ set (set l q x) q (bit l q) ≡ x ∷ l
exchanged_first x q l h = ap₂ ◌∷◌ (get_or-set_same l q x false h) (set-set l q x (bit l q) ∙ set-get_or l q false)

pub exchanged_sym : (p q : ℕ) (l : Bits) → exchanged p q l ≡ exchanged q p l
exchanged_sym p q [] = refl
exchanged_sym zero zero (x ∷ l) = refl
exchanged_sym zero (suc q) (x ∷ l) = refl
exchanged_sym (suc p) zero (x ∷ l) = refl
exchanged_sym (suc p) (suc q) (x ∷ l) = ap (λ m. x ∷ m) (exchanged_sym p q l)

-- the lower one first
pub exchanged_ordered : (p q : ℕ) (l : Bits) → exchanged p q l ≡ exchanged (min p q) (max p q) l
exchanged_ordered p q l = by_order (dec_lt p q)
  where
    by_order : Dec (p < q) → exchanged p q l ≡ exchanged (min p q) (max p q) l
    by_order (yes less) = ap₂ (λ a b. exchanged a b l) (omega arith) (omega arith)
    by_order (no more) = exchanged_sym p q l ∙ ap₂ (λ a b. exchanged a b l) (omega arith) (omega arith)

pub exchanged_twice : (p q : ℕ) (l : Bits) → p < length l → q < length l → exchanged p q (exchanged p q l) ≡ l
exchanged_twice p q [] h k = refl
exchanged_twice zero zero (x ∷ l) h k = refl
exchanged_twice zero (suc q) (x ∷ l) h k = exchanged_first x q l (omega arith)
exchanged_twice (suc p) zero (x ∷ l) h k = exchanged_first x p l (omega arith)
exchanged_twice (suc p) (suc q) (x ∷ l) h k = ap (λ m. x ∷ m) (exchanged_twice p q l (omega arith) (omega arith))

module _ (p q : ℕ) (l : Bits) (apart : p ≡ q → ⊥) (p<l : p < length l) (q<l : q < length l) where
  pub exchanged_one : bit (exchanged p q l) p ≡ bit l q
  exchanged_one = get_or-set_other (set l p (bit l q)) q p (bit l p) false apart ∙ get_or-set_same l p (bit l q) false p<l

  pub exchanged_other : bit (exchanged p q l) q ≡ bit l p
  exchanged_other = get_or-set_same (set l p (bit l q)) q (bit l p) false (omega (arith, q<l, length-set l p (bit l q)))

pub all_set_set : (P : ℕ → Bool) (l : Bits) (q : ℕ) (b : Bool) → P q ≡ false → all_set P (set l q b) ≡ all_set P l
all_set_set P [] q b e = refl
all_set_set P (x ∷ l) zero b e = rw e
all_set_set P (x ∷ l) (suc q) b e = ap (λ k. (not (P 0) || x) && k) (all_set_set (λ i. P (suc i)) l q b e)

pub all_set_exchanged : (P : ℕ → Bool) (p q : ℕ) (l : Bits) → P p ≡ false → P q ≡ false → all_set P (exchanged p q l) ≡ all_set P l
all_set_exchanged P p q l e f = all_set_set P (set l p (bit l q)) q (bit l p) f ∙ all_set_set P l p (bit l q) e

-- ---- agreement

-- bit lists that agree off a set without controls have the same controls
pub all_set_agree : (P named : ℕ → Bool) (r c : Bits) → ((i : ℕ) → named i ≡ true → P i ≡ false) → agree named r c ≡ true → all_set P r ≡ all_set P c
all_set_agree P named [] [] free e = refl
all_set_agree P named [] (y ∷ c) free e = absurd (true≢false (sym e))
all_set_agree P named (x ∷ r) [] free e = absurd (true≢false (sym e))
all_set_agree P named (x ∷ r) (y ∷ c) free e =
    first (P 0) (named 0) x y (free 0) (agree (λ i. named (suc i)) r c) e
    (all_set_agree (λ i. P (suc i)) (λ i. named (suc i)) r c (λ i. free (suc i)))
  where
    first : (a b x y : Bool) → (b ≡ true → a ≡ false) → (k : Bool) → ((b || beq x y) && k) ≡ true
        → (k ≡ true → all_set (λ i. P (suc i)) r ≡ all_set (λ i. P (suc i)) c)
        → ((not a || x) && all_set (λ i. P (suc i)) r) ≡ ((not a || y) && all_set (λ i. P (suc i)) c)
    first a b x y none false h below = absurd (true≢false (sym h ∙ and-false (b || beq x y)))
    first false b x y none true h below = below refl
    first true true x y none true h below = absurd (true≢false (none refl))
    first true false true true none true h below = below refl
    first true false true false none true h below = absurd (true≢false (sym h))
    first true false false true none true h below = absurd (true≢false (sym h))
    first true false false false none true h below = refl

-- two agreements at once
pub agree_and : (j k : ℕ → Bool) (r c : Bits) → (agree j r c && agree k r c) ≡ agree (λ i. j i && k i) r c
agree_and j k [] [] = refl
agree_and j k [] (y ∷ c) = refl
agree_and j k (x ∷ r) [] = refl
agree_and j k (x ∷ r) (y ∷ c) =
    first (j 0) (k 0) (beq x y) (agree (λ i. j (suc i)) r c) (agree (λ i. k (suc i)) r c)
    ∙ ap (λ b. (j 0 && k 0 || beq x y) && b) (agree_and (λ i. j (suc i)) (λ i. k (suc i)) r c)
  where
    first : (a b e u w : Bool) → (((a || e) && u) && ((b || e) && w)) ≡ ((a && b || e) && (u && w))
    first true true e u w = refl
    first true false true u w = refl
    first true false false true w = refl
    first true false false false w = refl
    first false true true true w = refl
    first false false true true w = refl
    first false b true false w = refl
    first false b false u w = refl

pub agree_sym : (named : ℕ → Bool) (r c : Bits) → agree named r c ≡ agree named c r
agree_sym named [] [] = refl
agree_sym named [] (y ∷ c) = refl
agree_sym named (x ∷ r) [] = refl
agree_sym named (x ∷ r) (y ∷ c) = ap₂ (λ b k. (named 0 || b) && k) (beq_sym x y) (agree_sym (λ i. named (suc i)) r c)

agree_none : (r c : Bits) → agree (λ i. false) r c ≡ same r c
agree_none [] [] = refl
agree_none [] (y ∷ c) = refl
agree_none (x ∷ r) [] = refl
agree_none (x ∷ r) (y ∷ c) = ap (λ k. beq x y && k) (agree_none r c)

-- to agree in one named qubit too is to agree with that qubit not named
pub agree_without : (named : ℕ → Bool) (r c : Bits) (q : ℕ) → q < length r
    → (agree named r c && beq (bit r q) (bit c q)) ≡ agree (without named q) r c
agree_without named [] c q h = absurd (omega arith)
agree_without named (x ∷ r) [] q h = refl
agree_without named (x ∷ r) (y ∷ c) zero h = simp and-true (here (named 0) (beq x y) (agree (λ i. named (suc i)) r c))
  where
    here : (a b k : Bool) → ((a || b) && k && b) ≡ ((a && false || b) && k)
    here true true k = and-true k
    here true false k = and-false k
    here false true k = and-true k
    here false false k = refl
agree_without named (x ∷ r) (y ∷ c) (suc q) h =
    and_assoc (named 0 || beq x y) (agree (λ i. named (suc i)) r c) (beq (bit r q) (bit c q))
    ∙ ap₂ (λ a k. (a || beq x y) && k) (sym (and-true (named 0))) (agree_without (λ i. named (suc i)) r c q (omega arith))

-- to agree in the only qubit that is named too is to be the same
pub agree_same : (q : ℕ) (r c : Bits) → q < length r → (agree (is q) r c && beq (bit r q) (bit c q)) ≡ same r c
agree_same q r c h = agree_without (is q) r c q h ∙ ap (λ named. agree named r c) (without_self q) ∙ agree_none r c

-- to set a named bit changes no agreement
pub agree_set : (named : ℕ → Bool) (r c : Bits) (q : ℕ) (b : Bool) → named q ≡ true → agree named (set r q b) c ≡ agree named r c
agree_set named [] c q b e = refl
agree_set named (x ∷ r) [] zero b e = refl
agree_set named (x ∷ r) [] (suc q) b e = refl
agree_set named (x ∷ r) (y ∷ c) zero b e = rw e
agree_set named (x ∷ r) (y ∷ c) (suc q) b e = ap (λ k. (named 0 || beq x y) && k) (agree_set (λ i. named (suc i)) r c q b e)

-- ---- sums over the lists that agree with r off the named qubits

abbrev pub spread : (ℕ → Bool) → Bits → (Bits → Entry) → Entry
spread named [] f = f []
spread named (x ∷ r) f =
    let below : (Bits → Entry) → Entry = spread (λ i. named (suc i)) r in
    cond (named 0) (below (at_bit false f) ⊕ below (at_bit true f)) (below (at_bit x f))

pub total_agree : (n : ℕ) (named : ℕ → Bool) (r : Bits) (f : Bits → Entry) → length r ≡ n
    → total n (λ l. cond (agree named r l) (f l) 𝟘) ≡ spread named r f
unfolding total
total_agree zero named [] f e = refl
total_agree (suc n) named [] f e = absurd (omega arith)
total_agree zero named (x ∷ r) f e = absurd (omega arith)
total_agree (suc n) named (x ∷ r) f e = first (named 0) x (λ b. total_agree n (λ i. named (suc i)) r (at_bit b f) (omega arith))
  where
    rest : Bits → Bool
    rest = agree (λ i. named (suc i)) r

    below : Bool → Entry
    below b = spread (λ i. named (suc i)) r (at_bit b f)

    with_bit : Bool → Bool → Bool → Entry
    with_bit free x b = total n (λ l. cond ((free || beq x b) && rest l) (f (b ∷ l)) 𝟘)

    first : (free x : Bool) → ((b : Bool) → total n (λ l. cond (rest l) (f (b ∷ l)) 𝟘) ≡ below b)
        → with_bit free x false ⊕ with_bit free x true ≡ cond free (below false ⊕ below true) (below x)
    first true x h = ap₂ ◌⊕◌ (h false) (h true)
    first false true h = ap₂ ◌⊕◌ (total_zero n) (h true) ∙ zero_add entries (below true)
    first false false h = ap₂ ◌⊕◌ (h false) (total_zero n) ∙ ⊕-zero (below false)

spread_none : (r : Bits) (f : Bits → Entry) → spread (λ i. false) r f ≡ f r
spread_none [] f = refl
spread_none (x ∷ r) f = spread_none r (at_bit x f)

-- one named qubit: two lists
pub spread_one : (q : ℕ) (r : Bits) (f : Bits → Entry) → q < length r → spread (is q) r f ≡ f (set r q false) ⊕ f (set r q true)
spread_one q [] f h = absurd (omega arith)
spread_one zero (x ∷ r) f h = ap₂ ◌⊕◌ (spread_none r (at_bit false f)) (spread_none r (at_bit true f))
spread_one (suc q) (x ∷ r) f h = spread_one q r (at_bit x f) (omega arith)
