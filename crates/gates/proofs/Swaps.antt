-- Two targets exchanged where every control is 1: a permutation matrix, which is symmetric, and its product with a column.
-- Assumes nothing.
use mathlib.Core.Path.{◌≡◌, refl, sym, ◌∙◌, ap, ap₂}
use mathlib.Core.Bool.{Bool, true, false, not, cond, ◌&&◌, ◌||◌, beq, and_assoc, or-true}
use mathlib.Core.Logic.{⊎_elim}
use Prim.Native.Nat.{ℕ, ◌<◌}
use native.Mathlib.Omega.{arith}
use lib.ListN.{length, set, length-set}
use Rattle.algebra.specs.declared.Entry.{Entry}
use Rattle.algebra.specs.Entry.{𝟘, 𝟙, ◌⊗◌}
use Rattle.algebra.specs.Matrix.{Bits, Matrix, total, same}
use Rattle.algebra.proofs.Rings.{one_mul}
use Rattle.algebra.proofs.Entries.{entries, cond-⊗}
use Rattle.algebra.proofs.Sums.{same_refl, same_sound, total_ext, total_pick}
use Rattle.gates.specs.Gate.{is, bit, agree, agree_in, all_set, exchanged}
use Rattle.gates.proofs.Naming.{is_refl, is_sound, either, without_first, without_controls, exchanged_twice, exchanged_one, exchanged_other}
use Rattle.gates.proofs.Naming.{all_set_exchanged, agree_and, agree_same, agree_set, agree_without}

module _ (P : ℕ → Bool) (p q : ℕ) where
  abbrev pub swapped : Bits → Bits
  swapped l = cond (all_set P l) (exchanged p q l) l

  length_swapped : (l : Bits) → length (swapped l) ≡ length l
  length_swapped l = cases (all_set P l)
    where
      cases : (b : Bool) → length (cond b (exchanged p q l) l) ≡ length l
      cases true = length-set (set l p (bit l q)) q (bit l p) ∙ length-set l p (bit l q)
      cases false = refl

  module _ (p_free : P p ≡ false) (q_free : P q ≡ false) where
    pub swapped_twice : (l : Bits) → p < length l → q < length l → swapped (swapped l) ≡ l
    swapped_twice l h k = cases (all_set P l) refl
      where
        cases : (b : Bool) → all_set P l ≡ b → swapped (cond b (exchanged p q l) l) ≡ l
        cases true e = rw (all_set_exchanged P p q l p_free q_free, e) (exchanged_twice p q l h k)
        cases false e = rw e

    pub swapped_sym : (r c : Bits) → p < length r → q < length r → p < length c → q < length c → same (swapped r) c ≡ same (swapped c) r
    swapped_sym r c h k h' k' = iff (same (swapped r) c) (same (swapped c) r) (turn r c h k) (turn c r h' k')
      where
        turn : (x y : Bits) → p < length x → q < length x → same (swapped x) y ≡ true → same (swapped y) x ≡ true
        turn x y hx kx e = ap (λ z. same (swapped z) x) (sym (same_sound (swapped x) y e)) ∙ ap (λ z. same z x) (swapped_twice x hx kx) ∙ same_refl x

        iff : (a b : Bool) → (a ≡ true → b ≡ true) → (b ≡ true → a ≡ true) → a ≡ b
        iff true b f g = sym (f refl)
        iff false true f g = g refl
        iff false false f g = refl

    module _ (apart : p ≡ q → ⊥) (r c : Bits) (h : p < length r) (k : q < length r) where
      abbrev both : ℕ → Bool
      both i = is p i || is q i

      named_both : (both p ≡ true) × (both q ≡ true)
      named_both = (ap (λ b. b || is q p) (is_refl p), ap (λ b. is p q || b) (is_refl q) ∙ or-true (is p q))

      -- the bits at the targets, and agreement off them, by whether the swap is made
      at_targets : (b : Bool) → (bit r (cond b q p) ≡ bit (cond b (exchanged p q r) r) p) × (bit r (cond b p q) ≡ bit (cond b (exchanged p q r) r) q)
          × (agree both r c ≡ agree both (cond b (exchanged p q r) r) c)
      at_targets true = (
        sym (exchanged_one p q r apart h k),
        sym (exchanged_other p q r apart h k),
        sym (agree_set both (set r p (bit r q)) c q (bit r p) named_both.1 ∙ agree_set both r c p (bit r q) named_both.0),
      )
      at_targets false = (refl, refl, refl)

      -- agreement off the targets and in both of them is sameness
      agree_both : (l : Bits) → p < length l → q < length l
          → (agree both l c && (beq (bit l p) (bit c p) && beq (bit l q) (bit c q))) ≡ same l c
      agree_both l hl kl =
          sym (and_assoc (agree both l c) (beq (bit l p) (bit c p)) (beq (bit l q) (bit c q)))
          ∙ ap (λ b. b && beq (bit l q) (bit c q)) (agree_without both l c p hl ∙ ap (λ n. agree n l c) (without_first p q apart))
          ∙ agree_same q l c kl

      pub swap_agrees : let active = all_set P r in
          (agree (λ i. P i || both i) r c && (agree_in P r c
          && (beq (bit r (cond active q p)) (bit c p) && beq (bit r (cond active p q)) (bit c q)))) ≡ same (swapped r) c
      swap_agrees =
          let long = length_swapped r in
          let at = at_targets (all_set P r) in
          let one : Bool = beq (bit r (cond (all_set P r) q p)) (bit c p) in
          let two : Bool = beq (bit r (cond (all_set P r) p q)) (bit c q) in
          sym (and_assoc (agree (λ i. P i || both i) r c) (agree_in P r c) (one && two))
          ∙ ap (λ b. b && (one && two)) (agree_and (λ i. P i || both i) (λ i. not (P i)) r c
          ∙ ap (λ n. agree n r c) (without_controls P both free))
          ∙ ap₂ (λ x y. agree both r c && (beq x (bit c p) && beq y (bit c q))) at.0 at.1
          ∙ ap (λ b. b && (beq (bit (swapped r) p) (bit c p) && beq (bit (swapped r) q) (bit c q))) at.2
          ∙ agree_both (swapped r) (omega (arith, h, long)) (omega (arith, k, long))
        where
          free : (i : ℕ) → both i ≡ true → P i ≡ false
          free i e = ⊎_elim (λ f. ap P (sym (is_sound p i f)) ∙ p_free) (λ f. ap P (sym (is_sound q i f)) ∙ q_free) (either (is p i) (is q i) e)

-- in row l a 1 where the targets' bits are exchanged
abbrev pub swapped_line : (ℕ → Bool) → ℕ → ℕ → Matrix
swapped_line P p q l x = cond (same (swapped P p q l) x) 𝟙 𝟘

pub swapped_sum : (n : ℕ) (P : ℕ → Bool) (p q : ℕ) (F : Bits → Entry) (l : Bits) → length l ≡ n
    → total n (λ x. swapped_line P p q l x ⊗ F x) ≡ F (swapped P p q l)
swapped_sum n P p q F l e =
    total_ext n _ _ (λ x k. cond-⊗ (same (swapped P p q l) x) 𝟙 (F x) ∙ ap (λ y. cond (same (swapped P p q l) x) y 𝟘) (one_mul entries (F x)))
    ∙ total_pick n (swapped P p q l) F (length_swapped P p q l ∙ e)
