-- What a gate does to a list's entries, by the first bit of the list: before its target, at it, and where it has no control.
-- Assumes nothing.
use mathlib.Core.Path.{◌≡◌, refl, sym, ◌∙◌, ap, ap₂}
use mathlib.Core.Bool.{Bool, true, false, not, cond, ◌&&◌, ◌||◌, beq}
use mathlib.Core.List.{◌∷◌}
use Prim.Native.Nat.{ℕ, suc}
use lib.ListN.{set}
use lib.Seq.{set-get_or}
use Rattle.algebra.specs.declared.Entry.{Entry}
use Rattle.algebra.specs.Entry.{◌⊕◌, ◌⊖◌, turned}
use Rattle.algebra.specs.Matrix.{Bits}
use Rattle.gates.specs.declared.Act.{Act}
use Rattle.gates.specs.declared.Act.TheVariants.{Keeps, Flips, Mixes, Swaps}
use Rattle.gates.specs.declared.Phases.{Phases}
use Rattle.gates.specs.declared.Rule.{Rule}
use Rattle.gates.specs.Gate.{bit, all_set, exchanged}
use Rattle.gates.specs.Rule.{does_flip, does_mix, does_swap, phase, flipped, mixed, acted}

module _ (rule : Rule) (p : Phases) (P : ℕ → Bool) (F : Bits → Entry) (b : Bool) (l : Bits) where
  -- the targets are after the first bit
  pub acted_later : (q q' : ℕ)
      → acted rule p P (suc q) (suc q') F (b ∷ l) ≡ cond (not (P 0) || b) (acted rule p (λ i. P (suc i)) q q' (λ m. F (b ∷ m)) l) (F (b ∷ l))
  unfolding acted
  acted_later q q' = by_act rule.act (not (P 0) || b)
    where
      by_act : (act : Act) (t : Bool)
          → cond (t && all_set (λ i. P (suc i)) l) (cond (does_mix act) (mixed (suc q) F (b ∷ l)) (cond (does_swap act) (F (b ∷ exchanged q q' l))
          (turned (phase p (bit l q)) (F (cond (does_flip act) (b ∷ set l q (not (bit l q))) (b ∷ l)))))) (F (b ∷ l))
          ≡ cond t (cond (all_set (λ i. P (suc i)) l) (cond (does_mix act) (mixed q (λ m. F (b ∷ m)) l)
          (cond (does_swap act) (F (b ∷ exchanged q q' l)) (turned (phase p (bit l q)) (F (b ∷ cond (does_flip act) (set l q (not (bit l q))) l)))))
          (F (b ∷ l))) (F (b ∷ l))
      by_act Keeps true = refl
      by_act Flips true = refl
      by_act Mixes true = refl
      by_act Swaps true = refl
      by_act act false = refl

  -- what the gate makes at its target, by the target's bit; a swap's second target is at q'
  abbrev pub made_at_target : ℕ → Entry
  made_at_target q' = cond
      (does_mix rule.act)
      (cond b (F (false ∷ l) ⊖ F (true ∷ l)) (F (false ∷ l) ⊕ F (true ∷ l)))
      (cond (does_swap rule.act) (F (exchanged 0 q' (b ∷ l))) (turned (phase p b) (F (flipped rule b ∷ l))))

  -- the first bit is the target's
  pub acted_here : (q' : ℕ) → P 0 ≡ false → acted rule p P 0 q' F (b ∷ l) ≡ cond (all_set (λ i. P (suc i)) l) (made_at_target q') (F (b ∷ l))
  unfolding acted
  acted_here q' no_control =
      ap₂ (λ (t : Bool) (x : Entry). cond ((not t || b) && all_set (λ i. P (suc i)) l)
      (cond (does_mix rule.act) (mixed 0 F (b ∷ l)) (cond (does_swap rule.act) (F (exchanged 0 q' (b ∷ l))) x)) (F (b ∷ l)))
      no_control (ap (turned (phase p b)) (taken (does_flip rule.act)))
    where
      taken : (flips : Bool) → F (cond flips (not b ∷ l) (b ∷ l)) ≡ F (cond flips (not b) b ∷ l)
      taken true = refl
      taken false = refl

-- a swap at its first target, by the bit of its second: where the two are alike nothing moves, else the other cofactor, with the first's bit
-- in the second's place
pub exchanged_here : (F : Bits → Entry) (b : Bool) (l : Bits) (j : ℕ)
    → F (exchanged 0 (suc j) (b ∷ l)) ≡ cond (beq (bit l j) b) (F (b ∷ l)) (F (not b ∷ set l j b))
exchanged_here F b l j = by_bits (bit l j) refl b
  where
    by_bits : (c : Bool) → bit l j ≡ c → (b : Bool) → F (c ∷ set l j b) ≡ cond (beq c b) (F (b ∷ l)) (F (not b ∷ set l j b))
    by_bits true e true = ap (λ (m : Bits). F (true ∷ m)) (ap (set l j) (sym e) ∙ set-get_or l j false)
    by_bits true e false = refl
    by_bits false e true = refl
    by_bits false e false = ap (λ (m : Bits). F (false ∷ m)) (ap (set l j) (sym e) ∙ set-get_or l j false)
