-- The levels of the qubits that a mask names: as many as its ones, ascending, and each named qubit's stands where as many are as are named below it.
-- Assumes nothing.
use mathlib.Core.Bool.{Bool, true, false, cond}
use mathlib.Core.List.{List, ◌∷◌}
use mathlib.Core.Path.{◌≡◌, refl, sym, ◌∙◌, ap, ap₂}
use Prim.Native.Nat.{ℕ, zero, suc, ◌+◌, ◌*◌, ◌/◌, ◌%◌, ◌^◌, ◌<◌, ◌≤◌}
use native.Mathlib.Nat.{pow-suc, mod-one, zero-add}
use lib.Arith.{mod-mul}
use lib.Pow.{pow_pos}
use native.Mathlib.Omega.{arith}
use lib.Count.{ones, ones_step}
use lib.Dec.{eqb}
use lib.ListN.{length, get_or}
use Rattle.gates.specs.Gate.{in_mask}
use Rattle.gates.proofs.Masks.{in_mask_first, in_mask_later, halved, bit_is, mask_below}
use Rattle.plans.specs.Prepare.{levels_from}

-- ---- the lowest bit, then the others

-- the levels of a mask's bits past the lowest
abbrev later : ℕ → ℕ → ℕ → List ℕ
later fuel level mask = levels_from fuel (level + 2) (mask / 2)

-- with the level of the lowest bit before them if it is set
abbrev from_first : Bool → ℕ → List ℕ → List ℕ
from_first b level ls = cond b (level ∷ ls) ls

-- ---- as many as ones

pub length_levels : (fuel level mask : ℕ) → mask < 2 ^ fuel → length (levels_from fuel level mask) ≡ ones mask
unfolding levels_from ones
length_levels zero level mask h = let none : mask ≡ 0 = omega arith in sym (ap ones none)
length_levels (suc fuel) level mask h =
    by_bit (eqb (mask % 2) 1) refl (length_levels fuel (level + 2) (mask / 2) (halved fuel mask h)) ∙ sym (ones_step mask)
  where
    by_bit : (b : Bool) → eqb (mask % 2) 1 ≡ b → length (later fuel level mask) ≡ ones (mask / 2)
        → length (from_first b level (later fuel level mask)) ≡ mask % 2 + ones (mask / 2)
    by_bit true e below = let one = bit_is mask true e in omega (arith, one, below)
    by_bit false e below = let none = bit_is mask false e in omega (arith, none, below)

-- ---- ascending

-- every element of a list is at least so much
abbrev AtLeast : ℕ → List ℕ → Type 0
AtLeast least ls = (k : ℕ) → k < length ls → least ≤ get_or ls k 0

levels_least : (fuel level mask : ℕ) → AtLeast level (levels_from fuel level mask)
unfolding levels_from
levels_least zero level mask k h = absurd (omega arith)
levels_least (suc fuel) level mask k h = by_bit (eqb (mask % 2) 1) k h (levels_least fuel (level + 2) (mask / 2))
  where
    by_bit : (b : Bool) (k : ℕ) → k < length (from_first b level (later fuel level mask)) → AtLeast (level + 2) (later fuel level mask)
        → level ≤ get_or (from_first b level (later fuel level mask)) k 0
    by_bit true zero h below = omega arith
    by_bit true (suc k) h below = omega (arith, below k (omega arith))
    by_bit false k h below = omega (arith, below k h)

abbrev Ascends : List ℕ → Type 0
Ascends ls = (j k : ℕ) → j < k → k < length ls → get_or ls j 0 < get_or ls k 0

pub levels_ascend : (fuel level mask : ℕ) → Ascends (levels_from fuel level mask)
unfolding levels_from
levels_ascend zero level mask j k less h = absurd (omega arith)
levels_ascend (suc fuel) level mask j k less h =
    by_bit (eqb (mask % 2) 1) j k less h (levels_least fuel (level + 2) (mask / 2)) (levels_ascend fuel (level + 2) (mask / 2))
  where
    by_bit : (b : Bool) (j k : ℕ) → j < k → k < length (from_first b level (later fuel level mask)) → AtLeast (level + 2) (later fuel level mask)
        → Ascends (later fuel level mask)
        → get_or (from_first b level (later fuel level mask)) j 0 < get_or (from_first b level (later fuel level mask)) k 0
    by_bit true j zero less h least below = absurd (omega arith)
    by_bit true zero (suc k) less h least below = omega (arith, least k (omega arith))
    by_bit true (suc j) (suc k) less h least below = below j k (omega arith) (omega arith)
    by_bit false j k less h least below = below j k less h

-- ---- each is a named qubit's

-- a level is that of a qubit that the mask names, if the lowest bit's qubit is at this one
abbrev OfNamed : ℕ → ℕ → ℕ → Type 0
OfNamed level mask v = (q : ℕ) × (in_mask mask q ≡ true) × (v ≡ level + 2 * q)

pub levels_named : (fuel level mask k : ℕ) → k < length (levels_from fuel level mask) → OfNamed level mask (get_or (levels_from fuel level mask) k 0)
unfolding levels_from
levels_named zero level mask k h = absurd (omega arith)
levels_named (suc fuel) level mask k h = by_bit (eqb (mask % 2) 1) refl k h (levels_named fuel (level + 2) (mask / 2))
  where
    further : {v : ℕ} → OfNamed (level + 2) (mask / 2) v → OfNamed level mask v
    further found = let at = found.2 in (suc found.0, in_mask_later mask found.0 ∙ found.1, omega arith)

    by_bit : (b : Bool) → eqb (mask % 2) 1 ≡ b → (k : ℕ) → k < length (from_first b level (later fuel level mask))
        → ((i : ℕ) → i < length (later fuel level mask) → OfNamed (level + 2) (mask / 2) (get_or (later fuel level mask) i 0))
        → OfNamed level mask (get_or (from_first b level (later fuel level mask)) k 0)
    by_bit true e zero h below = (0, in_mask_first mask ∙ e, omega arith)
    by_bit true e (suc k) h below = further (below k (omega arith))
    by_bit false e k h below = further (below k h)

-- ---- a named qubit's stands where as many are as are named below it

-- the ones below a bit
below_step : (mask q : ℕ) → ones (mask % 2 ^ suc q) ≡ mask % 2 + ones (mask / 2 % 2 ^ q)
below_step mask q = ones_step (mask % 2 ^ suc q) ∙ ap₂ (λ (a b : ℕ). a + ones b) low_bit high_bits
  where
    digits : mask % 2 ^ suc q ≡ mask / 2 % 2 ^ q * 2 + mask % 2
    digits = ap (λ (d : ℕ). mask % d) (pow-suc 2 q) ∙ mod-mul mask (pow_pos q) (omega arith)

    low_bit : mask % 2 ^ suc q % 2 ≡ mask % 2
    low_bit = omega (arith, digits)

    high_bits : mask % 2 ^ suc q / 2 ≡ mask / 2 % 2 ^ q
    high_bits = omega (arith, digits)

-- an element and its place
abbrev Stands : List ℕ → ℕ → ℕ → Type 0
Stands ls k v = (k < length ls) × (get_or ls k 0 ≡ v)

pub levels_at : (fuel level mask q : ℕ) → mask < 2 ^ fuel → in_mask mask q ≡ true
    → Stands (levels_from fuel level mask) (ones (mask % 2 ^ q)) (level + 2 * q)
unfolding levels_from ones
levels_at zero level mask q h e = absurd (none (mask_below 0 mask q h e))
  where
    none : q < 0 → ⊥
    none below = omega arith
levels_at (suc fuel) level mask zero h e =
    rw (mod-one mask, sym (in_mask_first mask) ∙ e) (omega arith, omega arith)
levels_at (suc fuel) level mask (suc q) h e =
    rw (below_step mask q) (by_bit (eqb (mask % 2) 1) refl
    (levels_at fuel (level + 2) (mask / 2) q (halved fuel mask h) (sym (in_mask_later mask q) ∙ e)))
  where
    by_bit : (b : Bool) → eqb (mask % 2) 1 ≡ b → Stands (later fuel level mask) (ones (mask / 2 % 2 ^ q)) (level + 2 + 2 * q)
        → Stands (from_first b level (later fuel level mask)) (mask % 2 + ones (mask / 2 % 2 ^ q)) (level + 2 * suc q)
    by_bit true e below =
        let one = bit_is mask true e in
        let index : mask % 2 + ones (mask / 2 % 2 ^ q) ≡ suc (ones (mask / 2 % 2 ^ q)) = omega (arith, one) in
        rw index (omega (arith, below.0), omega (arith, below.1))
    by_bit false e below = let none = bit_is mask false e in rw (none, zero-add (ones (mask / 2 % 2 ^ q))) (below.0, omega (arith, below.1))
