-- The way down from a reference, and references that are used.
-- Assumes nothing.
use mathlib.Core.Path.{◌≡◌, refl, ◌∙◌, ap}
use mathlib.Core.Bool.{Bool, true, false, cond}
use mathlib.Core.List.{List, [], ◌∷◌}
use Prim.Native.Nat.{ℕ, suc, ◌/◌, ◌%◌, ◌<◌}
use lib.ListN.{get_or}
use lib.Dec.{eqb}
use borrow.Author.Tests.{eqb-true, ne_eqb}
use Rattle.algebra.specs.Matrix.{Bits}
use Rattle.stores.specs.declared.Nodes.{Nodes}
use Rattle.cofactors.specs.Slots.{cofactor, landing}
use Rattle.places.specs.Ready.{Used, UsedNodes}

module _ (level low high : List ℕ) where
  -- ---- values

  cofactor_value : (asked : ℕ) (b : Bool) (r : ℕ) → (r % 2 ≡ 1 → ⊥) → cofactor level low high asked b r ≡ r
  cofactor_value asked b r even = rw (ne_eqb (r % 2) 1 even)

  -- a value gives itself, whatever the bits
  pub landing_value : (asked r : ℕ) (l : Bits) → (r % 2 ≡ 1 → ⊥) → landing level low high asked r l ≡ r
  landing_value asked r [] even = refl
  landing_value asked r (b ∷ l) even =
      ap (λ (x : ℕ). landing level low high (suc asked) x l) (cofactor_value asked b r even) ∙ landing_value (suc asked) r l even

-- ---- used references

module _ {nodes : Nodes} {used : ℕ} (held : UsedNodes nodes used) where
  pub used_down : (asked : ℕ) (b : Bool) (r : ℕ) → Used used r
      → Used used (cofactor nodes.level.now nodes.low.now nodes.high.now asked b r)
  used_down asked b r is = by_parity (eqb (r % 2) 1) refl
    where
      child_used : (b : Bool) → r / 2 < used → Used used (get_or (cond b nodes.high.now nodes.low.now) (r / 2) 0)
      child_used true h = (held.closed (r / 2) h).1
      child_used false h = (held.closed (r / 2) h).0

      by_level : (t : Bool) → r % 2 ≡ 1 → Used used (cond t (get_or (cond b nodes.high.now nodes.low.now) (r / 2) 0) r)
      by_level true odd = child_used b (is odd)
      by_level false odd = is

      by_parity : (t : Bool) → eqb (r % 2) 1 ≡ t
          → Used used (cond t
          (cond (eqb (get_or nodes.level.now (r / 2) 0) asked) (get_or (cond b nodes.high.now nodes.low.now) (r / 2) 0) r) r)
      by_parity true e = by_level (eqb (get_or nodes.level.now (r / 2) 0) asked) (eqb-true (r % 2) 1 e)
      by_parity false e = is
