-- The child of a reference in the lent columns is its child in every store that the columns hold. Assumes nothing.
use mathlib.Core.Path.{◌≡◌, refl, ap₂}
use mathlib.Core.Bool.{Bool, true, false, cond}
use mathlib.Core.List.{List}
use Prim.Native.Nat.{ℕ, ◌/◌, ◌%◌}
use lib.Dec.{eqb}
use lib.ListN.{get_or}
use Rattle.diagrams.specs.Diagram.{value, node, code, node_at}
use Rattle.stores.specs.declared.Nodes.{Nodes}
use Rattle.cofactors.specs.Slots.{cofactor as column_cofactor}
use Rattle.transitions.specs.Source.{cols_of, Refers, Reading}
use Rattle.transitions.specs.Next.{cofactor_by, cofactor}

-- the columns' child is the store's
pub child_is : (nodes : Nodes) (level : ℕ) (b : Bool) (x : ℕ)
    → Reading (cols_of nodes) x (λ s. column_cofactor nodes.level.now nodes.low.now nodes.high.now level b x ≡ cofactor s level b x)
unfolding cofactor
child_is nodes level b x s held refers = by_parity (eqb (x % 2) 1) refers
  where
    i : ℕ
    i = x / 2

    column : Bool → List ℕ
    column c = cond c nodes.high.now nodes.low.now

    by_parity : (odd : Bool) → Refers s (cond odd (node i) (value i))
        → cond odd (cond (eqb (get_or nodes.level.now i 0) level) (get_or (column b) i 0) x) x ≡ cofactor_by s level b x (cond odd (node i) (value i))
    by_parity false refers = refl
    by_parity true refers = ap₂ (λ (own child : ℕ). cond (eqb own level) child x) (held.level_at i refers) (by_bit b)
      where
        by_bit : (c : Bool) → get_or (column c) i 0 ≡ code (cond c (node_at s i).high (node_at s i).low)
        by_bit true = held.high_at i refers
        by_bit false = held.low_at i refers
