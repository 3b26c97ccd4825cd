-- References that lie within a store. No demand cites it. Definitions only; their laws are in proofs/Unique.antt.
use Rattle.std.specs.Prelude.{ℕ, ◌<◌}
use Rattle.diagrams.specs.Diagram.{Ref, value, node, Store, node_at, Both}

-- the reference is to one of the first i nodes or the first j values
abbrev pub Seen : Ref → ℕ → ℕ → Type 0
Seen (value v) i j = v < j
Seen (node n) i j = n < i

module _ {X : Type 0} (s : Store X) where
  -- the children of the first i nodes are among these, and the first j values
  abbrev pub Closed : ℕ → ℕ → Type 0
  Closed i j = (n : ℕ) → n < i → Both (λ r. Seen r i j) (node_at s n)
