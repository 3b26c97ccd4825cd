-- The set that a mask names, counted. Definitions only; that the count is that of the ones in the mask is in proofs/Masks.antt.
use Rattle.std.specs.Prelude.{Bool, cond, ℕ, zero, suc, ◌+◌}

-- how many of the first k numbers are in the set
abbrev pub members : ℕ → (ℕ → Bool) → ℕ
members zero P = 0
members (suc k) P = cond (P 0) 1 0 + members k (λ i. P (suc i))
