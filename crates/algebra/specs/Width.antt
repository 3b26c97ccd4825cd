-- The width rule. Definitions only; its laws are in proofs/Widths.antt.
use Rattle.std.specs.Prelude.{Bool, cond, ◌&&◌, Option, Some, None, ℕ, ◌^◌, ◌-◌, leb, ℤ, pos, neg_ℤ}
use Rattle.std.specs.Int.Signed.{le_z, lt_z}
use Rattle.algebra.specs.declared.Entry.{Entry}

-- "w not 2 to 32" is refusal 1
abbrev pub fit_width : ℕ → Bool
fit_width w = leb 2 w && leb w 32

-- "Each step's numbers must lie in −2^(w−1) to 2^(w−1) − 1, w being the lent width."
unfoldable pub number_in_width : ℕ → ℤ → Bool
number_in_width w z = le_z (neg_ℤ (pos (2 ^ (w - 1)))) z && lt_z z (pos (2 ^ (w - 1)))

abbrev pub entry_in_width : ℕ → Entry → Bool
entry_in_width w x = (number_in_width w x.a && number_in_width w x.b) && (number_in_width w x.c && number_in_width w x.d)

-- the entry, if the width is one and holds each of its numbers
unfoldable pub bounded : ℕ → Entry → Option Entry
bounded w x = cond (fit_width w && entry_in_width w x) (Some x) None
