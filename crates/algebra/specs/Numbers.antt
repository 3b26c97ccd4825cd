-- What the crate's inner functions say of the numbers of an entry. No public contract cites it.
use Rattle.std.specs.Prelude.{List, ℕ, zero, suc, get_or, ℤ, pos, neg_ℤ}
use Rattle.algebra.specs.declared.Entry.{Entry}
use Rattle.algebra.specs.Entry.{entry}

-- the entry of four numbers
abbrev pub entry_of : List ℤ → Entry
entry_of x = entry (get_or x 0 (pos 0)) (get_or x 1 (pos 0)) (get_or x 2 (pos 0)) (get_or x 3 (pos 0))

-- the number at place m of a, b, c, d, −a, −b, −c, −d, and so on round
abbrev pub part : Entry → ℕ → ℤ
part x zero = x.a
part x (suc zero) = x.b
part x (suc (suc zero)) = x.c
part x (suc (suc (suc zero))) = x.d
part x (suc (suc (suc (suc m)))) = neg_ℤ (part x m)
