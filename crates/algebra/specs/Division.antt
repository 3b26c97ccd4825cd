-- Dividing an entry by √2. Definitions only; their laws are in proofs/.
use Rattle.std.specs.Prelude.{Bool, ◌&&◌, ◌%◌, eqb, ℤ, pos, ◌+ℤ◌, ◌-ℤ◌, nat_abs}
use Rattle.std.specs.Int.Signed.{quot_z}
use Rattle.algebra.specs.declared.Entry.{Entry}
use Rattle.algebra.specs.Entry.{entry}

-- a number that 2 divides
unfoldable pub even : ℤ → Bool
even z = eqb (nat_abs z % 2) 0

-- the quotient by 2, rounded toward 0; half of an even number
unfoldable pub half : ℤ → ℤ
half z = quot_z z (pos 2)

-- "every entry has both a + c and b + d even"
abbrev pub divisible : Entry → Bool
divisible x = even (x.a +ℤ x.c) && even (x.b +ℤ x.d)

-- "divide all entries by √2": half of the product with √2
unfoldable pub over_√2 : Entry → Entry
over_√2 x = entry (half (x.b -ℤ x.d)) (half (x.a +ℤ x.c)) (half (x.b +ℤ x.d)) (half (x.c -ℤ x.a))
