-- The derived test of an entry is the one of the specification, number by number. Assumes nothing.
use Rattle.std.proofs.Common.{◌≡◌, refl, sym, ◌&&◌, ℤ, pos, negsuc, int_eq, arith}
use Rattle.std.proofs.lemmas.Bool.Decides.{nat_tests}
use mathlib.Core.Bool.{and_assoc}
use Rattle.algebra.specs.declared.Entry.{Entry}
use Rattle.diagrams.specs.Diagram.{same_number, same_entry}

number_is : (x y : ℤ) → int_eq x y ≡ same_number x y
number_is (pos m) (pos n) = grind (arith, nat_tests)
number_is (pos m) (negsuc n) = refl
number_is (negsuc m) (pos n) = refl
number_is (negsuc m) (negsuc n) = grind (arith, nat_tests)

pub entry_is : (x y : Entry) → (int_eq x.a y.a && (int_eq x.b y.b && (int_eq x.c y.c && int_eq x.d y.d))) ≡ same_entry x y
entry_is x y =
    rw (number_is x.a y.a, number_is x.b y.b, number_is x.c y.c, number_is x.d y.d)
    (sym (and_assoc (same_number x.a y.a) (same_number x.b y.b) (same_number x.c y.c && same_number x.d y.d)))
