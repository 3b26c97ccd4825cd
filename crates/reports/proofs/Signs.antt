-- Whole numbers by their sign: the text of one is what the library prints, and says that number. Assumes nothing.
use mathlib.Core.Path.{◌≡◌, refl, ap, ◌∙◌}
use mathlib.Core.Bool.{Bool, cond}
use mathlib.Core.List.{List, [], ◌∷◌, ◌++◌}
use Prim.Native.Nat.{ℕ, suc, ◌^◌, ◌<◌}
use native.Mathlib.Omega.{arith}
use borrow.Author.Tests.{ne_eqb}
use lib.Dec.{eqb}
use lib.IntN.{ℤ, pos, negsuc, neg_ℤ}
use lib.Signed.{mag}
use mir.Facts.{to_z-of_z}
use mir.Syntax.{w32}
use mir.Val.{to_z, of_z}
use Rattle.std.specs.Fmt.{signed_decimal}
use Rattle.reports.specs.declared.Line.{Line}
use Rattle.reports.specs.Line.{bytes, whole, after_space}
use Rattle.reports.specs.Writing.{Put}
use Rattle.reports.proofs.Decimals.{Decimal, none, more, digits_decimal, value, value_digits, digits_printed}

-- an `i32` as a local holds it
abbrev held : ℤ → ℤ
held z = to_z w32 (of_z w32 z)

held_is : (z : ℤ) → mag z < 2 ^ 31 → held z ≡ z
held_is z h = to_z-of_z {w = w32} (record { sfits = h })

-- ---- the text

printed : (z : ℤ) → mag z < 2 ^ 31 → whole z ≡ signed_decimal z
unfolding whole
printed (pos n) h = digits_printed n (omega arith)
printed (negsuc n) h = ap (λ (s : List ℕ). bytes "-" ++ s) (digits_printed (suc n) (omega arith))

-- a number written behind a space
pub put_whole : {a b : Line} {m : ℕ} (z : ℤ) → mag z < 2 ^ 31 → Put (bytes " " ++ signed_decimal (held z)) m a b → Put (after_space z) m a b
put_whole z h p = rw (printed z h) (rw (held_is z h) at p)

-- ---- the number that a text says

abbrev pub whole_value : List ℕ → ℤ
whole_value [] = pos 0
whole_value (x ∷ s) = cond (eqb x 45) (neg_ℤ (pos (value s))) (pos (value (x ∷ s)))

unsigned : {s : List ℕ} → Decimal s → whole_value s ≡ pos (value s)
unsigned none = refl
unsigned (more {d} {s} low high p) = ap (λ (b : Bool). cond b (neg_ℤ (pos (value s))) (pos (value (d ∷ s)))) (ne_eqb d 45 (λ is. omega arith))

pub whole_value_is : (z : ℤ) → whole_value (whole z) ≡ z
unfolding whole
whole_value_is (pos n) = unsigned (digits_decimal n) ∙ ap pos (value_digits n)
whole_value_is (negsuc n) = ap (λ (m : ℕ). neg_ℤ (pos m)) (value_digits (suc n))
