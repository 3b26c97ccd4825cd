-- References and their numbers: each is read back from the other.
-- Assumes nothing.
use mathlib.Core.Path.{◌≡◌, refl, sym, ◌∙◌, ap}
use mathlib.Core.Bool.{Bool, true, false, cond}
use Prim.Native.Nat.{ℕ, ◌*◌, ◌/◌, ◌%◌}
use native.Mathlib.Omega.{arith}
use lib.Dec.{eqb}
use borrow.Author.Tests.{eqb-true, eqb-false}
use Rattle.diagrams.specs.Diagram.{Ref, value, node, code, ref_of}
use Rattle.diagrams.proofs.Tests.{code_injective}

pub code_ref_of : (c : ℕ) → code (ref_of c) ≡ c
code_ref_of c = by_parity (eqb (c % 2) 1) refl
  where
    by_parity : (odd : Bool) → eqb (c % 2) 1 ≡ odd → code (cond odd (node (c / 2)) (value (c / 2))) ≡ c
    by_parity true e = omega (arith, eqb-true (c % 2) 1 e)
    by_parity false e = even (eqb-false (c % 2) 1 e)
      where
        even : (c % 2 ≡ 1 → ⊥) → 2 * (c / 2) ≡ c
        even h = omega arith

pub ref_of_code : (r : Ref) → ref_of (code r) ≡ r
ref_of_code r = code_injective (ref_of (code r)) r (code_ref_of (code r))

pub ref_of_injective : (c d : ℕ) → ref_of c ≡ ref_of d → c ≡ d
ref_of_injective c d e = sym (code_ref_of c) ∙ ap code e ∙ code_ref_of d
