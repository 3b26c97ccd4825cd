-- The gates of a list undone: undone again they are the first gates; as many gates, that fit as many qubits, in as many bytes.
-- Assumes nothing.
use mathlib.Core.Path.{◌≡◌, refl, sym, ◌∙◌, ap, ap₂}
use mathlib.Core.List.{List, [], ◌∷◌, ◌++◌, append_assoc, append-nil}
use Prim.Native.Nat.{ℕ}
use native.Mathlib.Omega.{arith}
use lib.ListN.{length, length-append}
use Rattle.gates.specs.Gate.{Gate, AllFit, inverse}
use Rattle.gates.proofs.Inverses.{inverse_fits, inverse_inverse}
use Rattle.circuits.specs.Codes.{gate_code}
use Rattle.circuits.proofs.Within.{append_fit}
use Rattle.encodings.specs.Encoding.{number_bytes, operand_bytes, gate_bytes, gates_bytes}
use Rattle.encodings.proofs.Numbers.{one_byte}
use Rattle.encodings.proofs.Gates.{small_code}
use Rattle.inverses.specs.Inverse.{undone}
use Rattle.inverses.proofs.Undoing.{inverse_operands}

-- ---- one gate

pub inverse_long : (g : Gate) → length (gate_bytes (inverse g)) ≡ length (gate_bytes g)
inverse_long g =
    omega (
      arith,
      ap length (one_byte (gate_code g) (small_code g)),
      ap length (one_byte (gate_code (inverse g)) (small_code (inverse g))),
      ap length (inverse_operands g),
      length-append (number_bytes (gate_code g)) (operand_bytes g),
      length-append (number_bytes (gate_code (inverse g))) (operand_bytes (inverse g)),
    )

-- ---- gates

-- the last gate is undone first
undone_append : (gs hs : List Gate) → undone (gs ++ hs) ≡ undone hs ++ undone gs
undone_append [] hs = sym (append-nil (undone hs))
undone_append (g ∷ gs) hs =
    ap (λ (l : List Gate). l ++ (inverse g ∷ [])) (undone_append gs hs) ∙ append_assoc (undone hs) (undone gs) (inverse g ∷ [])

undone_snoc : (gs : List Gate) (g : Gate) → undone (gs ++ (g ∷ [])) ≡ inverse g ∷ undone gs
undone_snoc gs g = undone_append gs (g ∷ [])

pub undone_undone : (gs : List Gate) → undone (undone gs) ≡ gs
undone_undone [] = refl
undone_undone (g ∷ gs) = undone_snoc (undone gs) (inverse g) ∙ ap₂ (λ (h : Gate) (l : List Gate). h ∷ l) (inverse_inverse g) (undone_undone gs)

pub undone_length : (gs : List Gate) → length (undone gs) ≡ length gs
undone_length [] = refl
undone_length (g ∷ gs) = omega (arith, length-append (undone gs) (inverse g ∷ []), undone_length gs)

pub undone_fit : (n : ℕ) (gs : List Gate) → AllFit n gs → AllFit n (undone gs)
undone_fit n [] fit = tt
undone_fit n (g ∷ gs) fit = append_fit n (undone gs) (inverse g ∷ []) (undone_fit n gs fit.1) (inverse_fits n g fit.0, tt)

-- ---- their bytes

gates_bytes_append : (gs hs : List Gate) → gates_bytes (gs ++ hs) ≡ gates_bytes gs ++ gates_bytes hs
gates_bytes_append [] hs = refl
gates_bytes_append (g ∷ gs) hs =
    ap (λ (l : List ℕ). gate_bytes g ++ l) (gates_bytes_append gs hs) ∙ sym (append_assoc (gate_bytes g) (gates_bytes gs) (gates_bytes hs))

-- the bytes of the first gate's inverse come last
pub undone_bytes : (g : Gate) (gs : List Gate) → gates_bytes (undone (g ∷ gs)) ≡ gates_bytes (undone gs) ++ gate_bytes (inverse g)
undone_bytes g gs =
    gates_bytes_append (undone gs) (inverse g ∷ []) ∙ ap (λ (l : List ℕ). gates_bytes (undone gs) ++ l) (append-nil (gate_bytes (inverse g)))

pub undone_long : (gs : List Gate) → length (gates_bytes (undone gs)) ≡ length (gates_bytes gs)
undone_long [] = refl
undone_long (g ∷ gs) =
    omega (
      arith,
      ap length (undone_bytes g gs),
      length-append (gates_bytes (undone gs)) (gate_bytes (inverse g)),
      undone_long gs,
      inverse_long g,
      length-append (gate_bytes g) (gates_bytes gs),
    )
