-- What is read takes as many bytes as its encoding has, whatever those bytes are.
-- Assumes nothing.
use mathlib.Core.Path.{◌≡◌, sym}
use mathlib.Core.List.{List, ◌++◌}
use Prim.Native.Nat.{ℕ, ◌+◌}
use native.Mathlib.Nat.{add-zero}
use native.Mathlib.Omega.{arith}
use lib.ListN.{length, length-append}
use Rattle.gates.specs.Gate.{Gate}
use Rattle.circuits.specs.declared.Limits.{Limits}
use Rattle.circuits.specs.Reading.{read, gates, Circuit, decoded}
use Rattle.encodings.specs.Encoding.{number_bytes, gates_bytes, list_bytes}
use Rattle.encodings.proofs.Numbers.{number_long}
use Rattle.encodings.proofs.Stretches.{Stretch, gates_stretch, decoded_parts}

-- so many bytes lie between the offsets
abbrev Long : ℕ → List ℕ → ℕ → Type 0
Long at bytes next = next ≡ at + length bytes

long_stretch : (s : List ℕ) → Stretch s Long
long_stretch s = record {
  of_none = λ at. sym (add-zero at);
  of_number = number_long s;
  of_both = λ {at} {middle} {next} {xs} {ys} p q. omega (arith, p, q, length-append xs ys);
}

pub gates_long : (s : List ℕ) (n at : ℕ) (gs : List Gate) {next : ℕ} → gates n (length gs) s at ≡ read gs next → next ≡ at + length (gates_bytes gs)
gates_long s n at gs e = gates_stretch s (long_stretch s) n at gs e

-- ---- a list

-- where the parts of an accepted list end
pub record Ends (s : List ℕ) (c : Circuit) : Type 0 where
  pub head : c.first ≡ length (number_bytes c.qubits) + length (number_bytes (length c.gates))
  pub all : length s ≡ c.first + length (gates_bytes c.gates)

pub decoded_ends : (limits : Limits) (s : List ℕ) {c : Circuit} {next : ℕ} → decoded limits s ≡ read c next → Ends s c
decoded_ends limits s {c} e =
    let p = decoded_parts s (long_stretch s) limits e in
    record { head = omega (arith, p.of_qubits, p.of_count); all = p.of_gates }

pub list_long : (n : ℕ) (gs : List Gate)
    → length (list_bytes n gs) ≡ length (number_bytes n) + length (number_bytes (length gs)) + length (gates_bytes gs)
unfolding list_bytes
list_long n gs =
    omega (
      arith,
      length-append (number_bytes n) (number_bytes (length gs) ++ gates_bytes gs),
      length-append (number_bytes (length gs)) (gates_bytes gs),
    )
