-- A list is accepted exactly if it is the encoding of some gates within the limits, and that encoding is the only one.
-- Assumes nothing.
use mathlib.Core.Logic.{◌↔◌}
use mathlib.Core.Path.{◌≡◌, sym, ◌∙◌, ap, subst}
use mathlib.Core.List.{List, ◌++◌}
use Prim.Native.Nat.{ℕ, ◌+◌, ◌<◌, ◌≤◌}
use native.Mathlib.Omega.{arith}
use borrow.Author.Tests.{le-leb, le-ltb}
use lib.ListN.{length}
use lib.Pow.{pow_mono}
use Rattle.gates.specs.Gate.{Gate}
use Rattle.circuits.specs.declared.Fault.{Fault}
use Rattle.circuits.specs.declared.Limits.{Limits}
use Rattle.circuits.specs.Refusals.{bad_qubit_count, bad_gate_count, base_limits}
use Rattle.circuits.specs.Reading.{read, count, Circuit, body, list, decoded}
use Rattle.encodings.specs.Encoding.{number_bytes, gates_bytes, list_bytes, Bytes, Decodes}
use Rattle.circuits.specs.Within.{Within}
use Rattle.circuits.proofs.Readings.{read_value}
use Rattle.circuits.proofs.Within.{decoded_within}
use Rattle.encodings.proofs.Spelling.{Spelled, spelled_none, join, split, whole, whole_is}
use Rattle.encodings.proofs.Numbers.{number_spelled, number_reads}
use Rattle.encodings.proofs.Gates.{gates_read}
use Rattle.encodings.proofs.Stretches.{Stretch, decoded_parts}

-- ---- what is read is spelled there

spelled_stretch : (s : List ℕ) → Bytes s → Stretch s (Spelled s)
spelled_stretch s bytes = record {
  of_none = spelled_none s;
  of_number = number_spelled s bytes;
  of_both = join;
}

-- ---- what is spelled there is read

module _ (low high : ℕ) (refusal : Fault) (s : List ℕ) (at : ℕ) {v next : ℕ} where
  count_reads : low ≤ v → v ≤ high → v < 2097152 → Spelled s at (number_bytes v) next → count low high refusal s at ≡ read v next
  unfolding count
  count_reads low≤ ≤high small e = rw (number_reads s at e small, le-leb low v low≤, le-leb v high ≤high)

-- ---- lists

module _ (limits : Limits) where
  pub accepted_encoded : (s : List ℕ) → Bytes s → (n : ℕ) (gs : List Gate) → Decodes limits s n gs → Within limits n gs × (s ≡ list_bytes n gs)
  unfolding list_bytes
  accepted_encoded s bytes n gs d =
      let p = decoded_parts s (spelled_stretch s bytes) limits d.accepted in
      (decoded_within limits s d.accepted, whole_is (join p.of_qubits (join p.of_count p.of_gates)))

  -- the limits are such that three groups can hold each count and each mask
  module _ (small_qubits : limits.qubits ≤ 21) (small_gates : limits.gates < 2097152) where
    spelled_decodes : (s : List ℕ) (n : ℕ) (gs : List Gate) → Within limits n gs → Spelled s 0 (list_bytes n gs) (length s) → Decodes limits s n gs
    unfolding list_bytes decoded list body
    spelled_decodes s n gs w e =
        let q = split (number_bytes n) (number_bytes (length gs) ++ gates_bytes gs) e in
        let m = split (number_bytes (length gs)) (gates_bytes gs) q.1 in
        record {
          first = 0 + length (number_bytes n) + length (number_bytes (length gs));
          next = length s;
          accepted =
              rw (count_reads 1 limits.qubits bad_qubit_count s 0 w.some_qubit w.few_qubits (omega arith) q.0)
              (rw (count_reads 0 limits.gates bad_gate_count s _ (omega arith) w.few_gates (omega arith) m.0)
              (rw (
                gates_read n (omega (arith, w.few_qubits)) (pow_mono {i = n} {j = 21} (omega (arith, w.few_qubits))) s _ gs w.all_fit m.1,
                le-ltb (length s) (length s) (omega arith),
              )));
        }

    -- exactly if
    pub accepted_iff_encoded : (s : List ℕ) → Bytes s → (n : ℕ) (gs : List Gate)
        → Decodes limits s n gs ↔ (Within limits n gs × (s ≡ list_bytes n gs))
    accepted_iff_encoded s bytes n gs = (
      accepted_encoded s bytes n gs,
      λ w. spelled_decodes s n gs w.0 (subst (λ (xs : List ℕ). Spelled s 0 xs (length s)) w.1 (whole s)),
    )

  -- ---- one encoding for each list, and one list for each encoding

  pub same_bytes : (s t : List ℕ) → Bytes s → Bytes t → (n : ℕ) (gs : List Gate) → Decodes limits s n gs → Decodes limits t n gs → s ≡ t
  same_bytes s t bytes_s bytes_t n gs d e = (accepted_encoded s bytes_s n gs d).1 ∙ sym (accepted_encoded t bytes_t n gs e).1

  pub same_list : (s : List ℕ) {n m : ℕ} {gs hs : List Gate} → Decodes limits s n gs → Decodes limits s m hs → (n ≡ m) × (gs ≡ hs)
  same_list s d e =
      let c = read_value (sym d.accepted ∙ e.accepted) in
      (ap (λ (c : Circuit). c.qubits) c, ap (λ (c : Circuit). c.gates) c)

-- ---- the limits of the base

pub base_accepted_iff_encoded : (s : List ℕ) → Bytes s → (n : ℕ) (gs : List Gate)
    → Decodes base_limits s n gs ↔ (Within base_limits n gs × (s ≡ list_bytes n gs))
base_accepted_iff_encoded = accepted_iff_encoded base_limits (omega arith) (omega arith)
