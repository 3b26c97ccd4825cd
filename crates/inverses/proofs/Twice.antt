-- The bytes written are a list of the gates undone, and doing it twice gives back the first bytes.
-- Assumes nothing.
use mathlib.Core.Path.{◌≡◌, refl, sym, ◌∙◌, ap, ap₂, subst, ◌≡⟨◌⟩◌, ◌∎}
use mathlib.Core.List.{List}
use Prim.Native.Nat.{ℕ, ◌≤◌}
use native.Mathlib.Omega.{arith}
use lib.ListN.{length, take, drop}
use lib.Seq.{take_at}
use Rattle.std.specs.Prelude.{Ok}
use Rattle.gates.specs.Gate.{Gate}
use Rattle.circuits.specs.declared.Limits.{Limits}
use Rattle.circuits.specs.Refusals.{base_limits}
use Rattle.circuits.specs.Reading.{read, Circuit, decoded}
use Rattle.circuits.specs.Within.{Within}
use Rattle.circuits.proofs.Within.{decoded_within}
use Rattle.encodings.specs.Encoding.{list_bytes, Bytes, Decodes}
use Rattle.encodings.proofs.Accepted.{accepted_encoded, base_accepted_iff_encoded}
use Rattle.encodings.proofs.Bytes.{encoding_bytes}
use Rattle.stores.specs.Columns.{over}
use Rattle.inverses.specs.Inverse.{undone, inverse_bytes, inverted}
use Rattle.inverses.specs.Claims.{written, Undoes}
use Rattle.inverses.proofs.Undone.{undone_undone, undone_length, undone_fit}
use Rattle.inverses.proofs.Answers.{inverse_length, inverted_long, wrote}

-- ---- the inverse is a list within the limits, and its inverse is the first list

undone_within : (limits : Limits) (n : ℕ) (gs : List Gate) → Within limits n gs → Within limits n (undone gs)
undone_within limits n gs w = record {
  some_qubit = w.some_qubit;
  few_qubits = w.few_qubits;
  few_gates = subst (λ (k : ℕ). k ≤ limits.gates) (sym (undone_length gs)) w.few_gates;
  all_fit = undone_fit n gs w.all_fit;
}

module _ (s : List ℕ) {c : Circuit} {next : ℕ} (e : decoded base_limits s ≡ read c next) where
  inverse_decodes : Decodes base_limits (inverse_bytes c) c.qubits (undone c.gates)
  unfolding inverse_bytes
  inverse_decodes =
      let within = undone_within base_limits c.qubits c.gates (decoded_within base_limits s e) in
      (base_accepted_iff_encoded (inverse_bytes c) (encoding_bytes base_limits (omega arith) (omega arith) c.qubits (undone c.gates) within)
      c.qubits (undone c.gates)).1 (within, refl)

  -- with any buffer that has room
  inverted_back : Bytes s → (buffer : List ℕ) → length s ≤ length buffer
      → inverted (inverse_bytes c) buffer ≡ record { answer = Ok (length s); buffer = over s buffer }
  unfolding inverse_bytes
  inverted_back bytes buffer room =
      let long = inverse_length s e in
      let first : s ≡ list_bytes c.qubits c.gates =
      (accepted_encoded base_limits s bytes c.qubits c.gates (record { first = c.first; next = next; accepted = e })).1 in
      let back : list_bytes c.qubits (undone (undone c.gates)) ≡ s = ap (list_bytes c.qubits) (undone_undone c.gates) ∙ sym first in
      inverted_long (inverse_bytes c) buffer inverse_decodes.accepted (omega (arith, long))
      ∙ ap₂ (λ (k : ℕ) (l : List ℕ). record { answer = Ok k; buffer = over l buffer }) long back

-- ---- what a call has written

pub undoes : (list : List ℕ) → Bytes list → (buffer : List ℕ) {k : ℕ} → (inverted list buffer).answer ≡ Ok k → Undoes list buffer k
undoes list bytes buffer {k} answered =
    let w = wrote list buffer answered in
    let inverse = inverse_bytes w.c in
    let count : length list ≡ k = sym (inverse_length list w.was_read) ∙ w.long in
    let is : written list buffer k ≡ inverse = ap (take k) w.filled ∙ take_at inverse (drop (length inverse) buffer) k w.long in
    record {
      c = w.c;
      end = w.end;
      was_read = w.was_read;
      decodes = subst (λ (l : List ℕ). Decodes base_limits l w.c.qubits (undone w.c.gates)) (sym is) (inverse_decodes list w.was_read);
      back = λ second room.
          inverted (written list buffer k) second ≡⟨ ap (λ (l : List ℕ). inverted l second) is ⟩
          inverted inverse second ≡⟨ inverted_back list w.was_read bytes second (omega (arith, count)) ⟩
          record { answer = Ok (length list); buffer = over list second }
          ≡⟨ ap (λ (n : ℕ). record { answer = Ok n; buffer = over list second }) count ⟩
          record { answer = Ok k; buffer = over list second } ∎;
    }
