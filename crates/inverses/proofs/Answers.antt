-- What the writer answers and leaves in the buffer, by what was read and the buffer's length.
-- Assumes nothing.
use mathlib.Core.Path.{◌≡◌, refl, sym, ◌∙◌, ap, ap₂, subst}
use mathlib.Core.List.{List}
use Prim.Native.Nat.{ℕ, ◌+◌, ◌<◌, ◌≤◌}
use native.Mathlib.Decide.{dec_le}
use native.Mathlib.Omega.{arith}
use borrow.Author.Tests.{le-leb, lt-leb}
use lib.ListN.{length, drop, length-append}
use lib.Seq.{sets}
use Rattle.std.specs.Prelude.{Ok, Err}
use Rattle.gates.specs.Gate.{Gate}
use Rattle.circuits.specs.declared.Refusal.{Refusal as ListRefusal}
use Rattle.circuits.specs.Refusals.{base_limits}
use Rattle.circuits.specs.Reading.{Reading, read, refused as unread, Circuit, decoded}
use Rattle.encodings.specs.Encoding.{number_bytes, gates_bytes, list_bytes}
use Rattle.encodings.specs.Writing.{Put}
use Rattle.encodings.proofs.Lengths.{decoded_ends, list_long}
use Rattle.encodings.proofs.Puts.{put_then, sets_over}
use Rattle.stores.specs.Columns.{over}
use Rattle.miters.specs.declared.Refusal.{Refusal}
use Rattle.miters.specs.declared.CallFault.TheVariants.{ShortBuffer}
use Rattle.miters.specs.declared.Refusal.TheVariants.{Call}
use Rattle.miters.specs.declared.Part.TheVariants.{First}
use Rattle.miters.specs.Report.{at_byte}
use Rattle.lists.specs.Answers.{Listed}
use Rattle.inverses.specs.Inverse.{undone, inverse_bytes, Filled, inverted_by, inverted}
use Rattle.inverses.specs.Writing.{gates_of, gates_said}
use Rattle.inverses.proofs.Undone.{undone_length, undone_long}
use Rattle.inverses.proofs.Writing.{said_circuit}

-- ---- the three answers

-- the inverse is as long as the list
pub inverse_length : (s : List ℕ) {c : Circuit} {next : ℕ} → decoded base_limits s ≡ read c next → length (inverse_bytes c) ≡ length s
unfolding inverse_bytes
inverse_length s {c} e =
    let l = decoded_ends base_limits s e in
    omega (
      arith,
      list_long c.qubits (undone c.gates),
      ap (λ (k : ℕ). length (number_bytes k)) (undone_length c.gates),
      undone_long c.gates,
      l.head,
      l.all,
    )

module _ (s buffer : List ℕ) where
  pub inverted_unread : {why : ListRefusal} → decoded base_limits s ≡ unread why
      → inverted s buffer ≡ record { answer = Err (at_byte First why); buffer = buffer }
  unfolding inverted
  inverted_unread e = ap (inverted_by buffer) e

  module _ {c : Circuit} {next : ℕ} (e : decoded base_limits s ≡ read c next) where
    pub inverted_short : length buffer < length s → inverted s buffer ≡ record { answer = Err (Call ShortBuffer); buffer = buffer }
    unfolding inverted
    inverted_short short = ap (inverted_by buffer) e ∙ rw (lt-leb (length (inverse_bytes c)) (length buffer) (omega (arith, inverse_length s e)))

    pub inverted_long : length s ≤ length buffer → inverted s buffer ≡ record { answer = Ok (length s); buffer = over (inverse_bytes c) buffer }
    unfolding inverted
    inverted_long room =
        ap (inverted_by buffer) e ∙ rw (le-leb (length (inverse_bytes c)) (length buffer) (omega (arith, inverse_length s e)))
        (ap (λ (k : ℕ). record { answer = Ok k; buffer = over (inverse_bytes c) buffer }) (inverse_length s e))

-- ---- what an answer of k bytes says

pub record Wrote (s buffer : List ℕ) (k : ℕ) : Type 0 where
  pub c : Circuit
  pub end : ℕ
  pub was_read : decoded base_limits s ≡ read c end
  pub long : length (inverse_bytes c) ≡ k
  pub room : k ≤ length buffer
  pub filled : (inverted s buffer).buffer ≡ over (inverse_bytes c) buffer

module _ (s buffer : List ℕ) {k : ℕ} (answered : (inverted s buffer).answer ≡ Ok k) where
  -- it was not refused
  unrefused : {why : Refusal} → inverted s buffer ≡ record { answer = Err why; buffer = buffer } → ⊥
  unrefused e =
      let both : Err _ ≡ Ok k = sym (ap (λ (f : Filled). f.answer) e) ∙ answered in
      let z : ◌≡◌ {A = ℕ} 0 1 = cc in
      omega arith

  wrote_by : (r : Reading Circuit) → decoded base_limits s ≡ r → Wrote s buffer k
  wrote_by (unread why) e = absurd (unrefused (inverted_unread s buffer e))
  wrote_by (read c next) e = elim (dec_le (length s) (length buffer)) [
    | no short ↦ absurd (unrefused (inverted_short s buffer e (omega arith)))
    | yes room ↦
        let is = inverted_long s buffer e room in
        let both : Ok (length s) ≡ Ok k = sym (ap (λ (f : Filled). f.answer) is) ∙ answered in
        let count : length s ≡ k = cc in
        record {
          c = c;
          end = next;
          was_read = e;
          long = inverse_length s e ∙ count;
          room = omega (arith, count);
          filled = ap (λ (f : Filled). f.buffer) is;
        }
  ]

  pub wrote : Wrote s buffer k
  wrote = wrote_by (decoded base_limits s) refl

  -- the buffer still has room for it
  pub wrote_within : k ≤ length (inverted s buffer).buffer
  wrote_within =
      let w = wrote in
      let bytes = inverse_bytes w.c in
      omega (arith, w.long, ap length w.filled, length-append bytes (drop (length bytes) buffer))

-- ---- the parts that were written

module _ (s buffer : List ℕ) {n m first : ℕ} (l : Listed (decoded base_limits s) n m first) where
  pub short_answer : length buffer < length s → inverted s buffer ≡ record { answer = Err (Call ShortBuffer); buffer = buffer }
  short_answer short = inverted_short s buffer l.was_read short

  module _ (room : length s ≤ length buffer) {one two three : List ℕ} {next last : ℕ} where
    pub written_all : Put (number_bytes n) 0 buffer one next → Put (number_bytes m) next one two last
        → three ≡ sets two first (gates_bytes (undone (gates_said s)))
        → (Ok (length s) ≡ (inverted s buffer).answer) × (three ≡ (inverted s buffer).buffer)
    unfolding inverse_bytes list_bytes
    written_all qubits count gates =
        let c = l.circuit in
        let answer = inverted_long s buffer l.was_read room in
        let head = (said_circuit s l.was_read).head in
        let qubits_of = subst (λ (k : ℕ). Put (number_bytes k) 0 buffer one next) (sym l.qubits_are) qubits in
        let count_of = subst (λ (k : ℕ). Put (number_bytes k) next one two last) (sym (undone_length c.gates ∙ l.gates_are)) count in
        let many = ap (λ (k : ℕ). length (number_bytes k)) l.gates_are in
        let start : first ≡ last = sym l.first_is ∙ omega (arith, head, qubits_of.place, count.place, many) in
        let gates_of_it : Put (gates_bytes (undone c.gates)) last two three (last + length (gates_bytes (undone c.gates))) =
        record {
          place = refl;
          stored = gates ∙ ap₂ (λ (k : ℕ) (gs : List Gate). sets two k (gates_bytes (undone gs))) start (ap gates_of l.was_read);
        } in
        let all = put_then qubits_of (put_then count_of gates_of_it) in
        let long = inverse_length s l.was_read in (
          sym (ap (λ (f : Filled). f.answer) answer),
          all.stored ∙ sets_over (inverse_bytes c) buffer (omega (arith, long)) ∙ sym (ap (λ (f : Filled). f.buffer) answer),
        )
