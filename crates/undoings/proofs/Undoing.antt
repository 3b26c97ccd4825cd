-- Checking a list followed by its inverse against the empty list says equal unless refused.
-- Assumes nothing.
use mathlib.Core.Path.{◌≡◌, refl, sym, ◌∙◌, subst}
use mathlib.Core.Logic.{inl, inr}
use mathlib.Core.List.{List, [], ◌++◌}
use Prim.Native.Nat.{ℕ}
use native.Mathlib.Omega.{arith}
use lib.ListN.{length-append}
use Rattle.algebra.specs.declared.Entry.{Entry}
use Rattle.gates.specs.Gate.{Gate}
use Rattle.circuits.specs.declared.Limits.{Limits}
use Rattle.circuits.specs.Refusals.{base_limits}
use Rattle.circuits.specs.Reading.{read, Circuit, decoded}
use Rattle.circuits.specs.Within.{Within}
use Rattle.circuits.proofs.Within.{decoded_within, append_fit}
use Rattle.encodings.specs.Encoding.{list_bytes, Bytes}
use Rattle.encodings.proofs.Accepted.{accepted_encoded, accepted_iff_encoded, same_list}
use Rattle.encodings.proofs.Bytes.{encoding_bytes}
use Rattle.stores.specs.Columns.{Columns}
use Rattle.miters.specs.declared.Verdict.{Verdict}
use Rattle.miters.specs.declared.Verdict.TheVariants.{Equal as equal_with, Different, Refused}
use Rattle.miters.specs.Miter.{Equal}
use Rattle.miters.specs.Run.{Outcome}
use Rattle.miters.specs.Claims.{Answered}
use Rattle.judges.specs.Answer.{answer}
use Rattle.judges.proofs.Demands.{demand_2}
use Rattle.inverses.specs.Inverse.{undone}
use Rattle.inverses.proofs.Undone.{undone_length, undone_fit}
use Rattle.undoings.specs.Undoing.{followed, empty, EqualUnlessRefused, UndoingEqual}
use Rattle.undoings.proofs.Products.{followed_equal}

-- ---- what a list's encoding is read as, if it is read at all

-- limits that both lists are within, and for which three groups hold each count
abbrev wide : Limits
wide = record { qubits = 16; gates = 8192 }

widen : {n : ℕ} {gs : List Gate} → Within base_limits n gs → Within wide n gs
widen w = record { some_qubit = w.some_qubit; few_qubits = w.few_qubits; few_gates = omega (arith, w.few_gates); all_fit = w.all_fit }

read_back : (n : ℕ) (gs : List Gate) → Within wide n gs → {d : Circuit} {next : ℕ} → decoded base_limits (list_bytes n gs) ≡ read d next
    → (n ≡ d.qubits) × (gs ≡ d.gates)
read_back n gs within {d} {next} e =
    let s = list_bytes n gs in
    let bytes : Bytes s = encoding_bytes wide (omega arith) (omega arith) n gs within in
    let encoded = accepted_encoded base_limits s bytes d.qubits d.gates (record { first = d.first; next = next; accepted = e }) in
    let both = accepted_iff_encoded wide (omega arith) (omega arith) s bytes in
    same_list wide s ((both n gs).1 (within, refl)) ((both d.qubits d.gates).1 (widen encoded.0, encoded.1))

-- ---- the two lists

module _ {n : ℕ} {gs : List Gate} (w : Within base_limits n gs) where
  followed_within : Within wide n (gs ++ undone gs)
  followed_within = record {
    some_qubit = w.some_qubit;
    few_qubits = w.few_qubits;
    few_gates = omega (arith, w.few_gates, length-append gs (undone gs), undone_length gs);
    all_fit = append_fit n gs (undone gs) w.all_fit (undone_fit n gs w.all_fit);
  }

  empty_within : Within wide n []
  empty_within = record { some_qubit = w.some_qubit; few_qubits = w.few_qubits; few_gates = omega arith; all_fit = tt }

-- ---- the verdict

module _ (s : List ℕ) {c : Circuit} {next : ℕ} (e : decoded base_limits s ≡ read c next) (schedule : List ℕ) (w : ℕ) (first second : Columns) where
  abbrev o : Outcome
  o = answer (followed c) (empty c) schedule w first second

  within : Within base_limits c.qubits c.gates
  within = decoded_within base_limits s e

  unrefused_equal : Answered o → (z : Entry) × (o.report.verdict ≡ equal_with z)
  unfolding followed empty
  unrefused_equal unrefused =
      let d = demand_2 (followed c) (empty c) schedule w first second unrefused in
      let one = read_back c.qubits (c.gates ++ undone c.gates) (followed_within within) d.lists.first_read in
      let other = read_back c.qubits [] (empty_within within) d.lists.second_read in
      let equal = followed_equal c.qubits c.gates within.all_fit in
      d.equal_iff.1
      (subst (λ (n : ℕ). Equal n d.c.gates d.d.gates) one.0
      (subst (λ (us : List Gate). Equal c.qubits us d.d.gates) one.1
      (subst (λ (vs : List Gate). Equal c.qubits (c.gates ++ undone c.gates) vs) other.1 equal)))

  different_answered : (v : Verdict) → o.report.verdict ≡ v → EqualUnlessRefused o
  different_answered (equal_with z) is = inl (z, is)
  different_answered (Refused why) is = inr (why, is)
  different_answered (Different d) is =
      inl (unrefused_equal (λ r f. let both : Different d ≡ Refused r = sym is ∙ f in let z : ◌≡◌ {A = ℕ} 0 1 = cc in omega arith))

  unless_refused : EqualUnlessRefused o
  unless_refused = different_answered o.report.verdict refl

pub undoing_equal : UndoingEqual
undoing_equal list c end e schedule w first second = unless_refused list e schedule w first second
