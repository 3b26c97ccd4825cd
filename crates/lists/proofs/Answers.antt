-- What a match on a list's answer says of the reading behind it.
-- Assumes nothing.
use mathlib.Core.Path.{◌≡◌, refl, ◌∙◌, ap}
use mathlib.Core.List.{List}
use Prim.Native.Nat.{ℕ}
use native.Mathlib.Omega.{arith}
use lib.ListN.{length}
use Rattle.std.specs.Prelude.{Result, Ok, Err}
use Rattle.circuits.specs.declared.Refusal.{Refusal}
use Rattle.circuits.specs.declared.Limits.{Limits}
use Rattle.circuits.specs.Refusals.{base_limits}
use Rattle.circuits.specs.Reading.{Reading, read, refused, Circuit, decoded}
use Rattle.lists.specs.declared.List.{List as ListHead}
use Rattle.lists.specs.Answers.{head_of, list_answer, Listed}

module _ {answer : Result ListHead Refusal} where
  pub list_read : (m : Reading Circuit) {head : ListHead}
      → answer ≡ list_answer m → answer ≡ Ok head → Listed m head.qubits head.gates head.first
  list_read (read c next) {head} e f =
      let is : head_of c.qubits (length c.gates) c.first ≡ head = cc in
      record {
        circuit = c;
        next = next;
        was_read = refl;
        qubits_are = ap (λ (h : ListHead). h.qubits) is;
        gates_are = ap (λ (h : ListHead). h.gates) is;
        first_is = ap (λ (h : ListHead). h.first) is;
      }
  list_read (refused r) e f = let z : ◌≡◌ {A = ℕ} 0 1 = cc in absurd (omega arith)

  pub list_refused : (m : Reading Circuit) {r : Refusal} → answer ≡ list_answer m → answer ≡ Err r → m ≡ refused r
  list_refused (read c next) e f = cc
  list_refused (refused r) e f = cc

-- ---- at the limits of the base

module _ (bytes : List ℕ) {limits : Limits} {answer : Result ListHead Refusal} (base : limits ≡ base_limits)
    (is : answer ≡ list_answer (decoded limits bytes)) where
  at_base : answer ≡ list_answer (decoded base_limits bytes)
  at_base = is ∙ ap (λ (l : Limits). list_answer (decoded l bytes)) base

  pub listed : {head : ListHead} → answer ≡ Ok head → Listed (decoded base_limits bytes) head.qubits head.gates head.first
  listed e = list_read (decoded base_limits bytes) at_base e

  pub unlisted : {why : Refusal} → answer ≡ Err why → decoded base_limits bytes ≡ refused why
  unlisted e = list_refused (decoded base_limits bytes) at_base e
