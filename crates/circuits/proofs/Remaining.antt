-- The gates of an accepted list, read one by one: what is left of them at an offset.
-- Assumes nothing.
use mathlib.Core.Logic.{⊎_elim}
use mathlib.Core.Path.{◌≡◌, sym, ◌∙◌, ap, subst}
use mathlib.Core.List.{List, [], ◌∷◌}
use Prim.Native.Nat.{ℕ, zero, suc, ◌+◌, ◌≤◌, ◌<◌}
use native.Mathlib.Numerals.{add-one}
use native.Mathlib.Nat.{le_antisymm}
use borrow.Author.Tests.{ltb-false}
use lib.ListN.{length, get_or, drop}
use lib.Seq.{drop-cons}
use lib.Dec.{ltb}
use Rattle.gates.specs.Gate.{Gate, on, pair, toffoli, fredkin, Meant, one, two, mask_one, mask_two, unknown, meant}
use Rattle.circuits.specs.declared.Limits.{Limits}
use Rattle.circuits.specs.Refusals.{bad_qubit_count, bad_gate_count}
use Rattle.circuits.specs.Reading.{Reader, read, ◌>>=◌, pure, number, qubit, target_qubit, mask, free_qubit, second_qubit}
use Rattle.circuits.specs.Reading.{operands, gate, gates}
use Rattle.circuits.specs.Remaining.{Remaining}
use Rattle.circuits.specs.Reading.{count, end, Circuit, body, list, decoded}
use Rattle.circuits.proofs.Readings.{choice, refused_read, read_value, read_next, parts, Step, gates_step, gates_length}
use Rattle.circuits.proofs.Checks.{qubit_checked, target_checked, mask_checked, free_checked, second_checked, count_checked}
use Rattle.circuits.proofs.Forms.{number_within}

-- ---- reading stays within the bytes

abbrev Stays : {A : Type 0} → Reader A → Type 0
Stays {A} m = (s : List ℕ) (at : ℕ) (a : A) (next : ℕ) → m s at ≡ read a next → at ≤ length s → next ≤ length s

module _ {A B : Type 0} {m : Reader A} {f : A → Reader B} (first : Stays m) (second : (a : A) → Stays (f a)) where
  stays_then : Stays (m >>= f)
  stays_then s at b next e h =
      let p = parts (m s at) e in
      second p.value s p.next b next p.second (first s at p.value p.next p.first h)

number_stays : Stays number
number_stays s at v next e h = number_within s at e

pure_stays : {A : Type 0} (a : A) → Stays (pure a)
pure_stays a s at b next e h = subst (λ (k : ℕ). k ≤ length s) (read_next e) h

qubit_stays : (n : ℕ) → Stays (qubit n)
qubit_stays n s at q next e h = number_within s at (qubit_checked s at n e).0

target_stays : (n p : ℕ) → Stays (target_qubit n p)
target_stays n p s at q next e h = number_within s at (target_checked s at n p e).0

mask_stays : (n least : ℕ) → Stays (mask n least)
mask_stays n least s at m next e h = number_within s at (mask_checked s at n least e).0

free_stays : (n m : ℕ) → Stays (free_qubit n m)
free_stays n m s at q next e h = number_within s at (free_checked s at n m e).0

other_stays : (n m p : ℕ) → Stays (second_qubit n m p)
other_stays n m p s at q next e h = number_within s at (second_checked s at n m p e).0

operands_stays : (n start : ℕ) (m : Meant) → Stays (operands n start m)
operands_stays n start (one k) s at g next e h = stays_then (qubit_stays n) (λ q. pure_stays (on k q)) s at g next e h
operands_stays n start (two k) s at g next e h =
    stays_then (qubit_stays n) (λ p. stays_then (target_stays n p) (λ q. pure_stays (pair k p q))) s at g next e h
operands_stays n start mask_one s at g next e h =
    stays_then (mask_stays n 2) (λ m. stays_then (free_stays n m) (λ q. pure_stays (toffoli m q))) s at g next e h
operands_stays n start mask_two s at g next e h =
    stays_then (mask_stays n 1)
    (λ m. stays_then (free_stays n m) (λ p. stays_then (other_stays n m p) (λ q. pure_stays (fredkin m p q)))) s at g next e h
operands_stays n start unknown s at g next e h = absurd (refused_read e)

gate_stays : (n : ℕ) → Stays (gate n)
unfolding gate
gate_stays n s at = stays_then number_stays (λ code. operands_stays n at (meant code)) s at

gates_stay : (n m : ℕ) → Stays (gates n m)
unfolding gates
gates_stay n zero = pure_stays []
gates_stay n (suc m) = stays_then (gate_stays n) (λ g. stays_then (gates_stay n m) (λ gs. pure_stays (g ∷ gs)))

-- ---- what is left

-- the first of them stands here, and the others are what is left after it
abbrev pub Next : ℕ → List ℕ → ℕ → Gate → List Gate → Type 0
Next n s at g gs = Step n (length gs) s at g gs (length s)

pub remaining_next : (n : ℕ) (s : List ℕ) (at : ℕ) (g : Gate) (gs : List Gate) → Remaining n s at (g ∷ gs) → Next n s at g gs
remaining_next n s at g gs e = gates_step n (length gs) s at e

pub remaining_none : (n : ℕ) (s : List ℕ) (at : ℕ) → Remaining n s at [] → at ≡ length s
unfolding gates
remaining_none n s at e = read_next e

-- gate i of a list, where those from the i-th on are left: it stands here, and those after it are left at the offset after it
pub remaining_at : (n : ℕ) (s : List ℕ) (at i : ℕ) (gs : List Gate) (other : Gate) → i < length gs
    → Remaining n s at (drop i gs) → Next n s at (get_or gs i other) (drop (i + 1) gs)
remaining_at n s at i gs other h e =
    rw add-one (remaining_next n s at (get_or gs i other) (drop (suc i) gs) (subst (Remaining n s at) (drop-cons gs i other h) e))

-- ---- at the first gate all of them are left

end_at : (s : List ℕ) (at : ℕ) {a next : ℕ} → end s at ≡ read a next → (length s ≤ at) × (next ≡ at)
end_at s at e =
    ⊎_elim
    (λ c. absurd (refused_read c.1))
    (λ c. (ltb-false at (length s) c.0, sym (read_next c.1)))
    (choice (ltb at (length s)) e)

-- the gates and the end
record Ended (n m : ℕ) (s : List ℕ) (first : ℕ) (c : Circuit) (next : ℕ) : Type 0 where
  those : List Gate
  circuit : record { qubits = n; first = first; gates = those } ≡ c
  those_read : gates n m s first ≡ read those (length s)
  ends : next ≡ length s

body_read : (n m : ℕ) (s : List ℕ) (first : ℕ) {c : Circuit} {next : ℕ} → first ≤ length s → body n m s first ≡ read c next → Ended n m s first c next
unfolding body
body_read n m s first h e =
    let p = parts (gates n m s first) e in
    let q = parts (end s p.next) p.second in
    let stop = end_at s p.next q.first in
    let last : p.next ≡ length s = le_antisymm (gates_stay n m s first p.value p.next p.first h) stop.0 in
    record {
      those = p.value;
      circuit = read_value q.second;
      those_read = p.first ∙ ap (read p.value) last;
      ends = sym (read_next q.second) ∙ (stop.1 ∙ last);
    }

-- an accepted list: its counts, and all its gates after them
pub record Accepted (limits : Limits) (s : List ℕ) (c : Circuit) (next : ℕ) : Type 0 where
  pub middle : ℕ
  pub qubit_count : count 1 limits.qubits bad_qubit_count s 0 ≡ read c.qubits middle
  pub gate_count : count 0 limits.gates bad_gate_count s middle ≡ read (length c.gates) c.first
  pub all_gates : Remaining c.qubits s c.first c.gates
  pub ends : next ≡ length s

pub decoded_accepted : (limits : Limits) (s : List ℕ) {c : Circuit} {next : ℕ} → decoded limits s ≡ read c next → Accepted limits s c next
unfolding decoded list
decoded_accepted limits s {c} {next} e =
    let p = parts (count 1 limits.qubits bad_qubit_count s 0) e in
    let q = parts (count 0 limits.gates bad_gate_count s p.next) p.second in
    let b = body_read p.value q.value s q.next (number_within s p.next (count_checked s p.next _ _ _ q.first).0) q.second in
    let long = gates_length p.value q.value s q.next b.those_read in
    subst (λ (c : Circuit). Accepted limits s c next) b.circuit
    (record {
      middle = p.next;
      qubit_count = p.first;
      gate_count = q.first ∙ ap (λ (m : ℕ). read m q.next) (sym long);
      all_gates = ap (λ (m : ℕ). gates p.value m s q.next) long ∙ b.those_read;
      ends = b.ends;
    })
