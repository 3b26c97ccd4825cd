-- The gates of a list undone from its end: each gate's inverse goes before those of the gates that were read before it.
-- Assumes nothing.
use mathlib.Core.Path.{◌≡◌, refl, sym, ◌∙◌, ap, ap₂, subst, ◌≡⟨◌⟩◌, ◌∎}
use mathlib.Core.List.{List, [], ◌∷◌, ◌++◌}
use Prim.Native.Nat.{ℕ, ◌+◌, ◌-◌, ◌<◌, ◌≤◌}
use native.Mathlib.Omega.{arith}
use lib.ListN.{length, length-append}
use lib.Seq.{sets, length-sets}
use Rattle.std.specs.Prelude.{Result, Ok}
use Rattle.std.specs.Borrow.{Bor}
use Rattle.gates.specs.Gate.{Gate, inverse}
use Rattle.circuits.specs.declared.Refusal.{Refusal}
use Rattle.circuits.specs.declared.Gate.{Gate as GateData}
use Rattle.circuits.specs.declared.Reader.{Reader}
use Rattle.circuits.specs.Refusals.{base_limits}
use Rattle.circuits.specs.Reading.{Reading, read, gate, Circuit, decoded}
use Rattle.circuits.specs.Remaining.{Remaining}
use Rattle.circuits.specs.Answers.{reader_at, gate_data, Says}
use Rattle.circuits.proofs.Remaining.{remaining_next, decoded_accepted}
use Rattle.circuits.proofs.Within.{decoded_within, gate_fits, control_small, target_small, second_small}
use Rattle.encodings.specs.Encoding.{number_bytes, gate_bytes, gates_bytes}
use Rattle.encodings.proofs.Lengths.{gates_long, decoded_ends}
use Rattle.encodings.proofs.Puts.{sets_before}
use Rattle.lists.specs.Answers.{Listed}
use Rattle.inverses.specs.Inverse.{undone}
use Rattle.inverses.specs.Writing.{Small, undo_bytes, gates_of, gates_said}
use Rattle.inverses.proofs.Undoing.{undo_gate}
use Rattle.inverses.proofs.Undone.{inverse_long, undone_bytes, undone_long}

-- ---- an accepted list

pub record Said (s : List ℕ) (n m first : ℕ) : Type 0 where
  pub few : n ≤ 16
  pub few_gates : m ≤ 4096
  pub count : length (gates_said s) ≡ m
  pub here : Remaining n s first (gates_said s)
  pub head : first ≡ length (number_bytes n) + length (number_bytes m)
  pub long : length s ≡ first + length (gates_bytes (gates_said s))

-- by its circuit
pub said_circuit : (s : List ℕ) {c : Circuit} {next : ℕ} → decoded base_limits s ≡ read c next → Said s c.qubits (length c.gates) c.first
said_circuit s {c} e =
    let w = decoded_within base_limits s e in
    let l = decoded_ends base_limits s e in
    let is : gates_said s ≡ c.gates = ap gates_of e in
    record {
      few = w.few_qubits;
      few_gates = w.few_gates;
      count = ap length is;
      here = subst (Remaining c.qubits s c.first) (sym is) (decoded_accepted base_limits s e).all_gates;
      head = l.head;
      long = l.all ∙ ap (λ (gs : List Gate). c.first + length (gates_bytes gs)) (sym is);
    }

-- by the numbers that were read
pub said : (s : List ℕ) {n m first : ℕ} → Listed (decoded base_limits s) n m first → Said s n m first
said s {n} {m} {first} l =
    let c = l.circuit in
    subst (λ (k : ℕ). Said s k m first) l.qubits_are
    (subst (λ (k : ℕ). Said s c.qubits k first) l.gates_are
    (subst (Said s c.qubits (length c.gates)) l.first_is (said_circuit s l.was_read)))

-- ---- the loop

-- the gates of `rest` are still to be undone; written from `first` on, their inverses make the whole
pub record Writing (s : List ℕ) (n m first : ℕ) (before now : List ℕ) (reader : Reader) (turn : ℕ) : Type 0 where
  pub rest : List Gate
  pub left : turn + length rest ≡ m
  pub same_list : reader.bytes.now ≡ s
  pub here : Remaining n s reader.at rest
  pub room : first + length (gates_bytes rest) ≤ length s
  pub long : length now ≡ length before
  pub to_write : sets now first (gates_bytes (undone rest)) ≡ sets before first (gates_bytes (undone (gates_said s)))

pub writing_none : {n m first : ℕ} {list : Bor (List ℕ)} {reader : Reader} (before : List ℕ) → Said list.now n m first → reader ≡ reader_at list first
    → Writing list.now n m first before before reader 0
writing_none {n} {m} {first} {list} before head is = record {
  rest = gates_said list.now;
  left = omega (arith, head.count);
  same_list = ap (λ (r : Reader). r.bytes.now) is;
  here = rw is head.here;
  room = omega (arith, head.long);
  long = refl;
  to_write = refl;
}

module _ {s : List ℕ} {n m first : ℕ} {before now : List ℕ} {reader : Reader} {turn : ℕ} (w : Writing s n m first before now reader turn) where
  -- ---- none is left

  all_by : (rest : List Gate) → w.rest ≡ rest → m ≤ turn
      → now ≡ sets before first (gates_bytes (undone (gates_said s)))
  all_by [] e none = ap (λ (gs : List Gate). sets now first (gates_bytes (undone gs))) (sym e) ∙ w.to_write
  all_by (g ∷ rest) e none = absurd (omega (arith, w.left, ap length e))

  pub writing_all : m ≤ turn → now ≡ sets before first (gates_bytes (undone (gates_said s)))
  writing_all = all_by w.rest refl

  -- ---- one is read

  pub record Turn : Type 0 where
    pub g : Gate
    pub next : ℕ
    pub others : List Gate
    pub split : w.rest ≡ g ∷ others
    pub was_read : gate n s reader.at ≡ read g next
    pub here : Remaining n s next others

  turn_by : (rest : List Gate) → w.rest ≡ rest → turn < m → Turn
  turn_by [] e some = absurd (omega (arith, w.left, ap length e))
  turn_by (g ∷ others) e some =
      let step = remaining_next n s reader.at g others (subst (Remaining n s reader.at) e w.here) in
      record { g = g; next = step.next; others = others; split = e; was_read = step.gate_here; here = step.others }

  module _ (some : turn < m) (new : Reader) (answer : Result GateData Refusal)
      (says : Says gate_data (gate n reader.bytes.now reader.at) reader new answer) where
    pub of_turn : Turn
    of_turn = turn_by w.rest refl some

    said_so : Says gate_data (read of_turn.g of_turn.next) reader new answer
    said_so =
        let was : gate n reader.bytes.now reader.at ≡ read of_turn.g of_turn.next =
        ap (λ (l : List ℕ). gate n l reader.at) w.same_list ∙ of_turn.was_read in
        subst (λ (r : Reading Gate). Says gate_data r reader new answer) was says

    pub was_read_so : answer ≡ Ok (gate_data of_turn.g)
    was_read_so = said_so.0

    module _ (what : GateData) (is : answer ≡ Ok what) where
      same_gate : what ≡ gate_data of_turn.g
      same_gate = let both : Ok what ≡ Ok (gate_data of_turn.g) = sym is ∙ said_so.0 in cc

      next_at : new.at ≡ of_turn.next
      next_at = ap (λ (r : Reader). r.at) said_so.1

      -- its place, and what follows it
      pub record After : Type 0 where
        pub small : n ≤ 16 → Small what
        pub bytes : undo_bytes what ≡ gate_bytes (inverse of_turn.g)
        pub end : length s ≡ new.at + length (gates_bytes of_turn.others)
        pub room : first + (length (gates_bytes of_turn.others) + length (undo_bytes what)) ≤ length s

      pub after : After
      after =
          let t = of_turn in
          let here : Remaining n s new.at t.others = subst (λ (k : ℕ). Remaining n s k t.others) (sym next_at) t.here in
          let bytes : undo_bytes what ≡ gate_bytes (inverse t.g) = ap undo_bytes same_gate ∙ undo_gate t.g in
          record {
            small = λ few. let fits = gate_fits n s reader.at t.was_read in
                subst Small (sym same_gate)
                (omega (arith, control_small n t.g few fits), omega (arith, target_small n t.g few fits), omega (arith, second_small n t.g few fits));
            bytes = bytes;
            end = gates_long s n new.at t.others here;
            room = omega (
              arith,
              w.room,
              ap (λ (l : List Gate). length (gates_bytes l)) t.split,
              length-append (gate_bytes t.g) (gates_bytes t.others),
              inverse_long t.g,
              ap length bytes,
            );
          }

      pub writing_more : (then : List ℕ) → then ≡ sets now (first + (length s - new.at)) (undo_bytes what)
          → Writing s n m first before then new (turn + 1)
      writing_more then stored =
          let a = after in
          let t = of_turn in
          let bytes = gate_bytes (inverse t.g) in
          let others = gates_bytes (undone t.others) in
          let place : first + (length s - new.at) ≡ first + length others = omega (arith, a.end, undone_long t.others) in
          let put : then ≡ sets now (first + length others) bytes = stored ∙ ap₂ (λ (k : ℕ) (l : List ℕ). sets now k l) place a.bytes in
          record {
            rest = t.others;
            left = omega (arith, w.left, ap length t.split);
            same_list = ap (λ (r : Reader). r.bytes.now) said_so.1 ∙ w.same_list;
            here = subst (λ (k : ℕ). Remaining n s k t.others) (sym next_at) t.here;
            room = omega (arith, a.room);
            long = ap length put ∙ length-sets now (first + length others) bytes ∙ w.long;
            to_write =
                sets then first others ≡⟨ ap (λ (l : List ℕ). sets l first others) put ⟩
                sets (sets now (first + length others) bytes) first others ≡⟨ sets_before now first others bytes ⟩
                sets now first (others ++ bytes) ≡⟨ ap (sets now first) (sym (undone_bytes t.g t.others)) ⟩
                sets now first (gates_bytes (undone (t.g ∷ t.others)))
                ≡⟨ ap (λ (gs : List Gate). sets now first (gates_bytes (undone gs))) (sym t.split) ⟩
                sets now first (gates_bytes (undone w.rest)) ≡⟨ w.to_write ⟩
                sets before first (gates_bytes (undone (gates_said s))) ∎;
          }
