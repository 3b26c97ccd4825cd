-- A list's answer, by what is left of its gates.
-- Assumes nothing.
use mathlib.Core.Bool.{Bool, cond, true, false}
use mathlib.Core.Path.{◌≡◌, refl, sym, ◌∙◌, ap, subst}
use mathlib.Core.List.{List, ◌∷◌}
use Prim.Native.Nat.{ℕ, ◌+◌, ◌<◌, ◌≤◌}
use native.Mathlib.Numerals.{add-one}
use borrow.Author.Tests.{lt-ltb, le-ltb}
use lib.ListN.{length}
use Rattle.std.specs.Prelude.{Result, Ok, Err}
use lib.Dec.{ltb}
use Rattle.gates.specs.Gate.{Gate}
use Rattle.circuits.specs.declared.Refusal.{Refusal}
use Rattle.circuits.specs.declared.Gate.{Gate as GateRead}
use Rattle.circuits.specs.declared.Reader.{Reader as ReaderAt}
use Rattle.lists.specs.declared.List.{List as ListHead}
use Rattle.circuits.specs.Refusals.{refusal, bytes_remain}
use Rattle.circuits.specs.Reading.{Reading, read, refused, followed, gate, gates, end, Circuit, body}
use Rattle.circuits.specs.Answers.{Says, gate_data}
use Rattle.lists.specs.Answers.{head_of, list_answer}
use Rattle.circuits.proofs.Answers.{said_ok, said_err}
use Rattle.circuits.proofs.Readings.{gates_length}

module _ (n m first : ℕ) (s : List ℕ) where
  -- the answer after the gates
  ended : Reading (List Gate) → Result ListHead Refusal
  ended (read gs next) = cond (ltb next (length s)) (Err (refusal bytes_remain next)) (Ok (head_of n m first))
  ended (refused r) = Err r

  abbrev circuit : List Gate → Circuit
  circuit gs = record { qubits = n; first = first; gates = gs }

  -- the answer where `left` gates are still to be read, from the offset on
  pub left_answer : ℕ → ℕ → Result ListHead Refusal
  left_answer left at = ended (gates n left s at)

  -- ---- at the first gate, all of them are left

  end_answer : (gs : List Gate) (next : ℕ) (t : Bool) → length gs ≡ m
      → list_answer (followed (cond t (refused (refusal bytes_remain next)) (read next next)) (λ at next. read (circuit gs) next))
      ≡ cond t (Err (refusal bytes_remain next)) (Ok (head_of n m first))
  end_answer gs next true e = refl
  end_answer gs next false e = ap (λ (k : ℕ). Ok (head_of n k first)) e

  body_answer : (r : Reading (List Gate)) → ((gs : List Gate) (next : ℕ) → r ≡ read gs next → length gs ≡ m)
      → list_answer (followed r (λ gs next. followed (end s next) (λ at next. read (circuit gs) next))) ≡ ended r
  unfolding ended
  body_answer (read gs next) long = end_answer gs next (ltb next (length s)) (long gs next refl)
  body_answer (refused r) long = refl

  left_all : list_answer (body n m s first) ≡ left_answer m first
  unfolding body left_answer ended
  left_all = body_answer (gates n m s first) (λ gs next e. gates_length n m s first e)

  -- ---- a gate is read

  left_refused : (left rest at : ℕ) {r : Refusal} → left ≡ rest + 1 → gate n s at ≡ refused r → left_answer left at ≡ Err r
  unfolding left_answer ended gates
  left_refused left rest at e h = rw (e, add-one, h)

  ended_cons : (g : Gate) (r : Reading (List Gate)) → ended (followed r (λ gs next. read (g ∷ gs) next)) ≡ ended r
  unfolding ended
  ended_cons g (read gs next) = refl
  ended_cons g (refused r) = refl

  left_read : (left rest at : ℕ) {g : Gate} {next : ℕ} → left ≡ rest + 1 → gate n s at ≡ read g next → left_answer left at ≡ left_answer rest next
  unfolding left_answer ended gates
  left_read left rest at {g} {next} e h = rw (e, add-one, h) (ended_cons g (gates n rest s next))

  -- ---- none is left

  left_over : (left at : ℕ) → left ≡ 0 → at < length s → left_answer left at ≡ Err (refusal bytes_remain at)
  unfolding left_answer ended gates
  left_over left at e more = rw (e, lt-ltb _ _ more)

  left_none : (left at : ℕ) → left ≡ 0 → length s ≤ at → left_answer left at ≡ Ok (head_of n m first)
  unfolding left_answer ended gates
  left_none left at e done = rw (e, le-ltb _ _ done)

-- ---- by the reader, which began at the first gate

module _ (n m : ℕ) (start : ReaderAt) where
  abbrev answer : Result ListHead Refusal
  answer = list_answer (body n m start.bytes.now start.at)

  -- with so many gates left the reader stands here, and the answer is theirs
  pub record Left (left : ℕ) (here : ReaderAt) : Type 0 where
    pub here_is : here ≡ record start { at = here.at }
    pub answer_is : answer ≡ left_answer n m start.at start.bytes.now left here.at

  pub left_first : (left : ℕ) → left ≡ m → Left left start
  left_first left e = record { here_is = refl; answer_is = rw e (left_all n m start.at start.bytes.now) }

  module _ (left : ℕ) (here : ReaderAt) (h : Left left here) where
    same_bytes : here.bytes.now ≡ start.bytes.now
    same_bytes = ap (λ (r : ReaderAt). r.bytes.now) h.here_is

    module _ (rest : ℕ) (more : left ≡ rest + 1) (new : ReaderAt) (r : Result GateRead Refusal)
        (said : Says gate_data (gate n here.bytes.now here.at) here new r) where
      pub left_next : {d : GateRead} → r ≡ Ok d → Left rest new
      left_next e =
          let w = said_ok gate_data here new r (gate n here.bytes.now here.at) said e in
          record {
            here_is = w.reader_is ∙ ap (λ (x : ReaderAt). record x { at = new.at }) h.here_is;
            answer_is =
                h.answer_is
                ∙ left_read n m start.at start.bytes.now left rest here.at more
                (subst (λ (s : List ℕ). gate n s here.at ≡ read w.value new.at) same_bytes w.was_read);
          }

      pub left_refusal : {why : Refusal} → r ≡ Err why → Err why ≡ answer
      left_refusal {why} e =
          sym
          (h.answer_is
          ∙ left_refused n m start.at start.bytes.now left rest here.at more
          (subst (λ (s : List ℕ). gate n s here.at ≡ refused why) same_bytes
          (said_err gate_data here new r (gate n here.bytes.now here.at) said e)))

    module _ (none : left ≡ 0) where
      pub left_bytes : here.at < length here.bytes.now → Err (refusal bytes_remain here.at) ≡ answer
      left_bytes more =
          sym (h.answer_is ∙ left_over n m start.at start.bytes.now left here.at none (subst (λ (s : List ℕ). here.at < length s) same_bytes more))

      pub left_end : length here.bytes.now ≤ here.at → Ok (head_of n m start.at) ≡ answer
      left_end done =
          sym (h.answer_is ∙ left_none n m start.at start.bytes.now left here.at none (subst (λ (s : List ℕ). length s ≤ here.at) same_bytes done))
