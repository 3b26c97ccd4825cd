-- What a reader's answer says of the reading behind it.
-- Assumes nothing.
use mathlib.Core.Bool.{Bool, true, false, cond}
use mathlib.Core.Path.{◌≡◌, refl, sym, ◌∙◌, ap, subst}
use Prim.Native.Nat.{ℕ}
use native.Mathlib.Omega.{arith}
use Rattle.std.specs.Prelude.{Result, Ok, Err}
use Rattle.std.specs.Result.{MatchResult, IsErrAnd}
use Rattle.gates.specs.Gate.{Gate}
use Rattle.gates.specs.Code.{coded}
use Rattle.gates.specs.declared.Code.{Code}
use Rattle.circuits.specs.declared.Fault.{Fault}
use Rattle.circuits.specs.declared.Refusal.{Refusal}
use Rattle.circuits.specs.declared.Gate.{Gate as GateRead}
use Rattle.circuits.specs.declared.Reader.{Reader as ReaderAt}
use Rattle.circuits.specs.Reading.{Reading, Reader, read, refused, followed, ◌>>=◌, pure, refuse, checked}
use Rattle.circuits.specs.Answers.{Says, control, first_target, last_target, gate_data, data_of, kept}

-- ---- what was read, and what was not

-- a value was read, and the reader has moved past it
pub record Was {A B : Type 0} (f : A → B) (m : Reading A) (old new : ReaderAt) (b : B) : Type 0 where
  pub value : A
  pub was_read : m ≡ read value new.at
  pub value_is : b ≡ f value
  pub reader_is : new ≡ record old { at = new.at }

module _ {A B : Type 0} (f : A → B) (old new : ReaderAt) (r : Result B Refusal) where
  pub said_ok : (m : Reading A) {b : B} → Says f m old new r → r ≡ Ok b → Was f m old new b
  said_ok (read a next) h e =
      let at : new.at ≡ next = ap (λ (x : ReaderAt). x.at) h.1 in
      record { value = a; was_read = ap (read a) (sym at); value_is = cc; reader_is = h.1 ∙ ap (λ (k : ℕ). record old { at = k }) (sym at) }
  said_ok (refused why) (h, same) e = let z : ◌≡◌ {A = ℕ} 0 1 = cc in absurd (omega arith)

  pub said_err : (m : Reading A) {why : Refusal} → Says f m old new r → r ≡ Err why → m ≡ refused why
  said_err (read a next) (h, moved) e = let z : ◌≡◌ {A = ℕ} 0 1 = cc in absurd (omega arith)
  said_err (refused why) (h, same) e = ap refused cc

-- one reader goes on where another ended
module _ {A A' B C : Type 0} (f : A → A') (g : B → C) (m : Reader A) (k : A → Reader B) (old mid new : ReaderAt) (r' : Result A' Refusal)
    (r : Result C Refusal) where
  moved : (x : Reading B) (next : ℕ) → Says g x (record old { at = next }) new r → Says g x old new r
  moved (read b end) next h = h
  moved (refused why) next h = h

  from : (x : Reading A) {v : A'} → Says f x old mid r' → r' ≡ Ok v
      → ((a : A) → v ≡ f a → Says g (k a mid.bytes.now mid.at) mid new r) → Says g (followed x (λ a next. k a old.bytes.now next)) old new r
  from (read a next) h e go =
      moved (k a old.bytes.now next) next (subst (λ (x : ReaderAt). Says g (k a x.bytes.now x.at) x new r) h.1 (go a cc))
  from (refused why) (h, same) e go = let z : ◌≡◌ {A = ℕ} 0 1 = cc in absurd (omega arith)

  pub said_then : {v : A'} → Says f (m old.bytes.now old.at) old mid r' → r' ≡ Ok v
      → ((a : A) → v ≡ f a → Says g (k a mid.bytes.now mid.at) mid new r) → Says g ((m >>= k) old.bytes.now old.at) old new r
  said_then = from (m old.bytes.now old.at)

-- ---- a number that was read, by its test

module _ (fault : Fault) (test : ℕ → Bool) (m : Reader ℕ) (old new : ReaderAt) {answer : Result ℕ Refusal}
    (said : Says (λ v. v) (m old.bytes.now old.at) old new answer) where
  pub checked_kept : {r : Result ℕ Refusal} {passes : Bool} {v : ℕ} → answer ≡ Ok v → passes ≡ test v → r ≡ kept passes fault old.at v
      → Says (λ v. v) (checked fault test m old.bytes.now old.at) old new r
  checked_kept {r} {passes} {v} e tested is =
      said_then (λ v. v) (λ v. v) m (λ a. cond (test a) (pure a) (refuse fault old.at)) old new new answer r said e
      (λ a same. rw (sym same, sym tested) (by_test passes is))
    where
      by_test : (b : Bool) → r ≡ kept b fault old.at v → Says (λ v. v) (cond b (pure v) (refuse fault old.at) new.bytes.now new.at) new new r
      by_test true is = (is, refl)
      by_test false is = (is, refl)

-- ---- gates

-- the gate of which these are the code, the control or mask, the targets and the offset after it
pub record Found (m : Reading Gate) (code : Code) (control_is target_is second_is next : ℕ) : Type 0 where
  pub g : Gate
  pub was_read : m ≡ read g next
  pub of_code : coded g ≡ code
  pub of_control : control g ≡ control_is
  pub of_target : first_target g ≡ target_is
  pub of_second : last_target g ≡ second_is

module _ (old new : ReaderAt) {answer : Result GateRead Refusal} where
  pub gate_read : (m : Reading Gate) {code : Code} {p q r : ℕ}
      → Says gate_data m old new answer → answer ≡ Ok (data_of code p q r) → Found m code p q r new.at
  gate_read m said e =
      let w = said_ok gate_data old new answer m said e in
      record {
        g = w.value;
        was_read = w.was_read;
        of_code = ap (λ (d : GateRead). d.code) (sym w.value_is);
        of_control = ap (λ (d : GateRead). d.control) (sym w.value_is);
        of_target = ap (λ (d : GateRead). d.target) (sym w.value_is);
        of_second = ap (λ (d : GateRead). d.second) (sym w.value_is);
      }

-- a gate's reading as the code has it
abbrev pub with_data : Reading Gate → Reading GateRead
with_data (read g next) = read (gate_data g) next
with_data (refused r) = refused r

pub data_said : (m : Reading Gate) (old new : ReaderAt) (r : Result GateRead Refusal)
    → Says (λ g. g) (with_data m) old new r → Says gate_data m old new r
data_said (read g next) old new r h = h
data_said (refused why) old new r h = h

-- ---- a refusal that was taken for another

pub map_refused : {T E D : Type 0} (answer : Result T E) (mapped : Result T D) (Post : E → D → Type 0) (is : D)
    → MatchResult answer (λ x. mapped ≡ Ok x) (λ e. IsErrAnd mapped (Post e)) → mapped ≡ Err is → (why : E) × (answer ≡ Err why) × Post why is
map_refused (Ok x) mapped Post is cases e = let both : Ok x ≡ Err is = sym cases ∙ e in cc
map_refused (Err why) mapped Post is cases e = (why, refl, subst (λ r. IsErrAnd r (Post why)) e cases)
