-- Gate codes: what a decision says of a code's meaning, the codes of the gates, and what is read after them.
-- Assumes nothing.
use mathlib.Core.Path.{◌≡◌, refl, sym, ◌∙◌, ap, subst}
use mathlib.Core.Logic.{◌⊎◌, inl, inr, ⊎_elim}
use mathlib.Core.List.{List}
use Prim.Native.Nat.{ℕ, zero, suc}
use Rattle.std.specs.Prelude.{Some, Result}
use Rattle.gates.specs.Gate.{Kind, X, Y, Z, H, S, S†, T, T†, Pair, CNOT, CZ, Gate, on, pair, toffoli, fredkin}
use Rattle.gates.specs.Gate.{Meant, one, two, mask_one, mask_two, unknown, meant, inverse}
use Rattle.gates.specs.Code.{code_number, coded, coded_pair}
use Rattle.gates.specs.declared.Code.{Code}
use Rattle.gates.specs.declared.Rule.{Rule}
use Rattle.gates.specs.declared.Operands.TheVariants.{Qubit, Controlled}
use Rattle.gates.specs.Rule.{kind_rule, pair_rule, code_rule, rule_of, decision, gate_rule}
use Rattle.circuits.specs.declared.Refusal.{Refusal}
use Rattle.circuits.specs.declared.Gate.{Gate as GateRead}
use Rattle.circuits.specs.declared.Reader.{Reader as ReaderAt}
use Rattle.circuits.specs.Reading.{Reading, read, refused, qubit, target_qubit, mask, free_qubit, second_qubit, operands, followed}
use Rattle.circuits.specs.Codes.{kind_code, pair_code, gate_code}
use Rattle.circuits.specs.Answers.{Says, gate_data, data_of, operands_data}
use Rattle.circuits.proofs.Answers.{with_data, data_said}

-- ---- the code of each meaning, and the meaning of each code

pub kind_meant : (k : Kind) → meant (kind_code k) ≡ one k
unfolding meant
kind_meant X = refl
kind_meant Y = refl
kind_meant Z = refl
kind_meant H = refl
kind_meant S = refl
kind_meant S† = refl
kind_meant T = refl
kind_meant T† = refl

pub pair_meant : (k : Pair) → meant (pair_code k) ≡ two k
unfolding meant
pair_meant CNOT = refl
pair_meant CZ = refl

-- the code of a known meaning, and a number past the codes
abbrev code_of : Meant → ℕ
code_of (one k) = kind_code k
code_of (two k) = pair_code k
code_of mask_one = 10
code_of mask_two = 11
code_of unknown = 12

code_of_meant : (code : ℕ) → (code_of (meant code) ≡ code) ⊎ (meant code ≡ unknown)
unfolding meant
code_of_meant zero = inl refl
code_of_meant (suc zero) = inl refl
code_of_meant (suc (suc zero)) = inl refl
code_of_meant (suc (suc (suc zero))) = inl refl
code_of_meant (suc (suc (suc (suc zero)))) = inl refl
code_of_meant (suc (suc (suc (suc (suc zero))))) = inl refl
code_of_meant (suc (suc (suc (suc (suc (suc zero)))))) = inl refl
code_of_meant (suc (suc (suc (suc (suc (suc (suc zero))))))) = inl refl
code_of_meant (suc (suc (suc (suc (suc (suc (suc (suc zero)))))))) = inl refl
code_of_meant (suc (suc (suc (suc (suc (suc (suc (suc (suc zero))))))))) = inl refl
code_of_meant (suc (suc (suc (suc (suc (suc (suc (suc (suc (suc zero)))))))))) = inl refl
code_of_meant (suc (suc (suc (suc (suc (suc (suc (suc (suc (suc (suc zero))))))))))) = inl refl
code_of_meant (suc (suc (suc (suc (suc (suc (suc (suc (suc (suc (suc (suc c)))))))))))) = inr refl

pub meant_one : (code : ℕ) {k : Kind} → meant code ≡ one k → code ≡ kind_code k
meant_one code e = ⊎_elim (λ f. sym f ∙ ap code_of e) (λ f. cc) (code_of_meant code)

pub meant_two : (code : ℕ) {k : Pair} → meant code ≡ two k → code ≡ pair_code k
meant_two code e = ⊎_elim (λ f. sym f ∙ ap code_of e) (λ f. cc) (code_of_meant code)

pub meant_mask_one : (code : ℕ) → meant code ≡ mask_one → code ≡ 10
meant_mask_one code e = ⊎_elim (λ f. sym f ∙ ap code_of e) (λ f. cc) (code_of_meant code)

pub meant_mask_two : (code : ℕ) → meant code ≡ mask_two → code ≡ 11
meant_mask_two code e = ⊎_elim (λ f. sym f ∙ ap code_of e) (λ f. cc) (code_of_meant code)

-- ---- what a decision says of the code

-- each gate's code is decided as the gate's data
pub gate_decided : (g : Gate) → decision (gate_code g) ≡ Some (gate_rule g)
unfolding decision meant
gate_decided (on k q) = ap rule_of (kind_meant k)
gate_decided (pair k p q) = ap rule_of (pair_meant k)
gate_decided (toffoli mask q) = refl
gate_decided (fredkin mask p q) = refl

-- and so are they by the code as the code names it
pub coded_rule : (g : Gate) → code_rule (coded g) ≡ gate_rule g
coded_rule (on X q) = refl
coded_rule (on Y q) = refl
coded_rule (on Z q) = refl
coded_rule (on H q) = refl
coded_rule (on S q) = refl
coded_rule (on S† q) = refl
coded_rule (on T q) = refl
coded_rule (on T† q) = refl
coded_rule (pair CNOT p q) = refl
coded_rule (pair CZ p q) = refl
coded_rule (toffoli mask q) = refl
coded_rule (fredkin mask p q) = refl

pub coded_number : (g : Gate) → code_number (coded g) ≡ gate_code g
coded_number (on X q) = refl
coded_number (on Y q) = refl
coded_number (on Z q) = refl
coded_number (on H q) = refl
coded_number (on S q) = refl
coded_number (on S† q) = refl
coded_number (on T q) = refl
coded_number (on T† q) = refl
coded_number (pair CNOT p q) = refl
coded_number (pair CZ p q) = refl
coded_number (toffoli mask q) = refl
coded_number (fredkin mask p q) = refl

-- the code of the inverse is among them
pub inverse_code : (g : Gate) → (gate_rule g).inverse ≡ coded (inverse g)
inverse_code (on X q) = refl
inverse_code (on Y q) = refl
inverse_code (on Z q) = refl
inverse_code (on H q) = refl
inverse_code (on S q) = refl
inverse_code (on S† q) = refl
inverse_code (on T q) = refl
inverse_code (on T† q) = refl
inverse_code (pair CNOT p q) = refl
inverse_code (pair CZ p q) = refl
inverse_code (toffoli mask q) = refl
inverse_code (fredkin mask p q) = refl

pub kind_operands : (k : Kind) → (kind_rule k).operands ≡ Qubit
kind_operands X = refl
kind_operands Y = refl
kind_operands Z = refl
kind_operands H = refl
kind_operands S = refl
kind_operands S† = refl
kind_operands T = refl
kind_operands T† = refl

pub pair_operands : (k : Pair) → (pair_rule k).operands ≡ Controlled
pair_operands CNOT = refl
pair_operands CZ = refl

-- ---- the data of a gate, by what follows its code

-- a gate that ends with its last target, and one that has no other
last_data : (made : ℕ → GateRead) (make : ℕ → Gate) → ((q : ℕ) → made q ≡ gate_data (make q))
    → (last : Reading ℕ) → followed last (λ q next. read (made q) next) ≡ with_data (followed last (λ q next. read (make q) next))
last_data made make same (read q next) = ap (λ (d : GateRead). read d next) (same q)
last_data made make same (refused r) = refl

pub placed_answer : (code : Code) (control : ℕ) (make : ℕ → Gate) → ((q : ℕ) → data_of code control q q ≡ gate_data (make q)) → (last : Reading ℕ)
    → followed last (λ q next. read (data_of code control q q) next) ≡ with_data (followed last (λ q next. read (make q) next))
placed_answer code control = last_data (λ q. data_of code control q q)

module _ (n : ℕ) (s : List ℕ) where
  pair_data : (k : Pair) (first : Reading ℕ)
      → followed first (λ p next. followed (target_qubit n p s next) (λ q next. read (gate_data (pair k p q)) next))
      ≡ with_data (followed first (λ p next. followed (target_qubit n p s next) (λ q next. read (pair k p q) next)))
  pair_data k (read p next) = placed_answer (coded_pair k) p (pair k p) (λ q. refl) (target_qubit n p s next)
  pair_data k (refused r) = refl

  toffoli_data : (first : Reading ℕ)
      → followed first (λ m next. followed (free_qubit n m s next) (λ q next. read (gate_data (toffoli m q)) next))
      ≡ with_data (followed first (λ m next. followed (free_qubit n m s next) (λ q next. read (toffoli m q) next)))
  toffoli_data (read m next) = placed_answer Code.Toffoli m (toffoli m) (λ q. refl) (free_qubit n m s next)
  toffoli_data (refused r) = refl

  second_data : (m : ℕ) (first : Reading ℕ)
      → followed first (λ p next. followed (second_qubit n m p s next) (λ q next. read (gate_data (fredkin m p q)) next))
      ≡ with_data (followed first (λ p next. followed (second_qubit n m p s next) (λ q next. read (fredkin m p q) next)))
  second_data m (read p next) = last_data (λ q. gate_data (fredkin m p q)) (fredkin m p) (λ q. refl) (second_qubit n m p s next)
  second_data m (refused r) = refl

  fredkin_data : (first : Reading ℕ)
      → followed first (λ m next. followed (free_qubit n m s next) (λ p next.
      followed (second_qubit n m p s next) (λ q next. read (gate_data (fredkin m p q)) next)))
      ≡ with_data (followed first (λ m next. followed (free_qubit n m s next) (λ p next.
      followed (second_qubit n m p s next) (λ q next. read (fredkin m p q) next))))
  fredkin_data (read m next) = second_data m (free_qubit n m s next)
  fredkin_data (refused r) = refl

  pub code_data : (start at : ℕ) (c : Code)
      → operands_data n c (code_rule c).operands s at ≡ with_data (operands n start (meant (code_number c)) s at)
  unfolding meant
  code_data start at Code.X = placed_answer Code.X 0 (on X) (λ q. refl) (qubit n s at)
  code_data start at Code.Y = placed_answer Code.Y 0 (on Y) (λ q. refl) (qubit n s at)
  code_data start at Code.Z = placed_answer Code.Z 0 (on Z) (λ q. refl) (qubit n s at)
  code_data start at Code.H = placed_answer Code.H 0 (on H) (λ q. refl) (qubit n s at)
  code_data start at Code.S = placed_answer Code.S 0 (on S) (λ q. refl) (qubit n s at)
  code_data start at Code.SDagger = placed_answer Code.SDagger 0 (on S†) (λ q. refl) (qubit n s at)
  code_data start at Code.T = placed_answer Code.T 0 (on T) (λ q. refl) (qubit n s at)
  code_data start at Code.TDagger = placed_answer Code.TDagger 0 (on T†) (λ q. refl) (qubit n s at)
  code_data start at Code.Cnot = pair_data CNOT (qubit n s at)
  code_data start at Code.Cz = pair_data CZ (qubit n s at)
  code_data start at Code.Toffoli = toffoli_data (mask n 2 s at)
  code_data start at Code.Fredkin = fredkin_data (mask n 1 s at)

  -- what was read after a code is what its number means
  pub code_said : (start at : ℕ) (c : Code) (rule : Rule) (code : ℕ) (old new : ReaderAt) (r : Result GateRead Refusal)
      → rule ≡ code_rule c → code_number c ≡ code → Says (λ g. g) (operands_data n c rule.operands s at) old new r
      → Says gate_data (operands n start (meant code) s at) old new r
  code_said start at c rule code old new r is number h =
      data_said (operands n start (meant code) s at) old new r
      (subst (λ (m : Reading GateRead). Says (λ g. g) m old new r) same h)
    where
      same : operands_data n c rule.operands s at ≡ with_data (operands n start (meant code) s at)
      same =
          ap (λ (x : Rule). operands_data n c x.operands s at) is ∙ code_data start at c
          ∙ ap (λ (x : ℕ). with_data (operands n start (meant x) s at)) number
