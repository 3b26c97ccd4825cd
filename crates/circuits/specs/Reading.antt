-- What the bytes of a gate list say: numbers, gates and lists, each read at an offset. Definitions only.
use Rattle.std.specs.Prelude.{Bool, not, cond, ◌&&◌, List, [], ◌∷◌, ℕ, zero, suc, ◌+◌, ◌*◌, ◌%◌, ◌^◌, length, drop, slice_index, eqb, leb, ltb}
use Rattle.std.specs.Int.Count.{ones}
use Rattle.gates.specs.Gate.{Gate, on, pair, toffoli, fredkin, in_mask, Meant, one, two, mask_one, mask_two, unknown, meant}
use Rattle.circuits.specs.declared.Fault.{Fault}
use Rattle.circuits.specs.declared.Refusal.{Refusal}
use Rattle.circuits.specs.declared.Limits.{Limits}
use Rattle.circuits.specs.Refusals.{refusal, ends_early, not_shortest, bad_qubit_count, bad_gate_count}
use Rattle.circuits.specs.Refusals.{unknown_code, no_such_qubit, control_is_target, bytes_remain, too_few_controls}

-- ---- readers

-- what reading at an offset gives: a value and the offset after it, or "the first failure met"
pub data Reading (A : Type 0) : Type 0 where
  read : A → ℕ → Reading A
  refused : Refusal → Reading A

-- a reader is given the bytes of the list and an offset
abbrev pub Reader : Type 0 → Type 0
Reader A = List ℕ → ℕ → Reading A

abbrev pub followed : {A B : Type 0} → Reading A → (A → ℕ → Reading B) → Reading B
followed (read a next) go = go a next
followed (refused r) go = refused r

infixl 10 ◌>>=◌
-- the second reader goes on where the first ended
abbrev pub ◌>>=◌ : {A B : Type 0} → Reader A → (A → Reader B) → Reader B
(m >>= f) bytes at = followed (m bytes at) (λ a next. f a bytes next)

abbrev pub pure : {A : Type 0} → A → Reader A
pure a bytes at = read a at

-- the offset that reading has come to
abbrev pub here : Reader ℕ
here bytes at = read at at

abbrev pub refuse : {A : Type 0} → Fault → ℕ → Reader A
refuse fault offset bytes at = refused (refusal fault offset)

-- "each number is checked as it is read": where the test fails it is refused at the offset of its first byte
abbrev pub checked : {A : Type 0} → Fault → (A → Bool) → Reader A → Reader A
checked fault test m = do
  start ← here
  a ← m
  cond (test a) (pure a) (refuse fault start)

-- ---- numbers

-- "A number is written in groups of seven bits, lowest group first; the top bit of a byte is set if another follows. At most
-- three groups; the shortest form only, so a last group of 0 stands only alone."
-- The bytes from the number's first on, which stands at `at`, and those from its second and its third on, after x and after x and y.
abbrev pub last_group : ℕ → ℕ → ℕ → ℕ → Reading ℕ
last_group at group value next = cond (eqb group 0) (refused (refusal not_shortest at)) (read value next)

abbrev pub third_group : ℕ → ℕ → ℕ → List ℕ → Reading ℕ
third_group at x y [] = refused (refusal ends_early at)
third_group at x y (z ∷ s) =
    cond (ltb z 128) (last_group at z (x % 128 + y % 128 * 128 + z * 16384) (at + 3)) (refused (refusal not_shortest at))

abbrev pub second_group : ℕ → ℕ → List ℕ → Reading ℕ
second_group at x [] = refused (refusal ends_early at)
second_group at x (y ∷ s) = cond (ltb y 128) (last_group at y (x % 128 + y * 128) (at + 2)) (third_group at x y s)

abbrev pub first_group : ℕ → List ℕ → Reading ℕ
first_group at [] = refused (refusal ends_early at)
first_group at (x ∷ s) = cond (ltb x 128) (read x (at + 1)) (second_group at x s)

unfoldable pub number : Reader ℕ
number bytes at = first_group at (drop at bytes)

-- the next byte of a number that starts at `start`
abbrev pub byte : ℕ → Reader ℕ
byte start bytes at = cond (ltb at (length bytes)) (read (slice_index bytes at) (at + 1)) (refused (refusal ends_early start))

-- ---- gates

-- the qubit count of the list is n
unfoldable pub qubit : ℕ → Reader ℕ
qubit n = checked no_such_qubit (λ q. ltb q n) number

-- the target of a gate whose control is p
unfoldable pub target_qubit : ℕ → ℕ → Reader ℕ
target_qubit n p = checked control_is_target (λ q. not (eqb q p)) (qubit n)

-- a mask of controls: "a mask bit at or past the qubit count", then "too few controls"
unfoldable pub mask_below : ℕ → Reader ℕ
mask_below n = checked no_such_qubit (λ m. ltb m (2 ^ n)) number

unfoldable pub mask : ℕ → ℕ → Reader ℕ
mask n least = checked too_few_controls (λ m. leb least (ones m)) (mask_below n)

-- a target that is not in the mask, and a second one that is not the first either
unfoldable pub free_qubit : ℕ → ℕ → Reader ℕ
free_qubit n m = checked control_is_target (λ q. not (in_mask m q)) (qubit n)

unfoldable pub second_qubit : ℕ → ℕ → ℕ → Reader ℕ
second_qubit n m p = checked control_is_target (λ q. not (eqb q p)) (free_qubit n m)

-- "per gate its code and one qubit, or for 8 and 9 the control and the target"; "Code 10 is a control mask and a target to flip; code 11 is a
-- control mask and two targets to swap"; after a code that stands at `start`
abbrev pub operands : ℕ → ℕ → Meant → Reader Gate
operands n start (one k) = do
  q ← qubit n
  pure (on k q)
operands n start (two k) = do
  p ← qubit n
  q ← target_qubit n p
  pure (pair k p q)
operands n start mask_one = do
  m ← mask n 2
  q ← free_qubit n m
  pure (toffoli m q)
operands n start mask_two = do
  m ← mask n 1
  p ← free_qubit n m
  q ← second_qubit n m p
  pure (fredkin m p q)
operands n start unknown = refuse unknown_code start

unfoldable pub gate : ℕ → Reader Gate
gate n = do
  start ← here
  code ← number
  operands n start (meant code)

unfoldable pub gates : ℕ → ℕ → Reader (List Gate)
gates n zero = pure []
gates n (suc m) = do
  g ← gate n
  gs ← gates n m
  pure (g ∷ gs)

-- ---- lists

-- what a list says: its qubit count, the offset of its first gate, and its gates
pub record Circuit : Type 0 where
  pub qubits : ℕ
  pub first : ℕ
  pub gates : List Gate

-- a count from `low` to `high`
unfoldable pub count : ℕ → ℕ → Fault → Reader ℕ
count low high fault = checked fault (λ v. leb low v && leb v high) number

abbrev pub end : Reader ℕ
end bytes at = cond (ltb at (length bytes)) (refused (refusal bytes_remain at)) (read at at)

-- the gates, the first of which stands here, and the end
unfoldable pub body : ℕ → ℕ → Reader Circuit
body n m = do
  first ← here
  gs ← gates n m
  _ ← end
  pure (record { qubits = n; first = first; gates = gs })

-- "A list is: qubit count, gate count, then per gate .."
unfoldable pub list : Limits → Reader Circuit
list limits = do
  n ← count 1 limits.qubits bad_qubit_count
  m ← count 0 limits.gates bad_gate_count
  body n m

unfoldable pub decoded : Limits → List ℕ → Reading Circuit
decoded limits bytes = list limits bytes 0
