-- A gate's data: how it acts on its target where its controls are 1, and what that does to a matrix's entries. The gates by kind as in
-- Gate.antt, multiplication from the right before that from the left. Definitions only; that the data are the published matrices' is in
-- proofs/Rules.antt.
use Rattle.std.specs.Prelude.{◌≡◌, Bool, true, false, not, cond, ℕ, min, max, set, Option, Some, None}
use Rattle.std.specs.Bool.{beq}
use Rattle.algebra.specs.declared.Entry.{Entry}
use Rattle.algebra.specs.Entry.{𝟘, 𝟙, neg, ◌⊕◌, ◌⊖◌, turned, w8^}
use Rattle.algebra.specs.Matrix.{Bits}
use Rattle.gates.specs.Gate.{Kind, Z, S, S†, T, T†, X, Y, H, Pair, CZ, CNOT, Gate, on, pair, toffoli, fredkin}
use Rattle.gates.specs.Gate.{Meant, one, two, mask_one, mask_two, unknown, meant}
use Rattle.gates.specs.Gate.{is, bit, table, small, small_pair, in_mask, all_set, exchanged, inverse_kind}
use Rattle.gates.specs.declared.Phases.{Phases}
use Rattle.gates.specs.declared.Operands.{Operands}
use Rattle.gates.specs.declared.Operands.TheVariants.{Qubit, Controlled, Masked, Exchanging}
use Rattle.gates.specs.declared.Act.{Act}
use Rattle.gates.specs.declared.Act.TheVariants.{Keeps, Flips, Mixes, Swaps}
use Rattle.gates.specs.declared.Rule.{Rule}
use Rattle.gates.specs.declared.Code.{Code}
use Rattle.gates.specs.Code.{code_number}

-- ---- what a gate does at its target, case by case

-- it takes the entry at the flipped bit
abbrev pub does_flip : Act → Bool
does_flip Keeps = false
does_flip Flips = true
does_flip Mixes = false
does_flip Swaps = false

-- it mixes the two entries, as H
abbrev pub does_mix : Act → Bool
does_mix Keeps = false
does_mix Flips = false
does_mix Mixes = true
does_mix Swaps = false

-- it takes the entry with the bits of its two targets exchanged
abbrev pub does_swap : Act → Bool
does_swap Keeps = false
does_swap Flips = false
does_swap Mixes = false
does_swap Swaps = true

-- ---- the data of each code

abbrev pub phases : ℕ → ℕ → Phases
phases z o = record { zero = z; one = o }

-- diagonal: the same from both sides
abbrev pub diagonal : Operands → ℕ → Code → Rule
diagonal operands power undo = record { operands = operands; act = Keeps; right = phases 0 power; left = phases 0 power; inverse = undo }

-- the target's bit is flipped, and the entry turned by the powers of the side
abbrev pub flipping : Operands → Phases → Phases → Code → Rule
flipping operands r l undo = record { operands = operands; act = Flips; right = r; left = l; inverse = undo }

-- a gate that mixes its target's two entries, or exchanges the bits of its two targets
abbrev pub unturned : Operands → Act → Code → Rule
unturned operands act undo = record { operands = operands; act = act; right = phases 0 0; left = phases 0 0; inverse = undo }

abbrev pub kind_rule : Kind → Rule
kind_rule Z = diagonal Qubit 4 Code.Z
kind_rule S = diagonal Qubit 2 Code.SDagger
kind_rule S† = diagonal Qubit 6 Code.S
kind_rule T = diagonal Qubit 1 Code.TDagger
kind_rule T† = diagonal Qubit 7 Code.T
kind_rule X = flipping Qubit (phases 0 0) (phases 0 0) Code.X
kind_rule Y = flipping Qubit (phases 2 6) (phases 6 2) Code.Y
kind_rule H = unturned Qubit Mixes Code.H

abbrev pub pair_rule : Pair → Rule
pair_rule CZ = diagonal Controlled 4 Code.Cz
pair_rule CNOT = flipping Controlled (phases 0 0) (phases 0 0) Code.Cnot

-- "Code 10 needs at least two controls and code 11 at least one"
abbrev pub toffoli_rule : Rule
toffoli_rule = flipping (Masked 2) (phases 0 0) (phases 0 0) Code.Toffoli

abbrev pub fredkin_rule : Rule
fredkin_rule = unturned (Exchanging 1) Swaps Code.Fredkin

-- by the code
abbrev pub code_rule : Code → Rule
code_rule Code.Z = kind_rule Z
code_rule Code.S = kind_rule S
code_rule Code.SDagger = kind_rule S†
code_rule Code.T = kind_rule T
code_rule Code.TDagger = kind_rule T†
code_rule Code.Cz = pair_rule CZ
code_rule Code.X = kind_rule X
code_rule Code.Y = kind_rule Y
code_rule Code.Cnot = pair_rule CNOT
code_rule Code.Toffoli = toffoli_rule
code_rule Code.Fredkin = fredkin_rule
code_rule Code.H = kind_rule H

-- by what the number of a code means
abbrev pub rule_of : Meant → Option Rule
rule_of (one k) = Some (kind_rule k)
rule_of (two k) = Some (pair_rule k)
rule_of mask_one = Some toffoli_rule
rule_of mask_two = Some fredkin_rule
rule_of unknown = None

unfoldable pub decision : ℕ → Option Rule
decision code = rule_of (meant code)

-- ---- the data as small matrices

abbrev pub phase : Phases → Bool → ℕ
phase p false = p.zero
phase p true = p.one

-- the target's bit that an entry is taken from
abbrev pub flipped : Rule → Bool → Bool
flipped rule x = cond (does_flip rule.act) (not x) x

-- by the target's bit of the entry made, then of the entry it is made from: both with H's signs, or the flipped bit's with a power of w8
abbrev pub acting : Rule → Phases → Bool → Bool → Entry
acting rule p x y = cond (does_mix rule.act) (table 𝟙 𝟙 𝟙 (neg 𝟙) x y) (cond (beq (flipped rule x) y) (w8^ (phase p x)) 𝟘)

-- from the right a column is made from columns, from the left a row from rows
abbrev pub right_matrix : Rule → Bool → Bool → Entry
right_matrix rule x y = acting rule rule.right y x

abbrev pub left_matrix : Rule → Bool → Bool → Entry
left_matrix rule x y = acting rule rule.left x y

-- with a control: the identity where the control is 0
abbrev pub controlled : (Bool → Bool → Entry) → Bool → Bool → Bool → Bool → Entry
controlled m c t c' t' = cond (beq c c') (cond c (m t t') (cond (beq t t') 𝟙 𝟘)) 𝟘

-- what a decision says of the code: the published matrix, made column by column and row by row, and the inverse's code
abbrev pub Published : Meant → Option Rule → Type 0
Published (one k) (Some rule) =
    ((x y : Bool) → right_matrix rule x y ≡ small k x y) × ((x y : Bool) → left_matrix rule x y ≡ small k x y)
    × (meant (code_number rule.inverse) ≡ one (inverse_kind k))
Published (one k) None = ⊥
Published (two k) (Some rule) =
    ((c t c' t' : Bool) → controlled (right_matrix rule) c t c' t' ≡ small_pair k c t c' t')
    × ((c t c' t' : Bool) → controlled (left_matrix rule) c t c' t' ≡ small_pair k c t c' t')
    × (meant (code_number rule.inverse) ≡ two k)
Published (two k) None = ⊥
Published mask_one (Some rule) =
    ((x y : Bool) → right_matrix rule x y ≡ small X x y) × ((x y : Bool) → left_matrix rule x y ≡ small X x y)
    × (meant (code_number rule.inverse) ≡ mask_one)
Published mask_one None = ⊥
Published mask_two (Some rule) =
    (rule.act ≡ Swaps) × (rule.right ≡ phases 0 0) × (rule.left ≡ phases 0 0) × (meant (code_number rule.inverse) ≡ mask_two)
Published mask_two None = ⊥
Published unknown (Some rule) = ⊥
Published unknown None = Unit {0}

pub record Decided (code : ℕ) (r : Option Rule) : Type 0 where
  pub is : r ≡ decision code
  pub published : Published (meant code) r

-- ---- what a gate does to the entries, as a function of the bits of one side

abbrev pub gate_rule : Gate → Rule
gate_rule (on k q) = kind_rule k
gate_rule (pair k p q) = pair_rule k
gate_rule (toffoli mask q) = toffoli_rule
gate_rule (fredkin mask p q) = fredkin_rule

abbrev pub controls : Gate → ℕ → Bool
controls (on k q) i = false
controls (pair k p q) i = is p i
controls (toffoli mask q) i = in_mask mask i
controls (fredkin mask p q) i = in_mask mask i

abbrev pub target : Gate → ℕ
target (on k q) = q
target (pair k p q) = q
target (toffoli mask q) = q
target (fredkin mask p q) = min p q

-- the second target, the higher of the two; the target again where there is one only
abbrev pub second : Gate → ℕ
second (on k q) = q
second (pair k p q) = q
second (toffoli mask q) = q
second (fredkin mask p q) = max p q

-- H: the sum where the target's bit is 0, the difference where it is 1
abbrev pub mixed : ℕ → (Bits → Entry) → Bits → Entry
mixed q F l = cond (bit l q) (F (set l q false) ⊖ F (set l q true)) (F (set l q false) ⊕ F (set l q true))

abbrev pub moved : Rule → Phases → ℕ → (Bits → Entry) → Bits → Entry
moved rule p q F l = turned (phase p (bit l q)) (F (cond (does_flip rule.act) (set l q (not (bit l q))) l))

-- the entries after the gate, from those before it: F is a column's entries by row, or a row's by column
unfoldable pub acted : Rule → Phases → (ℕ → Bool) → ℕ → ℕ → (Bits → Entry) → Bits → Entry
acted rule p P q q' F l =
    cond (all_set P l) (cond (does_mix rule.act) (mixed q F l) (cond (does_swap rule.act) (F (exchanged q q' l)) (moved rule p q F l))) (F l)
