-- The gates and their matrices, by kind: diagonal, then flips and swaps, then H, each dagger after its gate; the codes by number.
-- Definitions only; their laws are in proofs/.
use Rattle.std.specs.Prelude.{Bool, true, false, not, cond, ◌&&◌, ◌||◌, List, [], ◌∷◌, ℕ, zero, suc, ◌/◌, ◌%◌, ◌^◌, ◌<◌, ◌≤◌, ◌≡◌, eqb, get_or, set}
use Rattle.std.specs.Bool.{beq}
use Rattle.std.specs.Int.Count.{ones}
use Rattle.algebra.specs.declared.Entry.{Entry}
use Rattle.algebra.specs.Entry.{𝟘, 𝟙, neg, w8^}
use Rattle.algebra.specs.Matrix.{Bits, Matrix}

-- ---- the gates

-- the gates of one qubit, and those of a control and a target
pub data Kind : Type 0 where
  Z S S† T T† X Y H : Kind

pub data Pair : Type 0 where
  CZ CNOT : Pair

-- "Code 10 is a control mask and a target to flip; code 11 is a control mask and two targets to swap where all controls are 1."
pub data Gate : Type 0 where
  on : Kind → ℕ → Gate
  pair : Pair → ℕ → ℕ → Gate
  toffoli : ℕ → ℕ → Gate
  fredkin : ℕ → ℕ → ℕ → Gate

-- "Gate codes: 0 X, 1 Y, 2 Z, 3 H, 4 S, 5 S†, 6 T, 7 T†, 8 CNOT, 9 CZ." and 10 Toffoli, 11 Fredkin, with a mask of controls
pub data Meant : Type 0 where
  one : Kind → Meant
  two : Pair → Meant
  mask_one mask_two : Meant
  unknown : Meant

abbrev pub codes : List Meant
codes =
    one X ∷ one Y ∷ one Z ∷ one H ∷ one S ∷ one S† ∷ one T ∷ one T† ∷ two CNOT ∷ two CZ ∷ mask_one ∷ mask_two ∷ []

unfoldable pub meant : ℕ → Meant
meant code = get_or codes code unknown

-- ---- the small matrices

-- [p q; r s], by row bit and column bit
abbrev pub table : Entry → Entry → Entry → Entry → Bool → Bool → Entry
table p q r s false false = p
table p q r s false true = q
table p q r s true false = r
table p q r s true true = s

-- "Z, S, T are diagonal: 1 and −1, w8², w8.", and S† and T† with the inverses of w8² and w8, w8⁶ and w8⁷;
-- "X = [0 1; 1 0]. Y = [0 −i; i 0] with i = w8²."; "H has numerators [1 1; 1 −1]"
abbrev pub small : Kind → Bool → Bool → Entry
small Z = table 𝟙 𝟘 𝟘 (neg 𝟙)
small S = table 𝟙 𝟘 𝟘 (w8^ 2)
small S† = table 𝟙 𝟘 𝟘 (w8^ 6)
small T = table 𝟙 𝟘 𝟘 (w8^ 1)
small T† = table 𝟙 𝟘 𝟘 (w8^ 7)
small X = table 𝟘 𝟙 𝟙 𝟘
small Y = table 𝟘 (neg (w8^ 2)) (w8^ 2) 𝟘
small H = table 𝟙 𝟙 𝟙 (neg 𝟙)

-- by the row's control and target bit, then the column's:
-- "CZ negates where both are 1."; "CNOT flips the target where the control is 1"
abbrev pub small_pair : Pair → Bool → Bool → Bool → Bool → Entry
small_pair CZ c t c' t' = cond (beq c c' && beq t t') (cond (c && t) (neg 𝟙) 𝟙) 𝟘
small_pair CNOT c t c' t' = cond (beq c c' && beq (cond c (not t) t) t') 𝟙 𝟘

-- ---- a gate's matrix on n qubits

-- the two numbers are the same
abbrev pub is : ℕ → ℕ → Bool
is zero zero = true
is zero (suc j) = false
is (suc i) zero = false
is (suc i) (suc j) = is i j

-- the bit of a qubit
abbrev pub bit : Bits → ℕ → Bool
bit r q = get_or r q false

-- "Bit q of the mask, a number below 65,536, names qubit q."
abbrev pub in_mask : ℕ → ℕ → Bool
in_mask mask q = eqb (mask / 2 ^ q % 2) 1

-- every place of the set has bit 1
abbrev pub all_set : (ℕ → Bool) → Bits → Bool
all_set P [] = true
all_set P (x ∷ l) = (not (P 0) || x) && all_set (λ i. P (suc i)) l

-- the bits of p and q exchanged
abbrev pub exchanged : ℕ → ℕ → Bits → Bits
exchanged p q l = set (set l p (bit l q)) q (bit l p)

-- the qubits that a gate names
abbrev pub names : Gate → ℕ → Bool
names (on k q) i = is q i
names (pair k p q) i = is p i || is q i
names (toffoli mask q) i = in_mask mask i || is q i
names (fredkin mask p q) i = in_mask mask i || (is p i || is q i)

-- row and column agree in every qubit that is not named
abbrev pub agree : (ℕ → Bool) → Bits → Bits → Bool
agree named [] [] = true
agree named [] (y ∷ c) = false
agree named (x ∷ r) [] = false
agree named (x ∷ r) (y ∷ c) = (named 0 || beq x y) && agree (λ i. named (suc i)) r c

-- row and column agree in every qubit of the set
abbrev pub agree_in : (ℕ → Bool) → Bits → Bits → Bool
agree_in P r c = agree (λ i. not (P i)) r c

-- the entry of the small matrix at the bits of the named qubits: with a mask it is 1 where row and column agree in the controls and,
-- in the targets, after the flip or the swap that is made "where all controls are 1"
abbrev pub named_entry : Gate → Matrix
named_entry (on k q) r c = small k (bit r q) (bit c q)
named_entry (pair k p q) r c = small_pair k (bit r p) (bit r q) (bit c p) (bit c q)
named_entry (toffoli mask q) r c =
    cond (agree_in (in_mask mask) r c && beq (cond (all_set (in_mask mask) r) (not (bit r q)) (bit r q)) (bit c q)) 𝟙 𝟘
named_entry (fredkin mask p q) r c =
    let active = all_set (in_mask mask) r in
    cond (agree_in (in_mask mask) r c && (beq (bit r (cond active q p)) (bit c p) && beq (bit r (cond active p q)) (bit c q))) 𝟙 𝟘

-- "On n qubits a gate's entry is that of its small matrix where row and column agree in every qubit it doesn't name, and
-- zero elsewhere."
unfoldable pub matrix : Gate → Matrix
matrix g r c = cond (agree (names g) r c) (named_entry g r c) 𝟘

-- no bit of the mask is "at or past the qubit count"; at least so many controls, "by the count of ones in the mask"
abbrev pub Mask : ℕ → ℕ → ℕ → Type 0
Mask n least mask = (mask < 2 ^ n) × (least ≤ ones mask)

-- the gate's qubits are below n, and each is named once
abbrev pub Fits : ℕ → Gate → Type 0
Fits n (on k q) = q < n
Fits n (pair k p q) = (p < n) × (q < n) × (p ≡ q → ⊥)
Fits n (toffoli mask q) = Mask n 2 mask × (q < n) × (in_mask mask q ≡ false)
Fits n (fredkin mask p q) = Mask n 1 mask × ((p < n) × (in_mask mask p ≡ false)) × ((q < n) × (in_mask mask q ≡ false)) × (p ≡ q → ⊥)

abbrev pub AllFit : ℕ → List Gate → Type 0
AllFit n [] = Unit {0}
AllFit n (g ∷ gs) = Fits n g × AllFit n gs

-- ---- the inverse and the exponent

-- "X, Y, Z, H, CNOT and CZ are their own inverses; 4 and 5, and 6 and 7, undo each other."; 10 and 11 "are their own inverses"
abbrev pub inverse_kind : Kind → Kind
inverse_kind Z = Z
inverse_kind S = S†
inverse_kind S† = S
inverse_kind T = T†
inverse_kind T† = T
inverse_kind X = X
inverse_kind Y = Y
inverse_kind H = H

abbrev pub inverse : Gate → Gate
inverse (on k q) = on (inverse_kind k) q
inverse (pair k p q) = pair k p q
inverse (toffoli mask q) = toffoli mask q
inverse (fredkin mask p q) = fredkin mask p q

-- "H .. adds 1 to k": what a gate adds to the exponent
abbrev pub halves : Gate → ℕ
halves (on Z q) = 0
halves (on S q) = 0
halves (on S† q) = 0
halves (on T q) = 0
halves (on T† q) = 0
halves (on X q) = 0
halves (on Y q) = 0
halves (pair k p q) = 0
halves (toffoli mask q) = 0
halves (fredkin mask p q) = 0
halves (on H q) = 1
