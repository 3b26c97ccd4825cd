-- The miter of two gate lists: the list's matrix, the steps along a schedule, what they come to, and what equal means.
-- Definitions only; their laws are in proofs/LeastForms.antt, proofs/Schedules.antt and proofs/Scalars.antt.
use Rattle.std.specs.Prelude.{◌≡◌, Bool, false, cond, List, [], ◌∷◌, ℕ, zero, suc, ◌+◌, length, replicate}
use Rattle.algebra.specs.declared.Entry.{Entry}
use Rattle.algebra.specs.Entry.{𝟘, ◌⊗◌, √2^}
use Rattle.algebra.specs.Matrix.{Bits, Matrix, everywhere, product, same, identity}
use Rattle.algebra.specs.Division.{divisible, over_√2}
use Rattle.gates.specs.Gate.{Gate, matrix, inverse, halves}
use Rattle.diagrams.specs.Diagram.{levels, entries}

-- ---- a list's matrix

-- "A list's matrix has its first gate rightmost."
unfoldable pub list_matrix : ℕ → List Gate → Matrix
list_matrix n [] = identity
list_matrix n (g ∷ gs) = product n (list_matrix n gs) (matrix g)

-- the exponent that it is over: the number of its H gates
abbrev pub exponent : List Gate → ℕ
exponent [] = 0
exponent (g ∷ gs) = halves g + exponent gs

-- ---- steps

-- "A matrix is a table of entries over one exponent k: each is divided by √2 to the power k."
pub record Over : Type 0 where
  pub entries : Matrix
  pub power : ℕ

-- "It starts as the identity with k = 0."
unfoldable pub start : Over
start = record { entries = identity; power = 0 }

-- a gate put on the right or on the left
pub data Step : Type 0 where
  right left : Gate → Step

-- the product of a step, before it is divided: "H .. adds 1 to k"
unfoldable pub stepped : ℕ → Step → Over → Over
stepped n (right g) M = record { entries = product n M.entries (matrix g); power = M.power + halves g }
stepped n (left g) M = record { entries = product n (matrix g) M.entries; power = M.power + halves g }

-- ---- the least exponent

-- "every entry has both a + c and b + d even"
abbrev pub all_divisible : ℕ → Matrix → Bool
all_divisible n M = everywhere (levels n) (λ l. divisible (entries M l))

-- "divide all entries by √2"
abbrev pub divided : Matrix → Matrix
divided M r c = over_√2 (M r c)

-- entries over an exponent
abbrev pub table : ℕ → Matrix → Over
table k M = record { entries = M; power = k }

-- "while the exponent is above 0 and every entry has both a + c and b + d even, divide all entries by √2 and take 1 from the
-- exponent"
unfoldable pub lower : ℕ → ℕ → Matrix → Over
lower n zero M = table 0 M
lower n (suc k) M = cond (all_divisible n M) (lower n k (divided M)) (table (suc k) M)

-- entries over their exponent, divided so
abbrev pub lowered : ℕ → Over → Over
lowered n M = lower n M.power M.entries

-- "After each step": the product, divided
abbrev pub taken : ℕ → Step → Over → Over
taken n s M = lowered n (stepped n s M)

-- what the steps come to
abbrev pub run : ℕ → List Step → Over → Over
run n [] M = M
run n (s ∷ ss) M = run n ss (taken n s M)

-- "A step either puts the next gate of U on the left or the inverse of the next gate of V on the right."
-- The steps of a schedule, which has 0 for U and 1 for V; they end where it takes a gate that is not there.
abbrev pub steps : List ℕ → List Gate → List Gate → List Step
steps [] us vs = []
steps (zero ∷ s) [] vs = []
steps (zero ∷ s) (u ∷ us) vs = left u ∷ steps s us vs
steps (suc b ∷ s) us [] = []
steps (suc b ∷ s) us (v ∷ vs) = right (inverse v) ∷ steps s us vs

-- ---- the miter

-- all of U taken first and then all of V
abbrev pub in_turn : List Gate → List Gate → List Step
in_turn [] [] = []
in_turn [] (v ∷ vs) = right (inverse v) ∷ in_turn [] vs
in_turn (u ∷ us) vs = left u ∷ in_turn us vs

-- "A pair's miter needs no schedule: it is what the steps come to, in whole numbers of any size, with all of U taken first
-- and then all of V."
unfoldable pub miter : ℕ → List Gate → List Gate → Over
miter n us vs = run n (in_turn us vs) start

-- row 0, column 0
abbrev pub corner : ℕ → Matrix → Entry
corner n M = M (replicate n false) (replicate n false)

-- ---- equal

-- the number z over √2 to the power e, times every entry of V's matrix, gives U's:
-- z/√2^e · V/√2^(V's exponent) = U/√2^(U's exponent).
-- "Powers of √2 are cleared by the product rule above, so all is whole numbers."
abbrev pub Turns : ℕ → List Gate → List Gate → Entry → ℕ → Type 0
Turns n us vs z e =
    (r c : Bits) → length r ≡ n → length c ≡ n → √2^ (exponent us) ⊗ (z ⊗ list_matrix n vs r c) ≡ √2^ (e + exponent vs) ⊗ list_matrix n us r c

-- "Equal means: some number of this form, with its own exponent, times every entry of V's matrix gives U's."
pub record Equal (n : ℕ) (us vs : List Gate) : Type 0 where
  pub factor : Entry
  pub over : ℕ
  pub turns : Turns n us vs factor over

-- "This comes to: every off-diagonal entry of the miter is zero and all diagonal entries are alike."
pub record Scalar (n : ℕ) (M : Matrix) : Type 0 where
  pub off : (r c : Bits) → length r ≡ n → length c ≡ n → same r c ≡ false → M r c ≡ 𝟘
  pub alike : (r c : Bits) → length r ≡ n → length c ≡ n → M r r ≡ M c c
