-- Matrices over the entries. Definitions only; their laws are in proofs/Sums.antt and proofs/Matrices.antt.
use Rattle.std.specs.Prelude.{Bool, true, false, cond, ◌&&◌, List, [], ◌∷◌, ℕ, zero, suc}
use Rattle.std.specs.Bool.{beq}
use Rattle.algebra.specs.declared.Entry.{Entry}
use Rattle.algebra.specs.Entry.{𝟘, 𝟙, ◌⊕◌, ◌⊗◌}

-- "Qubit 0 is the most significant bit of a row or column number": a number of n qubits is its n bits, qubit 0 first.
abbrev pub Bits : Type 0
Bits = List Bool

-- a table of entries by row and column
abbrev pub Matrix : Type 0
Matrix = Bits → Bits → Entry

-- the sum of f over all bit lists of length n
unfoldable pub total : ℕ → (Bits → Entry) → Entry
total zero f = f []
total (suc n) f = total n (λ l. f (false ∷ l)) ⊕ total n (λ l. f (true ∷ l))

-- a test of all bit lists of length n
abbrev pub everywhere : ℕ → (Bits → Bool) → Bool
everywhere zero test = test []
everywhere (suc n) test = everywhere n (λ l. test (false ∷ l)) && everywhere n (λ l. test (true ∷ l))

-- the product on n qubits: the sum over all middle indices
unfoldable pub product : ℕ → Matrix → Matrix → Matrix
product n A B r c = total n (λ m. A r m ⊗ B m c)

-- the two numbers are the same
abbrev pub same : Bits → Bits → Bool
same [] [] = true
same [] (y ∷ ys) = false
same (x ∷ xs) [] = false
same (x ∷ xs) (y ∷ ys) = beq x y && same xs ys

unfoldable pub identity : Matrix
identity r c = cond (same r c) 𝟙 𝟘
