-- The store in the first slots of lent columns, and the way down in it. Definitions only; the laws of the way down are in places.
use Rattle.std.specs.Prelude.{◌≡◌, Bool, cond, List, [], ◌∷◌, ℕ, zero, suc, ◌/◌, ◌%◌, ◌^◌, ◌<◌, eqb, length, get_or}
use Rattle.algebra.specs.declared.Entry.{Entry}
use Rattle.algebra.specs.Entry.{𝟘}
use Rattle.algebra.specs.Matrix.{Bits, Matrix}
use Rattle.diagrams.specs.Diagram.{Ref, Store, holding, reached, place}
use Rattle.stores.specs.Columns.{Columns, entry_of, entries_of}
use Rattle.uniques.specs.UniqueTable.{nodes_in}

-- the nodes and the values in so many slots from 0 up
abbrev pub store_in : ℕ → ℕ → Columns → Store Entry
store_in nodes values cols =
    holding (nodes_in nodes cols.level cols.low cols.high) (entries_of cols values)

abbrev pub value_at : Columns → ℕ → Entry
value_at cols j = entry_of cols j

-- "A diagram gives, for a row and a column, the value reached from its root"
abbrev pub given : Store Entry → Ref → Matrix
given s root r c = reached 𝟘 s 0 root (place r c)

-- where r is a node, the columns have its slot
pub record InNodes (level low high : List ℕ) (r : ℕ) : Type 0 where
  pub in_level : r % 2 ≡ 1 → r / 2 < length level
  pub in_low : r % 2 ≡ 1 → r / 2 < length low
  pub in_high : r % 2 ≡ 1 → r / 2 < length high

-- "going low where the bit asked for is 0 and high where it is 1"; a reference that does not ask for the level stays
abbrev pub cofactor : List ℕ → List ℕ → List ℕ → ℕ → Bool → ℕ → ℕ
cofactor level low high asked b r = cond (eqb (r % 2) 1) (cond (eqb (get_or level (r / 2) 0) asked) (get_or (cond b high low) (r / 2) 0) r) r

-- the reference reached by the bits of the levels from `asked` on
abbrev pub landing : List ℕ → List ℕ → List ℕ → ℕ → ℕ → Bits → ℕ
landing level low high asked r [] = r
landing level low high asked r (b ∷ l) = landing level low high (suc asked) (cofactor level low high asked b r) l

-- "Qubit 0 is the most significant bit of a row or column number": the low k bits of a number, the most significant first
abbrev pub bits : ℕ → ℕ → Bits
bits zero x = []
bits (suc k) x = eqb (x / 2 ^ k % 2) 1 ∷ bits k x
