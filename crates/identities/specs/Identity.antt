-- The identity's reduced diagram, slot by slot. Definitions only; that it is `diagram n identity` is in proofs/Identities.antt.
use Rattle.std.specs.Prelude.{◌≡◌, List, [], ◌∷◌, ◌++◌, ℕ, zero, suc, ◌+◌, ◌*◌, length, take, drop}
use Rattle.algebra.specs.declared.Entry.{Entry}
use Rattle.algebra.specs.Entry.{𝟘, 𝟙}
use Rattle.diagrams.specs.Diagram.{Ref, value, node, Node, branch, Store, holding}
use Rattle.stores.specs.Columns.{Columns, SameValues}

-- value 0 is 1 and value 1 is 0; each qubit, the last one first, has three nodes, of which the third is the root
unfoldable pub identity_root : ℕ → Ref
identity_root zero = value 0
identity_root (suc n) = node (3 * n + 2)

-- the nodes of n qubits whose first level this is; "For one qubit and two empty lists .. the nodes (level, low, high) are
-- (1, 0, 2), (1, 2, 0), (0, 1, 3)."
unfoldable pub identity_nodes : ℕ → ℕ → List Node
identity_nodes level zero = []
identity_nodes level (suc n) =
    let x = identity_root n in
    identity_nodes (suc (suc level)) n
    ++ (branch (suc level) x (value 1) ∷ branch (suc level) (value 1) x ∷ branch level (node (3 * n)) (node (3 * n + 1)) ∷ [])

abbrev pub identity_store : ℕ → Store Entry
identity_store n = holding (identity_nodes 0 n) (𝟙 ∷ 𝟘 ∷ [])

-- a column with these numbers in its slots from one on, and the others as they were
abbrev pub put_from : ℕ → List ℕ → List ℕ → List ℕ
put_from from part l = take from l ++ (part ++ drop (from + length part) l)

-- the slots of the three nodes of a qubit that asks at this level and the next, after k qubits with `below` for their root
pub record QubitSet (k level below : ℕ) (C C' : Columns) : Type 0 where
  pub of_level : C'.level ≡ put_from (3 * k) ((level + 1) ∷ (level + 1) ∷ level ∷ []) C.level
  pub of_low : C'.low ≡ put_from (3 * k) (below ∷ 2 ∷ (6 * k + 1) ∷ []) C.low
  pub of_high : C'.high ≡ put_from (3 * k) (2 ∷ below ∷ (6 * k + 3) ∷ []) C.high
  pub values : SameValues C C'
