-- A matrix has one reduced diagram, numbered as the walk finishes it, and `diagram` is it.
-- Assumes nothing.
use mathlib.Core.Path.{◌≡◌, sym, ◌∙◌, ap₂}
use Prim.Native.Nat.{ℕ}
use lib.ListN.{length}
use Rattle.algebra.specs.declared.Entry.{Entry}
use Rattle.algebra.specs.Entry.{𝟘}
use Rattle.algebra.specs.Matrix.{Bits, Matrix}
use Rattle.diagrams.specs.Diagram.{Diagram, reached, ReducedOf, levels, place, rows, columns, entries, same_entry, empty, diagram}
use Rattle.diagrams.proofs.Tests.{entry_decides}
use Rattle.diagrams.proofs.Again.{reduce_ext}
use Rattle.diagrams.proofs.Unique.{reduced_unique}
use Rattle.diagrams.proofs.Exists.{reduce_reduced}
use Rattle.diagrams.proofs.Places.{length_place, length_halves, place_halves}

pub diagram_reduced : (n : ℕ) (M : Matrix) → ReducedOf 𝟘 (levels n) (entries M) (diagram n M)
diagram_reduced n M = reduce_reduced entry_decides 𝟘 (levels n) (entries M)

pub diagram_unique : (n : ℕ) (M : Matrix) (D : Diagram Entry) → ReducedOf 𝟘 (levels n) (entries M) D → D ≡ diagram n M
diagram_unique n M D 𝓡 = reduced_unique entry_decides 𝟘 (levels n) (entries M) D 𝓡

pub diagram_gives : (n : ℕ) (M : Matrix) (r c : Bits) → length r ≡ n → length c ≡ n
    → reached 𝟘 (diagram n M).store 0 (diagram n M).root (place r c) ≡ M r c
diagram_gives n M r c e f =
    (diagram_reduced n M).gives (place r c) (length_place n r c e f)
    ∙ ap₂ M (place_halves r c (e ∙ sym f)).0 (place_halves r c (e ∙ sym f)).1

-- only the entries on n qubits count
pub diagram_ext : (n : ℕ) (M N : Matrix) → ((r c : Bits) → length r ≡ n → length c ≡ n → M r c ≡ N r c) → diagram n M ≡ diagram n N
diagram_ext n M N alike =
    reduce_ext same_entry (levels n) 0 (entries M) (entries N) empty
    (λ l e. alike (rows l) (columns l) (length_halves n l e).0 (length_halves n l e).1)
