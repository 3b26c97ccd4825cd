-- The search for the lowest place that forbids equality, from a place of the diagram on. Definitions only; that it comes to the
-- verdict is in searches/proofs/Verdicts.antt.
use Rattle.std.specs.Prelude.{Bool, false, cond, not, [], ◌∷◌, ℕ, ◌+◌, ◌*◌, ◌-◌, eqb, Option, Some, None}
use Rattle.std.specs.Option.{option_eq}
use Rattle.std.proofs.Math.Option.{Option as Lowest, none, some}
use Rattle.algebra.specs.Matrix.{Bits}
use Rattle.diagrams.specs.Diagram.{rows, columns}
use Rattle.miters.specs.Report.{lowest}
use Rattle.stores.specs.declared.Nodes.{Nodes}
use Rattle.places.specs.declared.Block.{Block}
use Rattle.places.specs.declared.Place.{Place}
use Rattle.places.specs.declared.Task.{Task}
use Rattle.cofactors.specs.Slots.{cofactor, landing}

-- ---- what is found from a place on

-- the number whose bits are those of m and then these
abbrev pub onward : ℕ → Bits → ℕ
onward m [] = m
onward m (b ∷ l) = onward (cond b (2 * m + 1) (2 * m)) l

-- The bits before a place are those of x and of y; one of the two is the row, the other the column. The bits from it on are
-- bits of x and of y in turn, and f gives the references to the values by them.

-- whether a reference is zero's, if there is one
abbrev pub is_zero : Option ℕ → ℕ → Bool
is_zero zero r = option_eq eqb zero (Some r)

-- what does not forbid: on the diagonal the corner's value, off it zero
abbrev pub allows : Task → Bool → ℕ → Bool
allows task diagonal r = cond diagonal (eqb r task.corner) (is_zero task.zero r)

-- "off the diagonal and not zero, or on it and unlike the corner"
abbrev pub forbids_from : Task → (Bits → ℕ) → ℕ → ℕ → Bits → Bool
forbids_from task f x y l = not (allows task (eqb (onward x (rows l)) (onward y (columns l))) (f l))

abbrev pub found_at : ℕ → ℕ → ℕ → Option Place
found_at row column v = Some (record { row = row; column = column; value = v })

abbrev pub found_from : (ℕ → ℕ → ℕ → Option Place) → (Bits → ℕ) → ℕ → ℕ → Lowest Bits → Option Place
found_from at f x y none = None
found_from at f x y (some l) = at (onward x (rows l)) (onward y (columns l)) (f l)

-- the lowest by the next k bits that forbids equality
unfoldable pub sought : (ℕ → ℕ → ℕ → Option Place) → Task → ℕ → (Bits → ℕ) → ℕ → ℕ → Option Place
sought at task k f x y = found_from at f x y (lowest k (forbids_from task f x y))

-- ---- in a block

module _ (nodes : Nodes) (task : Task) where
  -- the references behind a block's root, by the bits of the levels left
  abbrev pub behind : Block → Bits → ℕ
  behind block = landing nodes.level.now nodes.low.now nodes.high.now (task.levels - block.left) block.root

  -- the half of a block by its first bit; its own first bit is one of the other number
  abbrev pub half : Block → Bool → Block
  half block b = record {
    left = block.left - 1;
    root = cofactor nodes.level.now nodes.low.now nodes.high.now (task.levels - block.left) b block.root;
    next = block.after;
    after = cond b (2 * block.next + 1) (2 * block.next);
  }

  -- what is found in a block
  abbrev pub sought_in : (ℕ → ℕ → ℕ → Option Place) → Block → Option Place
  sought_in at block = sought at task block.left (behind block) block.next block.after

  -- where its first bit is one of the row
  abbrev pub row_sought : Block → Option Place
  row_sought = sought_in found_at

  -- where its first bit is one of the column
  abbrev pub column_sought : Block → Option Place
  column_sought = sought_in (λ y x v. found_at x y v)

-- ---- where the search ends

-- off the diagonal at the zero terminal, at a place on it at the corner's value
abbrev pub is_settled : Task → Block → Bool
is_settled task block =
    cond (eqb block.next block.after) (cond (eqb block.left 0) (eqb block.root task.corner) false) (is_zero task.zero block.root)
