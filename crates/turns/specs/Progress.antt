-- How far a step's walk has come: building, or full, or out of the width. Definitions only.
use Rattle.std.specs.Prelude.{◌≡◌, Bool, true, false, ◌&&◌, Result, Ok, Err, ℕ, ◌<◌, leb, length}
use Rattle.algebra.specs.declared.Entry.{Entry}
use Rattle.diagrams.specs.Diagram.{branch, code, ref_of, Store, Diagram, make_node}
use Rattle.transitions.specs.declared.State.{State}
use Rattle.transitions.specs.Plan.{Plan}
use Rattle.transitions.specs.State.{made, inside}
use Rattle.turns.specs.declared.OutsideWidth.{OutsideWidth}

-- what the walkers answer where the product needs more room: no reference reaches it
abbrev pub FULL : ℕ
FULL = 4294967293

-- the references that they answer lie below this number
abbrev pub reference_limit : ℕ
reference_limit = 4294967292

-- the store built so far; more was needed than there is room for, but every number so far lay in the width; one did not
pub data Progress : Type 0 where
  building : Store Entry → Progress
  full : Progress
  out : Progress

-- N nodes and L values have room for a store
abbrev pub roomy : ℕ → ℕ → Store Entry → Bool
roomy N L t = leb (length t.nodes) N && leb (length t.values) L

-- how far the walk from a state comes, and what it answers: the reference, if the diagram was built; past a failure the answer
-- says only whether it was one of the width, which is the error
pub data Walks (N L : ℕ) (plan : Plan) (s : Store Entry) (σ : State) : Progress → Progress → Result ℕ OutsideWidth → Type 0 where
  built : {t : Store Entry} → inside plan s σ ≡ true → roomy N L (made plan s σ t).store ≡ true → code (made plan s σ t).root < reference_limit
      → Walks N L plan s σ (building t) (building (made plan s σ t).store) (Ok (code (made plan s σ t).root))
  filled : {t : Store Entry} {r : ℕ} → inside plan s σ ≡ true → roomy N L (made plan s σ t).store ≡ false
      → Walks N L plan s σ (building t) full (Ok r)
  left : {t : Store Entry} {e : OutsideWidth} → inside plan s σ ≡ false → Walks N L plan s σ (building t) out (Err e)
  still_full : {r : ℕ} → inside plan s σ ≡ true → Walks N L plan s σ full full (Ok r)
  left_full : {e : OutsideWidth} → inside plan s σ ≡ false → Walks N L plan s σ full out (Err e)

-- the node over two answers, put into a store
abbrev pub node_over : ℕ → ℕ → ℕ → Store Entry → Diagram Entry
node_over level l h t = make_node (branch level (ref_of l) (ref_of h)) t

-- what the end of a turn makes of its two answers
pub data Finish (N L level l h : ℕ) : Progress → Progress → ℕ → Type 0 where
  no_more : Finish N L level l h full full FULL
  joined : {t : Store Entry} → roomy N L (node_over level l h t).store ≡ true → code (node_over level l h t).root < reference_limit
      → Finish N L level l h (building t) (building (node_over level l h t).store) (code (node_over level l h t).root)
  overflows : {t : Store Entry} → roomy N L (node_over level l h t).store ≡ false → Finish N L level l h (building t) full FULL
