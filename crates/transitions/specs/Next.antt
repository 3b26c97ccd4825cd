-- What a bit turns a state into, and the entry of a state that asks no more. Definitions only.
use Rattle.std.specs.Prelude.{◌≡◌, Bool, true, false, not, cond, ◌&&◌, [], ℕ, suc, ◌+◌, ◌*◌, ◌<◌, eqb}
use Rattle.std.specs.Bool.{beq}
use Rattle.algebra.specs.declared.Entry.{Entry}
use Rattle.algebra.specs.Entry.{𝟘, ◌⊕◌, ◌⊖◌, turned}
use Rattle.gates.specs.Rule.{phase, flipped, does_mix, does_swap}
use Rattle.diagrams.specs.Diagram.{Ref, value, node, code, Store, node_at, reached, ref_of}
use Rattle.transitions.specs.declared.Mode.{Mode}
use Rattle.transitions.specs.declared.Mode.TheVariants.{Turning, Adding, Subtracting, Waiting, Swapping, Choosing}
use Rattle.transitions.specs.declared.State.{State}
use Rattle.transitions.specs.Plan.{Plan, plan_rule, is_zero}

-- ---- states

-- a mode in one number, by which the computed table keeps it
abbrev pub mode_code : Mode → ℕ
mode_code (Turning e) = e
mode_code Adding = 8
mode_code Subtracting = 9
mode_code (Waiting k) = 16 + k
mode_code (Swapping k b) = 32 + 2 * k + cond b 1 0
mode_code (Choosing k e) = 64 + 8 * k + e

-- a mode whose numbers are small enough for that number to be its own
abbrev pub Coded : Mode → Type 0
Coded (Turning e) = e < 8
Coded Adding = Unit {0}
Coded Subtracting = Unit {0}
Coded (Waiting k) = k < 16
Coded (Swapping k b) = k < 16
Coded (Choosing k e) = (k < 24) × (e < 8)

-- a mode that makes use of one reference has it twice
abbrev pub Once : Mode → ℕ → ℕ → Type 0
Once (Turning e) x y = x ≡ y
Once Adding x y = Unit {0}
Once Subtracting x y = Unit {0}
Once (Waiting k) x y = x ≡ y
Once (Swapping k b) x y = Unit {0}
Once (Choosing k e) x y = Unit {0}

abbrev pub on_both : Mode → ℕ → ℕ → State
on_both m x y = record { x = x; y = y; mode = m }

abbrev pub on_one : Mode → ℕ → State
on_one m x = on_both m x x

-- the start of a step's walk from the root: the gate is still to act, from its first stage on
abbrev pub start : Ref → State
start root = on_one (Waiting 0) (code root)

-- ---- a bit

-- "going low where the bit asked for is 0 and high where it is 1"; a reference that does not ask at this level stays
abbrev pub cofactor_by : Store Entry → ℕ → Bool → ℕ → Ref → ℕ
cofactor_by s level b x (value j) = x
cofactor_by s level b x (node i) = cond (eqb (node_at s i).level level) (code (cond b (node_at s i).high (node_at s i).low)) x

unfoldable pub cofactor : Store Entry → ℕ → Bool → ℕ → ℕ
cofactor s level b x = cofactor_by s level b x (ref_of x)

-- x + y or x − y; where one of them is the source's zero, the other, turned by 1 or −1
unfoldable pub paired : Plan → Bool → ℕ → ℕ → State
paired plan minus x y =
    cond (is_zero plan.zero y) (on_one (Turning 0) x)
    (cond (is_zero plan.zero x) (on_one (Turning (cond minus 4 0)) y) (on_both (cond minus Subtracting Adding) x y))

-- y turned if the controls from stage k on are 1, else x; past the last stage, or where the two are one, no control counts
unfoldable pub chosen : Plan → ℕ → ℕ → ℕ → ℕ → State
chosen plan k e x y =
    cond (eqb k plan.stages) (on_one (Turning e) y) (cond (eqb e 0 && eqb x y) (on_one (Turning 0) x) (on_both (Choosing k e) x y))

-- the target's question, with the controls from stage k on still to come
unfoldable pub at_target : Plan → Store Entry → ℕ → Bool → ℕ → ℕ → State
at_target plan s level b k x = cond
    (does_mix plan.act)
    (paired plan b (cofactor s level false x) (cofactor s level true x))
    (cond (does_swap plan.act)
    (on_both (Swapping k b) (cofactor s level b x) (cofactor s level (not b) x))
    (chosen plan k (phase plan.phases b) (cofactor s level b x) (cofactor s level (flipped (plan_rule plan) b) x)))

-- at the second target of a swap, after a first whose bit was `seen`: where the bits are alike there is nothing to exchange
abbrev pub at_second : Plan → Store Entry → ℕ → Bool → ℕ → Bool → ℕ → ℕ → State
at_second plan s level b k seen x y = cond
    (beq b seen)
    (on_one (Turning 0) (cofactor s level b x))
    (chosen plan k 0 (cofactor s level b x) (cofactor s level seen y))

abbrev pub next_by : Plan → Store Entry → ℕ → Bool → Mode → ℕ → ℕ → State
next_by plan s level b (Turning e) x y = on_one (Turning e) (cofactor s level b x)
next_by plan s level b Adding x y = paired plan false (cofactor s level b x) (cofactor s level b y)
next_by plan s level b Subtracting x y = paired plan true (cofactor s level b x) (cofactor s level b y)
next_by plan s level b (Waiting k) x y = cond
    (eqb (plan.stage k) level)
    (cond (eqb plan.target k) (at_target plan s level b (suc k) x) (on_one (cond b (Waiting (suc k)) (Turning 0)) (cofactor s level b x)))
    (on_one (Waiting k) (cofactor s level b x))
next_by plan s level b (Swapping k seen) x y = cond
    (eqb (plan.stage k) level)
    (cond (eqb plan.second k) (at_second plan s level b (suc k) seen x y)
    (cond b (on_both (Swapping (suc k) seen) (cofactor s level b x) (cofactor s level b y)) (on_one (Turning 0) (cofactor s level b x))))
    (on_both (Swapping k seen) (cofactor s level b x) (cofactor s level b y))
next_by plan s level b (Choosing k e) x y = cond
    (eqb (plan.stage k) level)
    (cond b (chosen plan (suc k) e (cofactor s level b x) (cofactor s level b y)) (on_one (Turning 0) (cofactor s level b x)))
    (chosen plan k e (cofactor s level b x) (cofactor s level b y))

-- the state after the bit of a level
unfoldable pub next_state : Plan → Store Entry → ℕ → Bool → State → State
next_state plan s level b σ = next_by plan s level b σ.mode σ.x σ.y

-- ---- no question left

abbrev pub is_value : Ref → Bool
is_value (value j) = true
is_value (node i) = false

abbrev pub is_leaf_by : Mode → Ref → Ref → Bool
is_leaf_by (Turning e) x y = is_value x
is_leaf_by Adding x y = is_value x && is_value y
is_leaf_by Subtracting x y = is_value x && is_value y
is_leaf_by (Waiting k) x y = false
is_leaf_by (Swapping k b) x y = false
is_leaf_by (Choosing k e) x y = false

unfoldable pub is_leaf : State → Bool
is_leaf σ = is_leaf_by σ.mode (ref_of σ.x) (ref_of σ.y)

-- the entry that a reference is with no bit left
abbrev pub entry_of : Store Entry → Ref → Entry
entry_of s r = reached 𝟘 s 0 r []

abbrev pub leaf_by : Store Entry → Mode → Ref → Ref → Entry
leaf_by s (Turning e) x y = turned e (entry_of s x)
leaf_by s Adding x y = entry_of s x ⊕ entry_of s y
leaf_by s Subtracting x y = entry_of s x ⊖ entry_of s y
leaf_by s (Waiting k) x y = 𝟘
leaf_by s (Swapping k b) x y = 𝟘
leaf_by s (Choosing k e) x y = 𝟘

unfoldable pub leaf_entry : Store Entry → State → Entry
leaf_entry s σ = leaf_by s σ.mode (ref_of σ.x) (ref_of σ.y)
