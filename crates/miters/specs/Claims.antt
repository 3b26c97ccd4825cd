-- What is claimed of a verdict, of the exponent, of how a run ends, and of two outcomes. Definitions only; that it holds is in
-- proofs/Verdicts.antt, proofs/Schedules.antt and proofs/Runs.antt.
use Rattle.std.specs.Prelude.{◌≡◌, Bool, true, false, List, [], ◌∷◌, ℕ, zero, suc, ◌+◌, ◌<◌, length, take}
use Rattle.algebra.specs.declared.Entry.{Entry}
use Rattle.algebra.specs.Entry.{◌⊗◌, √2^}
use Rattle.algebra.specs.Matrix.{Bits, Matrix}
use Rattle.gates.specs.Gate.{Gate}
use Rattle.diagrams.specs.Diagram.{node, Diagram, levels}
use Rattle.stores.specs.Columns.{held, cleared}
use Rattle.miters.specs.declared.StepFault.TheVariants.{OutsideWidth, NoRoom}
use Rattle.miters.specs.declared.Refusal.{Refusal}
use Rattle.miters.specs.declared.Refusal.TheVariants.{Step as at_step}
use Rattle.miters.specs.declared.Verdict.{Verdict}
use Rattle.miters.specs.declared.Verdict.TheVariants.{Equal as equal_with, Different, Refused}
use Rattle.miters.specs.Miter.{Over, start, Step, stepped, taken, run, corner, miter, Turns, Equal}
use Rattle.miters.specs.Report.{number, forbids, difference}
use Rattle.miters.specs.Run.{Lent, in_width, has_room, Ended, done, stopped, Outcome, used}

-- ---- a verdict

-- the lowest bits that pass a test
pub record Least (k : ℕ) (test : Bits → Bool) (l : Bits) : Type 0 where
  pub long : length l ≡ k
  pub passes : test l ≡ true
  pub lower_fail : (m : Bits) → length m ≡ k → number m < number l → test m ≡ false

-- equal, with the corner, which over √2 to the miter's exponent turns V's matrix into U's; or different, with the lowest place
-- that forbids equality
pub data Says (n : ℕ) (us vs : List Gate) : Verdict → Type 0 where
  says_equal : Equal n us vs → Turns n us vs (corner n (miter n us vs).entries) (miter n us vs).power
      → Says n us vs (equal_with (corner n (miter n us vs).entries))
  says_different : (Equal n us vs → ⊥) → (l : Bits) → Least (levels n) (forbids n (miter n us vs).entries) l
      → Says n us vs (Different (difference n (miter n us vs).entries l))

-- ---- the exponent

-- two tables of entries mean one matrix: M over √2 to its exponent is N over √2 to its own
abbrev pub SameMatrix : ℕ → Over → Over → Type 0
SameMatrix n M N = (r c : Bits) → length r ≡ n → length c ≡ n → √2^ M.power ⊗ N.entries r c ≡ √2^ N.power ⊗ M.entries r c

-- ---- how a run ends

module _ (lent : Lent) (n : ℕ) where
  -- what the first k steps come to
  abbrev pub after : Over → List Step → ℕ → Matrix
  after M ss k = (run n (take k ss) M).entries

  -- the product of step k + 1, before it is divided; it is not asked for where there is no such step
  abbrev pub product_of : Over → List Step → ℕ → Matrix
  product_of M [] k = M.entries
  product_of M (s ∷ ss) zero = (stepped n s M).entries
  product_of M (s ∷ ss) (suc k) = product_of (taken n s M) ss k

  -- the products of the first k steps are in the width, and what is left of them has room: "Refusal 13 is judged before the
  -- dividing, 14 after it."
  abbrev pub Pass : Over → List Step → ℕ → Type 0
  Pass M ss k = (i : ℕ) → i < k → (in_width lent n (product_of M ss i) ≡ true) × (has_room lent n (after M ss (suc i)) ≡ true)

  -- all steps are taken; or those before step k + 1, whose product has a number outside the width, or is within it and leaves what has
  -- no room
  pub data Follows (before : ℕ) (M : Over) (ss : List Step) : Ended → Type 0 where
    finishes : Pass M ss (length ss) → Follows before M ss (done (before + length ss) (run n ss M))
    too_wide : (k : ℕ) → k < length ss → Pass M ss k → in_width lent n (product_of M ss k) ≡ false
        → Follows before M ss (stopped (at_step OutsideWidth (before + k)))
    too_full : (k : ℕ) → k < length ss → Pass M ss k → in_width lent n (product_of M ss k) ≡ true → has_room lent n (after M ss (suc k)) ≡ false
        → Follows before M ss (stopped (at_step NoRoom (before + k)))

  -- the identity has no room, or the steps are followed from it
  pub data Ends (ss : List Step) : Ended → Type 0 where
    full_at_once : has_room lent n start.entries ≡ false → Ends ss (stopped (at_step NoRoom 0))
    follows : {e : Ended} → has_room lent n start.entries ≡ true → Follows 0 start ss e → Ends ss e

-- ---- two outcomes

-- it is no refusal
abbrev pub Answered : Outcome → Type 0
Answered o = (r : Refusal) → o.report.verdict ≡ Refused r → ⊥

-- two outcomes agree in every field of the report and in the used part of the first store, which is the diagram D: its nodes
-- and values are as many as the report says and stand in their slots, and its root is the last node; the second stores are all 0
pub record Agree (lent lent' : Lent) (D : Diagram Entry) (o p : Outcome) : Type 0 where
  pub reports : o.report ≡ p.report
  pub used_parts : used o ≡ used p
  pub used_is : used o ≡ held (length D.store.nodes) (length D.store.values) D.store
  pub nodes_are : o.report.nodes ≡ length D.store.nodes
  pub values_are : o.report.values ≡ length D.store.values
  pub root_is : (i : ℕ) × (D.root ≡ node i) × (suc i ≡ length D.store.nodes)
  pub second_is : o.second ≡ cleared lent.nodes lent.values
  pub second_is' : p.second ≡ cleared lent'.nodes lent'.values
