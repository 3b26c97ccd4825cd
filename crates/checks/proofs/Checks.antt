-- The checks before the run come to the table of refusals 1 to 12, and to nothing else.
-- Assumes nothing.
use mathlib.Core.Path.{◌≡◌, refl}
use mathlib.Core.Bool.{Bool, true, false}
use mathlib.Core.List.{List}
use Prim.Native.Nat.{ℕ}
use lib.Dec.{eqb}
use lib.ListN.{length}
use borrow.Author.Tests.{eqb-true, eqb-false, eq-eqb, ne_eqb}
use Rattle.algebra.specs.Width.{fit_width}
use Rattle.circuits.specs.Refusals.{base_limits}
use Rattle.circuits.specs.Reading.{Reading, read, refused, Circuit, decoded}
use Rattle.schedules.specs.Schedule.{fits}
use Rattle.checks.specs.declared.Lengths.{Lengths}
use Rattle.checks.specs.Checks.{both_rules, Checks, check_pair, check_second, check_first, check_lists, checks}
use Rattle.checks.specs.Table.{LentWell, BothRead, Checking}
use Rattle.checks.specs.Table.{bad_width, bad_stores, bad_first, bad_second, counts_differ, unfitting, all_hold}

module _ (u v schedule : List ℕ) (w : ℕ) (first second : Lengths) where
  abbrev Table : Checks → Type 0
  Table = Checking u v schedule w first second

  -- ---- they come to a line of the table

  pair_checking : {c d : Circuit} → BothRead u v schedule w first second c d → Table (check_pair schedule c d)
  pair_checking {c} {d} both = by_counts (eqb c.qubits d.qubits) (fits (length c.gates) (length d.gates) schedule) refl refl
    where
      by_counts : (x y : Bool) → eqb c.qubits d.qubits ≡ x → fits (length c.gates) (length d.gates) schedule ≡ y
          → Table (check_pair schedule c d)
      by_counts true true p q = rw (p, q) (all_hold both (eqb-true _ _ p) q)
      by_counts true false p q = rw (p, q) (unfitting both (eqb-true _ _ p) q)
      by_counts false y p q = rw p (counts_differ both (eqb-false _ _ p))

  second_checking : {c : Circuit} {next : ℕ} → LentWell u v schedule w first second → decoded base_limits u ≡ read c next
      → (m : Reading Circuit) → decoded base_limits v ≡ m → Table (check_second schedule c m)
  second_checking lent_well e (read d end) f =
      pair_checking (record { lent_well = lent_well; first_end = _; first_read = e; second_end = end; second_read = f })
  second_checking lent_well e (refused why) f = bad_second lent_well e f

  first_checking : LentWell u v schedule w first second → (m : Reading Circuit) → decoded base_limits u ≡ m → Table (check_first v schedule m)
  first_checking lent_well (read c next) e = second_checking lent_well e (decoded base_limits v) refl
  first_checking lent_well (refused why) e = bad_first lent_well e

  pub checks_checking : Table (checks u v schedule w first second)
  unfolding checks check_lists
  checks_checking = by_tests (fit_width w) (both_rules first second) refl refl
    where
      by_tests : (x y : Bool) → fit_width w ≡ x → both_rules first second ≡ y → Table (checks u v schedule w first second)
      by_tests true true p q = rw (p, q) (first_checking (record { width = p; rules = q }) (decoded base_limits u) refl)
      by_tests true false p q = rw (p, q) (bad_stores p q)
      by_tests false y p q = rw p (bad_width p)

  -- ---- and a line of the table is what they come to

  both_pair : {c d : Circuit} → BothRead u v schedule w first second c d → checks u v schedule w first second ≡ check_pair schedule c d
  unfolding checks check_lists
  both_pair both = rw (both.lent_well.width, both.lent_well.rules, both.first_read, both.second_read)

  pub checking_checks : {x : Checks} → Table x → checks u v schedule w first second ≡ x
  unfolding checks check_lists
  checking_checks (bad_width p) = rw p
  checking_checks (bad_stores p q) = rw (p, q)
  checking_checks (bad_first lent_well e) = rw (lent_well.width, lent_well.rules, e)
  checking_checks (bad_second lent_well e f) = rw (lent_well.width, lent_well.rules, e, f)
  checking_checks (counts_differ both p) = rw (both_pair both, ne_eqb _ _ p)
  checking_checks (unfitting both p q) = rw (both_pair both, eq-eqb _ _ p, q)
  checking_checks (all_hold both p q) = rw (both_pair both, eq-eqb _ _ p, q)
