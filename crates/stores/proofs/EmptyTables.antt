-- Empty tables: an index whose heads are cleared is that of no element, whatever stood in it.
-- Assumes nothing.
use mathlib.Core.Path.{◌≡◌, refl}
use mathlib.Core.List.{List, []}
use Prim.Native.Nat.{ℕ, ◌+◌, ◌<◌, ◌≤◌}
use native.Mathlib.Omega.{arith}
use lib.ListN.{length}
use Rattle.algebra.specs.declared.Entry.{Entry}
use Rattle.algebra.specs.Entry.{𝟘}
use Rattle.diagrams.specs.Diagram.{unused}
use Rattle.stores.specs.Columns.{zeroed}
use Rattle.uniques.specs.UniqueTable.{listed, last_with, Indexed, node_hash, NodesHeld, value_hash, ValuesHeld}
use Rattle.stores.proofs.Filling.{length_zeroed, get_d_zeroed}

pub cleared_indexed : {A : Type 0} (hash : A → ℕ) (blank : A) (N heads : ℕ) (index : List ℕ)
    → N ≤ 65536 → 0 < heads → N + heads ≤ length index → Indexed hash blank N heads [] (zeroed 0 N (N + heads) index)
unfolding last_with
cleared_indexed hash blank N heads index small some long = record {
  limit = small;
  some_head = some;
  long = omega (arith, length_zeroed 0 index N (N + heads) (omega arith) long);
  room = omega arith;
  once = λ i j below _ _. absurd (none i below);
  head = λ h below. get_d_zeroed 0 index N (N + heads) (N + h) 0 (omega arith) (omega arith) long;
  next = λ i below. absurd (none i below);
}
  where
    none : (i : ℕ) → i < 0 → ⊥
    none i below = omega arith

pub cleared_nodes : (N heads : ℕ) (level low high index : List ℕ) → length level ≡ N → length low ≡ N → length high ≡ N
    → N ≤ 65536 → 0 < heads → N + heads ≤ length index → NodesHeld N heads [] level low high (zeroed 0 N (N + heads) index)
unfolding listed
cleared_nodes N heads level low high index p q r small some long = record {
  level_long = p;
  low_long = q;
  high_long = r;
  nodes = refl;
  indexed = cleared_indexed (node_hash heads) unused N heads index small some long;
}

pub cleared_values : (L heads : ℕ) (vals : List Entry) (index : List ℕ) → length vals ≡ L
    → L ≤ 65536 → 0 < heads → L + heads ≤ length index → ValuesHeld L heads [] vals (zeroed 0 L (L + heads) index)
unfolding listed
cleared_values L heads vals index p small some long = record {
  vals_long = p;
  values = refl;
  indexed = cleared_indexed (value_hash heads) 𝟘 L heads index small some long;
}
