-- Unique tables of nodes: what lent columns hold as a node is found or appended.
-- Assumes nothing.
use mathlib.Core.Path.{◌≡◌, sym, ◌∙◌, ap}
use mathlib.Core.Bool.{Bool}
use mathlib.Core.Logic.{◌≢◌}
use mathlib.Core.List.{List, [], ◌∷◌, ◌++◌}
use Prim.Native.Nat.{ℕ, suc, ◌+◌, ◌*◌, ◌<◌, ◌≤◌}
use native.Mathlib.Numerals.{add-one}
use native.Mathlib.Omega.{arith}
use Rattle.std.proofs.Common.{Option, Some, None}
use lib.ListN.{length, get_or, set, drop, length-set, length-append}
use lib.Seq.{get_or-set_same, get_or-set_other, drop-set-lt}
use Rattle.diagrams.specs.Diagram.{Node, branch, unused, ref_of, same_node}
use Rattle.uniques.specs.declared.NodeTable.{NodeTable}
use Rattle.uniques.specs.UniqueTable.{Falls, Met, node_in, nodes_in, found, node_hash, node_chain, NodesHeld}
use Rattle.uniques.specs.UniqueTable.{table_node, table_nodes, NodeTableHeld, NodesUnchanged, NodesMade, NodePut, NodeMade}
use Rattle.diagrams.proofs.References.{ref_of_injective}
use Rattle.diagrams.proofs.Tests.{node_decides}
use Rattle.diagrams.proofs.Keeping.{Absent}
use Rattle.uniques.proofs.Hashes.{node_hash_below}
use Rattle.uniques.proofs.Chains.{length_listed, listed_snoc, chain_within, chain_falls, met_found, put_there, put_next, put_full, indexed_snoc}

-- ---- a search in the columns

-- a slot is in every column
pub record InColumns (level low high index : List ℕ) (i : ℕ) : Type 0 where
  pub small : i < 65536
  pub in_level : i < length level
  pub in_low : i < length low
  pub in_high : i < length high
  pub in_index : i < length index

pub in_columns : {N heads : ℕ} {ns : List Node} {level low high index : List ℕ} → NodesHeld N heads ns level low high index
    → (i : ℕ) → i < N → InColumns level low high index i
in_columns held i h = record {
  small = omega (arith, held.indexed.limit);
  in_level = omega (arith, held.level_long);
  in_low = omega (arith, held.low_long);
  in_high = omega (arith, held.high_long);
  in_index = omega (arith, held.indexed.long);
}

-- along the chain of a node
module _ (t : NodeTable) (held : NodeTableHeld t) (x : Node) {first : ℕ} (starts : first ≡ node_chain t x) where
  small : node_hash t.heads x < t.heads
  small = node_hash_below t.heads x held.indexed.some_head

  pub falls : Falls t.index.now first
  falls = chain_falls _ _ held.indexed x small first starts

  pub chain_in : (i : ℕ) → i < first → InColumns t.level.now t.low.now t.high.now t.index.now i
  chain_in i below =
      let w = chain_within _ _ held.indexed x small first starts in
      in_columns held i (omega (arith, w.0, w.1))

  pub finds : {says : ℕ → Bool → Type 0} {r : Option ℕ} → ((i : ℕ) (b : Bool) → says i b → b ≡ same_node (table_node t i) x)
      → Met says t.index.now first r → r ≡ found same_node x (table_nodes t)
  finds test met = met_found _ _ held.indexed x small first starts node_decides (λ i b _ is. test i b is) met

-- ---- a node made

-- as many nodes as slots used
pub used_is : (t : NodeTable) → t.used ≡ length (table_nodes t)
used_is t = sym (length_listed t.used (node_in t.level.now t.low.now t.high.now))

module _ (t t' : NodeTable) (held : NodeTableHeld t) (lv lo hi : ℕ) where
  abbrev wanted : Node
  wanted = branch lv (ref_of lo) (ref_of hi)

  abbrev N : ℕ
  N = length t.level.now

  module _ (level low high : List ℕ) where
    slot_kept : (i : ℕ) → i ≢ t.used → node_in (set level t.used lv) (set low t.used lo) (set high t.used hi) i ≡ node_in level low high i
    slot_kept i other = rw (
      get_or-set_other level t.used i lv 0 other,
      get_or-set_other low t.used i lo 0 other,
      get_or-set_other high t.used i hi 0 other,
    )

  slot_taken : t.used < N → node_in (set t.level.now t.used lv) (set t.low.now t.used lo) (set t.high.now t.used hi) t.used ≡ wanted
  slot_taken below = let at = in_columns held t.used below in
      rw (
        get_or-set_same t.level.now t.used lv 0 at.in_level,
        get_or-set_same t.low.now t.used lo 0 at.in_low,
        get_or-set_same t.high.now t.used hi 0 at.in_high,
      )

  -- the columns with one node more
  next_held : (first : ℕ) → t.used < N → first ≡ get_or t.index.now (N + node_hash t.heads wanted) 0 → Absent unused wanted (table_nodes t)
      → NodesHeld N t.heads (table_nodes t ++ (wanted ∷ [])) (set t.level.now t.used lv) (set t.low.now t.used lo) (set t.high.now t.used hi)
      (set (set t.index.now t.used first) (N + node_hash t.heads wanted) (t.used + 1))
  next_held first below at_head absent = record {
    level_long = length-set t.level.now t.used lv ∙ held.level_long;
    low_long = length-set t.low.now t.used lo ∙ held.low_long;
    high_long = length-set t.high.now t.used hi ∙ held.high_long;
    nodes =
        ap (λ (k : ℕ). nodes_in k (set t.level.now t.used lv) (set t.low.now t.used lo) (set t.high.now t.used hi))
        (length-append (table_nodes t) (wanted ∷ []) ∙ add-one (length (table_nodes t)) ∙ ap suc (sym (used_is t)))
        ∙ listed_snoc t.used (node_in t.level.now t.low.now t.high.now)
        (node_in (set t.level.now t.used lv) (set t.low.now t.used lo) (set t.high.now t.used hi)) wanted
        (λ i less. slot_kept t.level.now t.low.now t.high.now i (omega arith)) (slot_taken below);
    indexed = indexed_snoc held.indexed wanted (omega (arith, used_is t)) (node_hash_below t.heads wanted held.indexed.some_head)
        t.used first (used_is t) at_head absent;
  }

  module _ (differ : lo ≡ hi → ⊥) where
    apart_by : {r : Option ℕ} → NodePut t t' wanted r → NodeMade t t' wanted r
    apart_by put = record { alike = λ e. absurd (differ (ref_of_injective lo hi e)); apart = λ _. put }

    pub made_found : (i : ℕ) → Some i ≡ found same_node wanted (table_nodes t) → NodesUnchanged t t' → NodeMade t t' wanted (Some (2 * i + 1))
    made_found i is same =
        apart_by (put_there node_decides unused wanted (table_nodes t) _ N (NodesMade t t') (NodesUnchanged t t') i is held.indexed.room (
          rw (same.0, same.1, same.2, same.3) held,
          (ap (drop (length (table_nodes t))) same.0, ap (drop (length (table_nodes t))) same.1, ap (drop (length (table_nodes t))) same.2),
          same.4 ∙ used_is t,
        ))

    pub made_full : None ≡ found same_node wanted (table_nodes t) → N ≤ t.used → NodesUnchanged t t' → NodeMade t t' wanted None
    made_full is all same =
        apart_by (put_full node_decides unused wanted (table_nodes t) _ N (NodesMade t t') (NodesUnchanged t t') is (omega (arith, used_is t)) same)

    pub made_next : (hash first : ℕ) → hash ≡ node_hash t.heads wanted → None ≡ found same_node wanted (table_nodes t) → t.used < N
        → first ≡ get_or t.index.now (N + hash) 0
        → t'.level.now ≡ set t.level.now t.used lv → t'.low.now ≡ set t.low.now t.used lo → t'.high.now ≡ set t.high.now t.used hi
        → t'.index.now ≡ set (set t.index.now t.used first) (N + hash) (t.used + 1) → t'.used ≡ t.used + 1
        → NodeMade t t' wanted (Some (2 * t.used + 1))
    made_next hash first h is below at_head level low high index one_more =
        apart_by (put_next node_decides unused wanted (table_nodes t) _ N (NodesMade t t') (NodesUnchanged t t') t.used is (used_is t) below
        (λ absent. (
          rw (level, low, high, index, h) (next_held first below (rw h at at_head) absent),
          (ap (drop more) level ∙ past t.level.now lv, ap (drop more) low ∙ past t.low.now lo, ap (drop more) high ∙ past t.high.now hi),
          omega (arith, used_is t, length-append (table_nodes t) (wanted ∷ [])),
        )))
      where
        more : ℕ
        more = length (table_nodes t ++ (wanted ∷ []))

        past : (l : List ℕ) (a : ℕ) → drop more (set l t.used a) ≡ drop more l
        past l a = drop-set-lt more l t.used a (omega (arith, used_is t, length-append (table_nodes t) (wanted ∷ [])))
