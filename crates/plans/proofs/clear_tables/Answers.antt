-- `plans::clear_tables` meets its contract: a slice that is filled with 0 from its first slot on is the computed table's as it is said there.
-- Assumes nothing.
use Rattle.std.proofs.Common.{◌≡◌, refl, ◌∙◌, ap, List, ℕ, ◌++◌, drop, arith}
use native.Mathlib.Nat.{sub-zero}
use lib.ListN.{replicate}
use Rattle.stores.specs.Columns.{zeroed}
use Rattle.stores.proofs.Filling.{part_zeroed}
use Rattle.tables.specs.Table.{cleared}
use Rattle.plans.proofs.clear_tables.Goals as goal

first_zeroed : (to : ℕ) (memo : List ℕ) → zeroed 0 0 to memo ≡ cleared to memo
unfolding zeroed
first_zeroed to memo = ap (λ (n : ℕ). replicate n 0 ++ drop to memo) (sub-zero to)

pub returns-clause-cleared : goal.returns-clause-cleared
returns-clause-cleared c =
    let before = c.args.scratch.now in
    let room = c.requires in
    record {
      of_nodes = part_zeroed 0 before.node_index.now c.args.nodes _ (omega arith) room.in_nodes (c.fill.ensures.after (λ _ e. e));
      of_values = part_zeroed 0 before.value_index.now c.args.values _ (omega arith) room.in_values (c.fill-2.ensures.after (λ _ e. e));
      of_memo = part_zeroed 0 before.memo.now 0 _ (omega arith) room.table.room (c.fill-3.ensures.after (λ _ e. e)) ∙ first_zeroed _ _;
      terminals = refl;
    }
