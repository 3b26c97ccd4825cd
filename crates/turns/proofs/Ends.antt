-- The end of a turn, from the tables that its code leaves to the store that they hold. Assumes nothing.
use mathlib.Core.Path.{◌≡◌, refl, sym, ap, ◌∙◌, subst}
use mathlib.Core.Bool.{Bool, true, false, ◌&&◌}
use mathlib.Core.List.{List}
use Prim.Native.Nat.{ℕ, ◌+◌, ◌*◌, ◌<◌}
use native.Mathlib.Decide.{ℕ_discrete}
use native.Mathlib.Omega.{arith}
use lib.Dec.{leb}
use lib.ListN.{length}
use borrow.Author.Tests.{le-leb, lt-leb}
use Rattle.algebra.specs.declared.Entry.{Entry}
use Rattle.diagrams.specs.Diagram.{Node, branch, unused, code, ref_of, Store, Diagram, holding, rooted, same_node, keep, put_node}
use Rattle.uniques.specs.UniqueTable.{table_nodes, NodesHeld, NodesUnchanged, NodesMade, ValuesHeld}
use Rattle.diagrams.proofs.References.{code_ref_of, ref_of_injective}
use Rattle.diagrams.proofs.Tests.{apart_false, ref_decides, node_decides, true_both}
use Rattle.std.specs.Prelude.{is_none}
use Rattle.turns.specs.declared.Planned.{Planned}
use Rattle.turns.specs.declared.Work.{Work}
use Rattle.turns.specs.Progress.{reference_limit, building, full, roomy, node_over, Finish, no_more, joined, overflows}
use Rattle.turns.specs.Work.{node_room, value_room, store_in, progress_by, progress_of, Filled, Working, SameWork}
use Rattle.turns.specs.Turn.{answered, Joined}
use Rattle.turns.proofs.Putting.{Counted, fits, over, put_counted}

-- ---- how far the walk has come

pub building_is : (w : Work) → w.full ≡ false → progress_of w ≡ building (store_in w)
building_is w e = ap (λ (b : Bool). progress_by b (store_in w)) e

pub full_is : (w : Work) → w.full ≡ true → progress_of w ≡ full
full_is w e = ap (λ (b : Bool). progress_by b (store_in w)) e

-- ---- what a store has room for

pub held_roomy : {N L heads heads' : ℕ} {ns : List Node} {vs : List Entry} {level low high index : List ℕ} {terminals : List Entry} {index' : List ℕ}
    → NodesHeld N heads ns level low high index → ValuesHeld L heads' vs terminals index' → roomy N L (holding ns vs) ≡ true
held_roomy nodes values = true_both (le-leb _ _ nodes.indexed.room) (le-leb _ _ values.indexed.room)

-- ---- the end

-- what the end of a turn comes to
pub record Ended (w w' : Work) (lv l h r : ℕ) : Type 0 where
  pub finish : Finish (node_room w) (value_room w) lv l h (progress_of w) (progress_of w') r
  pub filled : Filled w' (progress_of w')

module _ (N L lv l h : ℕ) (t : Store Entry) where
  -- the same of a diagram that is the node over the answers
  joined_as : {D : Diagram Entry} → D ≡ node_over lv l h t → roomy N L D.store ≡ true → code D.root < reference_limit
      → Finish N L lv l h (building t) (building D.store) (code D.root)
  joined_as {D} is room below =
      subst (λ (E : Diagram Entry). Finish N L lv l h (building t) (building E.store) (code E.root)) (sym is)
      (joined (rw (← is) room) (subst (λ (E : Diagram Entry). code E.root < reference_limit) is below))

  node_alike : l ≡ h → rooted t (ref_of l) ≡ node_over lv l h t
  node_alike e = rw (← e, ref_decides.reflexive (ref_of l))

  node_apart : (l ≡ h → ⊥) → put_node (branch lv (ref_of l) (ref_of h)) t ≡ node_over lv l h t
  node_apart differ = rw (apart_false ref_decides (ref_of l) (ref_of h) (λ e. differ (ref_of_injective l h e)))

module _ (step : Planned) (w w' : Work) (lv l h r : ℕ) (working : Working step (progress_of w) w) (same : SameWork w w') where
  -- while the walk builds
  module _ (builds : w.full ≡ false) (low_in : l < reference_limit) (values_same : w'.values.now ≡ w.values.now) where
    abbrev nodes : List Node
    nodes = table_nodes w.nodes.now

    abbrev wanted : Node
    wanted = branch lv (ref_of l) (ref_of h)

    holds : Filled w (building (store_in w))
    holds = rw (building_is w builds) at working.filled

    ended_alike : l ≡ h → r ≡ l → w'.full ≡ false → NodesUnchanged w.nodes.now w'.nodes.now → Ended w w' lv l h r
    ended_alike e is still u =
        let store : store_in w' ≡ store_in w = rw (u.0, u.1, u.2, u.4, values_same) in
        record {
          finish = rw (building_is w builds, building_is w' still, store, is ∙ sym (code_ref_of l))
              (joined_as (node_room w) (value_room w) lv l h (store_in w)
              (node_alike (node_room w) (value_room w) lv l h (store_in w) e)
              (held_roomy holds.0 holds.1) (rw (code_ref_of l) low_in));
          filled = rw (building_is w' still) (rw (u.0, u.1, u.2, u.3, u.4, same.nodes.heads) holds.0, rw values_same holds.1);
        }

    ended_apart : (l ≡ h → ⊥)
        → Counted node_decides unused wanted nodes (λ i. 2 * i + 1) (node_room w) (NodesMade w.nodes.now w'.nodes.now)
        w.nodes.now.used w'.nodes.now.used r w'.full
        → Ended w w' lv l h r
    ended_apart differ (fits small answer below (held, _, _) count still) =
        let store : store_in w' ≡ (put_node wanted (store_in w)).store = rw (count, held.nodes, values_same) in
        let (_, values) = holds in
        record {
          finish = rw (building_is w builds, building_is w' still, store, answer)
              (joined_as (node_room w) (value_room w) lv l h (store_in w)
              (node_apart (node_room w) (value_room w) lv l h (store_in w) differ)
              (held_roomy held values) (rw (← answer) below));
          filled = rw (building_is w' still) (rw (same.nodes.level_long, same.nodes.heads, count, held.nodes) held, rw values_same values);
        }
    ended_apart differ (over large answer _ past) =
        let is = node_apart (node_room w) (value_room w) lv l h (store_in w) differ in
        let no_room : roomy (node_room w) (value_room w) (node_over lv l h (store_in w)).store ≡ false
        = ap (λ (D : Diagram Entry). roomy (node_room w) (value_room w) D.store) (sym is)
        ∙ ap (λ (b : Bool). b && leb (length (store_in w).values) (value_room w))
        (lt-leb (length (keep same_node wanted nodes)) (node_room w) large) in
        record {
          finish = rw (building_is w builds, full_is w' past, answer) (overflows no_room);
          filled = rw (full_is w' past) tt;
        }

    ended_built : Joined w w' lv l h r → Ended w w' lv l h r
    ended_built join = by_answers (ℕ_discrete l h)
      where
        few : (i : ℕ) → i < node_room w → 2 * i + 1 < reference_limit
        few i less = let (held, _) = holds in omega (arith, held.indexed.limit)

        by_answers : Dec (l ≡ h) → Ended w w' lv l h r
        by_answers (yes alike) =
            let (o, is, now, made) = join.made builds in
            let (some, u) = made.alike (ap ref_of alike) in
            ended_alike alike (is ∙ ap answered some ∙ code_ref_of l) (now ∙ ap is_none some) u
        by_answers (no differ) =
            let (o, is, now, made) = join.made builds in
            ended_apart differ (put_counted node_decides unused wanted nodes (λ i. 2 * i + 1) (node_room w) few
            (λ _ made. made.2) (λ unchanged. unchanged.4) is now
            (made.apart (λ e. differ (ref_of_injective l h e))))

  -- either way
  pub ended : ((t : Store Entry) → progress_of w ≡ building t → (l < reference_limit) × (h < reference_limit)) → Joined w w' lv l h r
      → Ended w w' lv l h r
  ended refs join = by_full w.full refl
    where
      by_full : (b : Bool) → w.full ≡ b → Ended w w' lv l h r
      by_full false builds =
          let (low_in, _) = refs (store_in w) (building_is w builds) in ended_built builds low_in join.values join
      by_full true past =
          let (is, still, _) = join.past past in
          record { finish = rw (full_is w past, full_is w' still, is) no_more; filled = rw (full_is w' still) tt }
