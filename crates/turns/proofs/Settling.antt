-- A state settled, from the tables that its code leaves to the store that they hold. Assumes nothing.
use mathlib.Core.Path.{◌≡◌, refl, sym, ap, ◌∙◌}
use mathlib.Core.Bool.{Bool, true, false, ◌&&◌, and-false}
use mathlib.Core.List.{List}
use Prim.Native.Nat.{ℕ, ◌*◌, ◌<◌}
use native.Mathlib.Omega.{arith}
use lib.Dec.{leb}
use lib.ListN.{length}
use borrow.Author.Tests.{lt-leb}
use Rattle.std.specs.Prelude.{Result, Ok, Err}
use Rattle.algebra.specs.declared.Entry.{Entry}
use Rattle.algebra.specs.Entry.{𝟘}
use Rattle.algebra.specs.Width.{fit_width, entry_in_width, bounded}
use Rattle.diagrams.specs.Diagram.{Store, Diagram, same_entry, keep, put_value}
use Rattle.uniques.specs.UniqueTable.{table_values, ValuesMade}
use Rattle.diagrams.proofs.Tests.{entry_decides}
use Rattle.transitions.specs.declared.State.{State}
use Rattle.transitions.specs.Plan.{Plan, plan_of}
use Rattle.transitions.specs.State.{made, inside}
use Rattle.transitions.specs.Next.{is_leaf, leaf_entry}
use Rattle.transitions.specs.Valid.{ValidPlan}
use Rattle.meanings.proofs.Walks.{made_leaf, inside_leaf}
use Rattle.turns.specs.declared.OutsideWidth.{OutsideWidth}
use Rattle.turns.specs.declared.Planned.{Planned}
use Rattle.turns.specs.declared.Work.{Work}
use Rattle.turns.specs.Progress.{reference_limit, building, out, roomy, Walks, filled, left, still_full, left_full}
use Rattle.turns.specs.Work.{source_in, node_room, value_room, store_in, progress_by, progress_of, progress_after, Filled, Working, SameWork}
use Rattle.turns.specs.Turn.{TerminalPut, SettledBy}
use Rattle.turns.proofs.Progress.{made_walks}
use Rattle.turns.proofs.Putting.{Counted, fits, over, put_counted}
use Rattle.turns.proofs.Ends.{building_is, full_is, held_roomy}

-- what settling a state comes to
pub record Settles (step : Planned) (σ : State) (w w' : Work) (r : Result ℕ OutsideWidth) : Type 0 where
  pub walks : Walks (node_room w) (value_room w) (plan_of step.plan.now) (source_in step) σ (progress_of w) (progress_after w' r) r
  pub filled : Filled w' (progress_after w' r)

module _ (step : Planned) (w w' : Work) (σ : State) (valid : ValidPlan (plan_of step.plan.now) (source_in step))
    (fit : fit_width (plan_of step.plan.now).width ≡ true) (leaf : is_leaf σ ≡ true)
    (working : Working step (progress_of w) w) (same : SameWork w w') where
  abbrev P : Plan
  P = plan_of step.plan.now

  abbrev s : Store Entry
  s = source_in step

  abbrev e : Entry
  e = leaf_entry s σ

  -- ---- outside the width

  leaves : {o : OutsideWidth} → inside P s σ ≡ false → Settles step σ w w' (Err o)
  leaves {o} outside = record { walks = by_full w.full; filled = tt }
    where
      by_full : (b : Bool) → Walks (node_room w) (value_room w) P s σ (progress_by b (store_in w)) out (Err o)
      by_full false = left outside
      by_full true = left_full outside

  module _ (r : ℕ) (within : inside P s σ ≡ true) where
    abbrev Done : Type 0
    Done = Settles step σ w w' (Ok r)

    -- ---- past the room

    stays_full : w.full ≡ true → w'.full ≡ true → Done
    stays_full past still =
        record {
          walks = rw (full_is w past, full_is w' still) (still_full within);
          filled = rw (full_is w' still) tt;
        }

    -- ---- while the walk builds

    module _ (builds : w.full ≡ false) (nodes_same : w'.nodes.now ≡ w.nodes.now) where
      abbrev values : List Entry
      values = table_values w.values.now

      holds : Filled w (building (store_in w))
      holds = rw (building_is w builds) at working.filled

      made_is : put_value same_entry e (store_in w) ≡ made P s σ (store_in w)
      made_is = sym (made_leaf P s valid σ leaf (store_in w))

      by_count : Counted entry_decides 𝟘 e values (λ j. 2 * j) (value_room w) (ValuesMade w.values.now w'.values.now)
          w.values.now.used w'.values.now.used r w'.full → Done
      by_count (fits small answer below (held, _, _) count still) =
          let store : store_in w' ≡ (put_value same_entry e (store_in w)).store = rw (count, held.values, nodes_same) in
          let (nodes, _) = holds in
          record {
            walks = rw (building_is w builds, building_is w' still, store, answer)
                (made_walks made_is within (held_roomy nodes held) (rw (← answer) below));
            filled = rw (building_is w' still) (rw nodes_same nodes, rw (same.values.terminals_long, same.values.heads, count, held.values) held);
          }
      by_count (over large answer _ past) =
          let no_room : roomy (node_room w) (value_room w) (made P s σ (store_in w)).store ≡ false
          = ap (λ (D : Diagram Entry). roomy (node_room w) (value_room w) D.store) (sym made_is)
          ∙ ap (λ (b : Bool). leb (length (store_in w).nodes) (node_room w) && b) (lt-leb (length (keep same_entry e values)) (value_room w) large)
          ∙ and-false (leb (length (store_in w).nodes) (node_room w)) in
          record {
            walks = rw (building_is w builds, full_is w' past) (filled within no_room);
            filled = rw (full_is w' past) tt;
          }

      places : TerminalPut w w' e r → Done
      places placed =
          let (o, is, now, put) = placed.made builds in
          by_count (put_counted entry_decides 𝟘 e values (λ j. 2 * j) (value_room w) few (λ _ made. made.2) (λ unchanged. unchanged.2) is now put)
        where
          few : (j : ℕ) → j < value_room w → 2 * j < reference_limit
          few j less = let (_, held) = holds in omega (arith, held.indexed.limit)

    put : TerminalPut w w' e r → Done
    put placed = by_full w.full refl
      where
        by_full : (b : Bool) → w.full ≡ b → Done
        by_full false builds = places builds placed.nodes placed
        by_full true past = let (_, still, _) = placed.past past in stays_full past still

  -- ---- either way

  pub settles : (r : Result ℕ OutsideWidth) → SettledBy w w' P σ r (bounded P.width e) → Settles step σ w w' r
  unfolding bounded
  settles r settled = by_width (entry_in_width P.width e) refl r settled
    where
      inside_is : inside P s σ ≡ entry_in_width P.width e
      inside_is = inside_leaf P s valid σ leaf

      by_width : (b : Bool) → entry_in_width P.width e ≡ b → (r : Result ℕ OutsideWidth) → SettledBy w w' P σ r (bounded P.width e)
          → Settles step σ w w' r
      by_width true t (Ok r) settled = put r (inside_is ∙ t) (rw (fit, t) at settled).0
      by_width true t (Err o) settled = absurd (rw (fit, t) at settled)
      by_width false t (Ok r) settled = absurd (rw (fit, t) at settled)
      by_width false t (Err o) settled = leaves (inside_is ∙ t)
