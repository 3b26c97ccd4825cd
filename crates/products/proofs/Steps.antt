-- A step's walk from the root: it is ready where the tables are fresh, and what it leaves is the product's. Assumes nothing.
use mathlib.Core.Path.{◌≡◌, refl, sym, ap, ◌∙◌, subst}
use mathlib.Core.Bool.{Bool, true, false}
use Prim.Native.Nat.{ℕ}
use Rattle.std.specs.Prelude.{Some, None, Result, Ok, Err}
use Rattle.algebra.specs.declared.Entry.{Entry}
use Rattle.algebra.specs.Matrix.{Matrix}
use Rattle.gates.specs.Gate.{Gate}
use Rattle.diagrams.specs.Diagram.{code, Store, Diagram, empty, diagram}
use Rattle.uniques.specs.UniqueTable.{listed}
use Rattle.miters.specs.Run.{Lent, in_width}
use Rattle.transitions.specs.declared.Mode.TheVariants.{Waiting}
use Rattle.transitions.specs.declared.State.{State}
use Rattle.transitions.specs.Plan.{Plan, plan_of}
use Rattle.transitions.specs.State.{made, inside}
use Rattle.transitions.specs.Next.{on_one, start}
use Rattle.transitions.specs.Valid.{ValidPlan}
use Rattle.plans.specs.Prepare.{product_on}
use Rattle.meanings.proofs.Starts.{plan_valid, start_valid, start_made, start_inside}
use Rattle.tables.specs.Table.{placed}
use Rattle.tables.proofs.Tables.{recalled_zeros}
use Rattle.turns.specs.declared.OutsideWidth.{OutsideWidth}
use Rattle.turns.specs.declared.Planned.{Planned}
use Rattle.turns.specs.declared.Work.{Work}
use Rattle.turns.specs.Progress.{Progress, building, full, out, Walks}
use Rattle.turns.specs.Progress as progress
use Rattle.turns.specs.Work.{source_in, node_room, value_room, store_in, progress_by, progress_of, progress_after, Working}
use Rattle.turns.specs.Turn.{Ready, Walked}
use Rattle.turns.proofs.Ends.{building_is}
use Rattle.products.specs.Step.{Task, lent_by, Fresh, Stepped, built, too_large, too_wide}

-- ---- how far the walk has come, by what the work says

abbrev Shows : Bool → Store Entry → Progress → Type 0
Shows past t (building u) = (past ≡ false) × (t ≡ u)
Shows past t full = past ≡ true
Shows past t out = Unit {0}

shown : (w : Work) (r : Result ℕ OutsideWidth) → Shows w.full (store_in w) (progress_after w r)
shown w (Ok r) = by_full w.full
  where
    by_full : (b : Bool) → Shows b (store_in w) (progress_by b (store_in w))
    by_full false = (refl, refl)
    by_full true = refl
shown w (Err e) = tt

-- ---- the start

module _ (step : Planned) (root : ℕ) (task : Task step root) where
  abbrev n : ℕ
  n = task.qubits

  abbrev right : Bool
  right = task.right

  abbrev g : Gate
  g = task.gate

  abbrev M : Matrix
  M = task.matrix

  abbrev P : Plan
  P = plan_of step.plan.now

  abbrev source : Store Entry
  source = source_in step

  abbrev first : State
  first = on_one (Waiting 0) root

  first_is : first ≡ start (diagram n M).root
  first_is = ap (on_one (Waiting 0)) task.root_is

  valid : ValidPlan P (diagram n M).store
  valid = plan_valid n right g M P task.fits task.planned task.zero

  valid_here : ValidPlan P source
  valid_here = rw task.given.source valid

  stores_none : (w : Work) → Fresh step w → store_in w ≡ empty
  unfolding listed
  stores_none w fresh = rw (fresh.no_node, fresh.no_value) refl

  begins : (w : Work) → Fresh step w → Working step (progress_of w) w
  begins w fresh = record {
    table = fresh.table;
    filled = rw (building_is w fresh.builds) (fresh.nodes, fresh.values);
    right = record {
      right = λ σ place a is.
          let none : None ≡ Some a = sym (recalled_zeros P w.memo.now σ fresh.table.sizes place fresh.blank) ∙ is in cc;
    };
  }

  -- the walk may begin
  pub starts : (w : Work) → Fresh step w → Ready step w (placed P first)
  starts w fresh = record {
    valid_plan = valid_here;
    fit = task.width;
    valid_state = rw (first_is, task.given.source) (start_valid n right g M P task.fits task.planned valid);
    source = task.given.columns;
    node_span = task.given.node_span;
    value_span = task.given.value_span;
    slot = refl;
    work = begins w fresh;
  }

  -- ---- the end

  module _ (w w' : Work) (fresh : Fresh step w) where
    abbrev lent : Lent
    lent = lent_by step w

    abbrev result : Matrix
    result = product_on right n g M

    inside_is : inside P source first ≡ in_width lent n result
    inside_is = rw (first_is, task.given.source) (start_inside n right g M P task.fits task.planned valid)

    made_is : {t : Store Entry} → t ≡ empty → made P source first t ≡ diagram n result
    made_is e = rw (e, first_is, task.given.source) (start_made n right g M P task.fits task.planned valid)

    by_walk : {p p' : Progress} {r : Result ℕ OutsideWidth} → Walks (node_room w) (value_room w) P source first p p' r → Shows false empty p
        → Shows w'.full (store_in w') p' → Stepped lent n result w' r
    by_walk (progress.built within room below) (_, none) (builds, store) =
        let same = made_is (sym none) in
        subst (λ (D : Diagram Entry). Stepped lent n result w' (Ok (code D.root))) (sym same)
        (built (sym inside_is ∙ within) (rw (← same) room) builds (store ∙ ap (λ (D : Diagram Entry). D.store) same))
    by_walk (progress.filled within room) (_, none) past = too_large (sym inside_is ∙ within) (rw (← made_is (sym none)) room) past
    by_walk (progress.left outside) (_, none) _ = too_wide (sym inside_is ∙ outside)
    by_walk (progress.still_full within) never past = cc
    by_walk (progress.left_full outside) never _ = cc

    -- what the walk leaves is the product's diagram, or it is refused
    pub steps : {r : Result ℕ OutsideWidth} → Walked step w first r w' → Stepped lent n result w' r
    steps {r} walked = by_walk walked.walks (rw (building_is w fresh.builds) (refl, sym (stores_none w fresh))) (shown w' r)
