-- `steps::take_step` meets its contract: the plan, fresh tables, the walk, and what it comes to. Assumes nothing.
use Rattle.std.proofs.Common.{◌≡◌, refl, sym, arith, rules, Ok, Err, length-take-le}
use Rattle.std.proofs.lemmas.Grind.{common_steps}
use Rattle.std.proofs.lemmas.Result.{err_from_is_err_and}
use Rattle.steps.proofs.Sources.{root_fits, planning, source_values, roomy, walk_task, no_nodes, no_values, table_ready, blank}
use Rattle.steps.proofs.Sources.{walk_fits, walk_publishable, walk_took, walk_refused}
use Rattle.steps.proofs.take_step.Goals as goal

pub plan_step-plan-requires : goal.plan_step-plan-requires
plan_step-plan-requires c = (planning c.args.source.now c.requires, source_values c.args.source.now c.requires)

pub clear_tables-requires : goal.clear_tables-requires
clear_tables-requires c = roomy c.args.source.now c.requires _ c.plan_step-plan.ensures

pub root-root-requires : goal.root-root-requires
root-root-requires c = let fits = root_fits c.args.source.now c.requires in (fits.1, fits.0)

pub walk-requires-clause-task : goal.walk-requires-clause-task
walk-requires-clause-task c = rw c.root-root.ensures (walk_task _ c.requires c.plan_step-plan.ensures)

pub walk-requires-clause-fresh : goal.walk-requires-clause-fresh
walk-requires-clause-fresh c =
    let plan_is = c.plan_step-plan.ensures in
    let cleared = c.clear_tables.ensures.cleared in
    record {
      builds = refl;
      no_node = refl;
      no_value = refl;
      nodes = no_nodes c.args.source.now c.requires _ plan_is _ cleared;
      values = no_values c.args.source.now c.requires _ plan_is _ cleared;
      table = table_ready c.args.source.now c.requires _ plan_is _ cleared;
      blank = blank c.args.source.now c.requires _ plan_is _ cleared;
    }

-- the walk came to no product
pub returns-in_err-walk-clause-left : goal.returns-in_err-walk-clause-left
returns-in_err-walk-clause-left c task =
    let p = err_from_is_err_and c.from_residual.result c.from_residual.ensures.1 in
    let stops : c.walk.result ≡ Err c.in_err-walk.field-0.0 = grind (arith, common_steps) in
    rw (p.1, p.2)
    (walk_refused _ task c.plan_step-plan.ensures _ c.clear_tables.ensures.cleared
    (rw c.root-root.ensures at c.walk.ensures.walked) refl refl stops c.args.power)

-- it built the product, which is divided while it goes, and published
pub slice_bounds-product-end : goal.slice_bounds-product-end
slice_bounds-product-end c =
    let going : c.walk.result ≡ Ok tt = grind (arith, common_steps) in
    walk_fits _ c.requires c.plan_step-plan.ensures _ c.clear_tables.ensures.cleared
    (rw c.root-root.ensures at c.walk.ensures.walked) refl refl going (search rules)

pub slice_bounds-product-end-2 : goal.slice_bounds-product-end-2
slice_bounds-product-end-2 c =
    let going : c.walk.result ≡ Ok tt = grind (arith, common_steps) in
    sym (length-take-le _ _ (walk_fits _ c.requires c.plan_step-plan.ensures _ c.clear_tables.ensures.cleared
    (rw c.root-root.ensures at c.walk.ensures.walked) refl refl going (search rules)))

pub publish-requires : goal.publish-requires
publish-requires c =
    let going : c.walk.result ≡ Ok tt = grind (arith, common_steps) in
    walk_publishable _ c.requires c.plan_step-plan.ensures _ c.clear_tables.ensures.cleared
    (rw c.root-root.ensures at c.walk.ensures.walked) refl refl going
    (search rules) (search rules) (search rules) (record { same_a = refl; same_b = refl; same_c = refl; same_d = refl }) (search rules)
    c.lower-exponent.ensures

pub returns-clause-left : goal.returns-clause-left
returns-clause-left c task =
    let same = c.walk.ensures.same_nodes in
    let going : c.walk.result ≡ Ok tt = grind (arith, common_steps) in
    walk_took _ task c.plan_step-plan.ensures _ c.clear_tables.ensures.cleared
    (rw c.root-root.ensures at c.walk.ensures.walked) refl refl going
    (search rules) (search rules) (search rules) (record { same_a = refl; same_b = refl; same_c = refl; same_d = refl }) (search rules)
    c.lower-exponent.ensures same.level_long same.low_long same.high_long c.publish.ensures.published
