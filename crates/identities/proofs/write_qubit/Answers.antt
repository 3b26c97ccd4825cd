-- `identities::write_qubit` meets its contract: each node column has three numbers more. Assumes nothing.
use Rattle.std.proofs.Common.{refl}
use Rattle.identities.proofs.Identities.{three_put}
use Rattle.identities.proofs.write_qubit.Goals as goal

pub returns-clause-set : goal.returns-clause-set
returns-clause-set c =
    let at = c.args in
    record {
      of_level = three_put at.k at.store.now.level.now _ c.copy_from_slice.ensures.after refl;
      of_low = three_put at.k at.store.now.low.now _ c.copy_from_slice-2.ensures.after refl;
      of_high = three_put at.k at.store.now.high.now _ c.copy_from_slice-3.ensures.after refl;
      values = record { same_a = refl; same_b = refl; same_c = refl; same_d = refl };
    }
