-- `stores::Store::publish` meets its contract. The loop's invariant: the numbers of the terminals passed stand in the columns. Assumes nothing.
use mathlib.Core.Path.{◌∙◌}
use Prim.Native.Nat.{◌+◌}
use native.Mathlib.Omega.{arith}
use borrow.Author.Rules.{rules}
use lib.ListN.{length-set}
use mir.Facts.{to_z-of_z}
use mir.Syntax.{w32}
use Rattle.algebra.specs.Entry.{𝟘}
use Rattle.stores.specs.Columns.{columns_of, ValueColumns}
use Rattle.stores.proofs.Columns.{same_none}
use Rattle.stores.proofs.Stores.{publishing_none, publishing_next, publishing_all}
use Rattle.stores.proofs.Store.publish.Goals.{In-loop-j}
use Rattle.stores.proofs.Store.publish.Goals as goal

pub loop-j-init : goal.loop-j-init
loop-j-init c = (publishing_none c.args.terminals.now (columns_of c.args.self.now), same_none c.args.self.now)

fits : (c : In-loop-j) → ValueColumns (columns_of c.args.self.now) (c.loop-j.j + 1)
fits c = record {
  in_a = omega (arith, c.loop-j-test.true, c.requires.in_a);
  in_b = omega (arith, c.loop-j-test.true, c.requires.in_b);
  in_c = omega (arith, c.loop-j-test.true, c.requires.in_c);
  in_d = omega (arith, c.loop-j-test.true, c.requires.in_d);
}

pub loop-j-preserved : goal.loop-j-preserved
unfolding 𝟘
loop-j-preserved c =
    let at = (goal.at.loop-j-preserved c).In-loop-j in (
      publishing_next c.args.terminals.now (columns_of c.args.self.now) c.loop-j.invariant.0 (fits at)
          (to_z-of_z {w = w32} (search rules))
          (to_z-of_z {w = w32} (search rules))
          (to_z-of_z {w = w32} (search rules))
          (to_z-of_z {w = w32} (search rules)),
      let h = c.loop-j.invariant.1 in
          record {
            level = h.level;
            low = h.low;
            high = h.high;
            a = h.a;
            b = h.b;
            c = h.c;
            d = h.d;
            level_long = h.level_long;
            low_long = h.low_long;
            high_long = h.high_long;
            a_long = length-set _ _ _ ∙ h.a_long;
            b_long = length-set _ _ _ ∙ h.b_long;
            c_long = length-set _ _ _ ∙ h.c_long;
            d_long = length-set _ _ _ ∙ h.d_long;
          },
    )

pub returns-clause-published : goal.returns-clause-published
returns-clause-published c =
    publishing_all c.args.terminals.now (columns_of c.args.self.now) c.loop-j.invariant.0
    (omega (arith, c.loop-j-test.false, c.loop-j.auto.j-end))
