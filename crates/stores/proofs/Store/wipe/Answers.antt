-- `stores::Store::wipe` meets its contract, column by column. Assumes nothing.
use lib.IntN.{pos}
use Rattle.stores.specs.Columns.{columns, wiped}
use Rattle.stores.proofs.Stores.{part_wiped}
use Rattle.stores.proofs.Store.wipe.Goals as goal

pub returns-clause-wiped : goal.returns-clause-wiped
unfolding wiped
returns-clause-wiped c i =
    let at = c.args in
    let C = at.self.now in
    columns
    (part_wiped 0 C.level.now at.nodes c.requires.0.in_level (c.fill.ensures.after (λ _ e. e)) i)
    (part_wiped 0 C.low.now at.nodes c.requires.0.in_low (c.fill-2.ensures.after (λ _ e. e)) i)
    (part_wiped 0 C.high.now at.nodes c.requires.0.in_high (c.fill-3.ensures.after (λ _ e. e)) i)
    (part_wiped (pos 0) C.a.now at.values c.requires.1.in_a (c.fill-4.ensures.after (λ _ e. e)) i)
    (part_wiped (pos 0) C.b.now at.values c.requires.1.in_b (c.fill-5.ensures.after (λ _ e. e)) i)
    (part_wiped (pos 0) C.c.now at.values c.requires.1.in_c (c.fill-6.ensures.after (λ _ e. e)) i)
    (part_wiped (pos 0) C.d.now at.values c.requires.1.in_d (c.fill-7.ensures.after (λ _ e. e)) i)
