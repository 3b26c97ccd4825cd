-- `places::ask_row` and `places::ask_column` meet their contracts: each goal is an answer of one turn (proofs/Turns.antt).
-- Assumes nothing.
use mathlib.Core.Path.{sym, ◌∙◌, subst}
use mathlib.Core.Bool.{true, false}
use Prim.Native.Nat.{ℕ, ◌<◌}
use Rattle.places.proofs.Turns.{half_less, row_asked, column_some, column_first, column_clean, column_second}
use Rattle.places.proofs.Turns.{row_settled, row_ended, low_column_asked, high_column_asked, low_splits, row_first, row_second}
use Rattle.places.proofs.+ask_column_ask_row.Goals as goal

-- ---- ask_column

pub ask_column-ask_row-requires : goal.ask_column-ask_row-requires
ask_column-ask_row-requires t c = (
  subst (λ (k : ℕ). c.half-low.result.left < k) c.decreases (half_less c.requires.ready (column_some c.requires) false c.half-low.ensures),
  row_asked c.requires false c.half-low.ensures,
)

pub ask_column-returns-in-Some : goal.ask_column-returns-in-Some
ask_column-returns-in-Some t c = column_first c.requires c.half-low.ensures c.ask_row.ensures c.in-Some.is

pub ask_column-returns-then-eq : goal.ask_column-returns-then-eq
ask_column-returns-then-eq t c =
    column_clean c.requires c.half-low.ensures c.ask_row.ensures c.half-high.ensures c.in_default.is (sym c.eq.ensures ∙ c.if-eq.true)

pub ask_column-ask_row-requires-2 : goal.ask_column-ask_row-requires-2
ask_column-ask_row-requires-2 t c = (
  subst (λ (k : ℕ). c.half-high.result.left < k) c.decreases (half_less c.requires.ready (column_some c.requires) true c.half-high.ensures),
  row_asked c.requires true c.half-high.ensures,
)

pub ask_column-returns : goal.ask_column-returns
ask_column-returns t c =
    column_second c.requires c.half-low.ensures c.ask_row.ensures c.half-high.ensures c.in_default.is c.ask_row-2.ensures

-- ---- ask_row

pub ask_row-returns-then-settled : goal.ask_row-returns-then-settled
ask_row-returns-then-settled t c = row_settled c.requires c.settled.ensures c.if-settled.true

pub ask_row-returns-then-block-eq0 : goal.ask_row-returns-then-block-eq0
ask_row-returns-then-block-eq0 t c = row_ended c.requires c.settled.ensures c.if-settled.false c.if-block-eq0.true

pub ask_row-ask_column-requires : goal.ask_row-ask_column-requires
ask_row-ask_column-requires t c = (
  subst (λ (k : ℕ). c.half-low.result.left < k) c.decreases (half_less c.requires.ready c.if-block-eq0.false false c.half-low.ensures),
  low_column_asked c.requires c.if-block-eq0.false c.half-low.ensures,
)

pub ask_row-returns-in-Some : goal.ask_row-returns-in-Some
ask_row-returns-in-Some t c = row_first c.requires c.if-block-eq0.false c.half-low.ensures c.ask_column.ensures c.in-Some.is

pub ask_row-half-clean-requires : goal.ask_row-half-clean-requires
ask_row-half-clean-requires t c = low_splits c.requires c.if-block-eq0.false c.half-low.ensures

pub ask_row-ask_column-requires-2 : goal.ask_row-ask_column-requires-2
ask_row-ask_column-requires-2 t c = (
  subst (λ (k : ℕ). c.half.result.left < k) c.decreases (half_less c.requires.ready c.if-block-eq0.false true c.half.ensures),
  high_column_asked c.requires c.if-block-eq0.false c.half-low.ensures c.ask_column.ensures c.half.ensures c.in_default.is c.half-clean.ensures,
)

pub ask_row-returns : goal.ask_row-returns
ask_row-returns t c =
    row_second c.requires c.if-block-eq0.false c.half-low.ensures c.ask_column.ensures c.half.ensures c.in_default.is c.ask_column-2.ensures
