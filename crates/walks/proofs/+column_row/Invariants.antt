-- The walkers' measure is the number of levels left, counted so that a walker that hands its state straight to the other comes before it
-- (proofs/Views.antt).
use Rattle.walks.proofs.Views.{row_measure, column_measure, below_measure}
use Rattle.walks.proofs.+column_row.Given as goal

abbrev pub decreases-row : goal.decreases-row
decreases-row l = row_measure l.planned.now l.placed.state

abbrev pub decreases-column : goal.decreases-column
decreases-column l = column_measure l.planned.now l.placed.state

abbrev pub decreases-below : goal.decreases-below
decreases-below l = below_measure l.planned.now l.level l.bit l.state
