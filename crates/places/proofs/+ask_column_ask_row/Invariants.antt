-- The measure of both is the number of levels left.
-- Assumes nothing.
use Rattle.places.proofs.+ask_column_ask_row.Given as goal

abbrev pub decreases-ask_column : goal.decreases-ask_column
decreases-ask_column l = l.block.left

abbrev pub decreases-ask_row : goal.decreases-ask_row
decreases-ask_row l = l.block.left
