-- `searches::entry_at` meets its contract: the reference at the row and the column is to the entry there. Assumes nothing.
use mathlib.Core.Path.{◌∙◌}
use Rattle.searches.proofs.Starts.{used_nodes, slot_there, entry_lands}
use Rattle.searches.proofs.entry_at.Goals as goal

pub reference_at-reference-requires-clause-held : goal.reference_at-reference-requires-clause-held
reference_at-reference-requires-clause-held c = used_nodes _ _ _ c.args.store.now c.requires

pub entry_of-requires : goal.entry_of-requires
entry_of-requires c = slot_there _ _ _ c.args.store.now c.requires
    (entry_lands _ _ _ c.args.store.now c.requires _ _ c.reference_at-reference.ensures)

pub returns : goal.returns
returns c = c.entry_of.ensures ∙ (entry_lands _ _ _ c.args.store.now c.requires _ _ c.reference_at-reference.ensures).entry
