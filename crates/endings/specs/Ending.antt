-- The end of a run: what is kept of the first store, and the report. Definitions only.
use Rattle.std.specs.Prelude.{ℕ, ◌-◌, Result, Ok, Err}
use Rattle.diagrams.specs.Diagram.{node}
use Rattle.stores.specs.Columns.{Columns}
use Rattle.miters.specs.declared.Refusal.{Refusal}
use Rattle.miters.specs.declared.Report.{Report}
use Rattle.miters.specs.Report.{verdict, refused}
use Rattle.cofactors.specs.Slots.{store_in, given}
use Rattle.searches.specs.Ready.{Searchable}
use Rattle.stores.specs.declared.Used.{Used}
use Rattle.runs.specs.declared.Finish.{Finish}

-- the part of the first store that is kept: none where the run was stopped
abbrev pub kept : Result Finish Refusal → Used
kept (Ok finish) = finish.used
kept (Err why) = record { nodes = 0; values = 0 }

-- where the run finished, the columns hold its diagram
abbrev pub Readable : ℕ → Columns → Result Finish Refusal → Type 0
Readable n C (Ok finish) = Searchable n finish.used.nodes finish.used.values C
Readable n C (Err why) = Unit {0}

-- its report, with the verdict that the columns give
abbrev pub report_of : ℕ → Columns → Result Finish Refusal → Report
report_of n C (Ok finish) = record {
  verdict = verdict n (given (store_in finish.used.nodes finish.used.values C) (node (finish.used.nodes - 1)));
  exponent = finish.exponent;
  steps = finish.steps;
  nodes = finish.used.nodes;
  values = finish.used.values;
}
report_of n C (Err why) = refused why
