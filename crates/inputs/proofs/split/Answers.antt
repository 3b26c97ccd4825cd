-- `inputs::split` meets its contract: the bytes after the length are split where it says. Assumes nothing.
use mathlib.Core.Path.{◌≡◌, sym, ap, ◌∙◌}
use Prim.Native.Nat.{◌≤◌}
use lib.ListN.{length}
use Rattle.std.proofs.Common.{rules, Ok, Err}
use Rattle.circuits.specs.Reading.{read, number}
use Rattle.circuits.proofs.Answers.{map_refused}
use Rattle.circuits.proofs.Forms.{number_within}
use Rattle.inputs.specs.Input.{bad_length, split_report}
use Rattle.inputs.proofs.Splits.{length_read, length_unread, input_unread, input_split}
use Rattle.inputs.proofs.split.Goals.{In_ok-length}
use Rattle.inputs.proofs.split.Goals as goal

-- the length was read, and ends within the bytes
was_read : (c : In_ok-length) → number c.args.bytes.now 0 ≡ read c.in_ok-length.field-0 c.number.new.self.at
was_read c =
    let read : c.number.result ≡ Ok c.in_ok-length.field-0 = search rules in
    length_read c.new-reader.ensures _ _ c.number.ensures.says read

within : (c : In_ok-length) → c.number.new.self.at ≤ length c.args.bytes.now
within c = number_within _ 0 (was_read c)

pub returns-in_err-length : goal.returns-in_err-length
returns-in_err-length c =
    let r = map_refused c.number.result c.map_err.result _ _ c.map_err.ensures.cases c.in_err-length.was in
    let named : c.from_residual.result ≡ Err (bad_length r.0.fault) = search rules in
    input_unread _ (length_unread c.new-reader.ensures _ _ c.number.ensures.says r.1) ∙ sym (ap split_report named)

pub slice_bounds-split_at_checked-count : goal.slice_bounds-split_at_checked-count
slice_bounds-split_at_checked-count c = within c

pub slice_bounds-split_at_checked-start : goal.slice_bounds-split_at_checked-start
slice_bounds-split_at_checked-start c = within c

pub returns : goal.returns
returns c =
    input_split _ (was_read ((goal.at.returns c).In_ok-length)) _ _ c.bad_length.ensures c.split_at_checked.ensures.cases
    ∙ sym (ap split_report c.ok_or.ensures.value)
