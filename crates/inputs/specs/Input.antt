-- What the verdict program reports on the bytes that it has read. Definitions only; the line of a report is in reports.
use Rattle.std.specs.Prelude.{cond, List, ℕ, leb, length, take, drop, Result, Ok, Err}
use Rattle.std.specs.Borrow.{Bor}
use Rattle.circuits.specs.declared.Fault.{Fault}
use Rattle.circuits.specs.Refusals.{refusal, ends_early}
use Rattle.circuits.specs.Reading.{Reading, read, refused as unread, number}
use Rattle.miters.specs.declared.Part.TheVariants.{Length}
use Rattle.miters.specs.declared.Refusal.{Refusal}
use Rattle.miters.specs.declared.Report.{Report}
use Rattle.miters.specs.Report.{refused, at_byte}
use Rattle.pairs.specs.Pair.{lists_report}

-- "A bad length gives 3 or 4 at list 0, byte 0"
abbrev pub bad_length : Fault → Refusal
bad_length fault = at_byte Length (refusal fault 0)

-- the bytes left after the length; "one over the bytes left gives 3 there"
unfoldable pub rest_report : ℕ → List ℕ → Report
rest_report n rest = cond (leb n (length rest)) (lists_report (take n rest) (drop n rest)) (refused (bad_length ends_early))

abbrev pub after_length : List ℕ → Reading ℕ → Report
after_length bytes (read n next) = rest_report n (drop next bytes)
after_length bytes (unread why) = refused (bad_length why.fault)

-- "It reads at most 32,768 bytes of standard input and judges those: the byte length of list 1 as a number, list 1, then list 2
-- to the end."; since S-2 "The verdict program now reads 57,344 bytes."
unfoldable pub input_report : List ℕ → Report
input_report bytes = after_length bytes (number bytes 0)

-- the report on what an input is split into: its two lists, or a refusal
abbrev pub split_report : Result (Bor (List ℕ) × Bor (List ℕ)) Refusal → Report
split_report (Ok lists) = lists_report lists.0.now lists.1.now
split_report (Err why) = refused why
