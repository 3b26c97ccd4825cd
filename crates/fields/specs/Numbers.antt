-- A report, and what a writer answers, as numbers. Definitions only.
use Rattle.std.specs.Prelude.{◌≡◌, List, [], ◌∷◌, ◌++◌, ℕ, ℤ, Result, Ok, Err}
use Rattle.algebra.specs.declared.Entry.{Entry}
use Rattle.algebra.specs.Entry.{𝟘}
use Rattle.stores.specs.Columns.{over}
use Rattle.miters.specs.declared.Refusal.{Refusal}
use Rattle.miters.specs.declared.Refusal.TheVariants.{Call, Byte, Step}
use Rattle.miters.specs.declared.Verdict.{Verdict}
use Rattle.miters.specs.declared.Verdict.TheVariants.{Equal, Different, Refused}
use Rattle.miters.specs.declared.Report.{Report}
use Rattle.miters.specs.Report.{part_number, number_of}
use Rattle.fields.specs.declared.Reason.{Reason}

-- "Returned" of the table: the number alone, or the list and the offset, or the steps finished before; 0 for what is not
unfoldable pub reason_of : Refusal → Reason
reason_of (Call fault) = record { number = number_of (Call fault); list = 0; offset = 0; steps = 0 }
reason_of (Byte list why) = record { number = number_of (Byte list why); list = part_number list; offset = why.offset; steps = 0 }
reason_of (Step fault steps) = record { number = number_of (Step fault steps); list = 0; offset = 0; steps = steps }

-- "exponent, steps finished, nodes used and values used" after the kind, and the others
abbrev pub with_counts : ℕ → Report → List ℕ → List ℕ
with_counts kind r others = kind ∷ r.exponent ∷ r.steps ∷ r.nodes ∷ r.values ∷ others

-- "equal with its factor, different with row, column, entry and the corner entry (row 0, column 0), or refused": the kind is 0,
-- 1 or 2; the others are the row, the column, and the refusal's number, list, offset and steps before it, 0 for what is not there
abbrev pub verdict_numbers : Verdict → Report → List ℕ
verdict_numbers (Equal factor) r = with_counts 0 r (0 ∷ 0 ∷ 0 ∷ 0 ∷ 0 ∷ 0 ∷ [])
verdict_numbers (Different d) r = with_counts 1 r (d.row ∷ d.column ∷ 0 ∷ 0 ∷ 0 ∷ 0 ∷ [])
verdict_numbers (Refused why) r =
    let w = reason_of why in
    with_counts 2 r (0 ∷ 0 ∷ w.number ∷ w.list ∷ w.offset ∷ w.steps ∷ [])

unfoldable pub numbers_of : Report → List ℕ
numbers_of r = verdict_numbers r.verdict r

-- the four numbers of an entry, "(a, b, c, d)"
abbrev pub parts : Entry → List ℤ
parts x = x.a ∷ x.b ∷ x.c ∷ x.d ∷ []

-- the factor or the entry, and then the corner entry, 0 for what is not there
unfoldable pub entries_of : Verdict → List ℤ
entries_of (Equal factor) = parts factor ++ parts 𝟘
entries_of (Different d) = parts d.entry ++ parts d.corner
entries_of (Refused why) = parts 𝟘 ++ parts 𝟘

-- what a report leaves in the slices with '
pub record Shown (report : Report) (numbers : List ℕ) (entries : List ℤ) (numbers' : List ℕ) (entries' : List ℤ) : Type 0 where
  pub of_numbers : numbers' ≡ over (numbers_of report) numbers
  pub of_entries : entries' ≡ over (entries_of report.verdict) entries

-- what a writer answers: the kind is 0 or, as in a report, 2; then the bytes written, and the refusal's number, list and offset
unfoldable pub written_numbers : Result ℕ Refusal → List ℕ
written_numbers (Ok n) = 0 ∷ n ∷ 0 ∷ 0 ∷ 0 ∷ []
written_numbers (Err why) =
    let w = reason_of why in
    2 ∷ 0 ∷ w.number ∷ w.list ∷ w.offset ∷ []
