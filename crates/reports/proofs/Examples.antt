-- The lines that the paper prints, with that of its circuit 5 for a number below zero, against the definition by one claim; and
-- a line of the greatest length. Assumes nothing.
use mathlib.Core.Path.{◌≡◌, refl}
use mathlib.Core.List.{List, [], ◌∷◌, map}
use Prim.Native.Nat.{ℕ}
use Prim.Native.String.{String}
use lib.IntN.{ℤ, pos, negsuc}
use lib.ListN.{length}
use Rattle.algebra.specs.declared.Entry.{Entry}
use Rattle.algebra.specs.Entry.{entry}
use Rattle.circuits.specs.Refusals.{ends_early}
use Rattle.miters.specs.declared.CallFault.TheVariants.{QubitCounts}
use Rattle.miters.specs.declared.StepFault.TheVariants.{OutsideWidth}
use Rattle.miters.specs.declared.Part.TheVariants.{Length}
use Rattle.miters.specs.declared.Refusal.TheVariants.{Call, Byte, Step}
use Rattle.miters.specs.declared.Verdict.{Verdict}
use Rattle.miters.specs.declared.Verdict.TheVariants.{Equal, Different}
use Rattle.miters.specs.declared.Report.{Report}
use Rattle.miters.specs.Report.{refused}
use Rattle.reports.specs.Line.{bytes, digits_in, digits, whole, numbers, place, refusal, counts, difference, line}

abbrev zero_entry : Entry
zero_entry = entry (pos 0) (pos 0) (pos 0) (pos 0)

abbrev one_entry : Entry
one_entry = entry (pos 0) (pos 0) (pos 0) (pos 1)

-- a report of one qubit: exponent 0, 3 nodes and 2 values
abbrev small : Verdict → ℕ → Report
small v steps = record { verdict = v; exponent = 0; steps = steps; nodes = 3; values = 2 }

abbrev pub reports : List Report
reports =
    refused (Byte Length (record { fault = ends_early; offset = 0 }))
    ∷ refused (Step OutsideWidth 61)
    ∷ refused (Call QubitCounts)
    ∷ small (Equal one_entry) 0
    ∷ small (Different (record { row = 0; column = 1; entry = one_entry; corner = zero_entry })) 1
    ∷ small (Equal (entry (pos 0) (pos 0) (pos 0) (negsuc 0))) 4
    ∷ []

abbrev pub texts : List String
texts =
    "refused 3 list 0 byte 0\n"
    ∷ "refused 13 steps 61\n"
    ∷ "refused 11\n"
    ∷ "equal factor 0 0 0 1 exponent 0 steps 0 nodes 3 values 2\n"
    ∷ "different row 0 column 1 entry 0 0 0 1 corner 0 0 0 0 exponent 0 steps 1 nodes 3 values 2\n"
    ∷ "equal factor 0 0 0 -1 exponent 0 steps 4 nodes 3 values 2\n"
    ∷ []

pub lines_printed : map line reports ≡ map bytes texts
unfolding line refusal place counts difference numbers whole digits digits_in refused
lines_printed = refl

-- every number as long as its type allows
abbrev pub longest : Report
longest =
    let most : ℕ = 4294967295 in
    let least : ℤ = negsuc 2147483647 in
    record {
      verdict = Different (record { row = most; column = most; entry = entry least least least least; corner = entry least least least least });
      exponent = most;
      steps = most;
      nodes = most;
      values = most;
    }

pub longest_length : length (line longest) ≡ 224
unfolding line counts difference numbers whole digits digits_in
longest_length = refl
