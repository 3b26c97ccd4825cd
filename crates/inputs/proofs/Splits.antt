-- The report on an input, by the length that is read and the bytes left after it.
-- Assumes nothing.
use mathlib.Core.Path.{◌≡◌, sym, ◌∙◌, ap, ap₂}
use mathlib.Core.Bool.{Bool, cond}
use mathlib.Core.List.{List}
use Prim.Native.Nat.{ℕ, ◌-◌, ◌≤◌, ◌<◌}
use borrow.Author.Rules.{part_to_end}
use borrow.Author.Tests.{le-leb, lt-leb}
use lib.ListN.{length, take, drop}
use Rattle.std.specs.Prelude.{Option, None, Some, Result, Ok, Err, MatchOption, ok_or}
use Rattle.std.specs.Borrow.{Bor}
use Rattle.std.specs.List.{IsSplitAt}
use Rattle.circuits.specs.declared.Refusal.{Refusal}
use Rattle.circuits.specs.declared.Reader.{Reader}
use Rattle.circuits.specs.Refusals.{ends_early}
use Rattle.circuits.specs.Reading.{read, refused as unread, number}
use Rattle.circuits.specs.Answers.{reader_at, Says}
use Rattle.circuits.proofs.Answers.{said_ok, said_err}
use Rattle.miters.specs.declared.Refusal.{Refusal as Refused}
use Rattle.miters.specs.declared.Report.{Report}
use Rattle.miters.specs.Report.{refused}
use Rattle.pairs.specs.Pair.{lists_report}
use Rattle.inputs.specs.Input.{bad_length, rest_report, after_length, input_report, split_report}

-- ---- the bytes after the length

module _ (n : ℕ) (rest : List ℕ) where
  abbrev by_test : Bool → Report
  by_test b = cond b (lists_report (take n rest) (drop n rest)) (refused (bad_length ends_early))

  rest_short : length rest < n → rest_report n rest ≡ refused (bad_length ends_early)
  unfolding rest_report
  rest_short short = ap by_test (lt-leb n (length rest) short)

  rest_long : n ≤ length rest → rest_report n rest ≡ lists_report (take n rest) (drop n rest)
  unfolding rest_report
  rest_long long = ap by_test (le-leb n (length rest) long)

-- ---- the length, as the code reads it

from_start : {bytes : Bor (List ℕ)} {reader : Reader} → reader ≡ reader_at bytes 0 → number reader.bytes.now reader.at ≡ number bytes.now 0
from_start is = ap (λ (x : Reader). number x.bytes.now x.at) is

module _ {bytes : Bor (List ℕ)} {reader : Reader} (is : reader ≡ reader_at bytes 0) (new : Reader) (r : Result ℕ Refusal)
    (said : Says (λ (v : ℕ). v) (number reader.bytes.now reader.at) reader new r) where
  pub length_read : {n : ℕ} → r ≡ Ok n → number bytes.now 0 ≡ read n new.at
  length_read e =
      let was = said_ok (λ (v : ℕ). v) reader new r _ said e in
      sym (from_start is) ∙ was.was_read ∙ ap (λ (v : ℕ). read v new.at) (sym was.value_is)

  pub length_unread : {why : Refusal} → r ≡ Err why → number bytes.now 0 ≡ unread why
  length_unread e = sym (from_start is) ∙ said_err (λ (v : ℕ). v) reader new r _ said e

-- ---- the input

module _ (bytes : List ℕ) where
  pub input_unread : {why : Refusal} → number bytes 0 ≡ unread why → input_report bytes ≡ refused (bad_length why.fault)
  unfolding input_report
  input_unread e = ap (after_length bytes) e

  module _ {n next : ℕ} (is : number bytes 0 ≡ read n next) where
    input_read : input_report bytes ≡ rest_report n (drop next bytes)
    unfolding input_report
    input_read = ap (after_length bytes) is

    -- the bytes left, as the code has them
    abbrev left : List ℕ
    left = take (length bytes - next) (drop next bytes)

    input_short : length left < n → input_report bytes ≡ refused (bad_length ends_early)
    input_short short = input_read ∙ rest_short n (drop next bytes) (rw (part_to_end bytes next) at short)

    input_long : {first second : List ℕ} → IsSplitAt left n first second → input_report bytes ≡ lists_report first second
    input_long split =
        let rest = part_to_end bytes next in
        input_read ∙ rest_long n (drop next bytes) (rw rest at split.0)
        ∙ sym (ap₂ lists_report (split.1 ∙ ap (take n) rest) (split.2 ∙ ap (drop n) rest))

    -- the bytes left are split where they are as long as the length says, and are refused else
    pub input_split : (lists : Option (Bor (List ℕ) × Bor (List ℕ))) (why : Refused) → why ≡ bad_length ends_early
        → MatchOption lists (length left < n) (λ l. IsSplitAt left n l.0.now l.1.now) → input_report bytes ≡ split_report (ok_or lists why)
    input_split None why is short = input_short short ∙ ap refused (sym is)
    input_split (Some lists) why is split = input_long split
