-- `reports::Line::refusal` meets its contract: the number, and then what the refusal returns beside it. Assumes nothing.
use mathlib.Core.Path.{◌≡◌, sym, ap, ◌∙◌}
use mathlib.Core.List.{List, ◌++◌}
use Prim.Native.Nat.{ℕ, ◌+◌, ◌^◌, ◌<◌, ◌≤◌}
use lib.Dec.{lit≤}
use Rattle.std.specs.Fmt.{decimal}
use Rattle.std.proofs.Common.{rules}
use Rattle.miters.specs.declared.Refusal.{Refusal}
use Rattle.miters.specs.Report.{number_of}
use Rattle.reports.specs.declared.Line.{Line}
use Rattle.reports.specs.Line.{bytes, beside, refusal}
use Rattle.reports.specs.Writing.{Put}
use Rattle.reports.proofs.Decimals.{digits_printed}
use Rattle.reports.proofs.Puts.{put_none, put_then, put_within}
use Rattle.reports.proofs.Line.refusal.Goals as goal

numbered : (why : Refusal) {number n : ℕ} {text : List ℕ} {a b c : Line} → number < 2 ^ 64 → number ≡ number_of why → beside why ≡ text
    → 18 + n ≤ 60 → Put (bytes "refused " ++ decimal number) 18 a b → Put text n b c → Put (refusal why) 60 a c
unfolding refusal
numbered why {number} below is said small first second = put_within small (rw (sym is, digits_printed number below, said) (put_then first second))

pub returns-in-Call : goal.returns-in-Call
returns-in-Call c = numbered _ (search rules) c.number.ensures (ap beside c.in-Call.is) (lit≤ tt) c.named.ensures put_none

pub returns-in-Byte : goal.returns-in-Byte
returns-in-Byte c = numbered _ (search rules) c.number.ensures (ap beside c.in-Byte.is) (lit≤ tt) c.named.ensures c.place.ensures

pub returns-in-Step : goal.returns-in-Step
returns-in-Step c =
    numbered _ (search rules) c.number.ensures (ap beside c.in-Step.is ∙ ap (λ (s : List ℕ). bytes " steps " ++ s)
    (digits_printed c.in-Step.steps (search rules))) (lit≤ tt) c.named.ensures c.named-in-Step.ensures
