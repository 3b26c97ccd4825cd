-- `schedules::fits` meets its contract: of as many bytes as there are gates, and no other byte, the zeros are counted. Assumes nothing.
use mathlib.Core.Path.{◌≡◌}
use Rattle.std.proofs.Common.{rules, arith}
use Rattle.std.proofs.lemmas.Bool.Decides.{nat_tests}
use Rattle.schedules.specs.Schedule.{count}
use Rattle.schedules.proofs.Counts.{counted, fitted}
use Rattle.schedules.proofs.fits.Goals.{then-s-m, else-s-m}
use Rattle.schedules.proofs.fits.Goals as goal

pub returns-then-only_steps : goal.returns-then-only_steps
returns-then-only_steps c =
    let z : c.count.result ≡ count 0 c.args.s.now = search (rules, counted) in
    let f = fitted c.args.m c.args.p c.args.s.now in
    elim c.if-s-m.branch [ then-s-m w ↦ grind (arith, nat_tests) | else-s-m w ↦ grind (arith, nat_tests) ]

pub returns-else-only_steps : goal.returns-else-only_steps
returns-else-only_steps c =
    let f = fitted c.args.m c.args.p c.args.s.now in
    elim c.if-s-m.branch [ then-s-m w ↦ grind (arith, nat_tests) | else-s-m w ↦ grind (arith, nat_tests) ]
