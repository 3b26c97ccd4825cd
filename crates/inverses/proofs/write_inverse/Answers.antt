-- `inverses::write_inverse` meets its contract: what is read is what the definition decodes, the test on the length is the definition's,
-- and the three parts that are written are the inverse's bytes. Assumes nothing.
use mathlib.Core.Path.{◌≡◌, ◌∙◌, sym, ap}
use native.Mathlib.Omega.{arith}
use Rattle.std.proofs.Common.{rules, Ok, Err}
use Rattle.circuits.specs.Refusals.{base_limits}
use Rattle.circuits.specs.Reading.{decoded}
use Rattle.circuits.proofs.Answers.{map_refused}
use Rattle.encodings.proofs.Puts.{put_length}
use Rattle.lists.specs.Answers.{Listed}
use Rattle.lists.proofs.Answers.{listed, unlisted}
use Rattle.miters.specs.Report.{at_byte}
use Rattle.miters.specs.declared.Part.TheVariants.{First}
use Rattle.inverses.specs.Inverse.{Filled, inverted}
use Rattle.inverses.proofs.Writing.{said}
use Rattle.inverses.proofs.Answers.{inverted_unread, short_answer, written_all}
use Rattle.inverses.proofs.write_inverse.Goals.{In_ok-head}
use Rattle.inverses.proofs.write_inverse.Goals as goal

-- the list that was read
the_list : (c : In_ok-head) → let head = c.in_ok-head.head in Listed (decoded base_limits c.args.list.now) head.qubits head.gates head.first
the_list c =
    let read : c.check_list-read.result ≡ Ok c.in_ok-head.head = search rules in
    listed _ c.base_limits.ensures c.check_list-read.ensures read

pub returns-in_err-head : goal.returns-in_err-head
returns-in_err-head c =
    let r = map_refused c.check_list-read.result c.map_err.result _ _ c.map_err.ensures.cases c.in_err-head.was in
    let is = inverted_unread c.args.list.now c.args.buffer.now (unlisted _ c.base_limits.ensures c.check_list-read.ensures r.1) in
    let named : c.from_residual.result ≡ Err (at_byte First r.0) = search rules in
    record { answer = named ∙ sym (ap (λ (f : Filled). f.answer) is); contents = sym (ap (λ (f : Filled). f.buffer) is) }

pub returns-then-buffer-list : goal.returns-then-buffer-list
returns-then-buffer-list c =
    let is = short_answer _ _ (the_list ((goal.at.returns-then-buffer-list c).In_ok-head)) c.if-buffer-list.true in
    record { answer = sym (ap (λ (f : Filled). f.answer) is); contents = sym (ap (λ (f : Filled). f.buffer) is) }

pub number-requires-clause-v_bound : goal.number-requires-clause-v_bound
number-requires-clause-v_bound c = omega (arith, (said _ (the_list ((goal.at.number-requires-clause-v_bound c).In_ok-head))).few)

pub number-requires-clause-v_in_bounds : goal.number-requires-clause-v_in_bounds
number-requires-clause-v_in_bounds c =
    let head = said _ (the_list ((goal.at.number-requires-clause-v_in_bounds c).In_ok-head)) in
    omega (arith, head.head, head.long)

pub number-requires-2-clause-v_bound : goal.number-requires-2-clause-v_bound
number-requires-2-clause-v_bound c = omega (arith, (said _ (the_list ((goal.at.number-requires-2-clause-v_bound c).In_ok-head))).few_gates)

pub number-requires-2-clause-v_in_bounds : goal.number-requires-2-clause-v_in_bounds
number-requires-2-clause-v_in_bounds c =
    let head = said _ (the_list ((goal.at.number-requires-2-clause-v_in_bounds c).In_ok-head)) in
    let wrote = c.number.ensures.put in
    omega (arith, head.head, head.long, wrote.place, put_length wrote)

pub write_gates-requires-clause-in_bounds : goal.write_gates-requires-clause-in_bounds
write_gates-requires-clause-in_bounds c = omega (arith, put_length c.number.ensures.put, put_length c.number-2.ensures.put)

pub returns : goal.returns
returns c =
    let written =
    written_all _ _ (the_list ((goal.at.returns c).In_ok-head))
    (omega arith) c.number.ensures.put c.number-2.ensures.put c.write_gates.ensures
    in
    let contents : c.write_gates.new.buffer ≡ (inverted c.args.list.now c.args.buffer.now).buffer = written.1 in
    record { answer = written.0; contents = search rules }
