-- `circuits::Reader::code_and_operands` meets its contract: the number that was read is a code, and what follows it is read by the code's data.
-- Assumes nothing.
use mathlib.Core.Path.{◌≡◌, refl, ◌∙◌, subst}
use Prim.Native.Nat.{ℕ, ◌≤◌}
use Rattle.std.proofs.Common.{rules, Ok, Err}
use Rattle.gates.specs.Code.{Numbered}
use Rattle.gates.specs.Gate.{meant}
use Rattle.gates.proofs.Rules.{past_codes}
use Rattle.circuits.specs.Answers.{gate_data}
use Rattle.circuits.specs.Refusals.{refusal, unknown_code}
use Rattle.circuits.specs.Reading.{number, operands, gate}
use Rattle.circuits.proofs.Answers.{said_then, map_refused}
use Rattle.circuits.proofs.Codes.{code_said}
use Rattle.circuits.proofs.Reader.code_and_operands.Goals as goal

pub returns : goal.returns
unfolding gate
returns c =
    let start = c.args.self.now.at in
    let code_is : c.try_from.result ≡ Ok c.in_ok-code.code = search rules in
    let number_is = subst (λ r. Numbered c.in_ok-number.number r) code_is c.try_from.ensures in
    said_then (λ v. v) gate_data number (λ code. operands c.args.qubits start (meant code)) _ _ _ _ _ c.groups.ensures c.in_ok-number.was
    (λ code e. code_said c.args.qubits _ start _ c.in_ok-code.code _ code _ _ _ c.rule.ensures.is (number_is ∙ e) c.operands.ensures)

pub returns-in_err-code : goal.returns-in_err-code
unfolding gate
returns-in_err-code c =
    let start = c.args.self.now.at in
    let r = map_refused c.try_from.result c.map_err.result _ _ c.map_err.ensures.cases c.in_err-code.was in
    let past = subst (λ r. Numbered c.in_ok-number.number r) r.1 c.try_from.ensures in
    let why : c.from_residual-in_err-code.result ≡ Err (refusal unknown_code start) = search rules in
    said_then (λ v. v) gate_data number (λ code. operands c.args.qubits start (meant code)) _ _ _ _ _ c.groups.ensures c.in_ok-number.was
    (λ code e. rw (past_codes code (subst (λ (k : ℕ). 12 ≤ k) e past)) (why, refl))
