-- `circuits::Reader::groups` meets its contract: byte by byte it is the definition's number. Assumes nothing.
use Rattle.std.proofs.Common.{rules}
use Rattle.circuits.proofs.Numbers.{number_said}
use Rattle.circuits.proofs.Reader.groups.Goals as goal

pub returns-in_err-byte : goal.returns-in_err-byte
returns-in_err-byte c = number_said _ _ _ _ _ (search rules)

pub returns-then-x-lt-GROUP : goal.returns-then-x-lt-GROUP
returns-then-x-lt-GROUP c = number_said _ _ _ _ _ (search rules)

pub returns-in_err-byte-2 : goal.returns-in_err-byte-2
returns-in_err-byte-2 c = number_said _ _ _ _ _ (search rules)

pub returns-then-y-lt-GROUP : goal.returns-then-y-lt-GROUP
returns-then-y-lt-GROUP c = number_said _ _ _ _ _ (search rules)

pub returns-in_err-byte-3 : goal.returns-in_err-byte-3
returns-in_err-byte-3 c = number_said _ _ _ _ _ (search rules)

pub returns : goal.returns
returns c = number_said _ _ _ _ _ (search rules)
