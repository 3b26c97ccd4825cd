-- `gates::Code::rule` meets its contract: the data are the definitions', and so they are decided for the code's number. Assumes nothing.
use Rattle.gates.specs.declared.Code.{Code}
use Rattle.gates.proofs.Rules.{code_decided}
use Rattle.gates.proofs.Code.rule.Goals as goal

pub returns-in-Z-clause-decided : goal.returns-in-Z-clause-decided
returns-in-Z-clause-decided c = code_decided Code.Z c.in-Z.is c.diagonal.ensures

pub returns-in-S-clause-decided : goal.returns-in-S-clause-decided
returns-in-S-clause-decided c = code_decided Code.S c.in-S.is c.diagonal-in-S.ensures

pub returns-in-SDagger-clause-decided : goal.returns-in-SDagger-clause-decided
returns-in-SDagger-clause-decided c = code_decided Code.SDagger c.in-SDagger.is c.diagonal-in-SDagger.ensures

pub returns-in-T-clause-decided : goal.returns-in-T-clause-decided
returns-in-T-clause-decided c = code_decided Code.T c.in-T.is c.diagonal-in-T.ensures

pub returns-in-TDagger-clause-decided : goal.returns-in-TDagger-clause-decided
returns-in-TDagger-clause-decided c = code_decided Code.TDagger c.in-TDagger.is c.diagonal-in-TDagger.ensures

pub returns-in-Cz-clause-decided : goal.returns-in-Cz-clause-decided
returns-in-Cz-clause-decided c = code_decided Code.Cz c.in-Cz.is c.diagonal-in-Cz.ensures

pub returns-in-X-clause-decided : goal.returns-in-X-clause-decided
returns-in-X-clause-decided c = code_decided Code.X c.in-X.is c.flipping.ensures

pub returns-in-Y-clause-decided : goal.returns-in-Y-clause-decided
returns-in-Y-clause-decided c = code_decided Code.Y c.in-Y.is c.flipping-in-Y.ensures

pub returns-in-Cnot-clause-decided : goal.returns-in-Cnot-clause-decided
returns-in-Cnot-clause-decided c = code_decided Code.Cnot c.in-Cnot.is c.flipping-in-Cnot.ensures

pub returns-in-Toffoli-clause-decided : goal.returns-in-Toffoli-clause-decided
returns-in-Toffoli-clause-decided c = code_decided Code.Toffoli c.in-Toffoli.is c.flipping-in-Toffoli.ensures

pub returns-in-Fredkin-clause-decided : goal.returns-in-Fredkin-clause-decided
returns-in-Fredkin-clause-decided c = code_decided Code.Fredkin c.in-Fredkin.is c.unturned.ensures

pub returns-in-H-clause-decided : goal.returns-in-H-clause-decided
returns-in-H-clause-decided c = code_decided Code.H c.in-H.is c.unturned-in-H.ensures
