-- `kind` meets its contract.
use Rattle.evaluator.proofs.Numbers.{group_low, group_constant, group_bu, group_none}
use Rattle.evaluator.proofs.records.kind.Goals as goal

pub returns-in-12-to-15 : goal.returns-in-12-to-15
returns-in-12-to-15 c = search group_constant

pub returns-in-16-to-19 : goal.returns-in-16-to-19
returns-in-16-to-19 c = search group_bu

pub returns-in_default : goal.returns-in_default
returns-in_default c = search group_low

pub returns-in_default-2 : goal.returns-in_default-2
returns-in_default-2 c = search group_none
