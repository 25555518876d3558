-- `branch` meets its contract.
use Rattle.evaluator.proofs.Numbers.{branch_false, branch_true}
use Rattle.evaluator.proofs.records.branch.Goals as goal

pub returns-then-b-eq0 : goal.returns-then-b-eq0
returns-then-b-eq0 c = search branch_false

pub returns-else-b-eq0 : goal.returns-else-b-eq0
returns-else-b-eq0 c = search branch_true
