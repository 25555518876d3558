-- `constant` meets its contract.
use Rattle.evaluator.proofs.Numbers.{constant_is}
use Rattle.evaluator.proofs.records.constant.Goals as goal

pub returns : goal.returns
returns c = rw c.word.ensures (search constant_is)
