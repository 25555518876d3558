-- `copied` meets its contract.
use Rattle.evaluator.proofs.Copies.{copied_is}
use Rattle.evaluator.proofs.run.copied.Goals as goal

pub returns : goal.returns
returns c = copied_is c.min-n.ensures c.empty-f.ensures c.copy_from_slice.ensures.after
