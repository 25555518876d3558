-- `null` answers as its word means.
use Rattle.primitives.proofs.Judged.{null_is}
use Rattle.primitives.proofs.truths.null.Goals as goal

pub returns : goal.returns
returns c = search null_is
