-- `not` answers as its word means.
use Rattle.primitives.proofs.Judged.{not_other, not_is}
use Rattle.primitives.proofs.truths.not.Goals as goal

pub returns-in-Some : goal.returns-in-Some
returns-in-Some c = search (not_is, c.in-Some.ensures)

pub returns-in-None : goal.returns-in-None
returns-in-None c = rw c.bottom.ensures (search (not_other, c.in-None.ensures))
