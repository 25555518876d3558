-- `tlr` answers as its word means.
use Rattle.primitives.proofs.Made.{tlr_none, tlr_is}
use Rattle.primitives.proofs.places.tlr.Goals as goal

pub returns-then-n-eq0 : goal.returns-then-n-eq0
returns-then-n-eq0 c = rw c.bottom.ensures (search tlr_none)

pub returns : goal.returns
returns c = search tlr_is
