-- `begun_at` gives the sequence that begins in a cell.
use Rattle.sequences.proofs.Listing.{begun_none, begun_is}
use Rattle.sequences.proofs.rows.begun_at.Goals as goal

pub returns-then-n-eq0 : goal.returns-then-n-eq0
returns-then-n-eq0 c = search begun_none

pub returns : goal.returns
returns c = search begun_is
