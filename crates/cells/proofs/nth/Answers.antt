use Rattle.cells.proofs.Places.{walk_start, walk_next, walk_end}
use Rattle.cells.proofs.nth.Goals as goal

pub loop-init : goal.loop-init
loop-init c = search walk_start

pub loop-preserved : goal.loop-preserved
loop-preserved c = search walk_next

pub returns : goal.returns
returns c = search walk_end
