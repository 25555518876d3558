use Rattle.linker.proofs.Walks.{walk_start, walk_next, walk_end}
use Rattle.linker.proofs.walk.Goals as goal

pub loop-init : goal.loop-init
loop-init c = search walk_start

pub loop-preserved : goal.loop-preserved
loop-preserved c = search walk_next

pub returns : goal.returns
returns c = search walk_end
