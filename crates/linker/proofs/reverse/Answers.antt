use Rattle.linker.proofs.Walks.{turn_start, turn_next, turn_end}
use Rattle.linker.proofs.reverse.Goals as goal

pub loop-init : goal.loop-init
loop-init c = search turn_start

pub loop-preserved : goal.loop-preserved
loop-preserved c = search turn_next

pub returns : goal.returns
returns c = search turn_end
