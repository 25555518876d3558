use Rattle.linker.proofs.Naming.{seek_start, seek_next, seek_less, seek_here, seek_end}
use Rattle.linker.proofs.names.Names.find.Goals as goal

pub loop-left-init : goal.loop-left-init
loop-left-init c = search seek_start

pub returns-then-has_name : goal.returns-then-has_name
returns-then-has_name c = search seek_here

pub loop-left-smaller : goal.loop-left-smaller
loop-left-smaller c = search seek_less

pub loop-left-preserved : goal.loop-left-preserved
loop-left-preserved c = search seek_next

pub returns : goal.returns
returns c = search seek_end
