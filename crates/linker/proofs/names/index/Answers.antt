use mathlib.Core.Path.{refl}
use Rattle.linker.proofs.Naming.{indexing_start, indexing_next}
use Rattle.linker.proofs.names.index.Goals as goal

pub loop-d-init : goal.loop-d-init
loop-d-init c = search indexing_start

pub loop-d-preserved : goal.loop-d-preserved
loop-d-preserved c = indexing_next c.loop-d-test.true c.loop-d.invariant c.at.ensures refl
