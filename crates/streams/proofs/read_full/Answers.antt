-- At the start nothing was put.
use Rattle.std.proofs.Common.{arith, refl}
use Rattle.streams.proofs.read_full.Goals as goal

pub loop-done-init : goal.loop-done-init
loop-done-init g c = (refl, omega arith)
