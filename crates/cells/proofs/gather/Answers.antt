use native.Mathlib.Omega.{arith}
use Rattle.std.proofs.lemmas.Grind.{common_steps}
use Rattle.cells.proofs.Places.{gather_start, gather_next, gather_end}
use Rattle.cells.proofs.gather.Goals as goal

pub loop-left-init : goal.loop-left-init
loop-left-init c = gather_start (grind (arith, common_steps, c.checked_add.ensures)) (omega arith)

pub loop-left-preserved : goal.loop-left-preserved
loop-left-preserved c = search gather_next

pub returns : goal.returns
returns c = search gather_end
