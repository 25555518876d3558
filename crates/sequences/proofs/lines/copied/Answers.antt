use native.Mathlib.Omega.{arith}
use Rattle.std.proofs.lemmas.Grind.{common_steps}
use Rattle.sequences.proofs.Copying.{copy_start, copy_next}
use Rattle.sequences.proofs.lines.copied.Goals as goal

pub loop-q-init : goal.loop-q-init
loop-q-init c = copy_start (grind (arith, common_steps, c.checked_add.ensures))

pub loop-q-preserved : goal.loop-q-preserved
loop-q-preserved c = search copy_next
