-- `walk_form`, `walk_parts` and `walk_part` walk over the text of what stands in the table. The measure is the records left, by
-- three for each. The invariant: the parts' text is what was walked over and the text of the others. Assumes nothing.
use Prim.Native.Nat.{◌+◌, ◌*◌, ◌-◌}
use Rattle.program_writer.specs.Walks.{Kept}
use Rattle.program_writer.proofs.FormWalks.{PartsLeft}
use Rattle.program_writer.proofs.forms.+form_writing.Given as goal

abbrev pub decreases-walk_form : goal.decreases-walk_form
decreases-walk_form l = 3 * (2048 - l.i)

abbrev pub decreases-walk_part : goal.decreases-walk_part
decreases-walk_part l = 3 * (2048 - l.i) + 1

abbrev pub decreases-walk_parts : goal.decreases-walk_parts
decreases-walk_parts l = 3 * (2048 - l.from) + 2

abbrev pub invariant-walk_parts-loop-left : goal.invariant-walk_parts-loop-left
invariant-walk_parts-loop-left l = (Kept l.initial.w l.w) × (PartsLeft l.t l.c l.kind l.arity l.from l.initial.w.at l.left l.i l.w.at l.initial.w.out.now l.w.out.now)
