-- `form_marks`, `parts_marks` and `part_marks` give the marks of what stands in the table, up to 33. The measure is the records
-- left, by three for each. The invariant: the parts passed and those to come have the parts' marks. Assumes nothing.
use Prim.Native.Nat.{◌+◌, ◌*◌, ◌-◌}
use Rattle.program_writer.proofs.MarkWalks.{DepthLeft}
use Rattle.program_writer.proofs.marks.+marks_of_forms.Given as goal

abbrev pub decreases-form_marks : goal.decreases-form_marks
decreases-form_marks l = 3 * (2048 - l.i)

abbrev pub decreases-part_marks : goal.decreases-part_marks
decreases-part_marks l = 3 * (2048 - l.i) + 1

abbrev pub decreases-parts_marks : goal.decreases-parts_marks
decreases-parts_marks l = 3 * (2048 - l.from) + 2

abbrev pub invariant-parts_marks-loop : goal.invariant-parts_marks-loop
invariant-parts_marks-loop l = DepthLeft l.t l.c l.kind l.arity l.from l.counter l.i l.most
