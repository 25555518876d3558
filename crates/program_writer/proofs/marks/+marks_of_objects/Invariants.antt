-- `object_marks` and `places_marks` give the marks of what stands in cells, up to a limit, which is the measure. The invariant:
-- the places passed and those to come have the sequence's marks. Assumes nothing.
use Prim.Native.Nat.{◌+◌, ◌*◌}
use Rattle.program_writer.proofs.MarkWalks.{PlacesLeft}
use Rattle.program_writer.proofs.marks.+marks_of_objects.Given as goal

abbrev pub decreases-object_marks : goal.decreases-object_marks
decreases-object_marks l = 2 * l.limit

abbrev pub decreases-places_marks : goal.decreases-places_marks
decreases-places_marks l = 2 * l.limit + 1

abbrev pub invariant-places_marks-loop : goal.invariant-places_marks-loop
invariant-places_marks-loop l = PlacesLeft l.c l.initial.s l.limit l.end l.counter l.s l.most
