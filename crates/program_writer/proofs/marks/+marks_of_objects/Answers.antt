use Rattle.program_writer.proofs.MarkWalks.{places_turn}
use Rattle.program_writer.proofs.marks.+marks_of_objects.Goals as goal

pub places_marks-loop-preserved : goal.places_marks-loop-preserved
places_marks-loop-preserved t c = search places_turn
