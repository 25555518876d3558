use Rattle.program_writer.proofs.Programs.{most_turn}
use Rattle.program_writer.proofs.definitions.program_marks.Goals as goal

pub loop-preserved : goal.loop-preserved
loop-preserved c = search most_turn
