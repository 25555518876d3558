use Rattle.program_writer.proofs.Programs.{definitions_start, definitions_turn, definitions_end}
use Rattle.program_writer.proofs.definitions.walk_definitions.Goals as goal

pub loop-k-init : goal.loop-k-init
loop-k-init c = search definitions_start

pub loop-k-preserved : goal.loop-k-preserved
loop-k-preserved c = search definitions_turn

pub returns-clause-wrote : goal.returns-clause-wrote
returns-clause-wrote c = search definitions_end
