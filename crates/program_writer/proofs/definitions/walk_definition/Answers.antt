-- `walk_definition` walks over a name, `=`, a form and `;`. Assumes nothing.
use Rattle.program_writer.proofs.Programs.{definition_done}
use Rattle.program_writer.proofs.definitions.walk_definition.Goals as goal

pub returns-clause-wrote : goal.returns-clause-wrote
returns-clause-wrote c = search definition_done
