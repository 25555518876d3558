-- `name` walks over the name that the number is packed from. Assumes nothing.
use Rattle.program_writer.proofs.Rows.{name_walk}
use Rattle.program_writer.proofs.Writer.name.Goals as goal

pub returns-clause-wrote : goal.returns-clause-wrote
returns-clause-wrote c = search name_walk
