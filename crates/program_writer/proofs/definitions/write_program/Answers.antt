-- `write_program` writes all of the text, or nothing. Assumes nothing.
use Rattle.program_writer.proofs.Programs.{write_some}
use Rattle.program_writer.proofs.definitions.write_program.Goals as goal

pub returns : goal.returns
returns c = search write_some
