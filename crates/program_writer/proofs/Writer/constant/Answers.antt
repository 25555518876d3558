-- `constant` walks over an object that opens no 33rd mark. Assumes nothing.
use Rattle.program_writer.proofs.Constants.{constant_or}
use Rattle.program_writer.proofs.Writer.constant.Goals as goal

pub returns-clause-wrote : goal.returns-clause-wrote
returns-clause-wrote c = rw c.unwrap_or-self.ensures (search constant_or)
