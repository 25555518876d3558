-- `text` walks over a text, inside the output or past its end. Assumes nothing.
use Rattle.program_writer.proofs.Wrote.{wrote_text}
use Rattle.program_writer.proofs.Writer.text.Goals as goal

pub returns-clause-wrote : goal.returns-clause-wrote
returns-clause-wrote c = search wrote_text
