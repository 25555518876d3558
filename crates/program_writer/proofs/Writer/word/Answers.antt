-- `word` walks over the letters of the word with its code. Assumes nothing.
use Rattle.program_writer.proofs.Wrote.{wrote_as}
use Rattle.program_writer.proofs.Writer.word.Goals as goal

pub returns-clause-wrote : goal.returns-clause-wrote
returns-clause-wrote c = wrote_as c.spelling.ensures c.text.ensures.wrote
