-- `skip_blanks` stops behind the blanks. Assumes nothing.
use Rattle.lexer.proofs.Sizes.{skipped}
use Rattle.lexer.proofs.reader.skip_blanks.Goals as goal

pub returns : goal.returns
returns c = search skipped
