-- `next_word` gives the next word, number or mark from any place. Assumes nothing.
use Rattle.lexer.proofs.Sizes.{next_none, next_some}
use Rattle.lexer.proofs.reader.next_word.Goals as goal

pub returns-then-s-p : goal.returns-then-s-p
returns-then-s-p c = search next_none

pub returns : goal.returns
returns c = search next_some
