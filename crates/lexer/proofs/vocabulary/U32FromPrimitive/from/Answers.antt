-- A word's code is its discriminant. Assumes nothing.
use Rattle.lexer.proofs.Words.{tags}
use Rattle.lexer.proofs.vocabulary.U32FromPrimitive.from.Goals as goal

pub returns : goal.returns
returns c = tags c.args.p
