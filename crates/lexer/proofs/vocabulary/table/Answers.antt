-- The rows say what the definitions say of the words, in their order. Assumes nothing.
use mathlib.Core.Path.{refl}
use Rattle.lexer.proofs.vocabulary.table.Goals as goal

pub returns : goal.returns
returns c = refl
