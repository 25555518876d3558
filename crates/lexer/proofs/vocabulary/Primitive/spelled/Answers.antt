-- A word's letters stand in the row at its discriminant. Assumes nothing.
use mathlib.Core.Path.{ap}
use Rattle.lexer.specs.Vocabulary.{WordRow}
use Rattle.lexer.proofs.Words.{row_at}
use Rattle.lexer.proofs.vocabulary.Primitive.spelled.Goals as goal

pub returns : goal.returns
returns c = ap (λ (t : WordRow). t.letters) (row_at _ c.table.ensures c.args.self _)
