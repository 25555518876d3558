-- `spelling` gives what is spelled at a code. Assumes nothing.
use mathlib.Core.Path.{sym, ◌∙◌}
use Rattle.lexer.proofs.Words.{spelled_is, spelled_past}
use Rattle.lexer.proofs.vocabulary.spelling.Goals as goal

pub returns-in-Ok : goal.returns-in-Ok
returns-in-Ok c = c.spelled.ensures ∙ spelled_is _ c.in-Ok.ensures

pub returns-in-Err : goal.returns-in-Err
returns-in-Err c = sym (spelled_past _ c.in-Err.ensures.1)
