-- `judge_part` judges what stands where a part may stand, by its first byte. Assumes nothing.
use Rattle.lexer.proofs.Judged.{parts, first_none, first_number, first_word, first_other}
use Rattle.lexer.proofs.judging.judge_part.Goals as goal

pub returns-in_default : goal.returns-in_default
returns-in_default c = search (first_none parts)

pub returns-then-is_digit : goal.returns-then-is_digit
returns-then-is_digit c = search (first_number parts)

pub returns-then-is_letter : goal.returns-then-is_letter
returns-then-is_letter c = search (first_word parts)

pub returns : goal.returns
returns c = search (first_other parts)
