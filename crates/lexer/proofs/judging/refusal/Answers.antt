-- `refusal` gives the refusal of a word over 12 characters, or that of all else. Assumes nothing.
use Rattle.lexer.proofs.Judged.{refusal_mark, refusal_long, refusal_short}
use Rattle.lexer.proofs.judging.refusal.Goals as goal

pub returns-then-not-is_letter : goal.returns-then-not-is_letter
returns-then-not-is_letter c = search refusal_mark

pub returns-then-size_at-gt-WORD_LIMIT : goal.returns-then-size_at-gt-WORD_LIMIT
returns-then-size_at-gt-WORD_LIMIT c = search refusal_long

pub returns : goal.returns
returns c = search refusal_short
