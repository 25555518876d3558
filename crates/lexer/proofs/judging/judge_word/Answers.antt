-- `judge_word` refuses a word by its length, then by its bytes. Assumes nothing.
use Rattle.lexer.proofs.Judged.{word_long, word_mixed, word_good}
use Rattle.lexer.proofs.judging.judge_word.Goals as goal

pub returns-then-word-gt-WORD_LIMIT : goal.returns-then-word-gt-WORD_LIMIT
returns-then-word-gt-WORD_LIMIT c = search word_long

pub returns-then-not-all_pass : goal.returns-then-not-all_pass
returns-then-not-all_pass c = search word_mixed

pub returns : goal.returns
returns c = search word_good
