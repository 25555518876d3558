-- `judge_negative` judges digits behind a minus, a law for each way out. Assumes nothing.
use Rattle.lexer.proofs.Judged.{negative_none, negative_mixed, negative_zero, negative_large, negative_good, negative_some}
use Rattle.lexer.proofs.judging.judge_negative.Goals as goal

pub returns-in_default : goal.returns-in_default
returns-in_default c = search negative_none

pub returns-then-not-all_pass : goal.returns-then-not-all_pass
returns-then-not-all_pass c = search negative_mixed

pub returns-then-first-eq48 : goal.returns-then-first-eq48
returns-then-first-eq48 c = search negative_zero

pub returns-then-v-gt-HALF : goal.returns-then-v-gt-HALF
returns-then-v-gt-HALF c = search negative_large

pub overflow_sub-result : goal.overflow_sub-result
overflow_sub-result c = search negative_some

pub returns : goal.returns
returns c = search negative_good
