-- 1 to 5 touch nothing; after all other answers both tables are zeroed.
use Rattle.nattglod.proofs.Exits.{run_refused, run_sized, run_texts}
use Rattle.nattglod.proofs.calls.run.Goals as goal

pub returns-in-Err : goal.returns-in-Err
returns-in-Err c = search run_refused

pub answer_texts-answer-requires : goal.answer_texts-answer-requires
answer_texts-answer-requires c = search run_sized

pub returns : goal.returns
returns c = search run_texts
