-- `judge_plain` judges a word where a part may stand. Assumes nothing.
use Rattle.std.proofs.lemmas.Result.{err_from_is_err_and}
use Rattle.lexer.proofs.Judged.{plain_refused, plain_primitive, plain_name}
use Rattle.lexer.proofs.judging.judge_plain.Goals as goal

pub returns-in_err-judge_word : goal.returns-in_err-judge_word
returns-in_err-judge_word c =
    let p = err_from_is_err_and c.from_residual.result c.from_residual.ensures.1 in
    rw (p.1, p.2) (plain_refused _ c.in_err-judge_word.ensures)

pub returns-in-Some : goal.returns-in-Some
returns-in-Some c = plain_primitive _ c.in_ok-judge_word.ensures c.in-Some.ensures

pub returns-in-None : goal.returns-in-None
returns-in-None c = plain_name _ c.in_ok-judge_word.ensures c.in-None.ensures c.pack.ensures
