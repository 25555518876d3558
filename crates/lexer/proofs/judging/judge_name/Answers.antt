-- `judge_name` judges what stands where a defined name may stand, a law for each way out. Assumes nothing.
use Rattle.std.proofs.lemmas.Result.{err_from_is_err_and}
use Rattle.lexer.proofs.Judged.{name_none, name_other, name_refused, name_primitive, name_good}
use Rattle.lexer.proofs.judging.judge_name.Goals as goal

pub returns-in_default : goal.returns-in_default
returns-in_default c = search name_none

pub returns-then-not-is_letter : goal.returns-then-not-is_letter
returns-then-not-is_letter c = search name_other

pub returns-in_err-judge_word : goal.returns-in_err-judge_word
returns-in_err-judge_word c =
    let p = err_from_is_err_and c.from_residual.result c.from_residual.ensures.1 in
    rw (p.1, p.2) (name_refused _ c.in-len1-up.len_at_least c.is_letter.ensures c.if-not-is_letter.false c.in_err-judge_word.ensures)

pub returns-in-Some : goal.returns-in-Some
returns-in-Some c = name_primitive _ c.in-len1-up.len_at_least c.is_letter.ensures c.if-not-is_letter.false c.in_ok-judge_word.ensures c.in-Some.ensures

pub returns-in-None : goal.returns-in-None
returns-in-None c = name_good _ c.in-len1-up.len_at_least c.is_letter.ensures c.if-not-is_letter.false c.in_ok-judge_word.ensures c.in-None.ensures c.pack.ensures
