-- `judge_selector` judges digits and what stands behind them, a law for each way out. Assumes nothing.
use Rattle.std.proofs.lemmas.Result.{err_from_is_err_and}
use Rattle.lexer.proofs.Judged.{select_is, selector_mixed, right_is}
use Rattle.lexer.proofs.judging.judge_selector.Goals as goal

pub returns-in_err-judge_digits : goal.returns-in_err-judge_digits
returns-in_err-judge_digits c =
    let p = err_from_is_err_and c.from_residual.result c.from_residual.ensures.1 in
    let s = c.split_at.ensures in
    rw (p.1, p.2) (select_is _ c.span.ensures.0 s.front s.back c.is_empty.ensures c.if-is_empty.true c.in_err-judge_digits.ensures)

pub returns-then-is_empty : goal.returns-then-is_empty
returns-then-is_empty c =
    let s = c.split_at.ensures in
    select_is _ c.span.ensures.0 s.front s.back c.is_empty.ensures c.if-is_empty.true c.in_ok-judge_digits.ensures

pub returns-then-not-is_r : goal.returns-then-not-is_r
returns-then-not-is_r c = search selector_mixed

pub returns-in_err-judge_digits-2 : goal.returns-in_err-judge_digits-2
returns-in_err-judge_digits-2 c =
    let p = err_from_is_err_and c.from_residual-in_err-judge_digits-2.result c.from_residual-in_err-judge_digits-2.ensures.1 in
    let s = c.split_at.ensures in
    rw (p.1, p.2) (right_is _ c.span.ensures.0 s.front s.back c.is_empty.ensures c.if-is_empty.false c.is_r.ensures c.if-not-is_r.false c.in_err-judge_digits-2.ensures)

pub returns : goal.returns
returns c =
    let s = c.split_at.ensures in
    right_is _ c.span.ensures.0 s.front s.back c.is_empty.ensures c.if-is_empty.false c.is_r.ensures c.if-not-is_r.false c.in_ok-judge_digits-2.ensures
