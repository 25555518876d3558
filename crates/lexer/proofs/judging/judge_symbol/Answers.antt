-- `judge_symbol` judges a word where an object may stand. Assumes nothing.
use Rattle.std.proofs.lemmas.Result.{err_from_is_err_and}
use Rattle.lexer.proofs.Judged.{symbol_refused, symbol_good}
use Rattle.lexer.proofs.judging.judge_symbol.Goals as goal

pub returns-in_err-judge_word : goal.returns-in_err-judge_word
returns-in_err-judge_word c =
    let p = err_from_is_err_and c.from_residual.result c.from_residual.ensures.1 in
    rw (p.1, p.2) (symbol_refused _ c.in_err-judge_word.ensures)

pub returns : goal.returns
returns c = symbol_good _ c.in_ok-judge_word.ensures c.pack.ensures
