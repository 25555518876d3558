-- `two_truths` reads two values that are T or F.
use Rattle.std.proofs.lemmas.Result.{err_from_is_err_and}
use Rattle.primitives.proofs.Judged.{truths_read, first_unread, second_unread}
use Rattle.primitives.proofs.truths.two_truths.Goals as goal

pub returns-in_err-x : goal.returns-in_err-x
returns-in_err-x c =
    let p = err_from_is_err_and c.from_residual.result c.from_residual.ensures.1 in
    let h = c.in_err-x.ensures in
    rw (p.1, p.2) (search first_unread)

pub returns-in_err-y : goal.returns-in_err-y
returns-in_err-y c =
    let p = err_from_is_err_and c.from_residual-in_err-y.result c.from_residual-in_err-y.ensures.1 in
    let h = c.in_err-y.ensures in
    rw (p.1, p.2) (search second_unread)

pub returns : goal.returns
returns c =
    let h = c.in_ok-x.ensures in
    let k = c.in_ok-y.ensures in
    search truths_read
