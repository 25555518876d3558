-- `select_right` answers as the selector kr means.
use Rattle.std.proofs.lemmas.Result.{err_from_is_err_and}
use Rattle.primitives.proofs.Selected.{right_none, right_is}
use Rattle.primitives.proofs.selectors.select_right.Goals as goal

pub returns-in_err-n : goal.returns-in_err-n
returns-in_err-n c =
    let p = err_from_is_err_and c.from_residual.result c.from_residual.ensures.1 in
    let h = c.in_err-n.ensures in
    rw (p.1, p.2, h.is) (right_none h.none)

pub returns : goal.returns
returns c = search (right_is, c.in_ok-n.ensures)
