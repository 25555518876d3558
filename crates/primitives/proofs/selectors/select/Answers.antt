-- `select` answers as the selector k means.
use Rattle.std.proofs.lemmas.Result.{err_from_is_err_and}
use Rattle.primitives.proofs.Selected.{select_none, select_is}
use Rattle.primitives.proofs.selectors.select.Goals as goal

pub returns-in_err-places_to : goal.returns-in_err-places_to
returns-in_err-places_to c =
    let p = err_from_is_err_and c.from_residual.result c.from_residual.ensures.1 in
    let h = c.in_err-places_to.ensures in
    rw (p.1, p.2, h.is) (select_none h.none)

pub returns : goal.returns
returns c = search (select_is, c.in_ok-places_to.ensures)
