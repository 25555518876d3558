-- `length` answers as its word means.
use Rattle.std.proofs.lemmas.Result.{err_from_is_err_and}
use Rattle.primitives.proofs.Selected.{length_atom, length_is}
use Rattle.primitives.proofs.places.length.Goals as goal

pub returns-in_err-n : goal.returns-in_err-n
returns-in_err-n c =
    let p = err_from_is_err_and c.from_residual.result c.from_residual.ensures.1 in
    let h = c.in_err-n.ensures in
    rw (p.1, p.2, h.is) (search length_atom)

pub returns : goal.returns
returns c =
    let h = c.in_ok-n.ensures in
    search length_is
