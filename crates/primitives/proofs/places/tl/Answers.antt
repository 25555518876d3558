-- `tl` answers as its word means.
use Rattle.std.proofs.lemmas.Result.{err_from_is_err_and}
use Rattle.primitives.proofs.Selected.{tl_atom, tl_none, tl_is}
use Rattle.primitives.proofs.places.tl.Goals as goal

pub returns-in_err-n : goal.returns-in_err-n
returns-in_err-n c =
    let p = err_from_is_err_and c.from_residual.result c.from_residual.ensures.1 in
    let h = c.in_err-n.ensures in
    rw (p.1, p.2, h.is) (search tl_atom)

pub returns-then-n-eq0 : goal.returns-then-n-eq0
returns-then-n-eq0 c =
    let h = c.in_ok-n.ensures in
    rw c.bottom.ensures (search tl_none)

pub returns : goal.returns
returns c =
    let h = c.in_ok-n.ensures in
    search tl_is
