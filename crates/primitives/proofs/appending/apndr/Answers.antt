-- `apndr` answers as its word means.
use Rattle.std.proofs.lemmas.Result.{err_from_is_err_and}
use Rattle.primitives.proofs.Made.{apndr_atom, apndr_short, apndr_is, low_next}
use Rattle.primitives.proofs.appending.apndr.Goals as goal

pub returns-in_err-n : goal.returns-in_err-n
returns-in_err-n c =
    let p = err_from_is_err_and c.from_residual.result c.from_residual.ensures.1 in
    let h = c.in_err-n.ensures in
    rw (p.1, p.2, h.is) (search apndr_atom)

pub overflow_add-space : goal.overflow_add-space
overflow_add-space c =
    let h = c.in_ok-n.ensures in
    record { fits = search (low_next, c.in_ok-space.ensures) }

pub returns-in_err-space : goal.returns-in_err-space
returns-in_err-space c =
    let h = c.in_ok-n.ensures in
    let p = err_from_is_err_and c.from_residual-in_err-space.result c.from_residual-in_err-space.ensures.1 in
    rw (p.1, p.2) (search (apndr_short, c.in_err-space.ensures))

pub returns : goal.returns
returns c =
    let h = c.in_ok-n.ensures in
    search (apndr_is, c.in_ok-space.ensures)
