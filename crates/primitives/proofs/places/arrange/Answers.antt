-- `arrange` answers as the word with the code means of a sequence.
use Rattle.std.proofs.lemmas.Result.{err_from_is_err_and}
use Rattle.primitives.proofs.Made.{order_atom, order_short, order_is}
use Rattle.primitives.proofs.places.arrange.Goals as goal

pub returns-in_err-n : goal.returns-in_err-n
returns-in_err-n c =
    let p = err_from_is_err_and c.from_residual.result c.from_residual.ensures.1 in
    let h = c.in_err-n.ensures in
    rw (p.1, p.2, h.is) (search order_atom)

pub returns-in_err-space : goal.returns-in_err-space
returns-in_err-space c =
    let h = c.in_ok-n.ensures in
    let p = err_from_is_err_and c.from_residual-in_err-space.result c.from_residual-in_err-space.ensures.1 in
    rw (p.1, p.2) (search (order_short, c.in_err-space.ensures))

pub returns : goal.returns
returns c =
    let h = c.in_ok-n.ensures in
    search (order_is, c.in_ok-space.ensures)
