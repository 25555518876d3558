-- `trans` answers as its word means.
use Rattle.std.proofs.lemmas.Result.{err_from_is_err_and}
use Rattle.primitives.proofs.Transposed.{trans_atom, trans_none, trans_uneven, trans_short, trans_is}
use Rattle.primitives.proofs.transposing.trans.Goals as goal

pub returns-in_err-n : goal.returns-in_err-n
returns-in_err-n c =
    let p = err_from_is_err_and c.from_residual.result c.from_residual.ensures.1 in
    let h = c.in_err-n.ensures in
    rw (p.1, p.2, h.is) (search trans_atom)

pub returns-then-n-eq0 : goal.returns-then-n-eq0
returns-then-n-eq0 c =
    let h = c.in_ok-n.ensures in
    rw c.bottom.ensures (search trans_none)

pub returns-then-not-are_rows : goal.returns-then-not-are_rows
returns-then-not-are_rows c =
    let h = c.in_ok-n.ensures in
    rw c.bottom-then-not-are_rows.ensures (search trans_uneven)

pub returns-in_err-space : goal.returns-in_err-space
returns-in_err-space c =
    let h = c.in_ok-n.ensures in
    let p = err_from_is_err_and c.from_residual-in_err-space.result c.from_residual-in_err-space.ensures.1 in
    rw (p.1, p.2) (search (trans_short, c.in_err-space.ensures))

pub returns : goal.returns
returns c =
    let h = c.in_ok-n.ensures in
    search (trans_is, c.in_ok-space.ensures)
