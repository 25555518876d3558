-- `eq` answers as its word means, a step for each pair looked at.
use Rattle.std.proofs.lemmas.Result.{err_from_is_err_and}
use Rattle.primitives.proofs.Judged.{eq_is, eq_out}
use Rattle.primitives.proofs.truths.eq.Goals as goal

pub returns-in_err-seen : goal.returns-in_err-seen
returns-in_err-seen c =
    let p = err_from_is_err_and c.from_residual.result c.from_residual.ensures.1 in
    rw (p.1, p.2) (search (eq_out, c.in_err-seen.ensures))

pub returns : goal.returns
returns c = search (eq_is, c.in_ok-seen.ensures)
