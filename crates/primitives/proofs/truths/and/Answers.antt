-- `and` answers as its word means.
use Rattle.std.proofs.lemmas.Result.{err_from_is_err_and}
use Rattle.primitives.proofs.Judged.{no_truths, on_and, and_is}
use Rattle.primitives.proofs.truths.and.Goals as goal

pub returns-in_err-x : goal.returns-in_err-x
returns-in_err-x c =
    let p = err_from_is_err_and c.from_residual.result c.from_residual.ensures.1 in
    rw (p.1, p.2) (search (no_truths, on_and, c.in_err-x.ensures))

pub returns : goal.returns
returns c = search (and_is, c.in_ok-x.ensures)
