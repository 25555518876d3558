-- `collect` meets its contract.
use Rattle.std.proofs.lemmas.Result.{err_from_is_err_and}
use Rattle.evaluator.proofs.Waits.{collect_full, collect_made}
use Rattle.evaluator.proofs.waiting.collect.Goals as goal

pub returns-in_err-meter : goal.returns-in_err-meter
returns-in_err-meter c =
    let p = err_from_is_err_and c.from_residual.result c.from_residual.ensures.1 in
    rw (p.1, p.2) (search (collect_full, c.in_err-meter.ensures))

pub returns : goal.returns
returns c = search (collect_made, c.in_ok-meter.ensures)
