-- `evaluate` meets its contract: what `name` ensures over the copied forms, with 4,096 places to wait in.
use Rattle.std.proofs.lemmas.Result.{err_from_is_err_and}
use Rattle.evaluator.proofs.Applies.{ran_spent, ran}
use Rattle.evaluator.proofs.run.evaluate.Goals as goal

pub returns-in_err-k : goal.returns-in_err-k
returns-in_err-k c =
    let p = err_from_is_err_and c.from_residual.result c.from_residual.ensures.1 in
    rw (p.1, p.2) (search (ran_spent, c.in_err-k.ensures))

pub returns : goal.returns
returns c = search (ran, c.in_ok-k.ensures)
