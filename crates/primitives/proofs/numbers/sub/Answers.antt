-- `sub` answers as its word means.
use Rattle.std.proofs.lemmas.Result.{err_from_is_err_and}
use Rattle.primitives.proofs.Numbered.{no_ints, on_sub, sub_end}
use Rattle.primitives.proofs.numbers.sub.Goals as goal

pub returns-in_err-both_integers : goal.returns-in_err-both_integers
returns-in_err-both_integers c =
    let p = err_from_is_err_and c.from_residual.result c.from_residual.ensures.1 in
    rw (p.1, p.2) (search (no_ints, on_sub, c.in_err-both_integers.ensures))

pub returns : goal.returns
returns c = search (sub_end, c.in_ok-both_integers.ensures)
