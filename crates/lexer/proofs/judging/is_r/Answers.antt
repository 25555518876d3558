-- `is_r` says whether an `r` and nothing more stands there. Assumes nothing.
use Rattle.std.proofs.Common.{rules, arith, ◌≤◌, length}
use Rattle.lexer.proofs.Judged.{r_long}
use Rattle.lexer.proofs.judging.is_r.Goals as goal

pub returns-in_default-2 : goal.returns-in_default-2
returns-in_default-2 c =
    let more : 2 ≤ length c.args.rest.now = search rules in
    r_long c.args.rest.now (λ e. omega (arith, e, more))
