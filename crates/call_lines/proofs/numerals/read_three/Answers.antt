-- Three numerals are the budgets.
use Rattle.call_lines.proofs.Spelled.{no_first, no_second, no_third, all_three}
use Rattle.call_lines.proofs.numerals.read_three.Goals as goal

pub returns-in_err-steps : goal.returns-in_err-steps
returns-in_err-steps c = rw c.from_residual.ensures (search (no_first, c.in_err-steps.was))

pub returns-in_err-names : goal.returns-in_err-names
returns-in_err-names c = rw c.from_residual-in_err-names.ensures (search (no_second, c.in_ok-steps.was, c.in_err-names.was))

pub returns-in_err-cells : goal.returns-in_err-cells
returns-in_err-cells c = rw c.from_residual-in_err-cells.ensures (search (no_third, c.in_ok-steps.was, c.in_ok-names.was, c.in_err-cells.was))

pub returns : goal.returns
returns c = search (all_three, c.in_ok-steps.was, c.in_ok-names.was, c.in_ok-cells.was)
