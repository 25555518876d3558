-- A line with two spaces has three pieces.
use Rattle.call_lines.proofs.Spelled.{many_spaces, two_spaces}
use Rattle.call_lines.proofs.numerals.read_budgets.Goals as goal

pub returns-then-is_some : goal.returns-then-is_some
returns-then-is_some c = many_spaces c.cut-3.result c.in_ok-first.ensures c.in_ok-second.ensures c.cut-3.ensures c.is_some.ensures c.if-is_some.true

pub returns : goal.returns
returns c = two_spaces c.cut-3.result c.in_ok-first.ensures c.in_ok-second.ensures c.cut-3.ensures c.is_some.ensures c.if-is_some.false c.read_three.ensures
