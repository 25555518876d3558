-- Three line feeds, the last at the end, are three lines; all else is of another shape.
use native.Mathlib.Omega.{arith}
use Rattle.call_lines.proofs.Splits.{more_behind, cut_three}
use Rattle.call_lines.proofs.cutting.cut_lines.Goals as goal

pub returns-then-behind-gt0 : goal.returns-then-behind-gt0
returns-then-behind-gt0 c = more_behind c.in_ok-budgets.ensures c.in_ok-program.ensures c.in_ok-object.ensures (omega arith)

pub returns : goal.returns
returns c = cut_three c.in_ok-budgets.ensures c.in_ok-program.ensures c.in_ok-object.ensures (omega arith)
