use native.Mathlib.Omega.{arith}
use borrow.Author.Rules.{rules}
use Rattle.sequences.proofs.Building.{turn_far, turn_start, turn_next, turn_end}
use Rattle.sequences.proofs.orders.turned.Goals as goal

pub returns-in_default : goal.returns-in_default
returns-in_default c = turn_far c.in_default.ensures

pub loop-free-init : goal.loop-free-init
loop-free-init c = turn_start (grind arith) (grind arith) (search rules)

pub loop-free-preserved : goal.loop-free-preserved
loop-free-preserved c = search turn_next

pub returns : goal.returns
returns c = search turn_end
