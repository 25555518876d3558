-- `left_turned` puts the first place behind the others.
use native.Mathlib.Omega.{arith}
use Rattle.sequences.proofs.Building.{left_far, left_is}
use Rattle.sequences.proofs.orders.left_turned.Goals as goal

pub returns-then-p-eq4294967295 : goal.returns-then-p-eq4294967295
returns-then-p-eq4294967295 c = left_far c.if-n-eq0.false (omega arith)

pub returns : goal.returns
returns c = search left_is
