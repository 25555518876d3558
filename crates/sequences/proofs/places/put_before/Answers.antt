-- `put_before` puts one place before a sequence.
use native.Mathlib.Omega.{arith}
use Rattle.sequences.proofs.Building.{before_long, before_is}
use Rattle.sequences.proofs.places.put_before.Goals as goal

pub returns-in_default-checked_add : goal.returns-in_default-checked_add
returns-in_default-checked_add c = before_long c.size.ensures c.in_default-checked_add.ensures

pub returns : goal.returns
returns c = before_is c.size.ensures c.low.ensures c.put_cell.ensures (grind arith) (grind arith) c.sequence.ensures
