-- `right_turned` puts the last place before the others.
use native.Mathlib.Omega.{arith}
use Rattle.std.proofs.lemmas.Grind.{common_steps}
use Rattle.sequences.proofs.Building.{right_far, right_is}
use Rattle.sequences.proofs.orders.right_turned.Goals as goal

pub returns-then-is_none : goal.returns-then-is_none
returns-then-is_none c = right_far c.if-n-eq0.false (grind (arith, common_steps, c.checked_add.ensures))

pub returns : goal.returns
returns c = search right_is
