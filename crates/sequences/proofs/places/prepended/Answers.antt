-- `prepended` puts the first n places before the rest.
use native.Mathlib.Omega.{arith}
use Rattle.sequences.proofs.Prepending.{prepend_none, prepend_long, prepend_is}
use Rattle.sequences.proofs.places.prepended.Goals as goal

pub returns-then-n-eq0 : goal.returns-then-n-eq0
returns-then-n-eq0 c = search prepend_none

pub returns-in_default : goal.returns-in_default
returns-in_default c = prepend_long c.size.ensures c.in_default.ensures

pub returns : goal.returns
returns c = prepend_is c.if-n-eq0.false c.size.ensures c.copied-behind.ensures c.copied-behind.auto.c c.head-last.ensures c.low.ensures c.put_cell.ensures (grind arith) c.sequence.ensures
