-- `cells::gather` makes the sequence of what waits, from its last object on: the invariant is `Gathering`.
use Rattle.cells.proofs.Places.{Gathering}
use Rattle.cells.proofs.gather.Given as goal

abbrev pub invariant-loop-left : goal.invariant-loop-left
invariant-loop-left l = Gathering l.initial.c l.w l.top l.n l.p l.c l.left l.link l.free
