-- `turned` gives the places from the last to the first: what is ahead is turned onto what is made.
use Prim.Native.Nat.{◌-◌}
use Rattle.sequences.proofs.Building.{Turning}
use Rattle.sequences.proofs.orders.turned.Given as goal

abbrev pub invariant-loop-free : goal.invariant-loop-free
invariant-loop-free l = Turning l.initial.c l.initial.rest l.n l.p l.c l.rest l.made (l.end - l.free) l.free
