-- `same` and `places` look as the definition does; the measure is twice the steps left, and one more for places.
use Prim.Native.Nat.{◌+◌, ◌*◌}
use Rattle.equality.proofs.Comparisons.{Placing}
use Rattle.equality.proofs.+comparison.Given as goal

abbrev pub decreases-places : goal.decreases-places
decreases-places l = 2 * l.m.steps + 1

abbrev pub decreases-same : goal.decreases-same
decreases-same l = 2 * l.m.steps

abbrev pub invariant-places-loop-p : goal.invariant-places-loop-p
invariant-places-loop-p l = Placing l.c l.initial.p l.initial.q l.initial.meter l.p l.q l.meter

abbrev pub decreases-places-loop-p : goal.decreases-places-loop-p
decreases-places-loop-p l = l.meter.steps
