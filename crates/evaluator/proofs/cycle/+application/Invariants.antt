-- The cycle of applications meets its contracts: one law for each return and each turn of a loop.
use Prim.Native.Nat.{◌+◌, ◌*◌}
use Rattle.evaluator.proofs.Chains.{Chaining}
use Rattle.evaluator.proofs.Builds.{Building, Mapping}
use Rattle.evaluator.proofs.Repeats.{Repeating}
use Rattle.evaluator.proofs.Inserts.{Inserting}
use Rattle.evaluator.proofs.cycle.+application.Given as goal

abbrev pub decreases-apply : goal.decreases-apply
decreases-apply l = 5 * l.m.steps + 1

abbrev pub decreases-ask : goal.decreases-ask
decreases-ask l = 5 * l.m.steps + 2

abbrev pub decreases-between : goal.decreases-between
decreases-between l = 5 * l.m.steps + 3

abbrev pub decreases-bu : goal.decreases-bu
decreases-bu l = 5 * l.m.steps + 4

abbrev pub decreases-chain : goal.decreases-chain
decreases-chain l = 5 * l.m.steps + 4

abbrev pub decreases-condition : goal.decreases-condition
decreases-condition l = 5 * l.m.steps + 4

abbrev pub decreases-construct : goal.decreases-construct
decreases-construct l = 5 * l.m.steps + 4

abbrev pub decreases-each : goal.decreases-each
decreases-each l = 5 * l.m.steps + 4

abbrev pub decreases-fold : goal.decreases-fold
decreases-fold l = 5 * l.m.steps + 2

abbrev pub decreases-insert : goal.decreases-insert
decreases-insert l = 5 * l.m.steps + 4

abbrev pub decreases-name : goal.decreases-name
decreases-name l = 5 * l.m.steps + 4

abbrev pub decreases-repeat : goal.decreases-repeat
decreases-repeat l = 5 * l.m.steps + 4

abbrev pub decreases-slot : goal.decreases-slot
decreases-slot l = 5 * l.m.steps + 2

abbrev pub decreases-step : goal.decreases-step
decreases-step l = 5 * l.steps

abbrev pub invariant-between-loop-q : goal.invariant-between-loop-q
invariant-between-loop-q l = Inserting l.f l.initial.c l.initial.w l.top l.g l.many l.initial.end.value l.initial.end.meter l.c l.w l.q l.end.value l.end.meter

abbrev pub decreases-between-loop-q : goal.decreases-between-loop-q
decreases-between-loop-q l = l.q

abbrev pub invariant-chain-loop-j : goal.invariant-chain-loop-j
invariant-chain-loop-j l = Chaining l.f l.initial.c l.initial.w l.top l.last l.initial.end.value l.initial.end.meter l.c l.w l.j l.end.value l.end.meter

abbrev pub decreases-chain-loop-j : goal.decreases-chain-loop-j
decreases-chain-loop-j l = l.end.meter.steps

abbrev pub invariant-construct-loop-q : goal.invariant-construct-loop-q
invariant-construct-loop-q l = Building l.f l.initial.c l.initial.w l.top l.h l.many l.v l.initial.n l.c l.w l.j l.q l.n

abbrev pub invariant-each-loop-q : goal.invariant-each-loop-q
invariant-each-loop-q l = Mapping l.f l.initial.c l.initial.w l.top l.g l.many l.initial.s l.initial.n l.c l.w l.s l.q l.n

abbrev pub invariant-repeat-loop-said : goal.invariant-repeat-loop-said
invariant-repeat-loop-said l = Repeating l.f l.initial.c l.initial.w l.top l.h l.initial.end.value l.initial.end.meter l.c l.w l.end.value l.end.meter

abbrev pub decreases-repeat-loop-said : goal.decreases-repeat-loop-said
decreases-repeat-loop-said l = l.end.meter.steps
