-- `spread` lays the rows one after the other: all but those ahead are laid.
use Prim.Native.Nat.{◌-◌, ◌+◌}
use Rattle.sequences.proofs.Spreading.{Spreading}
use Rattle.sequences.proofs.rows.spread.Given as goal

abbrev pub invariant-loop : goal.invariant-loop
invariant-loop l = Spreading l.initial.c l.initial.ahead l.n l.w l.p l.c l.ahead (l.n + 1 - l.counter) l.free
