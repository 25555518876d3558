-- `shared` gives a pair for each place: all but those of the places ahead are made.
use Prim.Native.Nat.{◌-◌, ◌+◌}
use Rattle.sequences.proofs.Sharing.{Sharing}
use Rattle.sequences.proofs.pairs.shared.Given as goal

abbrev pub invariant-loop : goal.invariant-loop
invariant-loop l = Sharing l.initial.c l.a l.initial.ahead l.first l.n l.p l.c l.ahead (l.n + 1 - l.counter) l.free
