-- `are_rows` tells whether all places are rows: those that were passed are.
use Prim.Native.Nat.{◌-◌}
use Rattle.sequences.proofs.Transposing.{Checking}
use Rattle.sequences.proofs.rows.are_rows.Given as goal

abbrev pub invariant-loop : goal.invariant-loop
invariant-loop l = Checking l.c l.initial.p l.n l.w l.p (l.n - l.counter)
