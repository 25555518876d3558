-- `read_definitions` reads definitions up to the text's end. The loop's invariant: what it has read so far, and where it stands. Assumes nothing.
use Prim.Native.Nat.{◌-◌}
use lib.ListN.{length}
use Rattle.programs.proofs.Defining.{Defining}
use Rattle.programs.proofs.definitions.read_definitions.Given as goal

abbrev pub invariant-loop-upto : goal.invariant-loop-upto
invariant-loop-upto l = Defining l.s l.initial.t l.initial.c l.initial.d l.upto.next l.upto.forms l.upto.cells l.k l.t l.c l.d

abbrev pub decreases-loop-upto : goal.decreases-loop-upto
decreases-loop-upto l = length l.s - l.upto.next
