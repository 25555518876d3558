-- `cells::nth` stands for the object in place k: in the loop, p is the first cell of what follows the places counted.
use Rattle.cells.proofs.Places.{Walking}
use Rattle.cells.proofs.nth.Given as goal

abbrev pub invariant-loop : goal.invariant-loop
invariant-loop l = Walking l.c l.initial.p l.k l.p l.counter
