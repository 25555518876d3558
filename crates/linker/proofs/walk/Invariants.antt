-- `walk` meets its contract.
use Rattle.linker.proofs.Walks.{Walking}
use Rattle.linker.proofs.walk.Given as goal

abbrev pub invariant-loop : goal.invariant-loop
invariant-loop l = Walking l.t l.start l.n l.j l.counter
