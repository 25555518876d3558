-- `reverse` meets its contract.
use Rattle.linker.proofs.Walks.{Turning}
use Rattle.linker.proofs.reverse.Given as goal

abbrev pub invariant-loop : goal.invariant-loop
invariant-loop l = Turning l.initial.t l.start l.n l.t l.j l.before l.counter
