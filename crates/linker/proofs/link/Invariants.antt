-- `link` meets its contract.
use Rattle.linker.proofs.Walks.{Linking}
use Rattle.linker.proofs.link.Given as goal

abbrev pub invariant-loop-i : goal.invariant-loop-i
invariant-loop-i l = Linking l.initial.t l.total l.definitions l.count l.t l.i
