-- `Names::find` meets its contract: what is found along the links from here on is what is found from the first definition on.
use Rattle.linker.proofs.Naming.{Seeking}
use Rattle.linker.proofs.names.Names.find.Given as goal

abbrev pub invariant-loop-left : goal.invariant-loop-left
invariant-loop-left l = Seeking l.self.definitions.now l.self.count l.lo l.hi l.left

abbrev pub decreases-loop-left : goal.decreases-loop-left
decreases-loop-left l = l.left
