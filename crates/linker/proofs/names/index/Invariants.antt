-- `index` meets its contract: the definitions from d on are in the index.
use Rattle.linker.proofs.Naming.{Indexing}
use Rattle.linker.proofs.names.index.Given as goal

abbrev pub invariant-loop-d : goal.invariant-loop-d
invariant-loop-d l = Indexing l.definitions l.count l.links l.d
