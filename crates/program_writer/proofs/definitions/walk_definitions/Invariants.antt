-- `walk_definitions` walks over the definitions. The invariant: the program's text is what was walked over and the text of the others.
-- The measure is the definitions left. Assumes nothing.
use Rattle.program_writer.specs.Walks.{Kept}
use Rattle.program_writer.proofs.Programs.{DefinitionsLeft}
use Rattle.program_writer.proofs.definitions.walk_definitions.Given as goal

abbrev pub invariant-loop-k : goal.invariant-loop-k
invariant-loop-k l = (Kept l.initial.w l.w) × (DefinitionsLeft l.t l.c l.d l.defs l.k l.i l.w.at l.initial.w.out.now l.w.out.now)
