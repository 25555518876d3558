-- `program_marks` gives the most marks of the definitions. The invariant: those passed and those to come have the program's marks.
-- The measure is the definitions left. Assumes nothing.
use Rattle.program_writer.proofs.Programs.{MostLeft}
use Rattle.program_writer.proofs.definitions.program_marks.Given as goal

abbrev pub invariant-loop : goal.invariant-loop
invariant-loop l = MostLeft l.t l.c l.defs l.counter l.i l.most
