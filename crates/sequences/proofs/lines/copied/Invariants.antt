-- `copied` lays the first n places in a line: those before place q are there.
use Rattle.sequences.proofs.Copying.{Copying}
use Rattle.sequences.proofs.lines.copied.Given as goal

abbrev pub invariant-loop-q : goal.invariant-loop-q
invariant-loop-q l = Copying l.initial.c l.initial.ahead l.n l.p l.d l.c l.ahead l.q
