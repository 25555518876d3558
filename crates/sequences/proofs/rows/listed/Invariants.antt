-- `listed` gives the sequence of sequences: its places from `left` on are made.
use Rattle.sequences.proofs.Listing.{Listing}
use Rattle.sequences.proofs.rows.listed.Given as goal

abbrev pub invariant-loop-left : goal.invariant-loop-left
invariant-loop-left l = Listing l.initial.c l.first l.n l.w l.p l.c l.s l.left l.free
