-- `pack` gives the word as a number, from its last byte to its first. The invariant: v is the number of the bytes behind those
-- that are still ahead. Assumes nothing.
use Rattle.packing.proofs.Packed.{PackedBehind}
use Rattle.packing.proofs.pack.Given as goal

abbrev pub invariant-loop-b : goal.invariant-loop-b
invariant-loop-b l = PackedBehind l.word l.b-iterator.iter.rest.now l.v
