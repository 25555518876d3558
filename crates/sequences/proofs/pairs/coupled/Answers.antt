-- `coupled` makes a pair and its place.
use Rattle.sequences.proofs.Sharing.{couple_is}
use Rattle.sequences.proofs.pairs.coupled.Goals as goal

pub returns : goal.returns
returns c = search couple_is
