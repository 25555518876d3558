-- `joined` gives the pair, with its first value on either side.
use Rattle.sequences.proofs.Sharing.{joined_first, joined_second}
use Rattle.sequences.proofs.pairs.joined.Goals as goal

pub returns-then-first : goal.returns-then-first
returns-then-first c = search joined_first

pub returns-else-first : goal.returns-else-first
returns-else-first c = search joined_second
