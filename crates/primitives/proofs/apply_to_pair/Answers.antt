-- `apply_to_pair` answers as the word with the code means, bottom for what is no pair.
use Rattle.primitives.proofs.Dispatched.{pair_none, pair_both}
use Rattle.primitives.proofs.apply_to_pair.Goals as goal

pub returns-in-None : goal.returns-in-None
returns-in-None c = rw c.bottom.ensures (search (pair_none, c.in-None.ensures))

pub returns-in-Some : goal.returns-in-Some
returns-in-Some c = search (pair_both, c.in-Some.ensures)
