-- `without_last` gives all places but the last.
use Rattle.sequences.proofs.Building.{last_less}
use Rattle.sequences.proofs.orders.without_last.Goals as goal

pub returns : goal.returns
returns c = search last_less
