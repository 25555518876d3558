-- `positive` gives n.
use Rattle.arithmetic.proofs.Signs.{pos_is}
use Rattle.arithmetic.proofs.positive.Goals as goal

pub returns : goal.returns
returns c = search pos_is
