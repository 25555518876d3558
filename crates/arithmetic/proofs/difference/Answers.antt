-- `difference` gives x - y.
use Rattle.arithmetic.proofs.Signs.{difference_above, difference_below}
use Rattle.arithmetic.proofs.difference.Goals as goal

pub returns-then-x-y : goal.returns-then-x-y
returns-then-x-y c = search difference_below

pub returns : goal.returns
returns c = search difference_above
