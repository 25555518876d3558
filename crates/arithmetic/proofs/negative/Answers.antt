-- `negative` gives -n.
use Rattle.arithmetic.proofs.Signs.{negative_more, negative_zero}
use Rattle.arithmetic.proofs.negative.Goals as goal

pub returns-then-n-eq0 : goal.returns-then-n-eq0
returns-then-n-eq0 c = search negative_zero

pub returns : goal.returns
returns c = search negative_more
