-- `divide` gives the quotient, cut toward zero.
use Rattle.arithmetic.proofs.Signs.{divide_alike, divide_apart}
use Rattle.arithmetic.proofs.divide.Goals as goal

pub returns-then-a-b : goal.returns-then-a-b
returns-then-a-b c = search divide_alike

pub returns : goal.returns
returns c = search divide_apart
