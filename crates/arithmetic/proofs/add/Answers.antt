-- `add` gives the sum.
use Rattle.arithmetic.proofs.Signs.{add_alike, add_first, add_second}
use Rattle.arithmetic.proofs.add.Goals as goal

pub returns-then-a-b : goal.returns-then-a-b
returns-then-a-b c = rw c.from.ensures (search add_alike)

pub returns-then-a-eq-POSITIVE : goal.returns-then-a-eq-POSITIVE
returns-then-a-eq-POSITIVE c = search add_first

pub returns : goal.returns
returns c = search add_second
