-- `is_integer` tells an integer by its tag and its size.
use Rattle.primitives.proofs.Shaped.{integer_no, integer_is}
use Rattle.primitives.proofs.shapes.is_integer.Goals as goal

pub returns-then-v-ge-SYMBOL : goal.returns-then-v-ge-SYMBOL
returns-then-v-ge-SYMBOL c = search integer_no

pub returns : goal.returns
returns c = search integer_is
