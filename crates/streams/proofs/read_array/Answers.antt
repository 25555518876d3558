-- What a slice was lent keeps its length.
use Rattle.std.proofs.Common.{arith}
use Rattle.streams.proofs.read_array.Goals as goal

pub returns : goal.returns
returns g c = omega arith
