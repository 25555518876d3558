-- The part that was lent is as long as was asked for.
use Rattle.std.proofs.Common.{ℕ, arith, length-take}
use Rattle.streams.proofs.read_exactly.Goals as goal

pub returns : goal.returns
returns g c = omega (arith, length-take {A = ℕ})
