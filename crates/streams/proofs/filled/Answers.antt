-- An array of copies has as many places as copies.
use Rattle.std.proofs.Common.{arith}
use Rattle.std.proofs.lemmas.List.{length-replicate}
use Rattle.streams.proofs.filled.Goals as goal

pub returns : goal.returns
returns g c = omega (arith, length-replicate g.row.N c.args.value)
