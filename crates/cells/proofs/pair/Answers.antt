-- `cells::pair` makes the pair of two objects in two new cells.
use native.Mathlib.Omega.{arith}
use Rattle.cells.proofs.Places.{pair_is}
use Rattle.cells.proofs.pair.Goals as goal

pub returns : goal.returns
returns c = pair_is (grind arith) c.put_cell.ensures c.put_cell-2.ensures c.sequence-2.ensures
