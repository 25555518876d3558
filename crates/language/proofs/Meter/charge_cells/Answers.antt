-- `Meter::charge_cells` takes all cells that are asked for, or none.
use native.Mathlib.Omega.{arith}
use Rattle.language.proofs.Charging.{cells_refused, cells_taken_lem}
use Rattle.language.proofs.Meter.charge_cells.Goals as goal

pub returns-then-cells-n : goal.returns-then-cells-n
returns-then-cells-n c = cells_refused c.args.n c.args.self (omega arith)

pub returns : goal.returns
returns c = cells_taken_lem c.args.n c.args.self (omega arith)
