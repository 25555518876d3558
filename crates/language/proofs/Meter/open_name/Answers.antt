-- `Meter::open_name` takes one name, or finds none.
use native.Mathlib.Omega.{arith}
use Rattle.language.proofs.Charging.{name_refused, name_taken_lem}
use Rattle.language.proofs.Meter.open_name.Goals as goal

pub returns-then-names-eq0 : goal.returns-then-names-eq0
returns-then-names-eq0 c = name_refused c.args.self (omega arith)

pub returns : goal.returns
returns c = name_taken_lem c.args.self (omega arith)
