-- `Meter::charge_step` takes one step, or finds none.
use native.Mathlib.Omega.{arith}
use Rattle.language.proofs.Charging.{step_refused, step_taken_lem}
use Rattle.language.proofs.Meter.charge_step.Goals as goal

pub returns-then-steps-eq0 : goal.returns-then-steps-eq0
returns-then-steps-eq0 c = step_refused c.args.self (omega arith)

pub returns : goal.returns
returns c = step_taken_lem c.args.self (omega arith)
