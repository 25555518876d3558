-- Why a run stops before it gives a value, as the code says it: its number in the answer table, and the stop of a spent budget.
use Rattle.std.specs.Prelude.{ℕ}
use Rattle.language.specs.Evaluation.{Spent, no_step, no_name, no_cell}
use Rattle.language.specs.declared.stops.Stop.{Stop}
use Rattle.language.specs.declared.stops.Stop.TheVariants.{Bottom, StepsSpent, NamesSpent, CellsSpent}

abbrev pub number_of_stop : Stop → ℕ
number_of_stop Bottom = 21
number_of_stop StepsSpent = 22
number_of_stop NamesSpent = 23
number_of_stop CellsSpent = 24

-- a spent budget as the reason of a stop
abbrev pub stop_of : Spent → Stop
stop_of no_step = StepsSpent
stop_of no_name = NamesSpent
stop_of no_cell = CellsSpent
