-- What a meter grants: a step, cells, an open name. The evaluation and the meter's methods both say it by these three.
use Rattle.std.specs.Prelude.{ℕ, zero, suc, ◌+◌, ◌-◌, true, false, leb, Result, Ok, Err}
use Rattle.language.specs.declared.Meter.{Meter}
use Rattle.language.specs.declared.stops.Stop.{Stop}
use Rattle.language.specs.declared.stops.Stop.TheVariants.{StepsSpent, NamesSpent, CellsSpent}
use Rattle.language.specs.declared.stops.Stopped.{Stopped}

-- One step, if one is left: what follows is given the meter without it, or the meter as it was.
abbrev pub take_step : {A : Type 0} → Meter → (refused granted : Meter → A) → A
take_step m refused granted = elim m.steps [ zero ↦ refused m | suc s ↦ granted (record { steps = s; names = m.names; cells = m.cells }) ]

-- All cells at once: a refused request takes none.
abbrev pub cells_taken : ℕ → Meter → Meter
cells_taken n m = record { steps = m.steps; names = m.names; cells = m.cells - n }

abbrev pub take_cells : {A : Type 0} → ℕ → Meter → (refused granted : Meter → A) → A
take_cells n m refused granted = elim (leb n m.cells) [ true ↦ granted (cells_taken n m) | false ↦ refused m ]

abbrev pub with_names : ℕ → Meter → Meter
with_names d m = record { steps = m.steps; names = d; cells = m.cells }

-- One more open name, if one may open.
abbrev pub take_name : {A : Type 0} → Meter → (refused granted : Meter → A) → A
take_name m refused granted = elim m.names [ zero ↦ refused m | suc d ↦ granted (with_names d m) ]

-- The same as answers of the meter's methods: the meter with less, or why there is none, and the meter as it was.
abbrev pub stop_at : Stop → Meter → Stopped
stop_at w m = record { why = w; meter = m }

abbrev pub stopped : {A : Type 0} → Stop → Meter → Result A Stopped
stopped w m = Err (stop_at w m)

unfoldable pub step_charge : Meter → Result Meter Stopped
step_charge m = take_step m (stopped StepsSpent) Ok

unfoldable pub cells_charge : ℕ → Meter → Result Meter Stopped
cells_charge n m = take_cells n m (stopped CellsSpent) Ok

unfoldable pub name_charge : Meter → Result Meter Stopped
name_charge m = take_name m (stopped NamesSpent) Ok

-- One more name may open again.
abbrev pub name_given : Meter → Meter
name_given m = with_names (m.names + 1) m
