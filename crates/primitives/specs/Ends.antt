-- How an application on cells ends, and what its end says of the definition's outcome.
use Rattle.std.specs.Prelude.{ℕ, ◌≤◌, ◌≡◌, List, length, Result, Ok, Err}
use Rattle.language.specs.Objects.{Obj}
use Rattle.language.specs.Forms.{Word}
use Rattle.language.specs.Numbers.{one}
use Rattle.language.specs.Meanings.{meaning}
use Rattle.language.specs.Evaluation.{Out, value, bottom, spent, Spent, charged}
use Rattle.language.specs.Stops.{stop_of}
use Rattle.language.specs.declared.Meter.{Meter}
use Rattle.language.specs.declared.Val.{Val}
use Rattle.cells.specs.Cells.{Rep, Same, Room, free}
use Rattle.language.specs.declared.stops.Stop.TheVariants.{Bottom}
use Rattle.language.specs.declared.stops.Stopped.{Stopped}
use Rattle.primitives.specs.declared.Reached.{Reached}

-- an application's end: a value, or why there is none, with what is left of the budgets
abbrev pub Ended : Type 0
Ended = Result Reached Stopped

abbrev pub reached : Val → Meter → Ended
reached v m = Ok (record { value = v; meter = m })

-- C' holds what C held, and in it the value v stands for x
pub record Made (C : List ℕ) (m : Meter) (x : Obj) (v : Val) (m' : Meter) (C' : List ℕ) : Type 0 where
  pub rep : Rep C' (free C' m') v x
  pub same : Same C C' (free C m)
  pub room : Room C' m'
  pub fewer : m'.cells ≤ m.cells
  pub long : length C' ≡ length C

-- The same steps and cells are left. The names that are open do not matter any more where a run stops.
pub record Agree (m m' : Meter) : Type 0 where
  pub steps : m'.steps ≡ m.steps
  pub cells : m'.cells ≡ m.cells

-- what an end with the cells C' says, where the application began with the cells C and the meter m
pub data Gives (C : List ℕ) (m : Meter) (C' : List ℕ) : Out Obj → Ended → Type 0 where
  gives_value : {x : Obj} {r : Reached} → Made C m x r.value r.meter C' → Gives C m C' (value x r.meter) (Ok r)
  gives_bottom : {s : Stopped} {m' : Meter} → s.why ≡ Bottom → Agree m' s.meter → Gives C m C' (bottom m') (Err s)
  gives_spent : {w : Spent} {s : Stopped} {m' : Meter} → s.why ≡ stop_of w → Agree m' s.meter → Gives C m C' (spent w m') (Err s)

-- the steps don't grow, and as many names are open as before
abbrev pub Sinks : Ended → Meter → Type 0
Sinks (Ok r) m = (r.meter.steps ≤ m.steps) × (r.meter.names ≡ m.names)
Sinks (Err s) m = Unit {0}

-- an application of the word w to the value v
pub record Leaf (C : List ℕ) (v : Val) (m : Meter) (w : Word) (r : Ended) (C' : List ℕ) : Type 0 where
  pub sinks : Sinks r m
  pub means : (x : Obj) → Room C m → Rep C (free C m) v x → Gives C m C' (charged (meaning one w x) m) r
