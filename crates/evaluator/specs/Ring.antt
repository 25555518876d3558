-- What an application leaves of the cells and of the ring of waiting values.
use Rattle.std.specs.Prelude.{ℕ, ◌+◌, ◌-◌, ◌≤◌, ◌≡◌, List, length, Ok, Err}
use Rattle.language.specs.Numbers.{cell_limit, cell_table_size}
use Rattle.language.specs.Objects.{Obj}
use Rattle.language.specs.Evaluation.{Out, value, bottom, spent, Spent}
use Rattle.language.specs.Stops.{stop_of}
use Rattle.language.specs.declared.Meter.{Meter}
use Rattle.language.specs.declared.Val.{Val}
use Rattle.cells.specs.Parts.{held_at}
use Rattle.language.specs.declared.stops.Stop.TheVariants.{Bottom}
use Rattle.language.specs.declared.stops.Stopped.{Stopped}
use Rattle.primitives.specs.declared.Reached.{Reached}
use Rattle.primitives.specs.Ends.{Ended, Made, Agree}

-- A waiting value at a distance d below the top is kept, unless with the cells that were made, a less b, it is more than 4,096:
-- then the construction or insert that it waits for can't complete.
pub record RingKept (W W' : List ℕ) (top a b : ℕ) : Type 0 where
  pub keep : (d : ℕ) → 1 ≤ d → d + a ≤ cell_limit + b → held_at W' (top + (cell_limit - d)) ≡ held_at W (top + (cell_limit - d))

-- a value: the cells and the waiting values that were there are kept
pub record Finished (C W : List ℕ) (top : ℕ) (m : Meter) (e : Out Obj) (v : Val) (m' : Meter) (C' W' : List ℕ) : Type 0 where
  pub obj : Obj
  pub is : e ≡ value obj m'
  pub made : Made C m obj v m' C'
  pub ring : length W' ≡ cell_table_size cell_limit
  pub kept : RingKept W W' top m.cells m'.cells

-- bottom or a spent budget, with the same steps and cells left
pub data Stops {A : Type 0} (e : Out A) (s : Stopped) : Type 0 where
  fell : {m : Meter} → e ≡ bottom m → s.why ≡ Bottom → Agree m s.meter → Stops e s
  ran_out : {w : Spent} {m : Meter} → e ≡ spent w m → s.why ≡ stop_of w → Agree m s.meter → Stops e s

pub data Ends (C W : List ℕ) (top : ℕ) (m : Meter) (e : Out Obj) (C' W' : List ℕ) : Ended → Type 0 where
  ends_done : {r : Reached} → Finished C W top m e r.value r.meter C' W' → Ends C W top m e C' W' (Ok r)
  ends_stop : {s : Stopped} → Stops e s → Ends C W top m e C' W' (Err s)
