-- Asking for a word's cells: all at once, by the table's rule.
use Rattle.std.specs.Prelude.{ℕ, ◌≤◌, ◌<◌, ◌≡◌, List, Result, Ok, Err}
use Rattle.language.specs.Numbers.{cell_limit}
use Rattle.language.specs.Words.{Op, CellRule, entry, cells_by}
use Rattle.language.specs.Charging.{cells_taken, stop_at}
use Rattle.language.specs.declared.Meter.{Meter}
use Rattle.language.specs.declared.stops.Stop.TheVariants.{CellsSpent}
use Rattle.language.specs.declared.stops.Stopped.{Stopped}
use Rattle.cells.specs.Cells.{Room, free}
use Rattle.lexer.specs.Vocabulary.{op_code, rule_code}
use Rattle.primitives.specs.declared.Reserved.{Reserved}

pub record CellsAsked (rule n w r : ℕ) : Type 0 where
  pub means : (k : CellRule) → rule_code k ≡ rule → r ≡ cells_by k n w

-- the number, or the largest u32 where it is larger
pub record Clipped (x r : ℕ) : Type 0 where
  pub below : x < 4294967296 → r ≡ x
  pub above : 4294967296 ≤ x → r ≡ 4294967295

-- the cells begin at the free cell and the meter has so many fewer, or too few are left
pub data Reserves (C : List ℕ) (need : ℕ) (m : Meter) : Result Reserved Stopped → Type 0 where
  reserved : {t : Reserved} → t.first ≡ free C m → need ≤ m.cells → t.meter ≡ cells_taken need m → Reserves C need m (Ok t)
  too_few : {s : Stopped} → m.cells < need → s ≡ stop_at CellsSpent m → Reserves C need m (Err s)

pub record Kept (p : ℕ) (k m : Meter) : Type 0 where
  pub low : p ≤ cell_limit
  pub steps : k.steps ≡ m.steps
  pub names : k.names ≡ m.names

abbrev pub Keeps : Result Reserved Stopped → Meter → Type 0
Keeps (Ok t) m = Kept t.first t.meter m
Keeps (Err s) m = Unit {0}

pub record Reserving (C : List ℕ) (code n w : ℕ) (m : Meter) (r : Result Reserved Stopped) : Type 0 where
  pub keeps : Keeps r m
  pub means : (o : Op) → op_code o ≡ code → Room C m → Reserves C (cells_by (entry o).rule n w) m r
