-- What a comparison on cells answers: the definition's `look`, with a step for each pair of objects looked at.
use Rattle.std.specs.Prelude.{ℕ, ◌-◌, ◌≤◌, ◌<◌, ◌≡◌, cond, List, leb, Result, Ok, Err}
use Rattle.language.specs.Objects.{Obj, seq, Objs}
use Rattle.language.specs.Meanings.{Looked, look, look_along}
use Rattle.language.specs.declared.Meter.{Meter}
use Rattle.language.specs.declared.Val.{Val}
use Rattle.language.specs.declared.stops.Stop.TheVariants.{StepsSpent}
use Rattle.language.specs.declared.stops.Stopped.{Stopped}
use Rattle.language.specs.Charging.{stopped}
use Rattle.cells.specs.Cells.{Rep}
use Rattle.equality.specs.declared.Compared.{Compared}

-- n steps less
abbrev pub steps_taken : ℕ → Meter → Meter
steps_taken n m = record { steps = m.steps - n; names = m.names; cells = m.cells }

-- a step for each pair that was looked at; where fewer are left they are all taken
unfoldable pub compared_end : Looked → Meter → Result Compared Stopped
compared_end l m =
    cond (leb l.pairs m.steps)
    (Ok (record { same = l.same; meter = steps_taken l.pairs m }))
    (stopped StepsSpent (record { steps = 0; names = m.names; cells = m.cells }))

-- where no difference came
abbrev pub after : Result Compared Stopped → (Meter → Result Compared Stopped) → Result Compared Stopped
after (Ok c) k = cond c.same (k c.meter) (Ok c)
after (Err s) k = Err s

-- fewer steps are left, and as many names may open
pub record Fewer (k m : Meter) : Type 0 where
  pub steps : k.steps < m.steps
  pub names : k.names ≡ m.names

pub record MeterNoMore (k m : Meter) : Type 0 where
  pub steps : k.steps ≤ m.steps
  pub names : k.names ≡ m.names

abbrev pub ComparedFalls : Result Compared Stopped → Meter → Type 0
ComparedFalls (Ok c) m = Fewer c.meter m
ComparedFalls (Err s) m = Unit {0}

abbrev pub ComparedSinks : Result Compared Stopped → Meter → Type 0
ComparedSinks (Ok c) m = MeterNoMore c.meter m
ComparedSinks (Err s) m = Unit {0}

-- two objects are looked at
pub record Looks (C : List ℕ) (a b : Val) (m : Meter) (r : Result Compared Stopped) : Type 0 where
  pub falls : ComparedFalls r m
  pub means : (n : ℕ) (x y : Obj) → n < 4294967296 → Rep C n a x → Rep C n b y → r ≡ compared_end (look x y) m

-- the places of two sequences are looked at
pub record LooksAlong (C : List ℕ) (a b : Val) (m : Meter) (r : Result Compared Stopped) : Type 0 where
  pub sinks : ComparedSinks r m
  pub means : (n : ℕ) (xs ys : Objs) → n < 4294967296 → Rep C n a (seq xs) → Rep C n b (seq ys) → r ≡ compared_end (look_along xs ys) m
