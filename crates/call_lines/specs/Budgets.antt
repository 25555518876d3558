-- What the readers of numerals and budgets answer, by the definitions.
use Rattle.std.specs.Prelude.{ℕ, ◌≡◌, true, false, List, Option, Some, None}
use Rattle.std.proofs.Math.Option as maybe
use Rattle.language.specs.Judging.{value_of}
use Rattle.language.specs.Fprun.{is_numeral, on_numeral, budgets_in}
use Rattle.language.specs.declared.Meter.{Meter}

pub data NumeralRead (ds : List ℕ) (r : Option ℕ) : Type 0 where
  a_numeral : is_numeral ds ≡ true → r ≡ Some (value_of ds) → NumeralRead ds r
  no_numeral : is_numeral ds ≡ false → r ≡ None → NumeralRead ds r

-- what was read, as the definitions have it
abbrev pub budgets_of : Option Meter → maybe.Option Meter
budgets_of (Some m) = maybe.some m
budgets_of None = maybe.none

-- the budgets that three numerals say
unfoldable pub three_in : List ℕ → List ℕ → List ℕ → maybe.Option Meter
three_in s n c = on_numeral s (λ steps. on_numeral n (λ names. on_numeral c (λ cells. maybe.some (record { steps = steps; names = names; cells = cells }))))

pub record ThreeRead (s n c : List ℕ) (r : Option Meter) : Type 0 where
  pub is : budgets_of r ≡ three_in s n c

-- the budgets of a line
pub record BudgetsRead (line : List ℕ) (r : Option Meter) : Type 0 where
  pub is : budgets_of r ≡ budgets_in line
