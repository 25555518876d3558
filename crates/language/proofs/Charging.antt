-- Asking for a step, for cells or for a name is going on by what the meter's method answers; each charge says what is left.
use Prim.Native.Nat.{ℕ, zero, suc, ◌+◌, ◌-◌, ◌≤◌, ◌<◌}
use mathlib.Core.Path.{◌≡◌, refl, sym, ap, ◌∙◌}
use mathlib.Core.Bool.{Bool, true, false, cond}
use native.Mathlib.Omega.{arith}
use lib.Dec.{eqb, leb}
use Rattle.std.specs.Prelude.{Result, Ok, Err}
use borrow.Author.Tests.{leb-true, leb-false, eqb-true, eqb-false, le-leb, lt-leb, eq-eqb, ne_eqb}
use Rattle.language.specs.Evaluation.{Out, spent, close, no_step, no_name, no_cell, ask_step, ask_cells, ask_name}
use Rattle.language.specs.Evaluation.{Spent as Budget}
use Rattle.language.specs.Charging.{take_step, take_cells, take_name, stop_at, stopped, step_charge, cells_charge, name_charge, name_given, cells_taken, with_names}
use Rattle.language.specs.declared.Meter.{Meter}
use Rattle.language.specs.declared.stops.Stop.{Stop}
use Rattle.language.specs.declared.stops.Stop.TheVariants.{StepsSpent, NamesSpent, CellsSpent}
use Rattle.language.specs.declared.stops.Stopped.{Stopped}

pub meter_same : (m k : Meter) → m.steps ≡ k.steps → m.names ≡ k.names → m.cells ≡ k.cells → m ≡ k
meter_same m k e f g = λ i. record { steps = e i; names = f i; cells = g i }

-- what follows goes on with the meter that is left, or the budget w is spent
abbrev pub on_charge : {A : Type 0} → Result Meter Stopped → Budget → (Meter → Out A) → Out A
on_charge (Ok m) w k = k m
on_charge (Err s) w k = spent w s.meter

pub step_asked : {A : Type 0} (m : Meter) (k : Meter → Out A) → ask_step m k ≡ on_charge (step_charge m) no_step k
unfolding step_charge
step_asked m k = go m.steps refl
  where
    go : (s : ℕ) → m.steps ≡ s → ask_step m k ≡ on_charge (take_step m (stopped StepsSpent) Ok) no_step k
    go zero e = rw e
    go (suc s) e = rw e

pub cells_asked : {A : Type 0} (n : ℕ) (m : Meter) (k : Meter → Out A) → ask_cells n m k ≡ on_charge (cells_charge n m) no_cell k
unfolding cells_charge
cells_asked n m k = go (leb n m.cells) refl
  where
    go : (b : Bool) → leb n m.cells ≡ b → ask_cells n m k ≡ on_charge (take_cells n m (stopped CellsSpent) Ok) no_cell k
    go true e = rw (e, take_cells)
    go false e = rw (e, take_cells)

pub name_asked : {A : Type 0} (m : Meter) (k : Meter → Out A) → ask_name m k ≡ on_charge (name_charge m) no_name (λ m₁. close m.names (k m₁))
unfolding name_charge
name_asked m k = go m.names refl
  where
    go : (s : ℕ) → m.names ≡ s → ask_name m k ≡ on_charge (take_name m (stopped NamesSpent) Ok) no_name (λ m₁. close m.names (k m₁))
    go zero e = rw e
    go (suc s) e = rw e

-- Where as many names are open as after the name was taken, giving one back is the close.
pub name_given_lem : (d : ℕ) (m : Meter) → m.names + 1 ≡ d → name_given m ≡ with_names d m
name_given_lem d m e = rw e

-- What is left of m, where k is left, s steps, d names and c cells were taken.
pub record Left (m k : Meter) (s d c : ℕ) : Type 0 where
  pub steps : k.steps + s ≡ m.steps
  pub names : k.names + d ≡ m.names
  pub cells : k.cells + c ≡ m.cells

-- one step less; one name less may open
abbrev pub step_taken : Meter → Meter
step_taken m = record { steps = m.steps - 1; names = m.names; cells = m.cells }

abbrev pub name_taken : Meter → Meter
name_taken m = with_names (m.names - 1) m

-- Each charge by a test, as code asks.
less_one : (s : ℕ) → suc s - 1 ≡ s
less_one s = omega arith

pub step_tested : (m : Meter) → step_charge m ≡ cond (eqb m.steps 0) (stopped StepsSpent m) (Ok (step_taken m))
unfolding step_charge
step_tested m = go m.steps refl
  where
    go : (s : ℕ) → m.steps ≡ s → take_step m (stopped StepsSpent) Ok ≡ cond (eqb m.steps 0) (stopped StepsSpent m) (Ok (step_taken m))
    go zero e = rw e
    go (suc s) e = rw (e, ne_eqb (suc s) 0 (λ h. omega arith), less_one s)

pub cells_tested : (n : ℕ) (m : Meter) → cells_charge n m ≡ cond (leb n m.cells) (Ok (cells_taken n m)) (stopped CellsSpent m)
unfolding cells_charge
cells_tested n m = go (leb n m.cells) refl
  where
    go : (b : Bool) → leb n m.cells ≡ b → take_cells n m (stopped CellsSpent) Ok ≡ cond (leb n m.cells) (Ok (cells_taken n m)) (stopped CellsSpent m)
    go true e = rw (e, take_cells)
    go false e = rw (e, take_cells)

pub name_tested : (m : Meter) → name_charge m ≡ cond (eqb m.names 0) (stopped NamesSpent m) (Ok (name_taken m))
unfolding name_charge
name_tested m = go m.names refl
  where
    go : (s : ℕ) → m.names ≡ s → take_name m (stopped NamesSpent) Ok ≡ cond (eqb m.names 0) (stopped NamesSpent m) (Ok (name_taken m))
    go zero e = rw e
    go (suc s) e = rw (e, ne_eqb (suc s) 0 (λ h. omega arith), less_one s)

-- why there is no charge
abbrev stop_in : (z : Stopped) → Result Meter Stopped → Stopped
stop_in z (Ok m) = z
stop_in z (Err s) = s

-- a test that grants in its first or in its second case
granted_then : (b : Bool) (w : Stop) (m t : Meter) {k : Meter} → cond b (Ok t) (stopped w m) ≡ Ok k → (b ≡ true) × (t ≡ k)
granted_then true w m t e = (refl, cc)
granted_then false w m t e = let z : ◌≡◌ {A = ℕ} 0 1 = cc in absurd (omega arith)

granted_else : (b : Bool) (w : Stop) (m t : Meter) {k : Meter} → cond b (stopped w m) (Ok t) ≡ Ok k → (b ≡ false) × (t ≡ k)
granted_else true w m t e = let z : ◌≡◌ {A = ℕ} 0 1 = cc in absurd (omega arith)
granted_else false w m t e = (refl, cc)

spent_then : (b : Bool) (w : Stop) (m t : Meter) {s : Stopped} → cond b (stopped w m) (Ok t) ≡ Err s → (b ≡ true) × (stop_at w m ≡ s)
spent_then true w m t {s} e = (refl, ap (stop_in s) e)
spent_then false w m t e = let z : ◌≡◌ {A = ℕ} 0 1 = cc in absurd (omega arith)

spent_else : (b : Bool) (w : Stop) (m t : Meter) {s : Stopped} → cond b (Ok t) (stopped w m) ≡ Err s → (b ≡ false) × (stop_at w m ≡ s)
spent_else true w m t e = let z : ◌≡◌ {A = ℕ} 0 1 = cc in absurd (omega arith)
spent_else false w m t {s} e = (refl, ap (stop_in s) e)

pos_of : (n : ℕ) → (n ≡ 0 → ⊥) → n - 1 + 1 ≡ n
pos_of n h = omega (arith, h)

-- What each method answers in its two cases.
pub step_refused : (m : Meter) → m.steps ≡ 0 → stopped StepsSpent m ≡ step_charge m
step_refused m h = rw (step_tested m, eq-eqb m.steps 0 h)

pub step_taken_lem : (m : Meter) → 1 ≤ m.steps → Ok (step_taken m) ≡ step_charge m
step_taken_lem m h = rw (step_tested m, ne_eqb m.steps 0 (λ e. omega arith))

pub cells_refused : (n : ℕ) (m : Meter) → m.cells < n → stopped CellsSpent m ≡ cells_charge n m
cells_refused n m h = rw (cells_tested n m, lt-leb n m.cells h)

pub cells_taken_lem : (n : ℕ) (m : Meter) → n ≤ m.cells → Ok (cells_taken n m) ≡ cells_charge n m
cells_taken_lem n m h = rw (cells_tested n m, le-leb n m.cells h)

pub name_refused : (m : Meter) → m.names ≡ 0 → stopped NamesSpent m ≡ name_charge m
name_refused m h = rw (name_tested m, eq-eqb m.names 0 h)

pub name_taken_lem : (m : Meter) → 1 ≤ m.names → Ok (name_taken m) ≡ name_charge m
name_taken_lem m h = rw (name_tested m, ne_eqb m.names 0 (λ e. omega arith))

pub step_granted : (m : Meter) {k : Meter} → step_charge m ≡ Ok k → Left m k 1 0 0
step_granted m e =
    let g = granted_else (eqb m.steps 0) StepsSpent m (step_taken m) (sym (step_tested m) ∙ e) in
    record { steps = rw (← g.1) (pos_of m.steps (eqb-false m.steps 0 g.0)); names = rw (← g.1) (omega arith); cells = rw (← g.1) (omega arith) }

pub cells_granted : (n : ℕ) (m : Meter) {k : Meter} → cells_charge n m ≡ Ok k → Left m k 0 0 n
cells_granted n m e =
    let g = granted_then (leb n m.cells) CellsSpent m (cells_taken n m) (sym (cells_tested n m) ∙ e) in
    let l = leb-true n m.cells g.0 in
    record { steps = rw (← g.1) (omega arith); names = rw (← g.1) (omega arith); cells = rw (← g.1) (omega arith) }

pub name_granted : (m : Meter) {k : Meter} → name_charge m ≡ Ok k → Left m k 0 1 0
name_granted m e =
    let g = granted_else (eqb m.names 0) NamesSpent m (name_taken m) (sym (name_tested m) ∙ e) in
    record { steps = rw (← g.1) (omega arith); names = rw (← g.1) (pos_of m.names (eqb-false m.names 0 g.0)); cells = rw (← g.1) (omega arith) }

pub step_spent : (m : Meter) {s : Stopped} → step_charge m ≡ Err s → (m.steps ≡ 0) × (stop_at StepsSpent m ≡ s)
step_spent m e = let g = spent_then (eqb m.steps 0) StepsSpent m (step_taken m) (sym (step_tested m) ∙ e) in (eqb-true m.steps 0 g.0, g.1)

pub cells_spent : (n : ℕ) (m : Meter) {s : Stopped} → cells_charge n m ≡ Err s → (m.cells < n) × (stop_at CellsSpent m ≡ s)
cells_spent n m e = let g = spent_else (leb n m.cells) CellsSpent m (cells_taken n m) (sym (cells_tested n m) ∙ e) in (leb-false n m.cells g.0, g.1)

pub name_spent : (m : Meter) {s : Stopped} → name_charge m ≡ Err s → (m.names ≡ 0) × (stop_at NamesSpent m ≡ s)
name_spent m e = let g = spent_then (eqb m.names 0) NamesSpent m (name_taken m) (sym (name_tested m) ∙ e) in (eqb-true m.names 0 g.0, g.1)
