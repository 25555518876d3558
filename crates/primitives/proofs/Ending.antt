-- Ends of words: bottom takes nothing, a word without cells keeps the meter, cells are taken at once or the run stops.
use Rattle.language.specs.declared.stops.Stop.TheVariants.{Bottom, CellsSpent}
use Rattle.language.specs.declared.stops.Stopped.{Stopped}
use Prim.Native.Nat.{ℕ, ◌+◌, ◌-◌, ◌≤◌, ◌<◌}
use mathlib.Core.Path.{◌≡◌, refl, ap, ◌∙◌}
use mathlib.Core.List.{List}
use native.Mathlib.Omega.{arith}
use lib.ListN.{length}
use borrow.Author.Tests.{le-leb, lt-leb}
use Rattle.language.specs.Objects.{Obj}
use Rattle.language.specs.Forms.{Word}
use Rattle.language.specs.Numbers.{one}
use Rattle.language.specs.Meanings.{WordAnswer, falls, gives, meaning, pair}
use Rattle.language.specs.Evaluation.{value, spent, no_cell, ask_steps, ask_cells, charged}
use Rattle.language.specs.Charging.{stop_at, stopped, take_cells, cells_taken}
use Rattle.language.specs.declared.Meter.{Meter}
use Rattle.language.specs.declared.Val.{Val}
use Rattle.std.specs.Prelude.{Err}
use Rattle.language.proofs.Charging.{meter_same}
use Rattle.cells.specs.Cells.{Rep, Same, Room, free}
use Rattle.cells.proofs.Reps.{same_refl}
use Rattle.primitives.specs.Ends.{reached, Agree, Gives, gives_value, gives_bottom, gives_spent, Leaf}
use Rattle.primitives.specs.Leaves.{LeafTwo}

pub agree_self : (m : Meter) → Agree m m
agree_self m = record { steps = refl; cells = refl }

-- a table has at most 4,096 cells
pub free_low : (C : List ℕ) (m : Meter) → Room C m → free C m ≤ 4096
free_low C m r = omega (arith, r.small)

pub free_under : (C : List ℕ) (m : Meter) → Room C m → free C m < 4294967296
free_under C m r = omega (arith, free_low C m r)

-- ---- what is charged where no steps are asked for
charged_any : (n : ℕ) (y : Obj) (m : Meter) → charged (gives 0 n y) m ≡ ask_cells n m (λ m₂. value y m₂)
charged_any n y m =
    let e : ◌≡◌ {A = Meter} (record { steps = m.steps - 0; names = m.names; cells = m.cells }) m = meter_same (record { steps = m.steps - 0; names = m.names; cells = m.cells }) m (omega arith) refl refl in
    rw (le-leb 0 m.steps (omega arith), ask_steps, e)

pub charged_granted : (n : ℕ) (y : Obj) (m : Meter) → n ≤ m.cells → charged (gives 0 n y) m ≡ value y (cells_taken n m)
charged_granted n y m h = charged_any n y m ∙ rw (le-leb n m.cells h, take_cells)

pub charged_short : (n : ℕ) (y : Obj) (m : Meter) → m.cells < n → charged (gives 0 n y) m ≡ spent no_cell m
charged_short n y m h = charged_any n y m ∙ rw (lt-leb n m.cells h, take_cells)

pub charged_plain : (y : Obj) (m : Meter) → charged (gives 0 0 y) m ≡ value y m
charged_plain y m =
    let e : cells_taken 0 m ≡ m = meter_same (cells_taken 0 m) m refl refl (omega arith) in
    charged_granted 0 y m (omega arith) ∙ ap (λ (k : Meter). value y k) e

-- ---- bottom; a value without cells
pub end_falls : {C C' : List ℕ} {m : Meter} {a : WordAnswer} → a ≡ falls → Gives C m C' (charged a m) (stopped Bottom m)
end_falls {m = m} e = rw e (gives_bottom refl (agree_self m))

pub end_plain : {C : List ℕ} {m : Meter} {v : Val} {a : WordAnswer} (y : Obj) → Room C m → a ≡ gives 0 0 y → Rep C (free C m) v y → Gives C m C (charged a m) (reached v m)
end_plain {C} {m} {v} y o e r =
    rw (e, charged_plain y m) (gives_value (record { rep = r; same = same_refl C (free C m); room = o; fewer = omega arith; long = refl }))

pub leaf_falls : {C C' : List ℕ} {v : Val} {m : Meter} {w : Word} → ((x : Obj) → Room C m → Rep C (free C m) v x → meaning one w x ≡ falls) → Leaf C v m w (stopped Bottom m) C'
leaf_falls h = record { sinks = tt; means = λ x o r. end_falls (h x o r) }

pub two_falls : {C C' : List ℕ} {a b : Val} {m : Meter} {w : Word} → ((x y : Obj) → Room C m → Rep C (free C m) a x → Rep C (free C m) b y → meaning one w (pair x y) ≡ falls) → LeafTwo C a b m w (stopped Bottom m) C'
two_falls h = record { sinks = tt; means = λ x y o ra rb. end_falls (h x y o ra rb) }

-- ---- cells: n of them from the free cell on
pub end_cells : {C C' : List ℕ} {m k : Meter} {v : Val} {a : WordAnswer} (n : ℕ) (y : Obj) → Room C m → a ≡ gives 0 n y → n ≤ m.cells → k ≡ cells_taken n m → length C' ≡ length C → Rep C' (free C m + n) v y → Same C C' (free C m) → Gives C m C' (charged a m) (reached v k)
end_cells {C} {C'} {m} {k} {v} n y o e h f l r s =
    let i : free C' (cells_taken n m) ≡ free C m + n = omega (arith, o.fits) in
    rw (e, f, charged_granted n y m h) (gives_value {x = y} {r = record { value = v; meter = cells_taken n m }} (record { rep = rw i r; same = s; room = record { fits = omega (arith, o.fits); small = omega (arith, o.small) }; fewer = omega arith; long = l }))

pub end_short : {C C' : List ℕ} {m : Meter} {s : Stopped} {a : WordAnswer} (n : ℕ) (y : Obj) → a ≡ gives 0 n y → m.cells < n → s ≡ stop_at CellsSpent m → Gives C m C' (charged a m) (Err s)
end_short {m = m} n y e h f = rw (e, f, charged_short n y m h) (gives_spent refl (agree_self m))
