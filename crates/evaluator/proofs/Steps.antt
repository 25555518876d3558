-- One part of a run after the other: what is kept, what is given next, and how an outcome carries on.
use Rattle.std.specs.Prelude.{Ok, Err}
use Rattle.language.specs.declared.stops.Stopped.{Stopped}
use Rattle.primitives.specs.declared.Reached.{Reached}
use Prim.Native.Nat.{ℕ, ◌+◌, ◌*◌, ◌≤◌, ◌<◌}
use native.Mathlib.Omega.{arith}
use mathlib.Core.Path.{◌≡◌, refl, sym, ap, subst, ◌∙◌}
use mathlib.Core.List.{List}
use lib.ListN.{length}
use Rattle.language.specs.Objects.{Obj, truth_of, is_T, is_F, neither}
use Rattle.language.specs.Evaluation.{Out, bottom, bind, close, decide}
use Rattle.language.specs.Charging.{step_charge, cells_charge, name_charge}
use Rattle.language.specs.declared.Meter.{Meter}
use Rattle.language.specs.declared.Val.{Val}
use Rattle.language.proofs.Charging.{Left, step_granted, cells_granted, name_granted}
use Rattle.cells.specs.Cells.{Rep, Same, Room, free}
use Rattle.cells.proofs.Reps.{same_refl, same_trans, rep_ext}
use Rattle.primitives.specs.Ends.{Ended, Agree, Gives, Sinks}
use Rattle.evaluator.specs.Ring.{RingKept, Finished, Stops, fell, ran_out, Ends, ends_done, ends_stop}
use Rattle.evaluator.specs.Applying.{Setting, Given, Applied, Falls}

-- what a part of a run leaves of what stood before
pub record Since (C W : List ℕ) (top : ℕ) (m : Meter) (C₁ W₁ : List ℕ) (m₁ : Meter) : Type 0 where
  pub same : Same C C₁ (free C m)
  pub fewer : m₁.cells ≤ m.cells
  pub long : length C₁ ≡ length C
  pub kept : RingKept W W₁ top m.cells m₁.cells

pub free_up : (C C₁ : List ℕ) (m m₁ : Meter) → m₁.cells ≤ m.cells → length C₁ ≡ length C → free C m ≤ free C₁ m₁
free_up C C₁ m m₁ l e = omega arith

pub kept_refl : (W : List ℕ) (top a b : ℕ) → RingKept W W top a b
kept_refl W top a b = record { keep = λ d h l. refl }

pub since_refl : (C W : List ℕ) (top : ℕ) (m : Meter) → Since C W top m C W m
since_refl C W top m = record { same = same_refl C (free C m); fewer = omega arith; long = refl; kept = kept_refl W top m.cells m.cells }

pub since_trans : {C W C₁ W₁ C₂ W₂ : List ℕ} {top : ℕ} {m m₁ m₂ : Meter} → Since C W top m C₁ W₁ m₁ → Since C₁ W₁ top m₁ C₂ W₂ m₂ → Since C W top m C₂ W₂ m₂
since_trans {C} {W} {C₁} {W₁} {C₂} {W₂} {top} {m} {m₁} {m₂} a b = record {
  same = same_trans (free_up C C₁ m m₁ a.fewer a.long) a.same b.same;
  fewer = omega (arith, a.fewer, b.fewer);
  long = b.long ∙ a.long;
  kept = record { keep = λ d h l. b.kept.keep d h (omega (arith, a.fewer, b.fewer)) ∙ a.kept.keep d h (omega (arith, a.fewer, b.fewer)) };
}

pub since : {C W C₁ W₁ : List ℕ} {top : ℕ} {v : Val} {m m₁ : Meter} {e : Out Obj} → Finished C W top m e v m₁ C₁ W₁ → Since C W top m C₁ W₁ m₁
since f = record { same = f.made.same; fewer = f.made.fewer; long = f.made.long; kept = f.kept }

-- a step moves no cell and no waiting value
pub since_step : (C W : List ℕ) (top : ℕ) {m k : Meter} → Left m k 1 0 0 → Since C W top m C W k
since_step C W top {m} {k} c = record { same = same_refl C (free C m); fewer = omega (arith, c.cells); long = refl; kept = kept_refl W top m.cells k.cells }

-- ---- outcomes
pub gave : {C W C₁ W₁ : List ℕ} {top : ℕ} {m : Meter} {e : Out Obj} {r : Reached} → Ends C W top m e C₁ W₁ (Ok r) → Finished C W top m e r.value r.meter C₁ W₁
gave (ends_done f) = f

pub gave_stop : {C W C₁ W₁ : List ℕ} {top : ℕ} {m : Meter} {e : Out Obj} {z : Stopped} → Ends C W top m e C₁ W₁ (Err z) → Stops e z
gave_stop (ends_stop f) = f

pub ends_since : {C W C₁ W₁ C₂ W₂ : List ℕ} {top : ℕ} {m m₁ : Meter} {e : Out Obj} {r : Ended} → Since C W top m C₁ W₁ m₁ → Ends C₁ W₁ top m₁ e C₂ W₂ r → Ends C W top m e C₂ W₂ r
ends_since s (ends_stop g) = ends_stop g
ends_since s (ends_done g) =
    let t = since_trans s (since g) in
    ends_done (record { obj = g.obj; is = g.is; made = record { rep = g.made.rep; same = t.same; room = g.made.room; fewer = t.fewer; long = t.long }; ring = g.ring; kept = t.kept })

pub ends_eq : {C W C₁ W₁ : List ℕ} {top : ℕ} {m : Meter} {e e' : Out Obj} {r : Ended} → e' ≡ e → Ends C W top m e C₁ W₁ r → Ends C W top m e' C₁ W₁ r
ends_eq {C} {W} {C₁} {W₁} {top} {m} {r = r} q g = subst (λ u. Ends C W top m u C₁ W₁ r) (sym q) g

pub gives_eq : {C C₁ : List ℕ} {m : Meter} {e e' : Out Obj} {r : Ended} → e' ≡ e → Gives C m C₁ e r → Gives C m C₁ e' r
gives_eq {C} {C₁} {m} {r = r} q g = subst (λ u. Gives C m C₁ u r) (sym q) g

pub stopped_eq : {A : Type 0} {e e' : Out A} {s : Stopped} → e' ≡ e → Stops e s → Stops e' s
stopped_eq q (fell e z a) = fell (q ∙ e) z a
stopped_eq q (ran_out e z a) = ran_out (q ∙ e) z a

pub stopped_bind : {A B : Type 0} {u : Out A} {s : Stopped} (k : A → Meter → Out B) → Stops u s → Stops (bind u k) s
stopped_bind k (fell e z a) = fell (ap (λ u. bind u k) e) z a
stopped_bind k (ran_out e z a) = ran_out (ap (λ u. bind u k) e) z a

agree_names : {m m' : Meter} (d : ℕ) → Agree m m' → Agree (record { steps = m.steps; names = d; cells = m.cells }) m'
agree_names d a = record { steps = a.steps; cells = a.cells }

pub stopped_close : {A : Type 0} {u : Out A} {s : Stopped} (d : ℕ) → Stops u s → Stops (close d u) s
stopped_close d (fell e z a) = fell (ap (λ u. close d u) e) z (agree_names d a)
stopped_close d (ran_out e z a) = ran_out (ap (λ u. close d u) e) z (agree_names d a)

-- ---- what is given next
pub given_next : {F C W C₁ W₁ : List ℕ} {S : Setting} {k top : ℕ} {v u : Val} {m m₁ : Meter} {x y : Obj} → Given F S k C W m v x → m₁.steps ≤ m.steps → Since C W top m C₁ W₁ m₁ → Room C₁ m₁ → length W₁ ≡ 16384 → Rep C₁ (free C₁ m₁) u y → Given F S k C₁ W₁ m₁ u y
given_next {C = C} {C₁ = C₁} {m = m} {m₁} g l s r w p =
    let z = free_up C C₁ m m₁ s.fewer s.long in
    record { defs = g.defs; still = same_trans g.low g.still s.same; low = omega (arith, g.low); room = r; ring = w; fuel = omega (arith, g.fuel); arg = p }

-- the argument again, after a part of the run
pub given_again : {F C W C₁ W₁ : List ℕ} {S : Setting} {k top : ℕ} {v u : Val} {m m₁ : Meter} {x : Obj} {e : Out Obj} → Given F S k C W m v x → m₁.steps < m.steps → Finished C W top m e u m₁ C₁ W₁ → Given F S k C₁ W₁ m₁ v x
given_again {C = C} {C₁ = C₁} {m = m} {m₁} g l f = given_next g (omega arith) (since f) f.made.room f.ring (rep_ext f.made.same (free_up C C₁ m m₁ f.made.fewer f.made.long) g.arg)

-- its value next
pub given_value : {F C W C₁ W₁ : List ℕ} {S : Setting} {k top : ℕ} {v u : Val} {m m₁ : Meter} {x : Obj} {e : Out Obj} → Given F S k C W m v x → m₁.steps < m.steps → (f : Finished C W top m e u m₁ C₁ W₁) → Given F S k C₁ W₁ m₁ u f.obj
given_value g l f = given_next g (omega arith) (since f) f.made.room f.ring f.made.rep

-- another ring
pub given_held : {F C W W₁ : List ℕ} {S : Setting} {k : ℕ} {v : Val} {m : Meter} {x : Obj} → Given F S k C W m v x → length W₁ ≡ 16384 → Given F S k C W₁ m v x
given_held g w = record { defs = g.defs; still = g.still; low = g.low; room = g.room; ring = w; fuel = g.fuel; arg = g.arg }

-- after a charge that takes no cell; k₁ is the fuel then
pub given_charged : {F C W : List ℕ} {S : Setting} {k : ℕ} {v : Val} {m m₁ : Meter} {x : Obj} (s d k₁ : ℕ) → Left m m₁ s d 0 → k ≡ k₁ + s → Given F S k C W m v x → Given F S k₁ C W m₁ v x
given_charged {C = C} {m = m} {m₁} s d k₁ c f g =
    let q : free C m₁ ≡ free C m = omega (arith, c.cells) in
    record { defs = g.defs; still = g.still; low = omega (arith, g.low); room = record { fits = omega (arith, c.cells, g.room.fits); small = g.room.small }; ring = g.ring; fuel = omega (arith, c.steps, g.fuel); arg = rw q g.arg }

-- a meter holds at most 4,096 cells
pub few_cells : {C : List ℕ} {m : Meter} → Room C m → (m.cells ≤ 4096) × (free C m < 4294967296)
few_cells r = (omega (arith, r.fits, r.small), omega (arith, r.fits, r.small))

-- ---- ends as they are known
pub sinks_after : (r : Ended) (m n : Meter) → Falls r n → (n.steps < m.steps) × (n.names ≡ m.names) → Sinks r m
sinks_after (Ok q) m n f l = (omega (arith, f.0, l.0), f.1 ∙ l.1)
sinks_after (Err q) m n f l = tt

pub sinks_le : (r : Ended) (m n : Meter) → Sinks r n → (n.steps ≤ m.steps) × (n.names ≡ m.names) → Sinks r m
sinks_le (Ok q) m n f l = (omega (arith, f.0, l.0), f.1 ∙ l.1)
sinks_le (Err q) m n f l = tt

-- ---- questions
module _ (b : Obj) (m : Meter) (on_T on_F : Meter → Out Obj) where
  pub decide_true : truth_of b ≡ is_T → decide b m on_T on_F ≡ on_T m
  decide_true e = ap (λ t. elim t [ is_T ↦ on_T m | is_F ↦ on_F m | neither ↦ bottom m ]) e

  pub decide_false : truth_of b ≡ is_F → decide b m on_T on_F ≡ on_F m
  decide_false e = ap (λ t. elim t [ is_T ↦ on_T m | is_F ↦ on_F m | neither ↦ bottom m ]) e

  pub decide_none : truth_of b ≡ neither → decide b m on_T on_F ≡ bottom m
  decide_none e = ap (λ t. elim t [ is_T ↦ on_T m | is_F ↦ on_F m | neither ↦ bottom m ]) e

-- ---- the measure falls: five times the steps, and 0 to 4 by how far a function is from `step`
pub below_step : (m k : Meter) (t : ℕ) → Ok k ≡ step_charge m → 5 * m.steps ≡ t → 5 * k.steps + 4 < t
below_step m k t a e = omega (arith, (step_granted m (sym a)).steps)

pub below_open : (m k : Meter) (t : ℕ) → Ok k ≡ name_charge m → 5 * m.steps + 4 ≡ t → 5 * k.steps + 1 < t
below_open m k t a e = omega (arith, (name_granted m (sym a)).steps)

pub below_taken : (m k : Meter) (t n r : ℕ) → 1 < r → Ok k ≡ cells_charge n m → 5 * m.steps + r ≡ t → 5 * k.steps + 1 < t
below_taken m k t n r z a e = omega (arith, (cells_granted n m (sym a)).steps)

pub fell_by : {F C W C₁ W₁ : List ℕ} {top i : ℕ} {v : Val} {m : Meter} {y : Reached} → Applied F C W top i v m (Ok y) C₁ W₁ → y.meter.steps < m.steps
fell_by a = a.falls.0
