-- Pairs made for a form, `{f,x}` and one pair of an insert, in the tables against the definition.
use Rattle.std.specs.Prelude.{Result, Ok, Err}
use Rattle.language.specs.declared.stops.Stopped.{Stopped}
use Prim.Native.Nat.{ℕ, ◌+◌, ◌%◌}
use native.Mathlib.Omega.{arith}
use mathlib.Core.Path.{◌≡◌, sym, ap, ◌∙◌}
use mathlib.Core.List.{List}
use lib.ListN.{length}
use Rattle.language.specs.Objects.{Obj}
use Rattle.language.specs.Forms.{Form}
use Rattle.language.specs.Meanings.{pair}
use Rattle.language.specs.declared.Meter.{Meter}
use Rattle.language.specs.declared.Val.{Val}
use Rattle.primitives.specs.Ends.{Ended, Sinks}
use Rattle.evaluator.specs.Ring.{Stops, ran_out, Ends, ends_done, ends_stop}
use Rattle.language.specs.Evaluation.{Out, no_cell}
use Rattle.language.specs.Charging.{cells_charge}
use Rattle.language.proofs.Charging.{Left, cells_asked, cells_granted, cells_spent, on_charge}
use Rattle.cells.specs.Cells.{Rep, Same, free}
use Rattle.cells.specs.Parts.{held_at, Paired}
use Rattle.cells.proofs.Reps.{same_trans, rep_ext, free_is, free_room}
use Rattle.evaluator.specs.Applying.{Setting, by, Given, Applied, Falls, Spends, Bound, Folded, on_pair_of}
use Rattle.primitives.proofs.Ending.{agree_self}
use Rattle.evaluator.proofs.Steps.{Since, kept_refl, ends_since, ends_eq, few_cells}

-- what holds after two cells were taken for a pair
paired : {F C W C₁ : List ℕ} {S : Setting} {k p : ℕ} (top : ℕ) {v a b y : Val} {m m₁ : Meter} {x xa xb : Obj} → Given F S k C W m v x → p ≡ free C m % 4294967296 → cells_charge 2 m ≡ Ok m₁ → Rep C (free C m) a xa → Rep C (free C m) b xb → Paired C p a b y C₁ → length C₁ ≡ length C → Since C W top m C₁ W m₁ × Given F S k C₁ W m₁ y (pair xa xb)
paired {C = C} {W} {C₁} {p = p} top {m = m} {m₁} {xa = xa} {xb} g pe e ra rb pr lc =
    let c = cells_granted 2 m e in
    let w = free_is p g.room pe in
    let f = few_cells g.room in
    let z = pr.means xa xb (omega (arith, g.room.small)) (omega (arith, free_room C m g.room, c.cells)) (rw w ra) (rw w rb) in
    let s : Same C C₁ (free C m) = rw w at z.1 in
    let q : p + 2 ≡ free C₁ m₁ = omega (arith, c.cells, g.room.fits) in (
      record { same = s; fewer = omega (arith, c.cells); long = lc; kept = kept_refl W top m.cells m₁.cells },
      record {
        defs = g.defs;
        still = same_trans g.low g.still s;
        low = omega (arith, c.cells, g.low);
        room = record { fits = omega (arith, c.cells, g.room.fits); small = omega (arith, g.room.small) };
        ring = g.ring;
        fuel = omega (arith, c.steps, g.fuel);
        arg = rw q at z.0;
      },
    )

pair_asked : (m : Meter) (S : Setting) (j : ℕ) (f : Form) (a b : Obj) (c : Result Meter Stopped) → c ≡ cells_charge 2 m → on_pair_of (by S j) f a b m ≡ on_charge c no_cell (λ m₁. by S j f (pair a b) m₁)
pair_asked m S j f a b c e = cells_asked 2 m (λ m₁. by S j f (pair a b) m₁) ∙ ap (λ u. on_charge u no_cell (λ m₁. by S j f (pair a b) m₁)) (sym e)

-- a pair for which no cells are left
pair_spent : (m : Meter) {s : Stopped} → Err s ≡ cells_charge 2 m → (S : Setting) (j : ℕ) (f : Form) (a b : Obj) → Stops (on_pair_of (by S j) f a b m) s
pair_spent m {s} e S j f a b = ran_out (pair_asked m S j f a b (Err s) e) (sym (ap (λ u. u.why) (cells_spent 2 m (sym e)).1)) (agree_self s.meter)

-- ---- `{f,x}`
pub bu_full : {F C W : List ℕ} {top g : ℕ} {a v : Val} {m : Meter} {s : Stopped} → Err s ≡ cells_charge 2 m → Bound F C W top g a v m (Err s) C W
bu_full {m = m} e = record { sinks = tt; means = λ S j f y x fa ra g. ends_stop (pair_spent m e S j f y x) }

falls_sinks : (r : Ended) (m k : Meter) {c : ℕ} → Falls r k → Left m k 0 0 c → Sinks r m
falls_sinks (Ok q) m k f s = (omega (arith, f.0, s.steps), omega (arith, f.1, s.names))
falls_sinks (Err q) m k f s = tt

falls_on : (r : Ended) (m k : Meter) {c : ℕ} → Falls r k → Left m k 0 0 c → Falls r m
falls_on (Ok q) m k f s = (omega (arith, f.0, s.steps), omega (arith, f.1, s.names))
falls_on (Err q) m k f s = tt

pub bu_done : {F C W C₁ C₂ W₂ : List ℕ} {top g p : ℕ} {a v y : Val} {m k : Meter} {r : Ended} → p ≡ free C m % 4294967296 → Ok k ≡ cells_charge 2 m → Paired C p a v y C₁ → length C₁ ≡ length C → Applied F C₁ W top g y k r C₂ W₂ → Bound F C W top g a v m r C₂ W₂
bu_done {C = C} {top = top} {m = m} {k} {r = r} pe a pr lc ap1 =
    let e = sym a in
    record {
      sinks = falls_sinks r m k ap1.falls (cells_granted 2 m e);
      means = λ S j f y x fa ra g.
          let z = paired top g pe e (rep_ext g.still g.low ra) g.arg pr lc in
          ends_eq (pair_asked m S j f y x (Ok k) a) (ends_since z.0 (ap1.means S j f (pair y x) fa z.1));
    }

-- ---- one pair of an insert
pub fold_full : {F C W : List ℕ} {top g : ℕ} {v : Val} {m : Meter} {s : Stopped} → Err s ≡ cells_charge 2 m → Folded F C W top g v m (Err s) C W
fold_full {m = m} e = record { falls = tt; means = λ S j f x acc fa g r. (ends_stop (pair_spent m e S j f x acc), tt) }

spends_after : {C W C₁ W₁ : List ℕ} {top : ℕ} {k : Meter} {e : Out Obj} {r : Ended} (m : Meter) (c : ℕ) → k.cells + c ≡ m.cells → Ends C W top k e C₁ W₁ r → Spends r m c
spends_after m c e (ends_done g) = omega (arith, g.made.fewer)
spends_after m c e (ends_stop g) = tt

pub fold_done : {F C W C₁ C₂ W₂ : List ℕ} {top g p : ℕ} {v x y : Val} {m k : Meter} {r : Ended} → Applied F C₁ W top g y k r C₂ W₂ → Paired C p x v y C₁ → x ≡ held_at W top → length C₁ ≡ length C → p ≡ free C m % 4294967296 → Ok k ≡ cells_charge 2 m → Folded F C W top g v m r C₂ W₂
fold_done {C = C} {top = top} {x = u} {m = m} {k} {r = r} ap1 pr h lc pe a =
    let e = sym a in
    let c = cells_granted 2 m e in
    record {
      falls = falls_on r m k ap1.falls c;
      means = λ S j f x acc fa g rx.
          let ru : Rep C (free C m) u x = rw h (rx (omega (arith, c.cells))) in
          let z = paired top g pe e ru g.arg pr lc in
          let en = ap1.means S j f (pair x acc) fa z.1 in
          (ends_eq (pair_asked m S j f x acc (Ok k) a) (ends_since z.0 en), spends_after m 2 c.cells en);
    }
