-- Constructions and apply to all in the tables against the definition.
use Rattle.primitives.specs.Ends.{Ended, reached}
use Rattle.std.specs.Prelude.{Ok, Err}
use Rattle.language.specs.declared.stops.Stopped.{Stopped}
use Rattle.primitives.specs.declared.Reached.{Reached}
use Rattle.language.specs.Charging.{stopped}
use Rattle.language.specs.declared.stops.Stop.TheVariants.{Bottom}
use Prim.Native.Nat.{ℕ, ◌+◌, ◌≤◌, ◌<◌, ◌%◌}
use native.Mathlib.Omega.{arith}
use mathlib.Core.Path.{◌≡◌, refl, ap, subst, ◌∙◌}
use mathlib.Core.List.{List}
use lib.ListN.{length}
use Rattle.language.specs.Objects.{Obj, seq, Objs, nil, ◌::◌, length_of}
use Rattle.language.specs.Forms.{Form, Forms, stop, ◌&◌, count}
use Rattle.language.specs.declared.Meter.{Meter}
use Rattle.language.specs.declared.Val.{Val}
use Rattle.evaluator.specs.Ring.{Stops, fell, Ends, ends_stop}
use Rattle.language.specs.Evaluation.{Out, value, bottom, bind, construct_by, each_by, gathered, apply_all_on}
use Rattle.cells.specs.Cells.{Rep, rep_pos, rep_neg, rep_symbol, rep_nil, rep_more, free}
use Rattle.cells.specs.Parts.{hold_at, Sized, Headed, Tailed}
use Rattle.cells.proofs.Reps.{rep_ext}
use Rattle.cells.proofs.Ring.{hold_length}
use Rattle.linker.specs.Linked.{no_part, a_part, link_at}
use Rattle.evaluator.specs.Applying.{Setting, by, At, AllAt, Given, Applied, Constructed, Mapped, Slotted, Collected}
use Rattle.primitives.proofs.Ending.{agree_self}
use Rattle.evaluator.proofs.Steps.{since_refl, free_up, gave, gave_stop, ends_eq, given_next, given_again, given_held, few_cells, sinks_le}
use Rattle.evaluator.proofs.Waits.{Waiting, wait_start, wait_next, wait_stop, wait_closed}

-- ---- a value that waits
pub slot_done : {F C W C₁ W₁ W₂ : List ℕ} {t i : ℕ} {v : Val} {m : Meter} {y : Reached} → Applied F C W t i v m (Ok y) C₁ W₁ → W₂ ≡ hold_at W₁ t y.value → Slotted F C W t i v m (Ok y) C₁ W₂
slot_done {W₁ = W₁} a w = record { mid = W₁; app = a; put = w }

pub slot_stop : {F C W C₁ W₁ : List ℕ} {t i : ℕ} {v : Val} {m : Meter} {s : Stopped} → Applied F C W t i v m (Err s) C₁ W₁ → Slotted F C W t i v m (Err s) C₁ W₁
slot_stop {W₁ = W₁} a = record { mid = W₁; app = a; put = tt }

-- ---- a construction
pub record BuildNow (F : List ℕ) (S : Setting) (k : ℕ) (Cs Ws : List ℕ) (top many : ℕ) (v : Val) (m : Meter) (x : Obj) (all : Out Objs) (C W : List ℕ) (j q : ℕ) (n : Meter) : Type 0 where
  pub fs : Forms
  pub left : count fs + q ≡ many
  pub at : AllAt F S j fs
  pub given : Given F S k C W n v x
  pub waits : Waiting Cs Ws top m all C W q n (construct_by (by S k) fs x)

pub record Building (F Cs Ws : List ℕ) (top h many : ℕ) (v : Val) (m : Meter) (C W : List ℕ) (j q : ℕ) (n : Meter) : Type 0 where
  pub most : q ≤ many
  pub fits : j < 4294967296
  pub sinks : (n.steps ≤ m.steps) × (n.names ≡ m.names)
  pub long_C : length C ≡ length Cs
  pub means : (S : Setting) (k : ℕ) (fs : Forms) (x : Obj) → count fs ≡ many → AllAt F S h fs → Given F S k Cs Ws m v x → BuildNow F S k Cs Ws top many v m x (construct_by (by S k) fs x m) C W j q n

pub build_start : {F C W : List ℕ} {top h many : ℕ} {v : Val} {m : Meter} → h < 4294967296 → Building F C W top h many v m C W h 0 m
build_start {F} {C} {W} {top} {m = m} fj = record {
  most = omega arith;
  fits = fj;
  sinks = (omega arith, refl);
  long_C = refl;
  means = λ S k fs x ct p g. record { fs = fs; left = omega arith; at = p; given = g; waits = wait_start C W top m (construct_by (by S k) fs x) };
}

step_build : {F Cs Ws C W C₁ W₁ : List ℕ} {top many j : ℕ} {v y : Val} {m n n₁ : Meter} {x : Obj} {all : Out Objs} {fs : Forms} (S : Setting) (k q : ℕ) → q < many → count fs + q ≡ many → AllAt F S j fs → Given F S k C W n v x → Waiting Cs Ws top m all C W q n (construct_by (by S k) fs x) → Applied F C W ((top + q) % 4096) j v n (reached y n₁) C₁ W₁ → BuildNow F S k Cs Ws top many v m x all C₁ (hold_at W₁ ((top + q) % 4096) y) (link_at F j) (q + 1) n₁
step_build S k q l ct no_part g b a = absurd (omega arith)
step_build {W₁ = W₁} {top = top} {y = y} {x = x} S k q l ct (a_part {f = f} {fs = fs} fa ps) g b a =
    let u = gave (a.means S k f x fa g) in
    record { fs = fs; left = omega arith; at = ps; given = given_held (given_again g a.falls.0 u) (hold_length W₁ ((top + q) % 4096) y ∙ u.ring); waits = wait_next q (by S k f x) (construct_by (by S k) fs x) (few_cells g.room).0 b u }

build_next : {F Cs Ws C W C₁ W₁ W₂ : List ℕ} {top h many j j₁ q : ℕ} {v y : Val} {m n n₁ : Meter} → q < many → Building F Cs Ws top h many v m C W j q n → Applied F C W ((top + q) % 4096) j v n (reached y n₁) C₁ W₁ → W₂ ≡ hold_at W₁ ((top + q) % 4096) y → j₁ ≡ link_at F j → j₁ < 4294967296 → length C₁ ≡ length C → Building F Cs Ws top h many v m C₁ W₂ j₁ (q + 1) n₁
build_next {q = q} l b a w z fj lc =
    rw w (record {
      most = omega arith;
      fits = fj;
      sinks = (omega (arith, a.falls.0, b.sinks.0), a.falls.1 ∙ b.sinks.1);
      long_C = lc ∙ b.long_C;
      means = λ S k fs x ct p g. let h = b.means S k fs x ct p g in rw z (step_build S k q l h.left h.at h.given h.waits a);
    })

stop_build : {F Cs Ws C W C₁ W₁ : List ℕ} {t top many j : ℕ} {v : Val} {m n : Meter} {z : Stopped} {x : Obj} {all : Out Objs} {fs : Forms} (S : Setting) (k q : ℕ) → q < many → count fs + q ≡ many → AllAt F S j fs → Given F S k C W n v x → Waiting Cs Ws top m all C W q n (construct_by (by S k) fs x) → Applied F C W t j v n (Err z) C₁ W₁ → Stops (bind all gathered) z
stop_build S k q l ct no_part g b a = absurd (omega arith)
stop_build {x = x} S k q l ct (a_part {f = f} {fs = fs} fa ps) g b a = wait_stop q (by S k f x) (construct_by (by S k) fs x) b (gave_stop (a.means S k f x fa g))

pub build_turn : {F Cs Ws C W C₁ W₂ : List ℕ} {top h many j j₁ q t : ℕ} {v : Val} {m n : Meter} {y : Reached} → q < many → Building F Cs Ws top h many v m C W j q n → t ≡ (top + q) % 4096 → Slotted F C W t j v n (Ok y) C₁ W₂ → j₁ ≡ link_at F j → j₁ < 4294967296 → length C₁ ≡ length C → Building F Cs Ws top h many v m C₁ W₂ j₁ (q + 1) y.meter
build_turn {F} {C = C} {W} {C₁} {W₂} {j = j} {v = v} {n = n} {y} l b te s z fj lc =
    let a = subst (λ (t : ℕ). Slotted F C W t j v n (Ok y) C₁ W₂) te s in
    build_next {y = y.value} {n₁ = y.meter} l b a.app a.put z fj lc

pub build_halt : {F Cs Ws C W C₁ W₂ : List ℕ} {top h many j q t : ℕ} {v : Val} {m n : Meter} {z : Stopped} → q < many → Building F Cs Ws top h many v m C W j q n → Slotted F C W t j v n (Err z) C₁ W₂ → Constructed F Cs Ws top h many v m (Err z) C₁ W₂
build_halt {q = q} l b a = record { sinks = tt; means = λ S k fs x ct p g. let h = b.means S k fs x ct p g in ends_stop (stop_build S k q l h.left h.at h.given h.waits a.app) }

none_left : (fs : Forms) (S : Setting) (k : ℕ) (x : Obj) (n : Meter) → count fs ≡ 0 → construct_by (by S k) fs x n ≡ value nil n
none_left stop S k x n e = refl
none_left (f & fs) S k x n e = absurd (omega arith)

pub build_done : {F Cs Ws C W C₁ : List ℕ} {top h many j q : ℕ} {v : Val} {m n : Meter} {r : Ended} → many ≤ q → Building F Cs Ws top h many v m C W j q n → Collected C W top many n r C₁ → Constructed F Cs Ws top h many v m r C₁ W
build_done {C = C} {W} {C₁} {top} {many = many} {q = q} {m = m} {n} {r} l b c =
    let qc : many ≡ q = omega (arith, b.most) in
    let c₁ : Collected C W top q n r C₁ = subst (λ (z : ℕ). Collected C W top z n r C₁) qc c in
    record {
      sinks = sinks_le r m n c.sinks b.sinks;
      means = λ S k fs x ct p g. let h = b.means S k fs x ct p g in
          wait_closed (none_left h.fs S k x n (omega (arith, h.left))) h.waits h.given.room h.given.ring c₁;
    }

-- ---- apply to all
pub record MapNow (F : List ℕ) (S : Setting) (k : ℕ) (Cs Ws : List ℕ) (top many : ℕ) (v : Val) (m : Meter) (f : Form) (x : Obj) (all : Out Objs) (C W : List ℕ) (s : Val) (q : ℕ) (n : Meter) : Type 0 where
  pub xs : Objs
  pub left : length_of xs + q ≡ many
  pub rep : Rep C (free C n) s (seq xs)
  pub given : Given F S k C W n v x
  pub waits : Waiting Cs Ws top m all C W q n (each_by (by S k) f xs)

pub record Mapping (F Cs Ws : List ℕ) (top g many : ℕ) (v : Val) (m : Meter) (C W : List ℕ) (s : Val) (q : ℕ) (n : Meter) : Type 0 where
  pub most : q ≤ many
  pub sinks : (n.steps ≤ m.steps) × (n.names ≡ m.names)
  pub long_C : length C ≡ length Cs
  pub means : (S : Setting) (k : ℕ) (f : Form) (xs : Objs) → At F S g f → Given F S k Cs Ws m v (seq xs) → MapNow F S k Cs Ws top many v m f (seq xs) (each_by (by S k) f xs m) C W s q n

-- a value whose tag is 3 stands for a sequence, any other for an atom
pub no_int : {C : List ℕ} {n : ℕ} {v : Val} {x : Obj} → v.tag ≡ 3 → Rep C n v x → (xs : Objs) × (x ≡ seq xs)
no_int t (rep_pos e w l) = absurd (omega arith)
no_int t (rep_neg e w l) = absurd (omega arith)
no_int t (rep_symbol e i w) = absurd (omega arith)
no_int t (rep_nil e w) = (nil, refl)
no_int t (rep_more {x = x} {xs = xs} e w l a b) = (x :: xs, refl)

given_as : {F C W : List ℕ} {S : Setting} {k : ℕ} {v : Val} {m : Meter} {x x₁ : Obj} → x ≡ x₁ → Given F S k C W m v x → Given F S k C W m v x₁
given_as {F} {C} {W} {S} {k} {v} {m} e g = subst (λ u. Given F S k C W m v u) e g

-- what holds for the sequence holds for the object
pub on_sequence : {F C W C₁ W₁ : List ℕ} {S : Setting} {k top : ℕ} {v : Val} {m : Meter} {x : Obj} {r : Ended} (ev : Obj → Meter → Out Obj) → v.tag ≡ 3 → Given F S k C W m v x → ((xs : Objs) → Given F S k C W m v (seq xs) → Ends C W top m (ev (seq xs) m) C₁ W₁ r) → Ends C W top m (ev x m) C₁ W₁ r
on_sequence {m = m} ev t g h =
    let z = no_int t g.arg in
    ends_eq (ap (λ u. ev u m) z.1) (h z.0 (given_as z.1 g))

atom_all : {C : List ℕ} {n : ℕ} {v : Val} {x : Obj} (S : Setting) (k : ℕ) (f : Form) (m : Meter) → (v.tag ≡ 3 → ⊥) → Rep C n v x → apply_all_on (by S k) f x m ≡ bottom m
atom_all S k f m h (rep_pos e w l) = refl
atom_all S k f m h (rep_neg e w l) = refl
atom_all S k f m h (rep_symbol e i w) = refl
atom_all S k f m h (rep_nil e w) = absurd (h e)
atom_all S k f m h (rep_more e w l a b) = absurd (h e)

pub map_atom : {F C W : List ℕ} {top g : ℕ} {v : Val} {m : Meter} → (v.tag ≡ 3 → ⊥) → Mapped F C W top g v m (stopped Bottom m) C W
map_atom {m = m} h = record { sinks = tt; means = λ S k f x fa g. ends_stop (fell (atom_all S k f m h g.arg) refl (agree_self m)) }

pub map_start : {F C W : List ℕ} {top g many : ℕ} {v : Val} {m : Meter} → Sized v many → Mapping F C W top g many v m C W v 0 m
map_start {C = C} {W} {top} {m = m} sz = record {
  most = omega arith;
  sinks = (omega arith, refl);
  long_C = refl;
  means = λ S k f xs fa g. record { xs = xs; left = omega (arith, sz.means C (free C m) xs (few_cells g.room).1 g.arg); rep = g.arg; given = g; waits = wait_start C W top m (each_by (by S k) f xs) };
}

step_map : {F Cs Ws C W C₁ W₁ : List ℕ} {top many g : ℕ} {v s s₁ u y : Val} {m n n₁ : Meter} {f : Form} {x : Obj} {all : Out Objs} (S : Setting) (k q : ℕ) (xs : Objs) → q < many → length_of xs + q ≡ many → At F S g f → Rep C (free C n) s (seq xs) → Given F S k C W n v x → Waiting Cs Ws top m all C W q n (each_by (by S k) f xs) → Headed C s u → Tailed C₁ s s₁ → Applied F C W ((top + q) % 4096) g u n (reached y n₁) C₁ W₁ → MapNow F S k Cs Ws top many v m f x all C₁ (hold_at W₁ ((top + q) % 4096) y) s₁ (q + 1) n₁
step_map S k q nil l ct fa r g b hd tl a = absurd (omega arith)
step_map {C = C} {W} {C₁} {W₁} {top} {y = y} {n = n} {n₁} {f} S k q (z :: zs) l ct fa r g b hd tl a =
    let rz = hd.means (free C n) z zs (few_cells g.room).1 r in
    let gz = given_next g (omega arith) (since_refl C W 0 n) g.room g.ring rz in
    let p = gave (a.means S k f z fa gz) in
    record {
      xs = zs;
      left = omega arith;
      rep = tl.means (free C₁ n₁) z zs (few_cells p.made.room).1 (rep_ext p.made.same (free_up C C₁ n n₁ p.made.fewer p.made.long) r);
      given = given_held (given_again g a.falls.0 p) (hold_length W₁ ((top + q) % 4096) y ∙ p.ring);
      waits = wait_next q (by S k f z) (each_by (by S k) f zs) (few_cells g.room).0 b p;
    }

map_next : {F Cs Ws C W C₁ W₁ W₂ : List ℕ} {top g many q : ℕ} {v s s₁ u y : Val} {m n n₁ : Meter} → q < many → Mapping F Cs Ws top g many v m C W s q n → Headed C s u → Applied F C W ((top + q) % 4096) g u n (reached y n₁) C₁ W₁ → W₂ ≡ hold_at W₁ ((top + q) % 4096) y → Tailed C₁ s s₁ → length C₁ ≡ length C → Mapping F Cs Ws top g many v m C₁ W₂ s₁ (q + 1) n₁
map_next {q = q} l b hd a w tl lc =
    rw w (record {
      most = omega arith;
      sinks = (omega (arith, a.falls.0, b.sinks.0), a.falls.1 ∙ b.sinks.1);
      long_C = lc ∙ b.long_C;
      means = λ S k f xs fa g. let h = b.means S k f xs fa g in step_map S k q h.xs l h.left fa h.rep h.given h.waits hd tl a;
    })

stop-map : {F Cs Ws C W C₁ W₁ : List ℕ} {top t many g : ℕ} {v s u : Val} {m n : Meter} {z : Stopped} {f : Form} {x : Obj} {all : Out Objs} (S : Setting) (k q : ℕ) (xs : Objs) → q < many → length_of xs + q ≡ many → At F S g f → Rep C (free C n) s (seq xs) → Given F S k C W n v x → Waiting Cs Ws top m all C W q n (each_by (by S k) f xs) → Headed C s u → Applied F C W t g u n (Err z) C₁ W₁ → Stops (bind all gathered) z
stop-map S k q nil l ct fa r g b hd a = absurd (omega arith)
stop-map {C = C} {W} {n = n} {f = f} S k q (z :: zs) l ct fa r g b hd a =
    let rz = hd.means (free C n) z zs (few_cells g.room).1 r in
    wait_stop q (by S k f z) (each_by (by S k) f zs) b (gave_stop (a.means S k f z fa (given_next g (omega arith) (since_refl C W 0 n) g.room g.ring rz)))

pub map_turn : {F Cs Ws C W C₁ W₂ : List ℕ} {top g many q t : ℕ} {v s s₁ u : Val} {m n : Meter} {y : Reached} → q < many → Mapping F Cs Ws top g many v m C W s q n → t ≡ (top + q) % 4096 → Headed C s u → Slotted F C W t g u n (Ok y) C₁ W₂ → Tailed C₁ s s₁ → length C₁ ≡ length C → Mapping F Cs Ws top g many v m C₁ W₂ s₁ (q + 1) y.meter
map_turn {F} {C = C} {W} {C₁} {W₂} {g = g} {u = u} {n = n} {y} l b te hd s tl lc =
    let a = subst (λ (t : ℕ). Slotted F C W t g u n (Ok y) C₁ W₂) te s in
    map_next {y = y.value} {n₁ = y.meter} l b hd a.app a.put tl lc

pub map_halt : {F Cs Ws C W C₁ W₂ : List ℕ} {top g many q t : ℕ} {v s u : Val} {m n : Meter} {z : Stopped} → v.tag ≡ 3 → q < many → Mapping F Cs Ws top g many v m C W s q n → Headed C s u → Slotted F C W t g u n (Err z) C₁ W₂ → Mapped F Cs Ws top g v m (Err z) C₁ W₂
map_halt {q = q} tg l b hd a = record {
  sinks = tt;
  means = λ S k f x fa g. on_sequence (apply_all_on (by S k) f) tg g (λ xs g₁. let h = b.means S k f xs fa g₁ in ends_stop (stop-map S k q h.xs l h.left fa h.rep h.given h.waits hd a.app));
}

no_place : (xs : Objs) (S : Setting) (k : ℕ) (f : Form) (n : Meter) → length_of xs ≡ 0 → each_by (by S k) f xs n ≡ value nil n
no_place nil S k f n e = refl
no_place (x :: xs) S k f n e = absurd (omega arith)

pub map_done : {F Cs Ws C W C₁ : List ℕ} {top g many q : ℕ} {v s : Val} {m n : Meter} {r : Ended} → v.tag ≡ 3 → many ≤ q → Mapping F Cs Ws top g many v m C W s q n → Collected C W top many n r C₁ → Mapped F Cs Ws top g v m r C₁ W
map_done {C = C} {W} {C₁} {top} {many = many} {q} {m = m} {n} {r} tg l b c =
    let qc : many ≡ q = omega (arith, b.most) in
    let c₁ : Collected C W top q n r C₁ = subst (λ (z : ℕ). Collected C W top z n r C₁) qc c in
    record {
      sinks = sinks_le r m n c.sinks b.sinks;
      means = λ S k f x fa g. on_sequence (apply_all_on (by S k) f) tg g (λ xs g₁. let h = b.means S k f xs fa g₁ in
          wait_closed (no_place h.xs S k f n (omega (arith, h.left))) h.waits h.given.room h.given.ring c₁);
    }
