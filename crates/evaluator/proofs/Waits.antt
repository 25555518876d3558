-- The ring of waiting values: what a value put there leaves of the others, and values that wait while the next are made.
use Rattle.std.specs.Prelude.{Ok, Err}
use Rattle.language.specs.declared.stops.Stopped.{Stopped}
use Prim.Native.Nat.{ℕ, suc, ◌+◌, ◌-◌, ◌≤◌, ◌<◌, ◌%◌}
use native.Mathlib.Omega.{arith}
use mathlib.Core.Path.{◌≡◌, refl, sym, ap, subst, ◌∙◌}
use mathlib.Core.List.{List, [], ◌∷◌}
use lib.ListN.{length}
use Rattle.language.specs.Objects.{Obj, seq, Objs, nil, ◌::◌, length_of}
use Rattle.language.specs.Evaluation.{Out, value, bottom, spent, bind, ask_cells, gathered, no_cell}
use Rattle.language.specs.Charging.{cells_charge}
use Rattle.language.specs.declared.Meter.{Meter}
use Rattle.language.specs.declared.Val.{Val}
use Rattle.language.proofs.Charging.{cells_asked, cells_granted, cells_spent, on_charge}
use Rattle.cells.specs.Cells.{Rep, Same, Room, free, val_at}
use Rattle.cells.specs.Parts.{held_at, hold_at, onto, Held, no_held, a_held, Gathered}
use Rattle.cells.proofs.Reps.{same_refl, same_trans, rep_ext, free_is, free_room}
use Rattle.cells.proofs.Ring.{hold_same, hold_other}
use Rattle.primitives.specs.Ends.{Ended, reached, Gives, gives_value, gives_bottom, gives_spent}
use Rattle.evaluator.specs.Ring.{RingKept, Finished, Stops, fell, ran_out, Ends, ends_done, ends_stop}
use Rattle.evaluator.specs.Applying.{Taken, Collected}
use Rattle.primitives.proofs.Ending.{agree_self}
use Rattle.evaluator.proofs.Steps.{free_up, kept_refl, ends_eq, gives_eq, stopped_eq, stopped_bind, few_cells}

-- ---- a value in the ring
pub held_same : (W : List ℕ) (t : ℕ) (v : Val) (i : ℕ) → length W ≡ 16384 → i % 4096 ≡ t % 4096 → held_at (hold_at W t v) i ≡ v
held_same W t v i l e = ap (λ (j : ℕ). val_at (hold_at W t v) j) e ∙ hold_same W t v l

-- where a value waits
place : (top q i : ℕ) → i < q → q ≤ i + 4096 → ((top + q) % 4096 + (4096 - (q - i))) % 4096 ≡ (top + i) % 4096
place top q i l h = omega arith

place_below : (top q d : ℕ) → 1 ≤ d → d + q ≤ 4096 → ((top + q) % 4096 + (4096 - (d + q))) % 4096 ≡ (top + (4096 - d)) % 4096
place_below top q d l h = omega arith

apart : (top q i : ℕ) → i < q → q < 4096 → ((top + i) % 4096 ≡ (top + q) % 4096 % 4096) → ⊥
apart top q i l h e = omega arith

apart_below : (top q d : ℕ) → 1 ≤ d → d + q < 4096 → ((top + (4096 - d)) % 4096 ≡ (top + q) % 4096 % 4096) → ⊥
apart_below top q d l h e = omega arith

-- what is done at the place of q keeps what waits before it, and what waits below top
module _ {W W₁ : List ℕ} {n n₁ : ℕ} (top q : ℕ) (k : RingKept W W₁ ((top + q) % 4096) n n₁) where
  pub kept_before : (i : ℕ) → i < q → q ≤ i + 4096 → q - i + n ≤ 4096 + n₁ → held_at W₁ (top + i) ≡ held_at W (top + i)
  kept_before i l h z =
      ap (λ (j : ℕ). val_at W₁ j) (sym (place top q i l h)) ∙ k.keep (q - i) (omega arith) z ∙ ap (λ (j : ℕ). val_at W j) (place top q i l h)

  pub kept_below : (d : ℕ) → 1 ≤ d → d + q ≤ 4096 → d + q + n ≤ 4096 + n₁ → held_at W₁ (top + (4096 - d)) ≡ held_at W (top + (4096 - d))
  kept_below d l h z =
      ap (λ (j : ℕ). val_at W₁ j) (sym (place_below top q d l h)) ∙ k.keep (d + q) (omega arith) z ∙ ap (λ (j : ℕ). val_at W j) (place_below top q d l h)

-- one waiting value more, at the ring's place of q: those before it are as they were
held_on : {W W₁ C C₁ : List ℕ} {n n₁ f f₁ top : ℕ} (q : ℕ) (y : Val) {es : List Obj} → length es ≤ q → q + n ≤ 4096 + n₁ → q < 4096 → f ≤ f₁ → Same C C₁ f → RingKept W W₁ ((top + q) % 4096) n n₁ → Held W C f top es → Held (hold_at W₁ ((top + q) % 4096) y) C₁ f₁ top es
held_on q y l h z u s k no_held = no_held
held_on {W} {W₁} {C} {C₁} {f₁ = f₁} {top} q y l h z u s k (a_held {x = x} {xs = es} p r) =
    let i : ℕ = length es in
    let q1 = hold_other W₁ ((top + q) % 4096) y (top + i) (apart top q i l z) in
    let q2 = kept_before top q k i l (omega arith) (omega arith) in
    a_held {x = x} {xs = es} (subst (λ w. Rep C₁ f₁ w x) (sym (q1 ∙ q2)) (rep_ext s u p)) (held_on q y (omega arith) h z u s k r)

kept_on : {W₀ W W₁ : List ℕ} {a n n₁ top : ℕ} (q : ℕ) (y : Val) → n ≤ a → n₁ ≤ n → RingKept W₀ W top (a + q) n → RingKept W W₁ ((top + q) % 4096) n n₁ → RingKept W₀ (hold_at W₁ ((top + q) % 4096) y) top (a + (q + 1)) n₁
kept_on {W₀} {W} {W₁} {a} {n} {n₁} {top} q y la lb k l = record {
  keep = λ d h z.
      let q1 = hold_other W₁ ((top + q) % 4096) y (top + (4096 - d)) (apart_below top q d h (omega arith)) in
      q1 ∙ kept_below top q l d h (omega arith) (omega arith) ∙ k.keep d h (omega arith);
}

-- ---- values that wait: `es` wait, the last first, and `rest` makes what follows
onto_more : (y : Obj) (es : List Obj) (u : Out Objs) → bind (bind u (λ ys m. value (y :: ys) m)) (λ ys m. value (onto es ys) m) ≡ bind u (λ ys m. value (onto (y ∷ es) ys) m)
unfolding onto
onto_more y es (value ys m) = refl
onto_more y es (bottom m) = refl
onto_more y es (spent w m) = refl

same_out : (u : Out Objs) → u ≡ bind u (λ ys m. value (onto [] ys) m)
unfolding onto
same_out (value ys m) = refl
same_out (bottom m) = refl
same_out (spent w m) = refl

pub record Waiting (Cs Ws : List ℕ) (top : ℕ) (m : Meter) (all : Out Objs) (C W : List ℕ) (q : ℕ) (n : Meter) (rest : Meter → Out Objs) : Type 0 where
  pub es : List Obj
  pub same : Same Cs C (free Cs m)
  pub fewer : n.cells ≤ m.cells
  pub long : length C ≡ length Cs
  pub kept : RingKept Ws W top (m.cells + q) n.cells
  pub held : q ≤ n.cells → Held W C (free C n) top es
  pub size : length es ≡ q
  pub whole : all ≡ bind (rest n) (λ ys m₁. value (onto es ys) m₁)

pub wait_start : (C W : List ℕ) (top : ℕ) (m : Meter) (rest : Meter → Out Objs) → Waiting C W top m (rest m) C W 0 m rest
wait_start C W top m rest = record { es = []; same = same_refl C (free C m); fewer = omega arith; long = refl; kept = kept_refl W top (m.cells + 0) m.cells; held = λ h. no_held; size = refl; whole = same_out (rest m) }

pub wait_next : {Cs Ws C W C₁ W₁ : List ℕ} {top : ℕ} {y : Val} {m n n₁ : Meter} {all : Out Objs} (q : ℕ) (one : Meter → Out Obj) (rest : Meter → Out Objs) → n.cells ≤ 4096 → Waiting Cs Ws top m all C W q n (λ k. bind (one k) (λ z k₁. bind (rest k₁) (λ zs k₂. value (z :: zs) k₂))) → Finished C W ((top + q) % 4096) n (one n) y n₁ C₁ W₁ → Waiting Cs Ws top m all C₁ (hold_at W₁ ((top + q) % 4096) y) (q + 1) n₁ rest
wait_next {Cs} {C = C} {C₁ = C₁} {W₁ = W₁} {top} {y} {m} {n} {n₁} q one rest lim b u =
    let v : Obj = u.obj in
    record {
      es = v ∷ b.es;
      same = same_trans (free_up Cs C m n b.fewer b.long) b.same u.made.same;
      fewer = omega (arith, u.made.fewer, b.fewer);
      long = u.made.long ∙ b.long;
      kept = kept_on q y b.fewer u.made.fewer b.kept u.kept;
      held = λ h. a_held {x = v} {xs = b.es}
          (rw (b.size, held_same W₁ ((top + q) % 4096) y (top + q) u.ring (omega arith)) u.made.rep)
          (held_on q y (omega (arith, b.size)) (omega (arith, u.made.fewer)) (omega (arith, u.made.fewer)) (free_up C C₁ n n₁ u.made.fewer u.made.long) u.made.same u.kept (b.held (omega (arith, u.made.fewer))));
      size = ap suc b.size ∙ omega arith;
      whole = b.whole ∙ ap (λ c. bind (bind c (λ z k₁. bind (rest k₁) (λ zs k₂. value (z :: zs) k₂))) (λ ys m₁. value (onto b.es ys) m₁)) u.is ∙ onto_more v b.es (rest n₁);
    }

pub wait_stop : {Cs Ws C W : List ℕ} {top : ℕ} {m n : Meter} {s : Stopped} {all : Out Objs} (q : ℕ) (one : Meter → Out Obj) (rest : Meter → Out Objs) → Waiting Cs Ws top m all C W q n (λ k. bind (one k) (λ z k₁. bind (rest k₁) (λ zs k₂. value (z :: zs) k₂))) → Stops (one n) s → Stops (bind all gathered) s
wait_stop q one rest b e = stopped_bind gathered (stopped_eq b.whole (stopped_bind (λ ys m₁. value (onto b.es ys) m₁) (stopped_bind (λ z k₁. bind (rest k₁) (λ zs k₂. value (z :: zs) k₂)) e)))

-- ---- what waits is collected
pub length_onto : (es : List Obj) (ys : Objs) → length_of (onto es ys) ≡ length es + length_of ys
unfolding onto
length_onto [] ys = omega arith
length_onto (x ∷ es) ys = length_onto es (x :: ys) ∙ omega arith

gathered_by : (es : List Obj) (q : ℕ) (n : Meter) → length es ≡ q → gathered (onto es nil) n ≡ on_charge (cells_charge q n) no_cell (λ m₁. value (seq (onto es nil)) m₁)
gathered_by es q n e =
    let z : length_of (onto es nil) ≡ q = omega (arith, length_onto es nil) in
    ap (λ (c : ℕ). ask_cells c n (λ m₁. value (seq (onto es nil)) m₁)) z ∙ cells_asked q n (λ m₁. value (seq (onto es nil)) m₁)

pub collect_full : {C W : List ℕ} {top q : ℕ} {n : Meter} {s : Stopped} → Err s ≡ cells_charge q n → Collected C W top q n (Err s) C
collect_full {q = q} {n} {s} a = record {
  sinks = tt;
  taken = tt;
  means = λ es l h r. gives_eq (gathered_by es q n l ∙ ap (λ c. on_charge c no_cell (λ m₁. value (seq (onto es nil)) m₁)) (sym a)) (gives_spent (sym (ap (λ u. u.why) (cells_spent q n (sym a)).1)) (agree_self s.meter));
}

pub collect_made : {C W C₁ : List ℕ} {top q p : ℕ} {v : Val} {n k : Meter} → p ≡ free C n % 4294967296 → Ok k ≡ cells_charge q n → Gathered C W top q p v C₁ → length C₁ ≡ length C → Collected C W top q n (reached v k) C₁
collect_made {C} {C₁ = C₁} {q = q} {p} {v} {n} {k} pe a g lc =
    let c = cells_granted q n (sym a) in
    record {
      sinks = (omega (arith, c.steps), omega (arith, c.names));
      taken = c.cells;
      means = λ es l h r.
          let w = free_is p r pe in
          let f = few_cells r in
          let z = g.means es l (rw w (h (omega (arith, c.cells)))) (omega (arith, f.0, r.small, c.cells)) (omega (arith, free_room C n r, c.cells)) in
          let s : p + q ≡ free C₁ k = omega (arith, c.cells, r.fits) in
          gives_eq (gathered_by es q n l ∙ ap (λ c. on_charge c no_cell (λ m₁. value (seq (onto es nil)) m₁)) (sym a))
          (gives_value (record { rep = rw s at z.0; same = rw w at z.1; room = record { fits = omega (arith, r.fits, c.cells); small = omega (arith, r.small) }; fewer = omega (arith, c.cells); long = lc }));
    }

-- what `collect` does ends it
collect_ends : {Cs Ws C W C₁ : List ℕ} {top : ℕ} {m : Meter} {e : Out Obj} (n : Meter) (q : ℕ) (r : Ended) → Same Cs C (free Cs m) → n.cells ≤ m.cells → length C ≡ length Cs → length W ≡ 16384 → RingKept Ws W top (m.cells + q) n.cells → Taken r n q → Gives C n C₁ e r → Ends Cs Ws top m e C₁ W r
collect_ends n q (Err a) s l lc w kp t (gives_bottom z g) = ends_stop (fell refl z g)
collect_ends n q (Err a) s l lc w kp t (gives_spent z g) = ends_stop (ran_out refl z g)
collect_ends {Cs} {C = C} {m = m} n q (Ok v) s l lc w kp t (gives_value {x = x} g) =
    ends_done (record {
      obj = x;
      is = refl;
      made = record { rep = g.rep; same = same_trans (free_up Cs C m n l lc) s g.same; room = g.room; fewer = omega (arith, g.fewer); long = g.long ∙ lc };
      ring = w;
      kept = record { keep = λ d h z. kp.keep d h (omega (arith, t)) };
    })

pub wait_closed : {Cs Ws C W C₁ : List ℕ} {top : ℕ} {m n : Meter} {all : Out Objs} {rest : Meter → Out Objs} {q : ℕ} {r : Ended} → rest n ≡ value nil n → Waiting Cs Ws top m all C W q n rest → Room C n → length W ≡ 16384 → Collected C W top q n r C₁ → Ends Cs Ws top m (bind all gathered) C₁ W r
wait_closed {n = n} {q = q} {r} e b rm w c =
    ends_eq (ap (λ u. bind u gathered) (b.whole ∙ ap (λ u. bind u (λ ys m₁. value (onto b.es ys) m₁)) e))
    (collect_ends n q r b.same b.fewer b.long w b.kept c.taken (c.means b.es b.size b.held rm))
