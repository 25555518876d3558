-- Insert in the tables against the definition: its places wait, and are taken from the right.
use Rattle.primitives.specs.Ends.{Ended}
use Rattle.std.specs.Prelude.{Ok, Err}
use Rattle.language.specs.declared.stops.Stopped.{Stopped}
use Rattle.primitives.specs.declared.Reached.{Reached}
use Rattle.language.specs.Charging.{stopped}
use Rattle.language.specs.declared.stops.Stop.TheVariants.{Bottom}
use Prim.Native.Nat.{ℕ, zero, suc, ◌+◌, ◌-◌, ◌*◌, ◌≤◌, ◌<◌, ◌%◌}
use native.Mathlib.Omega.{arith}
use mathlib.Core.Path.{◌≡◌, refl, sym, ap, subst, ◌∙◌}
use mathlib.Core.List.{List, [], ◌∷◌}
use lib.ListN.{length}
use Rattle.language.specs.Objects.{Obj, seq, Objs, nil, ◌::◌, length_of, nth_obj}
use Rattle.language.specs.Forms.{Form}
use Rattle.language.specs.Evaluation.{Out, value, bottom, bind, Apply, insert_on}
use Rattle.language.specs.declared.Meter.{Meter}
use Rattle.language.specs.declared.Val.{Val}
use Rattle.cells.specs.Cells.{Rep, rep_pos, rep_neg, rep_symbol, rep_nil, rep_more, Same, free, val_at}
use Rattle.cells.specs.Parts.{held_at, Sized, drop_objs, onto}
use Rattle.cells.proofs.Reps.{same_refl, same_trans, rep_ext}
use Rattle.cells.proofs.Places.{drop_first}
use Rattle.primitives.proofs.Ending.{agree_self}
use Rattle.evaluator.specs.Ring.{RingKept, Stops, fell, Ends, ends_done, ends_stop}
use Rattle.evaluator.specs.Applying.{Setting, by, At, Given, Spends, Folded, on_pair_of, firsts, Queued, Between, Spread, Inserted}
use Rattle.evaluator.proofs.Steps.{since_refl, free_up, kept_refl, gave, gave_stop, ends_eq, stopped_eq, stopped_bind, given_next, given_value, given_held, few_cells}
use Rattle.evaluator.proofs.Waits.{kept_before, kept_below}
use Rattle.evaluator.proofs.Builds.{on_sequence}

-- ---- what an insert does behind `es`, which are before it, the last first
module _ (ev : Apply) (f : Form) where
  behind : (m n : Meter) (es : List Obj) (x y : Obj) (xs ys : Objs) → insert_on ev f (seq (x :: xs)) m ≡ insert_on ev f (seq (y :: ys)) n → insert_on ev f (seq (onto es (x :: xs))) m ≡ insert_on ev f (seq (onto es (y :: ys))) n
  unfolding onto
  behind m n [] x y xs ys e = e
  behind m n (z ∷ es) x y xs ys e = behind m n es z z (x :: xs) (y :: ys) (ap (λ u. bind u (λ a m₁. on_pair_of ev f z a m₁)) e)

  behind_stop : (m : Meter) (es : List Obj) (x : Obj) (xs : Objs) {z : Stopped} → Stops (insert_on ev f (seq (x :: xs)) m) z → Stops (insert_on ev f (seq (onto es (x :: xs))) m) z
  unfolding onto
  behind_stop m [] x xs s = s
  behind_stop m (z ∷ es) x xs s = behind_stop m es z (x :: xs) (stopped_bind (λ a m₁. on_pair_of ev f z a m₁) s)

firsts_some : (xs : Objs) (q : ℕ) → 0 < q → firsts xs q ≡ nth_obj xs (q - 1) ∷ firsts xs (q - 1)
unfolding firsts
firsts_some xs zero h = absurd (omega arith)
firsts_some xs (suc k) h = let z : suc k - 1 ≡ k = omega arith in rw z

-- the last of those before it is the first of what is behind
one_taken : (xs ys : Objs) (q : ℕ) → 0 < q → onto (firsts xs q) ys ≡ onto (firsts xs (q - 1)) (nth_obj xs (q - 1) :: ys)
unfolding onto
one_taken xs ys q h = ap (λ es. onto es ys) (firsts_some xs q h)

-- ---- between what waits and a value: `acc` is the outcome so far
pub record BetweenNow (F : List ℕ) (S : Setting) (k : ℕ) (Cs Ws : List ℕ) (top many : ℕ) (m : Meter) (f : Form) (xs : Objs) (all : Out Obj) (C W : List ℕ) (q : ℕ) (y : Val) (n : Meter) : Type 0 where
  pub acc : Obj
  pub given : Given F S k C W n y acc
  pub same : Same Cs C (free Cs m)
  pub fewer : n.cells ≤ m.cells
  pub spends : n.cells + 2 * many ≤ m.cells + 2 * q
  pub long : length C ≡ length Cs
  pub kept : RingKept Ws W top (m.cells + 2 * q) n.cells
  pub queued : Queued W C (free C n) top q n.cells xs
  pub whole : all ≡ insert_on (by S k) f (seq (onto (firsts xs q) (acc :: nil))) n

pub record Inserting (F Cs Ws : List ℕ) (top g many : ℕ) (v : Val) (m : Meter) (C W : List ℕ) (q : ℕ) (y : Val) (n : Meter) : Type 0 where
  pub sinks : (n.steps ≤ m.steps) × (n.names ≡ m.names)
  pub long_C : length C ≡ length Cs
  pub means : (S : Setting) (k : ℕ) (f : Form) (xs : Objs) (acc : Obj) → At F S g f → Given F S k Cs Ws m v acc → Queued Ws Cs (free Cs m) top many m.cells xs → BetweenNow F S k Cs Ws top many m f xs (insert_on (by S k) f (seq (onto (firsts xs many) (acc :: nil))) m) C W q y n

pub between_start : {F C W : List ℕ} {top g many : ℕ} {v : Val} {m : Meter} → Inserting F C W top g many v m C W many v m
between_start {C = C} {W} {top} {many = many} {m = m} = record {
  sinks = (omega arith, refl);
  long_C = refl;
  means = λ S k f xs acc fa g w. record { acc = acc; given = g; same = same_refl C (free C m); fewer = omega arith; spends = omega arith; long = refl; kept = kept_refl W top (m.cells + 2 * many) m.cells; queued = w; whole = refl };
}

-- the value that is taken next
next_held : {W C : List ℕ} {n top c : ℕ} {xs : Objs} (q : ℕ) → 0 < q → Queued W C n top q c xs → 2 ≤ c → Rep C n (held_at W ((top + (q - 1)) % 4096)) (nth_obj xs (q - 1))
next_held {W} {C} {n} {top} {xs = xs} q h w l =
    let e : (top + (q - 1)) % 4096 % 4096 ≡ (top + (q - 1)) % 4096 = omega arith in
    subst (λ u. Rep C n u (nth_obj xs (q - 1))) (ap (λ (j : ℕ). val_at W j) (sym e)) (w.here (q - 1) (omega arith) (omega arith))

-- those before it go on to wait
queue_on : {W W₁ C C₁ : List ℕ} {a a₁ n n₁ top : ℕ} {xs : Objs} (q : ℕ) → 0 < q → n ≤ 4096 → n₁ + 2 ≤ n → a ≤ a₁ → Same C C₁ a → RingKept W W₁ ((top + (q - 1)) % 4096) n n₁ → Queued W C a top q n xs → Queued W₁ C₁ a₁ top (q - 1) n₁ xs
queue_on {C₁ = C₁} {a₁ = a₁} {top = top} {xs} q h l z u s k w = record {
  here = λ j b c. subst (λ v. Rep C₁ a₁ v (nth_obj xs j)) (sym (kept_before top (q - 1) k j b (omega arith) (omega arith))) (rep_ext s u (w.here j (omega arith) (omega arith)));
}

-- and so does what waits below top
below_on : {W₀ W W₁ : List ℕ} {a n n₁ top : ℕ} (q : ℕ) → 0 < q → n ≤ a → n₁ + 2 ≤ n → RingKept W₀ W top (a + 2 * q) n → RingKept W W₁ ((top + (q - 1)) % 4096) n n₁ → RingKept W₀ W₁ top (a + 2 * (q - 1)) n₁
below_on {top = top} q h l z k k₁ = record { keep = λ d b c. kept_below top (q - 1) k₁ d b (omega arith) (omega arith) ∙ k.keep d b (omega arith) }

module _ {F C W C₁ W₁ : List ℕ} {g t : ℕ} {y : Val} {n : Meter} {r : Ended} (top q : ℕ) (te : t ≡ (top + (q - 1)) % 4096) (fo : Folded F C W t g y n r C₁ W₁) where
  -- the fold, with its place as it is known
  known : Folded F C W ((top + (q - 1)) % 4096) g y n r C₁ W₁
  known = subst (λ (j : ℕ). Folded F C W j g y n r C₁ W₁) te fo

  folds : {S : Setting} {k : ℕ} {f : Form} {acc : Obj} (xs : Objs) → 0 < q → At F S g f → Given F S k C W n y acc → Queued W C (free C n) top q n.cells xs → Ends C W ((top + (q - 1)) % 4096) n (on_pair_of (by S k) f (nth_obj xs (q - 1)) acc n) C₁ W₁ r × Spends r n 2
  folds {S} {k} {f} {acc} xs h fa gv w = known.means S k f (nth_obj xs (q - 1)) acc fa gv (λ l. next_held q h w l)

pub between_turn : {F Cs Ws C W C₁ W₁ : List ℕ} {top g many q t : ℕ} {v y : Val} {m n : Meter} {z : Reached} → 0 < q → Inserting F Cs Ws top g many v m C W q y n → t ≡ (top + (q - 1)) % 4096 → Folded F C W t g y n (Ok z) C₁ W₁ → length C₁ ≡ length C → Inserting F Cs Ws top g many v m C₁ W₁ (q - 1) z.value z.meter
between_turn {Cs = Cs} {C = C} {C₁ = C₁} {top = top} {q = q} {m = m} {n} {z} h b te fo lc = record {
  sinks = (omega (arith, (known top q te fo).falls.0, b.sinks.0), (known top q te fo).falls.1 ∙ b.sinks.1);
  long_C = lc ∙ b.long_C;
  means = λ S k f xs acc fa gv w.
      let p = b.means S k f xs acc fa gv w in
      let u = folds top q te fo xs h fa p.given p.queued in
      let s = gave u.0 in
      record {
        acc = s.obj;
        given = given_value p.given (known top q te fo).falls.0 s;
        same = same_trans (free_up Cs C m n p.fewer p.long) p.same s.made.same;
        fewer = omega (arith, u.1, p.fewer);
        spends = omega (arith, u.1, p.spends);
        long = s.made.long ∙ p.long;
        kept = below_on q h p.fewer u.1 p.kept s.kept;
        queued = queue_on q h (few_cells p.given.room).0 u.1 (free_up C C₁ n z.meter s.made.fewer s.made.long) s.made.same s.kept p.queued;
        whole = p.whole ∙ ap (λ ys. insert_on (by S k) f (seq ys) n) (one_taken xs (p.acc :: nil) q h) ∙ behind (by S k) f n z.meter (firsts xs (q - 1)) (nth_obj xs (q - 1)) s.obj (p.acc :: nil) nil s.is;
      };
}

pub between_halt : {F Cs Ws C W C₁ W₁ : List ℕ} {top g many q t : ℕ} {v y : Val} {m n : Meter} {z : Stopped} → 0 < q → Inserting F Cs Ws top g many v m C W q y n → t ≡ (top + (q - 1)) % 4096 → Folded F C W t g y n (Err z) C₁ W₁ → Between F Cs Ws top g many v m (Err z) C₁ W₁
between_halt {top = top} {q = q} {n = n} h b te fo = record {
  sinks = tt;
  means = λ S k f xs acc fa gv w.
      let p = b.means S k f xs acc fa gv w in
      let s = gave_stop (folds top q te fo xs h fa p.given p.queued).0 in
      (ends_stop (stopped_eq (p.whole ∙ ap (λ ys. insert_on (by S k) f (seq ys) n) (one_taken xs (p.acc :: nil) q h)) (behind_stop (by S k) f n (firsts xs (q - 1)) (nth_obj xs (q - 1)) (p.acc :: nil) s)), tt);
}

none_left : (ev : Apply) (f : Form) (xs : Objs) (acc : Obj) (n : Meter) (q : ℕ) → q ≤ 0 → insert_on ev f (seq (onto (firsts xs q) (acc :: nil))) n ≡ value acc n
unfolding onto firsts
none_left ev f xs acc n zero h = refl
none_left ev f xs acc n (suc q) h = absurd (omega arith)

pub between_end : {F Cs Ws C W : List ℕ} {top g many q : ℕ} {v : Val} {m : Meter} {y : Reached} → q ≤ 0 → Inserting F Cs Ws top g many v m C W q y.value y.meter → Between F Cs Ws top g many v m (Ok y) C W
between_end {q = q} {y = y} z b = record {
  sinks = b.sinks;
  means = λ S k f xs acc fa gv w.
      let p = b.means S k f xs acc fa gv w in (
        ends_done {r = y} (record { obj = p.acc; is = p.whole ∙ none_left (by S k) f xs p.acc y.meter q z; made = record { rep = p.given.arg; same = p.same; room = p.given.room; fewer = p.fewer; long = p.long }; ring = p.given.ring; kept = record { keep = λ d h l. p.kept.keep d h (omega arith) } }),
        omega (arith, p.spends),
      );
}

-- ---- insert
atom_insert : {C : List ℕ} {n : ℕ} {v : Val} {x : Obj} (S : Setting) (k : ℕ) (f : Form) (m : Meter) → (v.tag ≡ 3 → ⊥) → Rep C n v x → insert_on (by S k) f x m ≡ bottom m
atom_insert S k f m h (rep_pos e w l) = refl
atom_insert S k f m h (rep_neg e w l) = refl
atom_insert S k f m h (rep_symbol e i w) = refl
atom_insert S k f m h (rep_nil e w) = absurd (h e)
atom_insert S k f m h (rep_more e w l a b) = absurd (h e)

pub insert_atom : {F C W : List ℕ} {top g : ℕ} {v : Val} {m : Meter} → (v.tag ≡ 3 → ⊥) → Inserted F C W top g v m (stopped Bottom m) C W
insert_atom {m = m} h = record { sinks = tt; means = λ S k f x fa g. ends_stop (fell (atom_insert S k f m h g.arg) refl (agree_self m)) }

none_inserted : (xs : Objs) (S : Setting) (k : ℕ) (f : Form) (m : Meter) → length_of xs ≡ 0 → insert_on (by S k) f (seq xs) m ≡ bottom m
none_inserted nil S k f m e = refl
none_inserted (x :: xs) S k f m e = absurd (omega arith)

pub insert_none : {F C W : List ℕ} {top g many : ℕ} {v : Val} {m : Meter} → v.tag ≡ 3 → Sized v many → many ≡ 0 → Inserted F C W top g v m (stopped Bottom m) C W
insert_none {C = C} {m = m} tg s z = record {
  sinks = tt;
  means = λ S k f x fa g. on_sequence (insert_on (by S k) f) tg g (λ xs g₁.
      ends_stop (fell (none_inserted xs S k f m (omega (arith, s.means C (free C m) xs (few_cells g₁.room).1 g₁.arg))) refl (agree_self m)));
}

onto_firsts : (xs : Objs) (k : ℕ) → k ≤ length_of xs → onto (firsts xs k) (drop_objs xs k) ≡ xs
unfolding onto firsts drop_objs
onto_firsts xs zero h = refl
onto_firsts xs (suc k) h = ap (onto (firsts xs k)) (sym (drop_first xs k h)) ∙ onto_firsts xs k (omega arith)

drop_end : (xs : Objs) → drop_objs xs (length_of xs) ≡ nil
unfolding drop_objs
drop_end nil = refl
drop_end (x :: xs) = drop_end xs

-- all but the last, and the last
split : (xs : Objs) (q : ℕ) → q + 1 ≡ length_of xs → xs ≡ onto (firsts xs q) (nth_obj xs q :: nil)
split xs q e =
    let z : suc q ≡ length_of xs = omega arith in
    let c : drop_objs xs q ≡ nth_obj xs q :: nil = drop_first xs q (omega arith) ∙ ap (λ (k : ℕ). nth_obj xs q :: drop_objs xs k) z ∙ ap (λ ys. nth_obj xs q :: ys) (drop_end xs) in
    sym (onto_firsts xs q (omega arith)) ∙ ap (onto (firsts xs q)) c

-- what waited before is kept too: an insert that ends has taken two cells for each place that waits
ends_spread : {C W W₁ C₂ W₂ : List ℕ} {top : ℕ} {m : Meter} {e : Out Obj} {r : Ended} (k : ℕ) → ((d : ℕ) → 1 ≤ d → d + k ≤ 4096 → held_at W₁ (top + (4096 - d)) ≡ held_at W (top + (4096 - d))) → Spends r m (2 * k) → Ends C W₁ top m e C₂ W₂ r → Ends C W top m e C₂ W₂ r
ends_spread k o s (ends_done u) =
    ends_done (record { obj = u.obj; is = u.is; made = u.made; ring = u.ring; kept = record { keep = λ d h z. u.kept.keep d h z ∙ o d h (omega arith) } })
ends_spread k o s (ends_stop u) = ends_stop u

pub insert_done : {F C W W₁ C₂ W₂ : List ℕ} {top g many : ℕ} {v y : Val} {m : Meter} {r : Ended} → v.tag ≡ 3 → Sized v many → (many ≡ 0 → ⊥) → Spread C W top (many - 1) v y W₁ → Between F C W₁ top g (many - 1) y m r C₂ W₂ → Inserted F C W top g v m r C₂ W₂
insert_done {C = C} {W} {many = many} {m = m} tg sz z sp b = record {
  sinks = b.sinks;
  means = λ S k f x fa g. on_sequence (insert_on (by S k) f) tg g (λ xs g₁.
      let few = few_cells g₁.room in
      let e = sz.means C (free C m) xs few.1 g₁.arg in
      let l : many - 1 < length_of xs = omega (arith, z) in
      let g₂ = given_held (given_next g₁ (omega arith) (since_refl C W 0 m) g₁.room g₁.ring (sp.last.means (free C m) xs few.1 l g₁.arg)) (sp.long ∙ g₁.ring) in
      let u = b.means S k f xs (nth_obj xs (many - 1)) fa g₂ (record { here = λ j h c. sp.held (free C m) xs few.1 l g₁.arg g₁.ring j h (omega (arith, few.0)) }) in
      ends_eq (ap (λ ys. insert_on (by S k) f (seq ys) m) (split xs (many - 1) (omega (arith, z)))) (ends_spread (many - 1) sp.others u.1 u.0));
}
