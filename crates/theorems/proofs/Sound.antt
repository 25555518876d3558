-- A run that comes to an object or to bottom is one that ends, and it has paid exactly what that costs.
use Prim.Native.Nat.{ℕ, zero, suc, ◌+◌, ◌-◌, ◌≤◌, max}
use mathlib.Core.Path.{◌≡◌, refl, ◌∙◌, ap}
use mathlib.Core.Bool.{Bool, true, false}
use mathlib.Core.List.{List}
use mathlib.Core.Option.{Option, some, none}
use native.Mathlib.Omega.{arith}
use lib.Dec.{leb}
use borrow.Author.Tests.{leb-true}
use Rattle.language.specs.declared.Meter.{Meter}
use Rattle.language.specs.Objects.{Obj, int, symbol, seq, Objs, nil, ◌::◌, length_of, Truth, truth_of, is_T, is_F, neither}
use Rattle.language.specs.Forms.{Word, Form, word, name, chain, construct, constant, insert, apply_all, bu, condition, while, Forms, stop, ◌&◌, Prog}
use Rattle.language.specs.Numbers.{Edition}
use Rattle.language.specs.Meanings.{WordAnswer, falls, gives, meaning, pair}
use Rattle.language.specs.Charging.{take_cells, with_names}
use Rattle.language.specs.Evaluation.{Spent, Out, value, bottom as fallen, spent, bind, ask_step, ask_steps, ask_cells, close, ask_name, lookup, charged, Apply, chain_by, construct_by, each_by, insert_by, while_by, insert_on, apply_all_on, decide, gathered, inside, apply}
use Rattle.theorems.proofs.Ends.{Job, just, parts, items, each, fold, loop, Result, object, bottom, Ends, recount, word_bottom, word_object, name_bottom, name_in, chain_in, construct_object, construct_bottom, constant_in, insert_fold, insert-nil, insert_int, insert_symbol, apply_all_object, apply_all_bottom, apply_all_int, apply_all_symbol, bu_in, condition_bottom, condition_no, condition_T, condition_F, while_in, parts_stop, parts_bottom, parts_go, items_stop, items_bottom, items_late, items_go, each_nil, each_bottom, each_late, each_go, fold_one, fold_bottom, fold_go, loop_bottom, loop_no, loop_F, loop_fell, loop_go}

module _ (e : Edition) (P : Prog) where
  -- from m, with a steps and b cells paid before, to m'
  pub record Spends (a b : ℕ) (j : Job) (r : Result) (m m' : Meter) : Type 0 where
    pub d : ℕ
    pub s : ℕ
    pub c : ℕ
    pub ends : Ends e P d j r s c
    pub fits : d ≤ m.names
    pub steps : a + m.steps ≡ s + m'.steps
    pub cells : b + m.cells ≡ c + m'.cells
    pub names : m.names ≡ m'.names

  pub data Explains (a b : ℕ) (j : Job) (m : Meter) : Out Obj → Type 0 where
    ex_object : {v : Obj} {m' : Meter} → Spends a b j (object v) m m' → Explains a b j m (value v m')
    ex_bottom : {m' : Meter} → Spends a b j bottom m m' → Explains a b j m (fallen m')
    ex_out : {w : Spent} {m' : Meter} → Explains a b j m (spent w m')

  pub data ExplainsAll (j : Job) (m : Meter) : Out Objs → Type 0 where
    ex_objects : {ys : Objs} {m' : Meter} → Spends 0 0 j (object (seq ys)) m m' → ExplainsAll j m (value ys m')
    ex_bottoms : {m' : Meter} → Spends 0 0 j bottom m m' → ExplainsAll j m (fallen m')
    ex_out_all : {w : Spent} {m' : Meter} → ExplainsAll j m (spent w m')

  -- a run from m₁ as a run from m
  record Before (a b a₁ b₁ : ℕ) (m m₁ : Meter) : Type 0 where
    steps : a + m.steps ≡ a₁ + m₁.steps
    cells : b + m.cells ≡ b₁ + m₁.cells
    names : m.names ≡ m₁.names

  shifted : {a b a₁ b₁ : ℕ} {j : Job} {r : Result} {m m₁ m₂ : Meter} → Before a b a₁ b₁ m m₁ → Spends a₁ b₁ j r m₁ m₂ → Spends a b j r m m₂
  shifted t E = record {
    d = E.d;
    s = E.s;
    c = E.c;
    ends = E.ends;
    fits = omega (arith, t.names, E.fits);
    steps = t.steps ∙ E.steps;
    cells = t.cells ∙ E.cells;
    names = t.names ∙ E.names;
  }

  shift : {a b a₁ b₁ : ℕ} {j : Job} {m m₁ : Meter} {o : Out Obj} → Before a b a₁ b₁ m m₁ → Explains a₁ b₁ j m₁ o → Explains a b j m o
  shift t (ex_object E) = ex_object (shifted t E)
  shift t (ex_bottom E) = ex_bottom (shifted t E)
  shift t ex_out = ex_out

  step_sound : {a b : ℕ} {j : Job} (m : Meter) (k : Meter → Out Obj) → ((m₁ : Meter) → Explains (suc a) b j m₁ (k m₁)) → Explains a b j m (ask_step m k)
  step_sound {a} {b} {j} m k f = go m.steps refl
    where
      go : (S : ℕ) → m.steps ≡ S → Explains a b j m (ask_step m k)
      go zero h = rw h ex_out
      go (suc S) h =
          let m₁ : Meter = record { steps = S; names = m.names; cells = m.cells } in
          rw h (shift (record { steps = omega arith; cells = refl; names = refl }) (f m₁))

  steps_sound : {a b : ℕ} {j : Job} (n : ℕ) (m : Meter) (k : Meter → Out Obj) → ((m₁ : Meter) → Explains (a + n) b j m₁ (k m₁)) → Explains a b j m (ask_steps n m k)
  steps_sound {a} {b} {j} n m k f = go (leb n m.steps) refl
    where
      go : (t : Bool) → leb n m.steps ≡ t → Explains a b j m (ask_steps n m k)
      go false h = rw (h, ask_steps) ex_out
      go true h =
          let m₁ : Meter = record { steps = m.steps - n; names = m.names; cells = m.cells } in
          let l : n ≤ m.steps = leb-true n m.steps h in
          rw (h, ask_steps) (shift (record { steps = omega arith; cells = refl; names = refl }) (f m₁))

  cells_sound : {a b : ℕ} {j : Job} (n : ℕ) (m : Meter) (k : Meter → Out Obj) → ((m₁ : Meter) → m₁.names ≡ m.names → Explains a (b + n) j m₁ (k m₁))
      → Explains a b j m (ask_cells n m k)
  cells_sound {a} {b} {j} n m k f = go (leb n m.cells) refl
    where
      go : (t : Bool) → leb n m.cells ≡ t → Explains a b j m (ask_cells n m k)
      go false h = rw (h, take_cells) ex_out
      go true h =
          let m₁ : Meter = record { steps = m.steps; names = m.names; cells = m.cells - n } in
          let l : n ≤ m.cells = leb-true n m.cells h in
          rw (h, take_cells) (shift (record { steps = refl; cells = omega arith; names = refl }) (f m₁ refl))

  -- the same spending, for another job
  stop_at : {j j₁ : Job} {r₁ r : Result} {m m₁ : Meter} (E : Spends 0 0 j₁ r₁ m m₁) → Ends e P E.d j r E.s E.c → Spends 0 0 j r m m₁
  stop_at E D = record { d = E.d; s = E.s; c = E.c; ends = D; fits = E.fits; steps = E.steps; cells = E.cells; names = E.names }

  stop_at⁺ : {j j₁ : Job} {r₁ r : Result} {m m₁ : Meter} (E : Spends 0 0 j₁ r₁ m m₁) → Ends e P E.d j r (suc E.s) E.c → Spends 1 0 j r m m₁
  stop_at⁺ E D = record { d = E.d; s = suc E.s; c = E.c; ends = D; fits = E.fits; steps = omega (arith, E.steps); cells = E.cells; names = E.names }

  -- two, one after the other
  both : {j j₁ j₂ : Job} {r₁ r₂ r : Result} {m m₁ m₂ : Meter} (E : Spends 0 0 j₁ r₁ m m₁) (F : Spends 0 0 j₂ r₂ m₁ m₂)
      → Ends e P (max E.d F.d) j r (E.s + F.s) (E.c + F.c) → Spends 0 0 j r m m₂
  both E F D = record {
    d = max E.d F.d;
    s = E.s + F.s;
    c = E.c + F.c;
    ends = D;
    fits = omega (arith, E.fits, F.fits, E.names);
    steps = omega (arith, E.steps, F.steps);
    cells = omega (arith, E.cells, F.cells);
    names = E.names ∙ F.names;
  }

  both⁺ : {j j₁ j₂ : Job} {r₁ r₂ r : Result} {m m₁ m₂ : Meter} (E : Spends 0 0 j₁ r₁ m m₁) (F : Spends 0 0 j₂ r₂ m₁ m₂)
      → Ends e P (max E.d F.d) j r (suc (E.s + F.s)) (E.c + F.c) → Spends 1 0 j r m m₂
  both⁺ E F D = record {
    d = max E.d F.d;
    s = suc (E.s + F.s);
    c = E.c + F.c;
    ends = D;
    fits = omega (arith, E.fits, F.fits, E.names);
    steps = omega (arith, E.steps, F.steps);
    cells = omega (arith, E.cells, F.cells);
    names = E.names ∙ F.names;
  }

  -- one job inside another, whose step is paid
  wrap : {j j₁ : Job} {m : Meter} {o : Out Obj} → ((r : Result) (d s c : ℕ) → Ends e P d j₁ r s c → Ends e P d j r (suc s) c) → Explains 0 0 j₁ m o → Explains 1 0 j m o
  wrap k (ex_object E) = ex_object (stop_at⁺ E (k _ _ _ _ E.ends))
  wrap k (ex_bottom E) = ex_bottom (stop_at⁺ E (k _ _ _ _ E.ends))
  wrap k ex_out = ex_out

  -- one job after another
  next : {j j₁ j₂ : Job} {r₁ : Result} {m m₁ : Meter} {o : Out Obj} (E : Spends 0 0 j₁ r₁ m m₁)
      → ((r : Result) (d s c : ℕ) → Ends e P d j₂ r s c → Ends e P (max E.d d) j r (E.s + s) (E.c + c)) → Explains 0 0 j₂ m₁ o
      → Explains 0 0 j m o
  next E k (ex_object F) = ex_object (both E F (k _ _ _ _ F.ends))
  next E k (ex_bottom F) = ex_bottom (both E F (k _ _ _ _ F.ends))
  next E k ex_out = ex_out

  next⁺ : {j j₁ j₂ : Job} {r₁ : Result} {m m₁ : Meter} {o : Out Obj} (E : Spends 0 0 j₁ r₁ m m₁)
      → ((r : Result) (d s c : ℕ) → Ends e P d j₂ r s c → Ends e P (max E.d d) j r (suc (E.s + s)) (E.c + c)) → Explains 0 0 j₂ m₁ o
      → Explains 1 0 j m o
  next⁺ E k (ex_object F) = ex_object (both⁺ E F (k _ _ _ _ F.ends))
  next⁺ E k (ex_bottom F) = ex_bottom (both⁺ E F (k _ _ _ _ F.ends))
  next⁺ E k ex_out = ex_out

  at_once : {j : Job} {r : Result} {m : Meter} → Ends e P 0 j r 0 0 → Spends 0 0 j r m m
  at_once D = record { d = 0; s = 0; c = 0; ends = D; fits = omega arith; steps = refl; cells = refl; names = refl }

  at_once⁺ : {j : Job} {r : Result} {m : Meter} → Ends e P 0 j r 1 0 → Spends 1 0 j r m m
  at_once⁺ D = record { d = 0; s = 1; c = 0; ends = D; fits = omega arith; steps = refl; cells = refl; names = refl }

  at_cost : {s c d : ℕ} {j : Job} {r : Result} {m : Meter} → Ends e P d j r s c → d ≤ m.names → Spends s c j r m m
  at_cost D h = record { d = _; s = _; c = _; ends = D; fits = h; steps = refl; cells = refl; names = refl }

  more : {a b : ℕ} (q : ℕ) {j j₂ : Job} {r₂ r : Result} {m m₁ : Meter} (F : Spends 0 0 j₂ r₂ m m₁) → q ≤ m.names
      → Ends e P (max q F.d) j r (a + F.s) (b + F.c) → Spends a b j r m m₁
  more {a = a} {b = b} q F h D =
      record { d = max q F.d; s = a + F.s; c = b + F.c; ends = D; fits = omega (arith, F.fits); steps = omega (arith, F.steps); cells = omega (arith, F.cells); names = F.names }

  lift : (q a b : ℕ) {j j₂ : Job} {m : Meter} {o : Out Obj} → q ≤ m.names
      → ((r : Result) (d s c : ℕ) → Ends e P d j₂ r s c → Ends e P (max q d) j r (a + s) (b + c)) → Explains 0 0 j₂ m o → Explains a b j m o
  lift q a b h k (ex_object F) = ex_object (more q F h (k _ _ _ _ F.ends))
  lift q a b h k (ex_bottom F) = ex_bottom (more q F h (k _ _ _ _ F.ends))
  lift q a b h k ex_out = ex_out

  -- what was spent before counts as paid
  from : {a : ℕ} {j₁ : Job} {r₁ : Result} {m m₁ : Meter} → (E : Spends 0 0 j₁ r₁ m m₁) → Before a 0 (a + E.s) E.c m m₁
  from E = record { steps = omega (arith, E.steps); cells = E.cells; names = E.names }

  from₂ : {j₁ j₂ : Job} {r₁ r₂ : Result} {m m₁ m₂ : Meter} → (E : Spends 0 0 j₁ r₁ m m₁) (F : Spends 0 0 j₂ r₂ m₁ m₂) → Before 0 0 (E.s + F.s) (E.c + F.c) m m₂
  from₂ E F = record { steps = omega (arith, E.steps, F.steps); cells = omega (arith, E.cells, F.cells); names = E.names ∙ F.names }

  abbrev pub Good : Apply → Type 0
  Good ap = (f : Form) (x : Obj) (m : Meter) → Explains 0 0 (just f x) m (ap f x m)

  module _ (ap : Apply) (g : Good ap) where
    after_parts_lem : (f : Form) {fs : Forms} {x : Obj} {m : Meter} {o : Out Obj} → Explains 0 0 (parts fs x) m o
        → Explains 0 0 (parts (f & fs) x) m (bind o (λ y m₁. ap f y m₁))
    after_parts_lem f (ex_object {v = y} {m' = m₁} E) = next E (λ r d s c D. parts_go E.ends D) (g f y m₁)
    after_parts_lem f (ex_bottom E) = ex_bottom (stop_at E (parts_bottom E.ends))
    after_parts_lem f ex_out = ex_out

    pub parts_sound : (fs : Forms) (x : Obj) (m : Meter) → Explains 0 0 (parts fs x) m (chain_by ap fs x m)
    parts_sound stop x m = ex_object (at_once parts_stop)
    parts_sound (f & fs) x m = after_parts_lem f (parts_sound fs x m)

    -- items and elements
    rest_items : {f : Form} {fs : Forms} {x y : Obj} {m m₁ : Meter} {o : Out Objs} → Spends 0 0 (just f x) (object y) m m₁
        → ExplainsAll (items fs x) m₁ o → ExplainsAll (items (f & fs) x) m (bind o (λ ys m₂. value (y :: ys) m₂))
    rest_items E (ex_objects F) = ex_objects (both E F (items_go E.ends F.ends))
    rest_items E (ex_bottoms F) = ex_bottoms (both E F (items_late E.ends F.ends))
    rest_items E ex_out_all = ex_out_all

    first_item : {f : Form} {fs : Forms} {x : Obj} {m : Meter} {o : Out Obj} (k : Meter → Out Objs) → Explains 0 0 (just f x) m o
        → ((m₁ : Meter) → ExplainsAll (items fs x) m₁ (k m₁))
        → ExplainsAll (items (f & fs) x) m (bind o (λ y m₁. bind (k m₁) (λ ys m₂. value (y :: ys) m₂)))
    first_item k (ex_object {m' = m₁} E) h = rest_items E (h m₁)
    first_item k (ex_bottom E) h = ex_bottoms (stop_at E (items_bottom E.ends))
    first_item k ex_out h = ex_out_all

    pub items_sound : (fs : Forms) (x : Obj) (m : Meter) → ExplainsAll (items fs x) m (construct_by ap fs x m)
    items_sound stop x m = ex_objects (at_once items_stop)
    items_sound (f & fs) x m = first_item (λ m₁. construct_by ap fs x m₁) (g f x m) (λ m₁. items_sound fs x m₁)

    rest_each : {f : Form} {x y : Obj} {xs : Objs} {m m₁ : Meter} {o : Out Objs} → Spends 0 0 (just f x) (object y) m m₁
        → ExplainsAll (each f xs) m₁ o → ExplainsAll (each f (x :: xs)) m (bind o (λ ys m₂. value (y :: ys) m₂))
    rest_each E (ex_objects F) = ex_objects (both E F (each_go E.ends F.ends))
    rest_each E (ex_bottoms F) = ex_bottoms (both E F (each_late E.ends F.ends))
    rest_each E ex_out_all = ex_out_all

    first_each : {f : Form} {x : Obj} {xs : Objs} {m : Meter} {o : Out Obj} (k : Meter → Out Objs) → Explains 0 0 (just f x) m o
        → ((m₁ : Meter) → ExplainsAll (each f xs) m₁ (k m₁))
        → ExplainsAll (each f (x :: xs)) m (bind o (λ y m₁. bind (k m₁) (λ ys m₂. value (y :: ys) m₂)))
    first_each k (ex_object {m' = m₁} E) h = rest_each E (h m₁)
    first_each k (ex_bottom E) h = ex_bottoms (stop_at E (each_bottom E.ends))
    first_each k ex_out h = ex_out_all

    pub each_sound : (f : Form) (xs : Objs) (m : Meter) → ExplainsAll (each f xs) m (each_by ap f xs m)
    each_sound f nil m = ex_objects (at_once each_nil)
    each_sound f (x :: xs) m = first_each (λ m₁. each_by ap f xs m₁) (g f x m) (λ m₁. each_sound f xs m₁)

    -- n cells for a finished sequence
    shut : {j j₁ : Job} {m : Meter} {o : Out Objs}
        → ((ys : Objs) (d s c : ℕ) → Ends e P d j₁ (object (seq ys)) s c → Ends e P d j (object (seq ys)) (suc s) (c + length_of ys))
        → ((d s c : ℕ) → Ends e P d j₁ bottom s c → Ends e P d j bottom (suc s) c) → ExplainsAll j₁ m o → Explains 1 0 j m (bind o gathered)
    shut k l (ex_objects {ys = ys} {m' = m₁} E) =
        shift (from {a = 1} E) (cells_sound (length_of ys) m₁ (λ m₂. value (seq ys) m₂) (λ m₂ h.
        ex_object (at_cost (recount e P refl (omega arith) refl (k ys _ _ _ E.ends)) (omega (arith, E.fits, E.names)))))
    shut k l (ex_bottoms E) = ex_bottom (stop_at⁺ E (l _ _ _ E.ends))
    shut k l ex_out_all = ex_out

    after_fold : {f : Form} {x y : Obj} {ys : Objs} {m : Meter} {o : Out Obj} → Explains 0 0 (fold f y ys) m o
        → Explains 0 0 (fold f x (y :: ys)) m (bind o (λ z m₁. ask_cells 2 m₁ (λ m₂. ap f (pair x z) m₂)))
    after_fold {f = f} {x = x} (ex_object {v = z} {m' = m₁} E) =
        shift (from {a = 0} E) (cells_sound 2 m₁ (λ m₂. ap f (pair x z) m₂) (λ m₂ h.
        lift E.d (0 + E.s) (E.c + 2) (omega (arith, E.fits, E.names)) (λ r d s c D. recount e P refl (omega arith) (omega arith) (fold_go E.ends D)) (g f (pair x z) m₂)))
    after_fold (ex_bottom E) = ex_bottom (stop_at E (fold_bottom E.ends))
    after_fold ex_out = ex_out

    pub fold_sound : (f : Form) (x : Obj) (xs : Objs) (m : Meter) → Explains 0 0 (fold f x xs) m (insert_by ap f x xs m)
    fold_sound f x nil m = ex_object (at_once fold_one)
    fold_sound f x (y :: ys) m = after_fold (fold_sound f y ys m)

    -- the branch that a truth value takes
    by_condition : {p f h : Form} {x b : Obj} {m m₁ : Meter} → Spends 0 0 (just p x) (object b) m m₁ → (t : Truth) → truth_of b ≡ t
        → Explains 1 0 (just (condition p f h) x) m (decide b m₁ (ap f x) (ap h x))
    by_condition {f = f} {x = x} {m₁ = m₁} E is_T t = rw (t, decide) (next⁺ E (λ r d s c D. condition_T E.ends t D) (g f x m₁))
    by_condition {h = h} {x = x} {m₁ = m₁} E is_F t = rw (t, decide) (next⁺ E (λ r d s c D. condition_F E.ends t D) (g h x m₁))
    by_condition E neither t = rw (t, decide) (ex_bottom (stop_at⁺ E (condition_no E.ends t)))

    after_condition : {p f h : Form} {x : Obj} {m : Meter} {o : Out Obj} → Explains 0 0 (just p x) m o
        → Explains 1 0 (just (condition p f h) x) m (bind o (λ b m₁. decide b m₁ (ap f x) (ap h x)))
    after_condition (ex_object {v = b} E) = by_condition E (truth_of b) refl
    after_condition (ex_bottom E) = ex_bottom (stop_at⁺ E (condition_bottom E.ends))
    after_condition ex_out = ex_out

    -- a round of while
    after_body : {p f : Form} {x b : Obj} {m m₁ : Meter} {o : Out Obj} (k : Obj → Meter → Out Obj) → Spends 0 0 (just p x) (object b) m m₁
        → truth_of b ≡ is_T → ((y : Obj) (m₂ : Meter) → Explains 0 0 (loop p f y) m₂ (k y m₂)) → Explains 0 0 (just f x) m₁ o
        → Explains 0 0 (loop p f x) m (bind o k)
    after_body k E t h (ex_object {v = y} {m' = m₂} F) =
        shift (from₂ E F) (lift (max E.d F.d) (E.s + F.s) (E.c + F.c) (omega (arith, E.fits, F.fits, E.names, F.names))
        (λ r d s c D. recount e P (omega arith) (omega arith) (omega arith) (loop_go E.ends t F.ends D)) (h y m₂))
    after_body k E t h (ex_bottom F) = ex_bottom (both E F (loop_fell E.ends t F.ends))
    after_body k E t h ex_out = ex_out

    by_while : {p f : Form} {x b : Obj} {m m₁ : Meter} (k : Obj → Meter → Out Obj) → ((y : Obj) (m₂ : Meter) → Explains 0 0 (loop p f y) m₂ (k y m₂))
        → Spends 0 0 (just p x) (object b) m m₁ → (t : Truth) → truth_of b ≡ t
        → Explains 0 0 (loop p f x) m (decide b m₁ (λ m₂. bind (ap f x m₂) k) (λ m₂. value x m₂))
    by_while {f = f} {x = x} {m₁ = m₁} k h E is_T t = rw (t, decide) (after_body k E t h (g f x m₁))
    by_while k h E is_F t = rw (t, decide) (ex_object (stop_at E (loop_F E.ends t)))
    by_while k h E neither t = rw (t, decide) (ex_bottom (stop_at E (loop_no E.ends t)))

    after_test_lem : {p f : Form} {x : Obj} {m : Meter} {o : Out Obj} (k : Obj → Meter → Out Obj)
        → ((y : Obj) (m₂ : Meter) → Explains 0 0 (loop p f y) m₂ (k y m₂)) → Explains 0 0 (just p x) m o
        → Explains 0 0 (loop p f x) m (bind o (λ b m₁. decide b m₁ (λ m₂. bind (ap f x m₂) k) (λ m₂. value x m₂)))
    after_test_lem k h (ex_object {v = b} E) = by_while k h E (truth_of b) refl
    after_test_lem k h (ex_bottom E) = ex_bottom (stop_at E (loop_bottom E.ends))
    after_test_lem k h ex_out = ex_out

    loop_sound : (j : ℕ) (p f : Form) (x : Obj) (m : Meter) → Explains 0 0 (loop p f x) m (while_by ap j p f x m)
    loop_sound zero p f x m = ex_out
    loop_sound (suc j) p f x m = after_test_lem (λ y m₂. while_by ap j p f y m₂) (λ y m₂. loop_sound j p f y m₂) (g p x m)

    -- a name
    spent_name : {n : ℕ} {w : List ℕ} {b : Form} {x : Obj} {r : Result} {m m' : Meter} → lookup w P ≡ some b → m.names ≡ suc n
        → Spends 0 0 (just b x) r (with_names n m) m' → Spends 1 0 (just (name w) x) r m (with_names (suc n) m')
    spent_name h q E = record {
      d = suc E.d;
      s = suc E.s;
      c = E.c;
      ends = name_in h E.ends;
      fits = omega (arith, E.fits);
      steps = omega (arith, E.steps);
      cells = E.cells;
      names = q;
    }

    closed : {n : ℕ} {w : List ℕ} {b : Form} {x : Obj} {m : Meter} {o : Out Obj} → lookup w P ≡ some b → m.names ≡ suc n
        → Explains 0 0 (just b x) (with_names n m) o → Explains 1 0 (just (name w) x) m (close (suc n) o)
    closed h q (ex_object E) = ex_object (spent_name h q E)
    closed h q (ex_bottom E) = ex_bottom (spent_name h q E)
    closed h q ex_out = ex_out

    by_name : {w : List ℕ} {b : Form} {x : Obj} (m : Meter) (n : ℕ) → lookup w P ≡ some b → m.names ≡ n → Explains 1 0 (just (name w) x) m (ask_name m (λ m₁. ap b x m₁))
    by_name {b = b} {x = x} m zero h q = rw (q, ask_name) ex_out
    by_name {b = b} {x = x} m (suc n) h q = rw (q, ask_name) (closed h refl (g b x (with_names n m)))

    by_lookup : {w : List ℕ} {x : Obj} (m : Meter) → (o : Option Form) → lookup w P ≡ o
        → Explains 1 0 (just (name w) x) m (elim o as (λ (o : Option Form). Out Obj) [ none ↦ fallen m | some b ↦ ask_name m (λ m₁. ap b x m₁) ])
    by_lookup m none h = ex_bottom (at_once⁺ (name_bottom h))
    by_lookup m (some b) h = by_name m m.names h refl

    by_meaning : {w : Word} {x : Obj} (m : Meter) (a : WordAnswer) → meaning e w x ≡ a → Explains 1 0 (just (word w) x) m (charged a m)
    by_meaning m falls h = ex_bottom (at_once⁺ (word_bottom h))
    by_meaning m (gives s c v) h =
        steps_sound s m (λ m₁. ask_cells c m₁ (λ m₂. value v m₂)) (λ m₁.
        cells_sound c m₁ (λ m₂. value v m₂) (λ m₂ u'. ex_object (at_cost (recount e P refl (omega arith) (omega arith) (word_object h)) (omega arith))))

    insert_sound : (f : Form) (x : Obj) (m : Meter) → Explains 1 0 (just (insert f) x) m (insert_on ap f x m)
    insert_sound f (int z) m = ex_bottom (at_once⁺ insert_int)
    insert_sound f (symbol z) m = ex_bottom (at_once⁺ insert_symbol)
    insert_sound f (seq nil) m = ex_bottom (at_once⁺ insert-nil)
    insert_sound f (seq (x :: xs)) m = wrap (λ r d s c D. insert_fold D) (fold_sound f x xs m)

    apply_all_sound : (f : Form) (x : Obj) (m : Meter) → Explains 1 0 (just (apply_all f) x) m (apply_all_on ap f x m)
    apply_all_sound f (int z) m = ex_bottom (at_once⁺ apply_all_int)
    apply_all_sound f (symbol z) m = ex_bottom (at_once⁺ apply_all_symbol)
    apply_all_sound f (seq xs) m = shut (λ ys d s c D. apply_all_object D) (λ d s c D. apply_all_bottom D) (each_sound f xs m)

    inside_sound : (n : ℕ) (f : Form) (x : Obj) (m : Meter) → Explains 1 0 (just f x) m (inside ap n e P f x m)
    inside_sound n (word w) x m = by_meaning m (meaning e w x) refl
    inside_sound n (name w) x m = by_lookup m (lookup w P) refl
    inside_sound n (chain fs) x m = wrap (λ r d s c D. chain_in D) (parts_sound fs x m)
    inside_sound n (construct fs) x m = shut (λ ys d s c D. construct_object D) (λ d s c D. construct_bottom D) (items_sound fs x m)
    inside_sound n (constant y) x m = ex_object (at_once⁺ constant_in)
    inside_sound n (insert f) x m = insert_sound f x m
    inside_sound n (apply_all f) x m = apply_all_sound f x m
    inside_sound n (bu f y) x m =
        cells_sound 2 m (λ m₁. ap f (pair y x) m₁) (λ m₁ h. lift 0 1 (0 + 2) (omega arith) (λ r d s c D. recount e P (omega arith) (omega arith) (omega arith) (bu_in D)) (g f (pair y x) m₁))
    inside_sound n (condition p f h) x m = after_condition (g p x m)
    inside_sound n (while p f) x m = wrap (λ r d s c D. while_in D) (loop_sound n p f x m)

  pub sound : (n : ℕ) (f : Form) (x : Obj) (m : Meter) → Explains 0 0 (just f x) m (apply n e P f x m)
  sound zero f x m = ex_out
  sound (suc n) f x m = step_sound m (λ m₁. inside (apply n e P) n e P f x m₁) (λ m₁. inside_sound (apply n e P) (λ f₁ x₁ m₂. sound n f₁ x₁ m₂) n f x m₁)
