-- What ends, ends so under any budgets that its counts fit.
use Prim.Native.Nat.{ℕ, zero, suc, ◌+◌, ◌≤◌}
use mathlib.Core.Path.{◌≡◌, refl, sym, ◌∙◌, ap}
use mathlib.Core.Bool.{true}
use native.Mathlib.Omega.{arith}
use lib.Dec.{leb}
use borrow.Author.Tests.{le-leb}
use Rattle.language.specs.declared.Meter.{Meter}
use Rattle.language.specs.Objects.{Obj, int, symbol, seq, Objs, nil, length_of}
use Rattle.language.specs.Forms.{Form, Prog}
use Rattle.language.specs.Numbers.{Edition}
use Rattle.language.specs.Meanings.{gives, pair}
use Rattle.language.specs.Charging.{take_cells, with_names}
use Rattle.language.specs.Evaluation.{Out, value, bottom as fallen, bind, ask_step, ask_steps, ask_cells, close, ask_name, charged, chain_by, construct_by, each_by, insert_by, while_by, decide, inside, apply}
use Rattle.language.proofs.Charging.{meter_same}
use Rattle.theorems.proofs.Ends.{Job, just, parts, items, each, fold, loop, Result, object, bottom, Ends, word_bottom, word_object, name_bottom, name_in, chain_in, construct_object, construct_bottom, constant_in, insert_fold, insert-nil, insert_int, insert_symbol, apply_all_object, apply_all_bottom, apply_all_int, apply_all_symbol, bu_in, condition_bottom, condition_no, condition_T, condition_F, while_in, parts_stop, parts_bottom, parts_go, items_stop, items_bottom, items_late, items_go, each_nil, each_bottom, each_late, each_go, fold_one, fold_bottom, fold_go, loop_bottom, loop_no, loop_F, loop_fell, loop_go}

-- m' is what is left of m after s steps and c cells
pub record Paid (m : Meter) (s c : ℕ) (m' : Meter) : Type 0 where
  pub steps : m.steps ≡ s + m'.steps
  pub cells : m.cells ≡ c + m'.cells
  pub names : m.names ≡ m'.names

pub ask_step_lem : {A : Type 0} (m m₁ : Meter) (k : Meter → Out A) → Paid m 1 0 m₁ → ask_step m k ≡ k m₁
ask_step_lem m m₁ k p = go m.steps refl
  where
    go : (S : ℕ) → m.steps ≡ S → ask_step m k ≡ k m₁
    go zero h = absurd (omega (arith, p.steps, h))
    go (suc S) h = rw h (ap k (meter_same _ _ (omega (arith, p.steps, h)) p.names (omega (arith, p.cells))))

pub ask_steps_lem : {A : Type 0} (s : ℕ) (m m₁ : Meter) (k : Meter → Out A) → Paid m s 0 m₁ → ask_steps s m k ≡ k m₁
ask_steps_lem s m m₁ k p =
    let h : leb s m.steps ≡ true = le-leb s m.steps (omega (arith, p.steps)) in
    rw (h, ask_steps) (ap k (meter_same _ _ (omega (arith, p.steps)) p.names (omega (arith, p.cells))))

pub ask_cells_lem : {A : Type 0} (c : ℕ) (m m₁ : Meter) (k : Meter → Out A) → Paid m 0 c m₁ → ask_cells c m k ≡ k m₁
ask_cells_lem c m m₁ k p =
    let h : leb c m.cells ≡ true = le-leb c m.cells (omega (arith, p.cells)) in
    rw (h, take_cells) (ap k (meter_same _ _ (omega (arith, p.steps)) p.names (omega (arith, p.cells))))

abbrev pub mid : ℕ → ℕ → Meter → Meter
mid s c m' = record { steps = s + m'.steps; names = m'.names; cells = c + m'.cells }

pub paid_left : {s c : ℕ} (s' c' : ℕ) {m m' : Meter} → Paid m (s + s') (c + c') m' → Paid m s c (mid s' c' m')
paid_left s' c' p = record { steps = omega (arith, p.steps); cells = omega (arith, p.cells); names = p.names }

pub paid_cells : {s c : ℕ} (n : ℕ) {m m' : Meter} → Paid m s (c + n) m' → Paid m s c (mid 0 n m')
paid_cells n p = record { steps = omega (arith, p.steps); cells = omega (arith, p.cells); names = p.names }

pub paid_right : {s c : ℕ} {m' : Meter} → Paid (mid s c m') s c m'
paid_right = record { steps = refl; cells = refl; names = refl }

abbrev pub out : Result → Meter → Out Obj
out (object v) m = value v m
out bottom m = fallen m

abbrev pub out_all : Result → Meter → Out Objs
out_all (object (int z)) m = fallen m
out_all (object (symbol z)) m = fallen m
out_all (object (seq ys)) m = value ys m
out_all bottom m = fallen m

pub paid_word : (s c : ℕ) (v : Obj) {m m' : Meter} → Paid m s c m' → charged (gives s c v) m ≡ value v m'
paid_word s c v {m} {m'} p =
    ask_steps_lem s m (mid 0 c m') (λ m₁. ask_cells c m₁ (λ m₂. value v m₂)) (record { steps = omega (arith, p.steps); cells = omega (arith, p.cells); names = p.names })
    ∙ ask_cells_lem c (mid 0 c m') m' (λ m₂. value v m₂) paid_right

pub close_out : (r : Result) (N : ℕ) (m : Meter) → m.names ≡ suc N → close (suc N) (out r (with_names N m)) ≡ out r m
close_out (object v) N m h = ap (value v) (meter_same _ m refl (sym h) refl)
close_out bottom N m h = ap fallen (meter_same _ m refl (sym h) refl)

pub ask_name_lem : (m m' : Meter) → m.names ≡ m'.names → 1 ≤ m.names → (k : Meter → Out Obj) (r : Result)
    → ((N : ℕ) → m.names ≡ suc N → k (with_names N m) ≡ out r (with_names N m')) → ask_name m k ≡ out r m'
ask_name_lem m m' h q k r f = go m.names refl
  where
    go : (N : ℕ) → m.names ≡ N → ask_name m k ≡ out r m'
    go zero u = absurd (omega arith)
    go (suc N) u = rw (u, ask_name) (rw (f N u) (close_out r N m' (sym h ∙ u)))

-- nothing is left to pay
pub done : {m m' : Meter} → Paid m 0 0 m' → m ≡ m'
done {m} {m'} p = meter_same m m' (omega (arith, p.steps)) p.names (omega (arith, p.cells))

module _ (e : Edition) (P : Prog) where
  pub just_pos : {d : ℕ} {f : Form} {x : Obj} {r : Result} {s c : ℕ} → Ends e P d (just f x) r s c → 1 ≤ s
  just_pos (word_bottom h) = omega arith
  just_pos (word_object h) = omega arith
  just_pos (name_bottom h) = omega arith
  just_pos (name_in h D) = omega arith
  just_pos (chain_in D) = omega arith
  just_pos (construct_object D) = omega arith
  just_pos (construct_bottom D) = omega arith
  just_pos constant_in = omega arith
  just_pos (insert_fold D) = omega arith
  just_pos insert-nil = omega arith
  just_pos insert_int = omega arith
  just_pos insert_symbol = omega arith
  just_pos (apply_all_object D) = omega arith
  just_pos (apply_all_bottom D) = omega arith
  just_pos apply_all_int = omega arith
  just_pos apply_all_symbol = omega arith
  just_pos (bu_in D) = omega arith
  just_pos (condition_bottom D) = omega arith
  just_pos (condition_no D h) = omega arith
  just_pos (condition_T D h E) = omega arith
  just_pos (condition_F D h E) = omega arith
  just_pos (while_in D) = omega arith

  abbrev pub Meets : ℕ → Job → Result → Meter → Meter → Type 0
  Meets n (just f x) r m m' = apply n e P f x m ≡ out r m'
  Meets n (parts fs x) r m m' = chain_by (apply n e P) fs x m ≡ out r m'
  Meets n (items fs x) r m m' = construct_by (apply n e P) fs x m ≡ out_all r m'
  Meets n (each f xs) r m m' = each_by (apply n e P) f xs m ≡ out_all r m'
  Meets n (fold f x xs) r m m' = insert_by (apply n e P) f x xs m ≡ out r m'
  Meets n (loop p f x) r m m' = (j : ℕ) → m.steps ≤ j → while_by (apply n e P) j p f x m ≡ out r m'

  -- the step of an application is paid, and its inside is left
  pub paid_step : (f : Form) (x : Obj) {o : Out Obj} {s c : ℕ} {m m' : Meter} (n : ℕ) → Paid m (suc s) c m' → m.steps ≤ n
      → ((n₁ : ℕ) (m₁ : Meter) → Paid m₁ s c m' → m₁.names ≡ m.names → m₁.steps ≤ n₁ → inside (apply n₁ e P) n₁ e P f x m₁ ≡ o)
      → apply n e P f x m ≡ o
  paid_step f x zero p q k = absurd (omega (arith, p.steps))
  paid_step f x {s = s} {c = c} {m = m} {m' = m'} (suc n) p q k =
      ask_step_lem m (mid s c m') (λ m₁. inside (apply n e P) n e P f x m₁) (record { steps = omega (arith, p.steps); cells = omega (arith, p.cells); names = p.names })
      ∙ k n (mid s c m') paid_right (sym p.names) (omega (arith, p.steps))

  pub round : (n : ℕ) {o : Out Obj} (m : Meter) (g f : Form) (x : Obj) (j : ℕ) → m.steps ≤ j → 1 ≤ m.steps
      → ((j₁ : ℕ) → m.steps ≤ suc j₁ → while_by (apply n e P) (suc j₁) g f x m ≡ o) → while_by (apply n e P) j g f x m ≡ o
  round n m g f x zero u v k = absurd (omega arith)
  round n m g f x (suc j) u v k = k j u

  pub complete : {d : ℕ} {j : Job} {r : Result} {s c : ℕ} → Ends e P d j r s c → (n : ℕ) (m m' : Meter) → Paid m s c m' → d ≤ m.names → m.steps ≤ n → Meets n j r m m'
  complete (word_bottom h) n m m' p q t = paid_step _ _ n p t (λ n₁ m₁ p₁ q₁ t₁. rw h (ap fallen (done p₁)))
  complete (word_object {v = v} {s = s} {c = c} h) n m m' p q t =
      paid_step _ _ n p t (λ n₁ m₁ p₁ q₁ t₁. rw h (paid_word s c v p₁))
  complete (name_bottom h) n m m' p q t = paid_step _ _ n p t (λ n₁ m₁ p₁ q₁ t₁. rw (h, inside) (ap fallen (done p₁)))
  complete (name_in {b = b} {x = x} {r = r} h D) n m m' p q t =
      paid_step _ _ n p t (λ n₁ m₁ p₁ q₁ t₁. rw (h, inside) (ask_name_lem m₁ m' p₁.names (omega arith) (λ m₂. apply n₁ e P b x m₂) r (λ N u.
      complete D n₁ (with_names N m₁) (with_names N m') (record { steps = p₁.steps; cells = p₁.cells; names = refl }) (omega arith) t₁)))
  complete (chain_in D) n m m' p q t = paid_step _ _ n p t (λ n₁ m₁ p₁ q₁ t₁. complete D n₁ m₁ m' p₁ (omega arith) t₁)
  complete (construct_object {ys = ys} D) n m m' p q t =
      paid_step _ _ n p t (λ n₁ m₁ p₁ q₁ t₁. rw (complete D n₁ m₁ (mid 0 (length_of ys) m') (paid_cells _ p₁) (omega arith) t₁)
      (ask_cells_lem (length_of ys) (mid 0 (length_of ys) m') m' (λ m₂. value (seq ys) m₂) paid_right))
  complete (construct_bottom D) n m m' p q t = paid_step _ _ n p t (λ n₁ m₁ p₁ q₁ t₁. rw (complete D n₁ m₁ m' p₁ (omega arith) t₁))
  complete (constant_in {y = y}) n m m' p q t = paid_step _ _ n p t (λ n₁ m₁ p₁ q₁ t₁. ap (value y) (done p₁))
  complete (insert_fold D) n m m' p q t = paid_step _ _ n p t (λ n₁ m₁ p₁ q₁ t₁. complete D n₁ m₁ m' p₁ (omega arith) t₁)
  complete insert-nil n m m' p q t = paid_step _ _ n p t (λ n₁ m₁ p₁ q₁ t₁. ap fallen (done p₁))
  complete insert_int n m m' p q t = paid_step _ _ n p t (λ n₁ m₁ p₁ q₁ t₁. ap fallen (done p₁))
  complete insert_symbol n m m' p q t = paid_step _ _ n p t (λ n₁ m₁ p₁ q₁ t₁. ap fallen (done p₁))
  complete (apply_all_object {ys = ys} D) n m m' p q t =
      paid_step _ _ n p t (λ n₁ m₁ p₁ q₁ t₁. rw (complete D n₁ m₁ (mid 0 (length_of ys) m') (paid_cells _ p₁) (omega arith) t₁)
      (ask_cells_lem (length_of ys) (mid 0 (length_of ys) m') m' (λ m₂. value (seq ys) m₂) paid_right))
  complete (apply_all_bottom D) n m m' p q t = paid_step _ _ n p t (λ n₁ m₁ p₁ q₁ t₁. rw (complete D n₁ m₁ m' p₁ (omega arith) t₁))
  complete apply_all_int n m m' p q t = paid_step _ _ n p t (λ n₁ m₁ p₁ q₁ t₁. ap fallen (done p₁))
  complete apply_all_symbol n m m' p q t = paid_step _ _ n p t (λ n₁ m₁ p₁ q₁ t₁. ap fallen (done p₁))
  complete (bu_in {f = f} {y = y} {x = x} {s = s} {c = c} D) n m m' p q t =
      paid_step _ _ n p t (λ n₁ m₁ p₁ q₁ t₁. ask_cells_lem 2 m₁ (mid s c m') (λ m₂. apply n₁ e P f (pair y x) m₂)
      (record { steps = omega (arith, p₁.steps); cells = omega (arith, p₁.cells); names = p₁.names })
      ∙ complete D n₁ (mid s c m') m' paid_right (omega arith) (omega arith))
  complete (condition_bottom D) n m m' p q t = paid_step _ _ n p t (λ n₁ m₁ p₁ q₁ t₁. rw (complete D n₁ m₁ m' p₁ (omega arith) t₁))
  complete (condition_no D h) n m m' p q t = paid_step _ _ n p t (λ n₁ m₁ p₁ q₁ t₁. rw (complete D n₁ m₁ m' p₁ (omega arith) t₁) (rw (h, bind, decide)))
  complete (condition_T {s' = s'} {c' = c'} D h E) n m m' p q t =
      paid_step _ _ n p t (λ n₁ m₁ p₁ q₁ t₁. rw (complete D n₁ m₁ (mid s' c' m') (paid_left s' c' p₁) (omega arith) t₁)
      (rw (h, bind, decide) (complete E n₁ (mid s' c' m') m' paid_right (omega arith) (omega arith))))
  complete (condition_F {s' = s'} {c' = c'} D h E) n m m' p q t =
      paid_step _ _ n p t (λ n₁ m₁ p₁ q₁ t₁. rw (complete D n₁ m₁ (mid s' c' m') (paid_left s' c' p₁) (omega arith) t₁)
      (rw (h, bind, decide) (complete E n₁ (mid s' c' m') m' paid_right (omega arith) (omega arith))))
  complete (while_in D) n m m' p q t = paid_step _ _ n p t (λ n₁ m₁ p₁ q₁ t₁. complete D n₁ m₁ m' p₁ (omega arith) t₁ n₁ t₁)
  complete (parts_stop {x = x}) n m m' p q t = ap (value x) (done p)
  complete (parts_bottom D) n m m' p q t = rw (complete D n m m' p (omega arith) t)
  complete (parts_go {s' = s'} {c' = c'} D E) n m m' p q t =
      rw (complete D n m (mid s' c' m') (paid_left s' c' p) (omega arith) t) (complete E n (mid s' c' m') m' paid_right (omega arith) (omega arith))
  complete items_stop n m m' p q t = ap (value nil) (done p)
  complete (items_bottom D) n m m' p q t = rw (complete D n m m' p (omega arith) t)
  complete (items_late {s' = s'} {c' = c'} D E) n m m' p q t =
      rw (complete D n m (mid s' c' m') (paid_left s' c' p) (omega arith) t) (rw (complete E n (mid s' c' m') m' paid_right (omega arith) (omega arith)))
  complete (items_go {s' = s'} {c' = c'} D E) n m m' p q t =
      rw (complete D n m (mid s' c' m') (paid_left s' c' p) (omega arith) t) (rw (complete E n (mid s' c' m') m' paid_right (omega arith) (omega arith)))
  complete each_nil n m m' p q t = ap (value nil) (done p)
  complete (each_bottom D) n m m' p q t = rw (complete D n m m' p (omega arith) t)
  complete (each_late {s' = s'} {c' = c'} D E) n m m' p q t =
      rw (complete D n m (mid s' c' m') (paid_left s' c' p) (omega arith) t) (rw (complete E n (mid s' c' m') m' paid_right (omega arith) (omega arith)))
  complete (each_go {s' = s'} {c' = c'} D E) n m m' p q t =
      rw (complete D n m (mid s' c' m') (paid_left s' c' p) (omega arith) t) (rw (complete E n (mid s' c' m') m' paid_right (omega arith) (omega arith)))
  complete (fold_one {x = x}) n m m' p q t = ap (value x) (done p)
  complete (fold_bottom D) n m m' p q t = rw (complete D n m m' p (omega arith) t)
  complete (fold_go {f = f} {x = x} {z = z} {s' = s'} {c' = c'} D E) n m m' p q t =
      rw (complete D n m (mid s' (2 + c') m') (paid_left s' (2 + c') p) (omega arith) t)
      (ask_cells_lem 2 (mid s' (2 + c') m') (mid s' c' m') (λ m₂. apply n e P f (pair x z) m₂) (record { steps = omega arith; cells = omega arith; names = refl })
      ∙ complete E n (mid s' c' m') m' paid_right (omega arith) (omega arith))
  complete (loop_bottom {p = g} {f = f} {x = x} D) n m m' p q t = λ j u. round n m g f x j u (omega (arith, p.steps, just_pos D)) (λ j₁ u₁. rw (complete D n m m' p (omega arith) t))
  complete (loop_no {p = g} {f = f} {x = x} D h) n m m' p q t =
      λ j u. round n m g f x j u (omega (arith, p.steps, just_pos D)) (λ j₁ u₁. rw (complete D n m m' p (omega arith) t) (rw (h, bind, decide)))
  complete (loop_F {p = g} {f = f} {x = x} D h) n m m' p q t =
      λ j u. round n m g f x j u (omega (arith, p.steps, just_pos D)) (λ j₁ u₁. rw (complete D n m m' p (omega arith) t) (rw (h, bind, decide)))
  complete (loop_fell {p = g} {f = f} {x = x} {s' = s'} {c' = c'} D h E) n m m' p q t = λ j u. round n m g f x j u (omega (arith, p.steps, just_pos D)) (λ j₁ u₁.
      rw (complete D n m (mid s' c' m') (paid_left s' c' p) (omega arith) t) (rw (h, bind, decide) (rw (complete E n (mid s' c' m') m' paid_right (omega arith) (omega arith)))))
  complete (loop_go {p = g} {f = f} {x = x} {s' = s'} {c' = c'} {s'' = s''} {c'' = c''} D h E F) n m m' p q t = λ j u. round n m g f x j u (omega (arith, p.steps, just_pos D)) (λ j₁ u₁.
      rw (complete D n m (mid (s' + s'') (c' + c'') m') (paid_left (s' + s'') (c' + c'') p) (omega arith) t) (rw (h, bind, decide)
      (rw (complete E n (mid (s' + s'') (c' + c'') m') (mid s'' c'' m') (paid_left s'' c'' paid_right) (omega arith) (omega arith))
      (complete F n (mid s'' c'' m') m' paid_right (omega arith) (omega arith) j₁ (omega (arith, p.steps, just_pos D))))))
