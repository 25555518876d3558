-- One application does the same under two bounds, where the applications inside it do and both are at least the steps left.
use Prim.Native.Nat.{ℕ, zero, suc, ◌-◌, ◌≤◌, ◌<◌}
use mathlib.Core.Path.{◌≡◌, refl, sym, ◌∙◌, ap}
use mathlib.Core.Bool.{Bool, true, false}
use mathlib.Core.List.{List}
use mathlib.Core.Option.{Option, some, none}
use native.Mathlib.Omega.{arith}
use lib.Dec.{leb}
use Rattle.language.specs.declared.Meter.{Meter}
use Rattle.language.specs.Objects.{Obj, int, symbol, seq, Objs, nil, ◌::◌, Truth, truth_of, is_T, is_F, neither}
use Rattle.language.specs.Forms.{Form, word, name, chain, construct, constant, insert, apply_all, bu, condition, while, Forms, stop, ◌&◌, Prog}
use Rattle.language.specs.Numbers.{Edition}
use Rattle.language.specs.Meanings.{pair}
use Rattle.language.specs.Charging.{take_step, with_names}
use Rattle.language.specs.Evaluation.{no_step, no_cell, Out, value, spent, bind, ask_step, ask_cells, close, ask_name, lookup, Apply, chain_by, construct_by, each_by, insert_by, while_by, insert_on, apply_all_on, inside, apply, decide, gathered}
use Rattle.theorems.proofs.Ends.{Job, just}
use Rattle.theorems.proofs.Complete.{just_pos}
use Rattle.theorems.proofs.Sound.{Explains, ex_object, ex_bottom, ex_out, Good, parts_sound, fold_sound}

-- what follows is the same where the steps left are no more
bind_less : {e : Edition} {P : Prog} {B : Type 0} {j : Job} {m : Meter} {o : Out Obj} (k k' : Obj → Meter → Out B) → Explains e P 0 0 j m o
    → ((v : Obj) (m₁ : Meter) → m₁.steps ≤ m.steps → k v m₁ ≡ k' v m₁) → bind o k ≡ bind o k'
bind_less k k' (ex_object {v = v} {m' = m₁} E) f = f v m₁ (omega (arith, E.steps))
bind_less k k' (ex_bottom E) f = refl
bind_less k k' ex_out f = refl

bind_fewer : {e : Edition} {P : Prog} {B : Type 0} {g : Form} {x : Obj} {m : Meter} {o : Out Obj} (k k' : Obj → Meter → Out B)
    → Explains e P 0 0 (just g x) m o → ((v : Obj) (m₁ : Meter) → m₁.steps < m.steps → k v m₁ ≡ k' v m₁) → bind o k ≡ bind o k'
bind_fewer {e} {P} k k' (ex_object {v = v} {m' = m₁} E) f = f v m₁ (omega (arith, E.steps, just_pos e P E.ends))
bind_fewer k k' (ex_bottom E) f = refl
bind_fewer k k' ex_out f = refl

cells_less : {A : Type 0} (n : ℕ) (m : Meter) (k k' : Meter → Out A) → ((m₁ : Meter) → m₁.steps ≤ m.steps → k m₁ ≡ k' m₁) → ask_cells n m k ≡ ask_cells n m k'
cells_less {A} n m k k' f = go (leb n m.cells)
  where
    m₁ : Meter
    m₁ = record { steps = m.steps; names = m.names; cells = m.cells - n }

    go : (b : Bool)
        → Path (Out A) (elim b as (λ (b : Bool). Out A) [ true ↦ k m₁ | false ↦ spent no_cell m ]) (elim b as (λ (b : Bool). Out A) [ true ↦ k' m₁ | false ↦ spent no_cell m ])
    go true = f m₁ (omega arith)
    go false = refl

decide_same : (b : Obj) (m : Meter) (on_T on_F onT' onF' : Meter → Out Obj) → on_T m ≡ onT' m → on_F m ≡ onF' m → decide b m on_T on_F ≡ decide b m onT' onF'
decide_same b m on_T on_F onT' onF' h k = go (truth_of b) refl
  where
    go : (t : Truth) → truth_of b ≡ t → decide b m on_T on_F ≡ decide b m onT' onF'
    go is_T t = rw (t, decide) h
    go is_F t = rw (t, decide) k
    go neither t = rw (t, decide) refl

-- what while does where its test came to T, and what it does with what the test came to
abbrev again : Apply → ℕ → Form → Form → Obj → Meter → Out Obj
again ap j p f x m = bind (ap f x m) (λ y m₁. while_by ap j p f y m₁)

abbrev tested : Apply → ℕ → Form → Form → Obj → Obj → Meter → Out Obj
tested ap j p f x b m = decide b m (again ap j p f x) (λ m₁. value x m₁)

-- two ways to apply: the first one's results end, both do the same up to N steps, and the first does nothing without a step
module _ (e : Edition) (P : Prog) (u v : Apply) (g : Good e P u) (N : ℕ)
    (s : (f : Form) (x : Obj) (m : Meter) → m.steps ≤ N → u f x m ≡ v f x m)
    (z : (f : Form) (x : Obj) (m : Meter) → m.steps ≡ 0 → u f x m ≡ spent no_step m) where
  parts_same : (fs : Forms) (x : Obj) (m : Meter) → m.steps ≤ N → chain_by u fs x m ≡ chain_by v fs x m
  parts_same stop x m h = refl
  parts_same (f & fs) x m h =
      bind_less (λ y m₁. u f y m₁) (λ y m₁. v f y m₁) (parts_sound e P u g fs x m) (λ y m₁ t. s f y m₁ (omega arith))
      ∙ ap (λ (o : Out Obj). bind o (λ y m₁. v f y m₁)) (parts_same fs x m h)

  items_same : (fs : Forms) (x : Obj) (m : Meter) → m.steps ≤ N → construct_by u fs x m ≡ construct_by v fs x m
  items_same stop x m h = refl
  items_same (f & fs) x m h =
      bind_less (λ y m₁. bind (construct_by u fs x m₁) (λ ys m₂. value (y :: ys) m₂)) (λ y m₁. bind (construct_by v fs x m₁) (λ ys m₂. value (y :: ys) m₂)) (g f x m)
      (λ y m₁ t. ap (λ (o : Out Objs). bind o (λ ys m₂. value (y :: ys) m₂)) (items_same fs x m₁ (omega arith)))
      ∙ ap (λ (o : Out Obj). bind o (λ y m₁. bind (construct_by v fs x m₁) (λ ys m₂. value (y :: ys) m₂))) (s f x m h)

  each_same : (f : Form) (xs : Objs) (m : Meter) → m.steps ≤ N → each_by u f xs m ≡ each_by v f xs m
  each_same f nil m h = refl
  each_same f (x :: xs) m h =
      bind_less (λ y m₁. bind (each_by u f xs m₁) (λ ys m₂. value (y :: ys) m₂)) (λ y m₁. bind (each_by v f xs m₁) (λ ys m₂. value (y :: ys) m₂)) (g f x m)
      (λ y m₁ t. ap (λ (o : Out Objs). bind o (λ ys m₂. value (y :: ys) m₂)) (each_same f xs m₁ (omega arith)))
      ∙ ap (λ (o : Out Obj). bind o (λ y m₁. bind (each_by v f xs m₁) (λ ys m₂. value (y :: ys) m₂))) (s f x m h)

  fold_same : (f : Form) (x : Obj) (xs : Objs) (m : Meter) → m.steps ≤ N → insert_by u f x xs m ≡ insert_by v f x xs m
  fold_same f x nil m h = refl
  fold_same f x (y :: ys) m h =
      bind_less (λ z m₁. ask_cells 2 m₁ (λ m₂. u f (pair x z) m₂)) (λ z m₁. ask_cells 2 m₁ (λ m₂. v f (pair x z) m₂)) (fold_sound e P u g f y ys m)
      (λ z m₁ t. cells_less 2 m₁ (λ m₂. u f (pair x z) m₂) (λ m₂. v f (pair x z) m₂) (λ m₂ t₂. s f (pair x z) m₂ (omega arith)))
      ∙ ap (λ (o : Out Obj). bind o (λ z m₁. ask_cells 2 m₁ (λ m₂. v f (pair x z) m₂))) (fold_same f y ys m h)

  -- while, under two bounds
  loop_same : (i j : ℕ) (p f : Form) (x : Obj) (m : Meter) → m.steps ≤ N → m.steps ≤ i → m.steps ≤ j → while_by u i p f x m ≡ while_by v j p f x m
  loop_same zero zero p f x m h k l = refl
  loop_same zero (suc j) p f x m h k l = sym (ap (λ (o : Out Obj). bind o (tested v j p f x)) (sym (s p x m h) ∙ z p x m (omega arith)))
  loop_same (suc i) zero p f x m h k l = ap (λ (o : Out Obj). bind o (tested u i p f x)) (z p x m (omega arith))
  loop_same (suc i) (suc j) p f x m h k l =
      bind_fewer (tested u i p f x) (tested v j p f x) (g p x m)
      (λ b m₁ t. decide_same b m₁ (again u i p f x) (λ m₂. value x m₂) (again v j p f x) (λ m₂. value x m₂)
      (bind_less (λ y m₂. while_by u i p f y m₂) (λ y m₂. while_by v j p f y m₂) (g f x m₁) (λ y m₂ t₂. loop_same i j p f y m₂ (omega arith) (omega arith) (omega arith))
      ∙ ap (λ (o : Out Obj). bind o (λ y m₂. while_by v j p f y m₂)) (s f x m₁ (omega arith)))
      refl)
      ∙ ap (λ (o : Out Obj). bind o (tested v j p f x)) (s p x m h)

  condition_same : (p f q : Form) (x : Obj) (m : Meter) → m.steps ≤ N → inside u 0 e P (condition p f q) x m ≡ inside v 0 e P (condition p f q) x m
  condition_same p f q x m l =
      bind_less (λ b m₁. decide b m₁ (u f x) (u q x)) (λ b m₁. decide b m₁ (v f x) (v q x)) (g p x m)
      (λ b m₁ t. decide_same b m₁ (u f x) (u q x) (v f x) (v q x) (s f x m₁ (omega arith)) (s q x m₁ (omega arith)))
      ∙ ap (λ (o : Out Obj). bind o (λ b m₁. decide b m₁ (v f x) (v q x))) (s p x m l)

  name_same : (b : Form) (x : Obj) (m : Meter) → m.steps ≤ N → ask_name m (u b x) ≡ ask_name m (v b x)
  name_same b x m l = go m.names refl
    where
      go : (d : ℕ) → m.names ≡ d → ask_name m (u b x) ≡ ask_name m (v b x)
      go zero q = rw (q, ask_name)
      go (suc d) q = rw (q, ask_name) (ap (close (suc d)) (s b x (with_names d m) l))

  lookup_same : (w : List ℕ) (x : Obj) (m : Meter) → m.steps ≤ N → inside u 0 e P (name w) x m ≡ inside v 0 e P (name w) x m
  lookup_same w x m l = go (lookup w P) refl
    where
      go : (o : Option Form) → lookup w P ≡ o → inside u 0 e P (name w) x m ≡ inside v 0 e P (name w) x m
      go none q = rw (q, inside)
      go (some b) q = rw (q, inside) (name_same b x m l)

  insert_same : (f : Form) (x : Obj) (m : Meter) → m.steps ≤ N → insert_on u f x m ≡ insert_on v f x m
  insert_same f (int a) m l = refl
  insert_same f (symbol a) m l = refl
  insert_same f (seq nil) m l = refl
  insert_same f (seq (x :: xs)) m l = fold_same f x xs m l

  apply_all_same : (f : Form) (x : Obj) (m : Meter) → m.steps ≤ N → apply_all_on u f x m ≡ apply_all_on v f x m
  apply_all_same f (int a) m l = refl
  apply_all_same f (symbol a) m l = refl
  apply_all_same f (seq xs) m l = ap (λ (o : Out Objs). bind o gathered) (each_same f xs m l)

  pub inside_same : (i j : ℕ) (f : Form) (x : Obj) (m : Meter) → m.steps ≤ N → m.steps ≤ i → m.steps ≤ j → inside u i e P f x m ≡ inside v j e P f x m
  inside_same i j (word w) x m h k l = refl
  inside_same i j (name w) x m h k l = lookup_same w x m h
  inside_same i j (chain fs) x m h k l = parts_same fs x m h
  inside_same i j (construct fs) x m h k l = ap (λ (o : Out Objs). bind o gathered) (items_same fs x m h)
  inside_same i j (constant c) x m h k l = refl
  inside_same i j (insert f) x m h k l = insert_same f x m h
  inside_same i j (apply_all f) x m h k l = apply_all_same f x m h
  inside_same i j (bu f c) x m h k l = cells_less 2 m (λ m₁. u f (pair c x) m₁) (λ m₁. v f (pair c x) m₁) (λ m₁ t. s f (pair c x) m₁ (omega arith))
  inside_same i j (condition p f q) x m h k l = condition_same p f q x m h
  inside_same i j (while p f) x m h k l = loop_same i j p f x m h k l

-- without a step left nothing is applied
pub dry : (n : ℕ) (e : Edition) (P : Prog) (f : Form) (x : Obj) (m : Meter) → m.steps ≡ 0 → apply n e P f x m ≡ spent no_step m
dry zero e P f x m h = refl
dry (suc n) e P f x m h = rw (h, take_step) (ap (λ (k : ℕ). spent no_step (record { steps = k; names = m.names; cells = m.cells })) h)

pub step_same : (m : Meter) (k k' : Meter → Out Obj) → ((m₁ : Meter) → suc m₁.steps ≡ m.steps → k m₁ ≡ k' m₁) → ask_step m k ≡ ask_step m k'
step_same m k k' f = go m.steps refl
  where
    go : (S : ℕ) → m.steps ≡ S → ask_step m k ≡ ask_step m k'
    go zero q = rw (q, ask_step)
    go (suc S) q = rw (q, ask_step) (f (record { steps = S; names = m.names; cells = m.cells }) (sym q))
