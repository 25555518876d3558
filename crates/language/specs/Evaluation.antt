-- Metered evaluation: three budgets, charged as document 01 says.
use Rattle.std.specs.Prelude.{ℕ, zero, suc, ◌+◌, ◌-◌, true, false, List, [], ◌∷◌, leb}
use Rattle.std.proofs.Math.Option.{Option, some, none}
use Rattle.language.specs.Bytes.{same_bytes}
use Rattle.language.specs.Objects.{Obj, int, symbol, seq, Objs, nil, ◌::◌, length_of, cells_of, truth_of, is_T, is_F, neither}
use Rattle.language.specs.Forms.{Form, word, name, chain, construct, constant, insert, apply_all, bu, condition, while, Forms, stop, ◌&◌, Prog, program_cells, main_form}
use Rattle.language.specs.Numbers.{Edition}
use Rattle.language.specs.Meanings.{WordAnswer, falls, gives, meaning, pair}
use Rattle.language.specs.Charging.{take_step, take_cells, take_name, with_names}
use Rattle.language.specs.declared.Meter.{Meter}

-- 22, 23, 24: a step, an open name or a cell more than the budget
pub data Spent : Type 0 where
  no_step no_name no_cell : Spent

-- The first bottom or spent budget ends the run.
pub data Out (A : Type 0) : Type 0 where
  value : A → Meter → Out A
  bottom : Meter → Out A
  spent : Spent → Meter → Out A

abbrev pub bind : {A B : Type 0} → Out A → (A → Meter → Out B) → Out B
bind (value v m) k = k v m
bind (bottom m) k = bottom m
bind (spent w m) k = spent w m

-- The meter holds what is left of each budget. What is asked for is taken from it, and what follows goes on with the rest.
abbrev pub ask_step : {A : Type 0} → Meter → (Meter → Out A) → Out A
ask_step m k = take_step m (spent no_step) k

-- s steps, one after the other: where fewer are left they are all taken
abbrev pub ask_steps : {A : Type 0} → ℕ → Meter → (Meter → Out A) → Out A
ask_steps s m k =
    elim (leb s m.steps) [
      | true ↦ k (record { steps = m.steps - s; names = m.names; cells = m.cells })
      | false ↦ spent no_step (record { steps = 0; names = m.names; cells = m.cells })
    ]

abbrev pub ask_cells : {A : Type 0} → ℕ → Meter → (Meter → Out A) → Out A
ask_cells c m k = take_cells c m (spent no_cell) k

-- as many names may open as before
abbrev pub close : {A : Type 0} → ℕ → Out A → Out A
close d (value v m) = value v (with_names d m)
close d (bottom m) = bottom (with_names d m)
close d (spent w m) = spent w (with_names d m)

-- one more name is open in what follows
abbrev pub ask_name : {A : Type 0} → Meter → (Meter → Out A) → Out A
ask_name m k = take_name m (spent no_name) (λ m₁. close m.names (k m₁))

abbrev pub lookup : List ℕ → Prog → Option Form
lookup w [] = none
lookup w (d ∷ ds) = elim (same_bytes w d.called) [ true ↦ some d.body | false ↦ lookup w ds ]

-- A primitive that gives bottom makes no cells. Otherwise it asks for all its cells at once.
abbrev pub charged : WordAnswer → Meter → Out Obj
charged falls m = bottom m
charged (gives s c v) m = ask_steps s m (λ m₁. ask_cells c m₁ (λ m₂. value v m₂))

-- what applying a form to an object does
abbrev pub Apply : Type 0
Apply = Form → Obj → Meter → Out Obj

-- Chain: from right to left.
abbrev pub chain_by : Apply → Forms → Obj → Meter → Out Obj
chain_by ap stop x m = value x m
chain_by ap (f & fs) x m = bind (chain_by ap fs x m) (λ y m₁. ap f y m₁)

-- Construction: from left to right, then n cells.
abbrev pub construct_by : Apply → Forms → Obj → Meter → Out Objs
construct_by ap stop x m = value nil m
construct_by ap (f & fs) x m = bind (ap f x m) (λ y m₁. bind (construct_by ap fs x m₁) (λ ys m₂. value (y :: ys) m₂))

-- a cell for each
abbrev pub gathered : Objs → Meter → Out Obj
gathered ys m = ask_cells (length_of ys) m (λ m₁. value (seq ys) m₁)

-- `@f`: a sequence only; from left to right, then n cells. `<>` gives `<>`.
abbrev pub each_by : Apply → Form → Objs → Meter → Out Objs
each_by ap f nil m = value nil m
each_by ap f (x :: xs) m = bind (ap f x m) (λ y m₁. bind (each_by ap f xs m₁) (λ ys m₂. value (y :: ys) m₂))

abbrev pub apply_all_on : Apply → Form → Obj → Meter → Out Obj
apply_all_on ap f (int a) m = bottom m
apply_all_on ap f (symbol a) m = bottom m
apply_all_on ap f (seq xs) m = bind (each_by ap f xs m) gathered

-- `/f`: one element gives itself; with more, from the right, two cells for each pair before f is applied; `<>` or an atom
-- gives bottom.
abbrev pub insert_by : Apply → Form → Obj → Objs → Meter → Out Obj
insert_by ap f x nil m = value x m
insert_by ap f x (y :: ys) m = bind (insert_by ap f y ys m) (λ z m₁. ask_cells 2 m₁ (λ m₂. ap f (pair x z) m₂))

abbrev pub insert_on : Apply → Form → Obj → Meter → Out Obj
insert_on ap f (int a) m = bottom m
insert_on ap f (symbol a) m = bottom m
insert_on ap f (seq nil) m = bottom m
insert_on ap f (seq (x :: xs)) m = insert_by ap f x xs m

-- `(p->f;g)` and `(p?f)`: T, F, else bottom.
abbrev pub decide : Obj → Meter → (Meter → Out Obj) → (Meter → Out Obj) → Out Obj
decide b m on_T on_F = elim (truth_of b) [ is_T ↦ on_T m | is_F ↦ on_F m | neither ↦ bottom m ]

-- While repeats p and f without a new application of itself. Each round takes a step or more, and j is at least the steps left.
abbrev pub while_by : Apply → ℕ → Form → Form → Obj → Meter → Out Obj
while_by ap zero p f x m = spent no_step m
while_by ap (suc j) p f x m = bind (ap p x m) (λ b m₁. decide b m₁ (λ m₂. bind (ap f x m₂) (λ y m₃. while_by ap j p f y m₃)) (λ m₂. value x m₂))

-- One application whose step is paid; `ap` is what the applications inside it do. Name: undefined gives bottom; otherwise
-- 23 if the open names are at the budget; else its body with one more open. `{f,x}`: two cells for `<x,y>`, then f.
abbrev pub inside : Apply → ℕ → Edition → Prog → Apply
inside ap n e P (word w) x m = charged (meaning e w x) m
inside ap n e P (name w) x m = elim (lookup w P) [ none ↦ bottom m | some b ↦ ask_name m (λ m₁. ap b x m₁) ]
inside ap n e P (chain fs) x m = chain_by ap fs x m
inside ap n e P (construct fs) x m = bind (construct_by ap fs x m) gathered
inside ap n e P (constant c) x m = value c m
inside ap n e P (insert f) x m = insert_on ap f x m
inside ap n e P (apply_all f) x m = apply_all_on ap f x m
inside ap n e P (bu f c) x m = ask_cells 2 m (λ m₁. ap f (pair c x) m₁)
inside ap n e P (condition p f g) x m = bind (ap p x m) (λ b m₁. decide b m₁ (ap f x) (ap g x))
inside ap n e P (while p f) x m = while_by ap n p f x m

-- Each application first asks for one step. The first number is at least the steps left, so that it never decides.
abbrev pub apply : ℕ → Edition → Prog → Apply
apply zero e P f x m = spent no_step m
apply (suc n) e P f x m = ask_step m (λ m₁. inside (apply n e P) n e P f x m₁)

-- A run's end: an object, bottom or a spent budget, with the steps and cells counted until then; or 13.
pub data RunEnd : Type 0 where
  done : Obj → (steps cells : ℕ) → RunEnd
  fell : (steps cells : ℕ) → RunEnd
  ran_out : Spent → (steps cells : ℕ) → RunEnd
  too_few : RunEnd

-- what the budgets were, less what is left
abbrev pub counted : Meter → Out Obj → RunEnd
counted b (value v m) = done v (b.steps - m.steps) (b.cells - m.cells)
counted b (bottom m) = fell (b.steps - m.steps) (b.cells - m.cells)
counted b (spent w m) = ran_out w (b.steps - m.steps) (b.cells - m.cells)

abbrev pub starting_cells : Prog → Obj → ℕ
starting_cells P x = program_cells P + cells_of x

-- A run starts with the cells of all constants and of the object, then applies the name `main`.
abbrev pub run : Edition → Prog → Obj → Meter → RunEnd
run e P x b =
    elim (leb (starting_cells P x) b.cells) [
      | false ↦ too_few
      | true ↦ counted b (apply b.steps e P main_form x (record { steps = b.steps; names = b.names; cells = b.cells - starting_cells P x }))
    ]
