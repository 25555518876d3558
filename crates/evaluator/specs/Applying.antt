-- What each function of the evaluator answers, by the definition of the metered run.
use Rattle.std.specs.Prelude.{ℕ, zero, suc, ◌+◌, ◌-◌, ◌*◌, ◌≤◌, ◌<◌, ◌≡◌, true, false, List, [], ◌∷◌, length, get_or, Result, Ok, Err}
use Rattle.std.proofs.Math.Option.{Option, some, none}
use Rattle.language.specs.Objects.{Obj, seq, Objs, nil, ◌::◌, length_of, truth_of, is_T, is_F, nth_obj}
use Rattle.language.specs.Forms.{Form, Forms, Prog, count, main_form, select, select_right}
use Rattle.language.specs.Bytes.{bytes}
use Rattle.language.specs.Numbers.{one, cell_limit, cell_table_size, form_table_size}
use Rattle.language.specs.Meanings.{pair}
use Rattle.language.specs.Evaluation.{Out, bottom, bind, Apply, apply, lookup, ask_name, ask_cells, chain_by, construct_by, gathered, apply_all_on, insert_on, while_by, decide}
use Rattle.language.specs.Accepted.{IsName}
use Rattle.language.specs.declared.Meter.{Meter}
use Rattle.language.specs.declared.Val.{Val}
use Rattle.cells.specs.Cells.{Rep, Same, Room, free}
use Rattle.cells.specs.Parts.{held_at, hold_at, onto, Held, Nth}
use Rattle.language.specs.Charging.{stopped}
use Rattle.language.specs.declared.stops.Stop.TheVariants.{Bottom}
use Rattle.language.specs.declared.stops.Stopped.{Stopped}
use Rattle.primitives.specs.Ends.{Ended, reached, Gives, Leaf, Sinks}
use Rattle.primitives.specs.Leaves.{Coded}
use Rattle.tables.specs.Tables.{field}
use Rattle.evaluator.specs.declared.waiting.Asked.{Asked}
use Rattle.linker.specs.Linked.{FormAt, PartsAt, UpTo, DefAt, link_at, constant_at}
use Rattle.evaluator.specs.Ring.{Finished, Stops, Ends}

-- a program, the root of each name's body (and one; 0 if undefined), and the cells with its constants
pub record Setting : Type 0 where
  pub prog : Prog
  pub root : List ℕ → ℕ
  pub cells : List ℕ
  pub few : ℕ

-- what applications do by the definition; k is at least the steps left
abbrev pub by : Setting → ℕ → Apply
by S k = apply k one S.prog

abbrev pub At : List ℕ → Setting → ℕ → Form → Type 0
At F S i f = FormAt F S.cells S.few S.root i f

abbrev pub AllAt : List ℕ → Setting → ℕ → Forms → Type 0
AllAt F S j fs = PartsAt F S.cells S.few S.root j fs

abbrev pub LastAt : List ℕ → Setting → ℕ → Forms → Type 0
LastAt F S j fs = UpTo F S.cells S.few S.root j fs

-- what an application is given: the program in F with its constants, room, a whole ring, enough fuel, the argument
pub record Given (F : List ℕ) (S : Setting) (k : ℕ) (C W : List ℕ) (m : Meter) (v : Val) (x : Obj) : Type 0 where
  pub defs : (w : List ℕ) → IsName w → DefAt F S.cells S.few S.root (S.root w) (lookup w S.prog)
  pub still : Same S.cells C S.few
  pub low : S.few ≤ free C m
  pub room : Room C m
  pub ring : length W ≡ cell_table_size cell_limit
  pub fuel : m.steps ≤ k
  pub arg : Rep C (free C m) v x

-- the steps fall, and as many names may open as before
abbrev pub Falls : Ended → Meter → Type 0
Falls (Ok r) m = (r.meter.steps < m.steps) × (r.meter.names ≡ m.names)
Falls (Err s) m = Unit {0}

-- what is done at a form with no parts, by its kind: a word, a selector or a constant; any other kind gives bottom
pub data Alone (F C : List ℕ) (i : ℕ) (v : Val) (m : Meter) : ℕ → Ended → List ℕ → Type 0 where
  a_word : {r : Ended} {C' : List ℕ} → Coded C v m (field F i 2) r C' → Alone F C i v m 1 r C'
  a_select : {r : Ended} → Leaf C v m (select (field F i 2)) r C → Alone F C i v m 2 r C
  a_select_right : {r : Ended} → Leaf C v m (select_right (field F i 2)) r C → Alone F C i v m 3 r C
  a_constant : Alone F C i v m 12 (reached (constant_at F i) m) C
  no_kind : {κ : ℕ} → (κ ≡ 1 → ⊥) → (κ ≡ 2 → ⊥) → (κ ≡ 3 → ⊥) → (κ ≡ 12 → ⊥) → Alone F C i v m κ (stopped Bottom m) C

-- one application of the form at i
pub record Applied (F C W : List ℕ) (top i : ℕ) (v : Val) (m : Meter) (r : Ended) (C' W' : List ℕ) : Type 0 where
  pub falls : Falls r m
  pub means : (S : Setting) (k : ℕ) (f : Form) (x : Obj) → At F S i f → Given F S k C W m v x → Ends C W top m (by S k f x m) C' W' r

-- the parts of a chain whose last is at j
pub record Chained (F C W : List ℕ) (top j : ℕ) (v : Val) (m : Meter) (r : Ended) (C' W' : List ℕ) : Type 0 where
  pub sinks : Sinks r m
  pub means : (S : Setting) (k : ℕ) (fs : Forms) (x : Obj) → LastAt F S j fs → Given F S k C W m v x → Ends C W top m (chain_by (by S k) fs x m) C' W' r

-- a construction of `many` parts from j on
pub record Constructed (F C W : List ℕ) (top j many : ℕ) (v : Val) (m : Meter) (r : Ended) (C' W' : List ℕ) : Type 0 where
  pub sinks : Sinks r m
  pub means : (S : Setting) (k : ℕ) (fs : Forms) (x : Obj) → count fs ≡ many → AllAt F S j fs → Given F S k C W m v x → Ends C W top m (bind (construct_by (by S k) fs x m) gathered) C' W' r

-- the form at g on each place of v
pub record Mapped (F C W : List ℕ) (top g : ℕ) (v : Val) (m : Meter) (r : Ended) (C' W' : List ℕ) : Type 0 where
  pub sinks : Sinks r m
  pub means : (S : Setting) (k : ℕ) (f : Form) (x : Obj) → At F S g f → Given F S k C W m v x → Ends C W top m (apply_all_on (by S k) f x m) C' W' r

-- the form at g between the places of v, from the right
pub record Inserted (F C W : List ℕ) (top g : ℕ) (v : Val) (m : Meter) (r : Ended) (C' W' : List ℕ) : Type 0 where
  pub sinks : Sinks r m
  pub means : (S : Setting) (k : ℕ) (f : Form) (x : Obj) → At F S g f → Given F S k C W m v x → Ends C W top m (insert_on (by S k) f x m) C' W' r

-- two cells for a pair, and then f on it
abbrev pub on_pair_of : Apply → Form → Obj → Obj → Meter → Out Obj
on_pair_of ap f a b m = ask_cells 2 m (λ m₁. ap f (pair a b) m₁)

-- a value leaves at least c cells fewer
abbrev pub Spends : Ended → Meter → ℕ → Type 0
Spends (Ok r) m c = r.meter.cells + c ≤ m.cells
Spends (Err s) m c = Unit {0}

-- one pair of an insert: the value that waits at top, if there are cells for it, and v; then the form at g
pub record Folded (F C W : List ℕ) (top g : ℕ) (v : Val) (m : Meter) (r : Ended) (C' W' : List ℕ) : Type 0 where
  pub falls : Falls r m
  pub means : (S : Setting) (k : ℕ) (f : Form) (x acc : Obj) → At F S g f → Given F S k C W m v acc → (2 ≤ m.cells → Rep C (free C m) (held_at W top) x) → Ends C W top m (on_pair_of (by S k) f x acc m) C' W' r × Spends r m 2

-- the first q objects of xs, the last first
unfoldable pub firsts : Objs → ℕ → List Obj
firsts xs zero = []
firsts xs (suc q) = nth_obj xs q ∷ firsts xs q

-- The first q objects of xs wait from top on, each as far as c cells are enough to come to it: two for it and for each behind it.
pub record Queued (W C : List ℕ) (n top q c : ℕ) (xs : Objs) : Type 0 where
  pub here : (j : ℕ) → j < q → 2 * (q - j) ≤ c → Rep C n (held_at W (top + j)) (nth_obj xs j)

-- the form at g between q objects that wait from top on and v, from the right
pub record Between (F C W : List ℕ) (top g q : ℕ) (v : Val) (m : Meter) (r : Ended) (C' W' : List ℕ) : Type 0 where
  pub sinks : Sinks r m
  pub means : (S : Setting) (k : ℕ) (f : Form) (xs : Objs) (acc : Obj) → At F S g f → Given F S k C W m v acc → Queued W C (free C m) top q m.cells xs → Ends C W top m (insert_on (by S k) f (seq (onto (firsts xs q) (acc :: nil))) m) C' W' r × Spends r m (2 * q)

-- the form at g on the pair of a constant a and v
pub record Bound (F C W : List ℕ) (top g : ℕ) (a v : Val) (m : Meter) (r : Ended) (C' W' : List ℕ) : Type 0 where
  pub sinks : Sinks r m
  pub means : (S : Setting) (k : ℕ) (f : Form) (y x : Obj) → At F S g f → Rep S.cells S.few a y → Given F S k C W m v x → Ends C W top m (on_pair_of (by S k) f y x m) C' W' r

abbrev pub Lessens : Result Asked Stopped → Meter → Type 0
Lessens (Ok q) m = (q.meter.steps < m.steps) × (q.meter.names ≡ m.names)
Lessens (Err s) m = Unit {0}

-- what a question says, where e is the outcome of its application
pub data QuestionSays (C W : List ℕ) (top : ℕ) (m : Meter) (e : Out Obj) (C' W' : List ℕ) : Result Asked Stopped → Type 0 where
  says_yes : {v : Val} {q : Asked} (u : Finished C W top m e v q.meter C' W') → truth_of u.obj ≡ is_T → q.yes ≡ true → QuestionSays C W top m e C' W' (Ok q)
  says_no : {v : Val} {q : Asked} (u : Finished C W top m e v q.meter C' W') → truth_of u.obj ≡ is_F → q.yes ≡ false → QuestionSays C W top m e C' W' (Ok q)
  says_stop : {s : Stopped} → ((on_T on_F : Meter → Out Obj) → Stops (bind e (λ b m₁. decide b m₁ on_T on_F)) s) → QuestionSays C W top m e C' W' (Err s)

-- the question at h
pub record Questioned (F C W : List ℕ) (top h : ℕ) (v : Val) (m : Meter) (r : Result Asked Stopped) (C' W' : List ℕ) : Type 0 where
  pub falls : Lessens r m
  pub means : (S : Setting) (k : ℕ) (p : Form) (x : Obj) → At F S h p → Given F S k C W m v x → QuestionSays C W top m (by S k p x m) C' W' r

-- which form a condition chooses, whose question is at h, where it says b
pub record Branch (F : List ℕ) (h b j : ℕ) : Type 0 where
  pub on_true : (b ≡ 0 → ⊥) → j ≡ link_at F h
  pub on_false : b ≡ 0 → j ≡ link_at F (link_at F h)

-- a condition whose question is at h, then its two forms along the links
pub record Chosen (F C W : List ℕ) (top h : ℕ) (v : Val) (m : Meter) (r : Ended) (C' W' : List ℕ) : Type 0 where
  pub sinks : Sinks r m
  pub means : (S : Setting) (k : ℕ) (p f g : Form) (x : Obj) → At F S h p → At F S (link_at F h) f → At F S (link_at F (link_at F h)) g → Given F S k C W m v x → Ends C W top m (bind (by S k p x m) (λ b m₁. decide b m₁ (by S k f x) (by S k g x))) C' W' r

-- a while whose question is at h, and its form behind it
pub record Repeated (F C W : List ℕ) (top h : ℕ) (v : Val) (m : Meter) (r : Ended) (C' W' : List ℕ) : Type 0 where
  pub sinks : Sinks r m
  pub means : (S : Setting) (k : ℕ) (p f : Form) (x : Obj) → At F S h p → At F S (link_at F h) f → Given F S k C W m v x → Ends C W top m (while_by (by S k) k p f x m) C' W' r

-- the body of a name, with one more name open; undefined gives bottom
abbrev pub name_by : Apply → Option Form → Obj → Meter → Out Obj
name_by ap b x m = elim b [ none ↦ bottom m | some f ↦ ask_name m (λ m₁. ap f x m₁) ]

-- a name whose body's record and one is d, 0 if it is undefined
pub record NameApplied (F C W : List ℕ) (top d : ℕ) (v : Val) (m : Meter) (r : Ended) (C' W' : List ℕ) : Type 0 where
  pub sinks : Sinks r m
  pub means : (S : Setting) (k : ℕ) (w : List ℕ) (x : Obj) → IsName w → d ≡ S.root w → Given F S k C W m v x → Ends C W top m (name_by (by S k) (lookup w S.prog) x m) C' W' r

abbrev pub PutAt : Ended → List ℕ → List ℕ → ℕ → Type 0
PutAt (Ok r) W W' t = W' ≡ hold_at W t r.value
PutAt (Err s) W W' t = Unit {0}

-- an application whose value then waits at t
pub record Slotted (F C W : List ℕ) (t i : ℕ) (v : Val) (m : Meter) (r : Ended) (C' W' : List ℕ) : Type 0 where
  pub mid : List ℕ
  pub app : Applied F C W t i v m r C' mid
  pub put : PutAt r mid W' t

abbrev pub Taken : Ended → Meter → ℕ → Type 0
Taken (Ok r) m q = r.meter.cells + q ≡ m.cells
Taken (Err s) m q = Unit {0}

-- the q values that wait from top on, made a sequence with q cells
pub record Collected (C W : List ℕ) (top q : ℕ) (n : Meter) (r : Ended) (C' : List ℕ) : Type 0 where
  pub sinks : Sinks r n
  pub taken : Taken r n q
  pub means : (xs : List Obj) → length xs ≡ q → (q ≤ n.cells → Held W C (free C n) top xs) → Room C n → Gives C n C' (gathered (onto xs nil) n) r

-- The first k places of v wait from top on, and r is the place behind them. A place gives way to the one 4,096 places behind it;
-- what waited below top is kept as far as it is apart from them.
pub record Spread (C W : List ℕ) (top k : ℕ) (v r : Val) (W' : List ℕ) : Type 0 where
  pub last : Nth C v k r
  pub long : length W' ≡ length W
  pub held : (n : ℕ) (xs : Objs) → n < 4294967296 → k < length_of xs → Rep C n v (seq xs) → length W ≡ cell_table_size cell_limit → (j : ℕ) → j < k → k ≤ j + cell_limit → Rep C n (held_at W' (top + j)) (nth_obj xs j)
  pub others : (d : ℕ) → 1 ≤ d → d + k ≤ cell_limit → held_at W' (top + (cell_limit - d)) ≡ held_at W (top + (cell_limit - d))

-- T holds the first 8,192 numbers of F, and 0 past its end
pub record FormsCopied (F T : List ℕ) : Type 0 where
  pub same : (j : ℕ) → j < form_table_size → get_or T j 0 ≡ get_or F j 0

-- A whole run: main, whose body's record and one is d, by the definition with the steps as its fuel.
pub record Ran (F C : List ℕ) (d : ℕ) (v : Val) (m : Meter) (r : Ended) (C' : List ℕ) : Type 0 where
  pub means : (P : Prog) (root : List ℕ → ℕ) (x : Obj) → ((w : List ℕ) → IsName w → DefAt F C (free C m) root (root w) (lookup w P)) → d ≡ root (bytes "main") → Room C m → Rep C (free C m) v x → Gives C m C' (apply m.steps one P main_form x m) r
