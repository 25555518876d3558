-- Forms and programs.
use Rattle.std.specs.Prelude.{ℕ, suc, ◌+◌, Bool, true, false, List, [], ◌∷◌}
use Rattle.std.proofs.Math.Option.{Option, some, none}
use Rattle.language.specs.Bytes.{bytes}
use Rattle.groundwork.specs.Decisions.{same_number, same_text}
use Rattle.language.specs.Objects.{Obj, cells_of, same_object}
use Rattle.language.specs.Words.{Op, Op-discrete}

-- a selector `k` or `kr`, or a word of the table
pub data Word : Type 0 where
  select select_right : ℕ → Word
  op : Op → Word
  deriving Discrete as Word-discrete

mutual
  pub data Form : Type 0 where
    word : Word → Form
    name : List ℕ → Form
    chain : Forms → Form
    construct : Forms → Form
    constant : Obj → Form
    insert : Form → Form
    apply_all : Form → Form
    bu : Form → Obj → Form
    condition : Form → Form → Form → Form
    while : Form → Form → Form
    deriving Discrete as Form-discrete

  pub data Forms : Type 0 where
    stop : Forms
    ◌&◌ : Form → Forms → Forms

infixr 50 ◌&◌
pub record Def : Type 0 where
  pub called : List ℕ
  pub body : Form

abbrev pub Prog : Type 0
Prog = List Def

abbrev pub main_form : Form
main_form = name (bytes "main")

infixr 50 ◌+&◌
abbrev pub ◌+&◌ : Forms → Forms → Forms
stop +& gs = gs
(f & fs) +& gs = f & (fs +& gs)

abbrev pub count : Forms → ℕ
count stop = 0
count (f & fs) = suc (count fs)

-- A form taken apart, if it is a word, a chain, a construction, a constant, a condition.
abbrev pub as_word : Form → Option Word
as_word (word w) = some w
as_word (name w) = none
as_word (chain fs) = none
as_word (construct fs) = none
as_word (constant x) = none
as_word (insert f) = none
as_word (apply_all f) = none
as_word (bu f x) = none
as_word (condition p f g) = none
as_word (while p f) = none

abbrev pub as_chain : Form → Option Forms
as_chain (word w) = none
as_chain (name w) = none
as_chain (chain fs) = some fs
as_chain (construct fs) = none
as_chain (constant x) = none
as_chain (insert f) = none
as_chain (apply_all f) = none
as_chain (bu f x) = none
as_chain (condition p f g) = none
as_chain (while p f) = none

abbrev pub as_construct : Form → Option Forms
as_construct (word w) = none
as_construct (name w) = none
as_construct (chain fs) = none
as_construct (construct fs) = some fs
as_construct (constant x) = none
as_construct (insert f) = none
as_construct (apply_all f) = none
as_construct (bu f x) = none
as_construct (condition p f g) = none
as_construct (while p f) = none

abbrev pub as_constant : Form → Option Obj
as_constant (word w) = none
as_constant (name w) = none
as_constant (chain fs) = none
as_constant (construct fs) = none
as_constant (constant x) = some x
as_constant (insert f) = none
as_constant (apply_all f) = none
as_constant (bu f x) = none
as_constant (condition p f g) = none
as_constant (while p f) = none

pub record Conditional : Type 0 where
  pub test : Form
  pub then : Form
  pub else : Form

abbrev pub as_condition : Form → Option Conditional
as_condition (word w) = none
as_condition (name w) = none
as_condition (chain fs) = none
as_condition (construct fs) = none
as_condition (constant x) = none
as_condition (insert f) = none
as_condition (apply_all f) = none
as_condition (bu f x) = none
as_condition (condition p f g) = some (record { test = p; then = f; else = g })
as_condition (while p f) = none

abbrev pub is_chain : Form → Bool
is_chain f = elim (as_chain f) [ some fs ↦ true | none ↦ false ]

-- How many forms there are: every part, and one for each chain.
abbrev mutual
  pub forms_in : Form → ℕ
  forms_in (word w) = 1
  forms_in (name w) = 1
  forms_in (chain fs) = suc (forms_in_all fs)
  forms_in (construct fs) = suc (forms_in_all fs)
  forms_in (constant x) = 1
  forms_in (insert f) = suc (forms_in f)
  forms_in (apply_all f) = suc (forms_in f)
  forms_in (bu f x) = suc (forms_in f)
  forms_in (condition p f g) = suc (forms_in p + (forms_in f + forms_in g))
  forms_in (while p f) = suc (forms_in p + forms_in f)

  pub forms_in_all : Forms → ℕ
  forms_in_all stop = 0
  forms_in_all (f & fs) = forms_in f + forms_in_all fs

abbrev pub forms_of : Prog → ℕ
forms_of [] = 0
forms_of (d ∷ ds) = forms_in d.body + forms_of ds

-- The cells of all constants: x in `%x` and `{f,x}`.
abbrev mutual
  pub constant_cells : Form → ℕ
  constant_cells (word w) = 0
  constant_cells (name w) = 0
  constant_cells (chain fs) = constant_cells_all fs
  constant_cells (construct fs) = constant_cells_all fs
  constant_cells (constant x) = cells_of x
  constant_cells (insert f) = constant_cells f
  constant_cells (apply_all f) = constant_cells f
  constant_cells (bu f x) = constant_cells f + cells_of x
  constant_cells (condition p f g) = constant_cells p + constant_cells f + constant_cells g
  constant_cells (while p f) = constant_cells p + constant_cells f

  pub constant_cells_all : Forms → ℕ
  constant_cells_all stop = 0
  constant_cells_all (f & fs) = constant_cells f + constant_cells_all fs

abbrev pub program_cells : Prog → ℕ
program_cells [] = 0
program_cells (d ∷ ds) = constant_cells d.body + program_cells ds

-- Whether two forms are the same: equal trees, constants by value and names by spelling.
abbrev pub same_word : Discrete Word
same_word = Word-discrete same_number Op-discrete

abbrev pub same_form : Discrete Form
same_form = Form-discrete same_word same_text same_object

abbrev pub is_among : Word → List Word → Bool
is_among w [] = false
is_among w (v ∷ vs) = elim (same_word w v) [ yes e ↦ true | no n ↦ is_among w vs ]
