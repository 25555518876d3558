-- Forms that stand in a form table, however they came there: what record i says of a form (Row), and the forms from record i
-- up to record e, each before its parts (Stands). The constants stand in the first n cells of C.
use Rattle.std.specs.Prelude.{ℕ, ◌+◌, ◌*◌, ◌≡◌, List, [], ◌∷◌, get_or}
use Rattle.language.specs.Objects.{Obj}
use Rattle.language.specs.Words.{Op}
use Rattle.language.specs.Forms.{Form, word, name, chain, construct, constant, insert, apply_all, bu, condition, while, Forms, stop, ◌&◌, ◌+&◌, select, select_right, op, Prog, count}
use Rattle.packing.specs.Packing.{packed}
use Rattle.language.specs.declared.Val.{Val}
use Rattle.tables.specs.Tables.{field}
use Rattle.lexer.specs.Vocabulary.{op_code}
use Rattle.cells.specs.Cells.{Rep}

abbrev pub kind_at : List ℕ → ℕ → ℕ
kind_at t i = get_or t (i * 4) 0

abbrev pub arity_at : List ℕ → ℕ → ℕ
arity_at t i = field t i 1

-- the 64-bit number of record i
abbrev pub wide_at : List ℕ → ℕ → ℕ
wide_at t i = field t i 2 + 4294967296 * field t i 3

-- the forms that follow a record
abbrev pub parts : Form → Forms
parts (word w) = stop
parts (name w) = stop
parts (chain fs) = fs
parts (construct fs) = fs
parts (insert f) = f & stop
parts (apply_all f) = f & stop
parts (condition p f g) = p & f & g & stop
parts (while p f) = p & f & stop
parts (constant x) = stop
parts (bu f x) = f & stop

pub data Row (t C : List ℕ) (n i : ℕ) : Form → Type 0 where
  row_op : {o : Op} → kind_at t i ≡ 1 → arity_at t i ≡ 0 → wide_at t i ≡ op_code o → Row t C n i (word (op o))
  row_select : {k : ℕ} → kind_at t i ≡ 2 → arity_at t i ≡ 0 → wide_at t i ≡ k → Row t C n i (word (select k))
  row_select_right : {k : ℕ} → kind_at t i ≡ 3 → arity_at t i ≡ 0 → wide_at t i ≡ k → Row t C n i (word (select_right k))
  row_name : {w : List ℕ} → kind_at t i ≡ 4 → arity_at t i ≡ 0 → wide_at t i ≡ packed w → Row t C n i (name w)
  row_chain : {fs : Forms} → kind_at t i ≡ 5 → arity_at t i ≡ count fs → wide_at t i ≡ 0 → Row t C n i (chain fs)
  row_construct : {fs : Forms} → kind_at t i ≡ 6 → arity_at t i ≡ count fs → wide_at t i ≡ 0 → Row t C n i (construct fs)
  row_insert : {f : Form} → kind_at t i ≡ 7 → arity_at t i ≡ 1 → wide_at t i ≡ 0 → Row t C n i (insert f)
  row_apply_all : {f : Form} → kind_at t i ≡ 8 → arity_at t i ≡ 1 → wide_at t i ≡ 0 → Row t C n i (apply_all f)
  row_condition : {p f g : Form} → kind_at t i ≡ 9 → arity_at t i ≡ 3 → wide_at t i ≡ 0 → Row t C n i (condition p f g)
  row_while : {p f : Form} → kind_at t i ≡ 10 → arity_at t i ≡ 2 → wide_at t i ≡ 0 → Row t C n i (while p f)
  row_constant : {x : Obj} {v : Val} → kind_at t i ≡ 12 + v.tag → arity_at t i ≡ 0 → wide_at t i ≡ v.word → Rep C n v x → Row t C n i (constant x)
  row_bu : {f : Form} {x : Obj} {v : Val} → kind_at t i ≡ 16 + v.tag → arity_at t i ≡ 1 → wide_at t i ≡ v.word → Rep C n v x → Row t C n i (bu f x)

pub data Stands (t C : List ℕ) (n : ℕ) : ℕ → Forms → ℕ → Type 0 where
  no_form : {i : ℕ} → Stands t C n i stop i
  a_form : {i e : ℕ} {f : Form} {fs : Forms} → Row t C n i f → Stands t C n (i + 1) (parts f +& fs) e → Stands t C n i (f & fs) e

-- the bodies of a program, one after the other
abbrev pub bodies : Prog → Forms
bodies [] = stop
bodies (d ∷ ds) = d.body & bodies ds
