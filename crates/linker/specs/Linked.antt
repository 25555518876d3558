-- How the forms of a program stand in a linked table, the constants in the first n cells of C.
use Rattle.std.specs.Prelude.{ℕ, ◌+◌, ◌*◌, ◌/◌, ◌%◌, ◌<◌, ◌≡◌, cond, List, ltb, get_or}
use Rattle.std.proofs.Math.Option.{Option, some, none}
use Rattle.language.specs.Numbers.{form_limit}
use Rattle.language.specs.Objects.{Obj}
use Rattle.language.specs.Words.{Op}
use Rattle.language.specs.Forms.{op, select, select_right, Form, word, name, chain, construct, constant, insert, apply_all, bu, condition, while, Forms, stop, ◌&◌, ◌+&◌, count}
use Rattle.language.specs.Accepted.{IsName}
use Rattle.language.specs.declared.Val.{Val}
use Rattle.tables.specs.Tables.{field}
use Rattle.cells.specs.Cells.{Rep}
use Rattle.lexer.specs.Vocabulary.{op_code}

-- A record is [kind + 32 * link, arity, lo, hi]. The link is the record of the part to evaluate next: in a chain the one
-- before, else the one behind; 0 for none. Kinds 12 to 15 are constants and count as 12, 16 to 19 are `{f,x}` and count as 16.
unfoldable pub grouped : ℕ → ℕ
grouped k = cond (ltb k 12) k (cond (ltb k 16) 12 (cond (ltb k 20) 16 k))

abbrev pub linked_kind_at : List ℕ → ℕ → ℕ
linked_kind_at F i = grouped (get_or F (i * 4) 0 % 32)

abbrev pub link_at : List ℕ → ℕ → ℕ
link_at F i = get_or F (i * 4) 0 / 32

-- the value of the constant in record i; its tag is what kind and 4 leave
abbrev pub constant_at : List ℕ → ℕ → Val
constant_at F i = record { tag = get_or F (i * 4) 0 % 4; word = field F i 2 + 4294967296 * field F i 3 }

-- The form in record i: by its kind (FormIs), and at its kind (FormAt). A name's arity is one more than its body's record, or 0
-- if it is undefined, as `root` says; the parts of a form begin behind it; a chain's lo is the record of its last part.
mutual
  pub data FormIs (F C : List ℕ) (n : ℕ) (root : List ℕ → ℕ) : ℕ → ℕ → Form → Type 0 where
    is_op : {i : ℕ} {o : Op} → field F i 2 ≡ op_code o → FormIs F C n root 1 i (word (op o))
    is_select : {i k : ℕ} → field F i 2 ≡ k → FormIs F C n root 2 i (word (select k))
    is_select_right : {i k : ℕ} → field F i 2 ≡ k → FormIs F C n root 3 i (word (select_right k))
    is_name : {i : ℕ} {w : List ℕ} → IsName w → field F i 1 ≡ root w → FormIs F C n root 4 i (name w)
    is_chain : {i : ℕ} {fs : Forms} → UpTo F C n root (field F i 2) fs → FormIs F C n root 5 i (chain fs)
    is_construct : {i : ℕ} {fs : Forms} → count fs ≡ field F i 1 → PartsAt F C n root (i + 1) fs → FormIs F C n root 6 i (construct fs)
    is_insert : {i : ℕ} {f : Form} → FormAt F C n root (i + 1) f → FormIs F C n root 7 i (insert f)
    is_all : {i : ℕ} {f : Form} → FormAt F C n root (i + 1) f → FormIs F C n root 8 i (apply_all f)
    is_condition : {i : ℕ} {p f g : Form} → FormAt F C n root (i + 1) p → FormAt F C n root (link_at F (i + 1)) f → FormAt F C n root (link_at F (link_at F (i + 1))) g → FormIs F C n root 9 i (condition p f g)
    is_while : {i : ℕ} {p f : Form} → FormAt F C n root (i + 1) p → FormAt F C n root (link_at F (i + 1)) f → FormIs F C n root 10 i (while p f)
    is_constant : {i : ℕ} {x : Obj} → Rep C n (constant_at F i) x → FormIs F C n root 12 i (constant x)
    is_bu : {i : ℕ} {f : Form} {x : Obj} → FormAt F C n root (i + 1) f → Rep C n (constant_at F i) x → FormIs F C n root 16 i (bu f x)

  pub data FormAt (F C : List ℕ) (n : ℕ) (root : List ℕ → ℕ) : ℕ → Form → Type 0 where
    form_at : {i κ : ℕ} {f : Form} → i < form_limit → linked_kind_at F i ≡ κ → FormIs F C n root κ i f → FormAt F C n root i f

  -- forms from record j on, along the links
  pub data PartsAt (F C : List ℕ) (n : ℕ) (root : List ℕ → ℕ) : ℕ → Forms → Type 0 where
    no_part : {j : ℕ} → PartsAt F C n root j stop
    a_part : {j : ℕ} {f : Form} {fs : Forms} → FormAt F C n root j f → PartsAt F C n root (link_at F j) fs → PartsAt F C n root j (f & fs)

  -- forms whose last is at record j, along the links from the last to the first
  pub data UpTo (F C : List ℕ) (n : ℕ) (root : List ℕ → ℕ) : ℕ → Forms → Type 0 where
    none_yet : {j : ℕ} → j ≡ 0 → UpTo F C n root j stop
    one_more : {j : ℕ} {f : Form} {before fs : Forms} → 0 < j → FormAt F C n root j f → UpTo F C n root (link_at F j) before → fs ≡ before +& (f & stop) → UpTo F C n root j fs

-- a definition by what `root` says of its name
pub data DefAt (F C : List ℕ) (n : ℕ) (root : List ℕ → ℕ) : ℕ → Option Form → Type 0 where
  no_def : {d : ℕ} → d ≡ 0 → DefAt F C n root d none
  a_def : {d i : ℕ} {f : Form} → d ≡ i + 1 → FormAt F C n root i f → DefAt F C n root d (some f)
