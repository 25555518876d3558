-- Linked forms with the records that they take up, and what the link pass does.
use Rattle.std.specs.Prelude.{ℕ, ◌+◌, ◌*◌, ◌≤◌, ◌<◌, ◌≡◌, List, get_or, length}
use Rattle.language.specs.Numbers.{form_limit}
use Rattle.language.specs.Objects.{Obj}
use Rattle.language.specs.Words.{Op}
use Rattle.language.specs.Forms.{op, select, select_right, Form, word, name, chain, construct, constant, insert, apply_all, bu, condition, while, Forms, stop, ◌&◌, ◌+&◌, count}
use Rattle.language.specs.Accepted.{IsName, IsForm, AreForms}
use Rattle.tables.specs.Tables.{field}
use Rattle.cells.specs.Cells.{Rep}
use Rattle.lexer.specs.Vocabulary.{op_code}
use Rattle.formtable.specs.Standing as S
use Rattle.formtable.specs.Standing.{parts}
use Rattle.linker.specs.Linked.{linked_kind_at, link_at, constant_at}
use Rattle.linker.specs.Roots.{root_in}
use Rattle.linker.specs.declared.Turned.{Turned}

-- what a linked record says of a form that is no chain
pub data LinkedRow (F C : List ℕ) (n : ℕ) (root : List ℕ → ℕ) (i : ℕ) : Form → Type 0 where
  row_op : {o : Op} → linked_kind_at F i ≡ 1 → field F i 2 ≡ op_code o → LinkedRow F C n root i (word (op o))
  row_select : {k : ℕ} → linked_kind_at F i ≡ 2 → field F i 2 ≡ k → LinkedRow F C n root i (word (select k))
  row-select-right : {k : ℕ} → linked_kind_at F i ≡ 3 → field F i 2 ≡ k → LinkedRow F C n root i (word (select_right k))
  row_name : {w : List ℕ} → IsName w → linked_kind_at F i ≡ 4 → field F i 1 ≡ root w → LinkedRow F C n root i (name w)
  row_construct : {fs : Forms} → linked_kind_at F i ≡ 6 → field F i 1 ≡ count fs → LinkedRow F C n root i (construct fs)
  row_insert : {f : Form} → linked_kind_at F i ≡ 7 → LinkedRow F C n root i (insert f)
  row_all : {f : Form} → linked_kind_at F i ≡ 8 → LinkedRow F C n root i (apply_all f)
  row_condition : {p f g : Form} → linked_kind_at F i ≡ 9 → LinkedRow F C n root i (condition p f g)
  row_while : {p f : Form} → linked_kind_at F i ≡ 10 → LinkedRow F C n root i (while p f)
  row_constant : {x : Obj} → linked_kind_at F i ≡ 12 → Rep C n (constant_at F i) x → LinkedRow F C n root i (constant x)
  row_bu : {f : Form} {x : Obj} → linked_kind_at F i ≡ 16 → Rep C n (constant_at F i) x → LinkedRow F C n root i (bu f x)

mutual
  -- a form in the records from i up to e
  pub data Tree (F C : List ℕ) (n : ℕ) (root : List ℕ → ℕ) : ℕ → Form → ℕ → Type 0 where
    tree : {i e : ℕ} {f : Form} → i < form_limit → LinkedRow F C n root i f → Kids F C n root (i + 1) (parts f) e → Tree F C n root i f e
    tree_chain : {i e : ℕ} {fs : Forms} → i < form_limit → linked_kind_at F i ≡ 5 → Back F C n root 0 (i + 1) fs e (field F i 2) → Tree F C n root i (chain fs) e

  -- forms from j up to e, one behind the other, each leading to what follows it
  pub data Kids (F C : List ℕ) (n : ℕ) (root : List ℕ → ℕ) : ℕ → Forms → ℕ → Type 0 where
    no_kid : {j : ℕ} → Kids F C n root j stop j
    a_kid : {j m e : ℕ} {f : Form} {fs : Forms} → Tree F C n root j f m → link_at F j ≡ m → Kids F C n root m fs e → Kids F C n root j (f & fs) e

  -- the same, but each leads to the one before it: the first to `before`; the last is at z
  pub data Back (F C : List ℕ) (n : ℕ) (root : List ℕ → ℕ) : ℕ → ℕ → Forms → ℕ → ℕ → Type 0 where
    no_back : {before j : ℕ} → Back F C n root before j stop j before
    a_back : {before j m e z : ℕ} {f : Form} {fs : Forms} → Tree F C n root j f m → link_at F j ≡ before → Back F C n root j m fs e z → Back F C n root before j (f & fs) e z

-- the end of the first q forms from `start` on
pub record Walked (t : List ℕ) (start q r : ℕ) : Type 0 where
  pub means : (C : List ℕ) (n : ℕ) (root : List ℕ → ℕ) (gs fs : Forms) (e : ℕ) → count gs ≡ q → Kids t C n root start (gs +& fs) e → Kids t C n root start gs r × Kids t C n root r fs e

-- every number before index k is as it was
pub record Before (t u : List ℕ) (k : ℕ) : Type 0 where
  pub keep : (j : ℕ) → j < k → get_or u j 0 ≡ get_or t j 0

-- the links of the first q forms from `start` on turned round
pub record Reversed (t : List ℕ) (start q : ℕ) (r : Turned) (u : List ℕ) : Type 0 where
  pub means : (C : List ℕ) (n : ℕ) (root : List ℕ → ℕ) (gs fs : Forms) (e : ℕ) → count gs ≡ q → e ≤ form_limit → e * 4 ≤ length t → Kids t C n root start (gs +& fs) e → Back u C n root 0 start gs r.rest r.last × Kids u C n root r.rest fs e × Before t u (start * 4)

-- record i linked, where its parts and all that follows them are
pub record OneLinked (t : List ℕ) (i : ℕ) (D : List ℕ) (many : ℕ) (u : List ℕ) : Type 0 where
  pub means : (C : List ℕ) (n : ℕ) (f : Form) (fs : Forms) (e : ℕ) → i < e → e ≤ form_limit → e * 4 ≤ length t → IsForm f → S.Row t C n i f → Kids t C n (root_in D many) (i + 1) (parts f +& fs) e → Kids u C n (root_in D many) i (f & fs) e × Before t u (i * 4)

-- the first `total` records linked: the forms that stood there are linked, each name by the first `many` definitions
pub record AllLinked (t : List ℕ) (total : ℕ) (D : List ℕ) (many : ℕ) (u : List ℕ) : Type 0 where
  pub means : (C : List ℕ) (n : ℕ) (fs : Forms) → total ≤ form_limit → total * 4 ≤ length t → AreForms fs → S.Stands t C n 0 fs total → Kids u C n (root_in D many) 0 fs total
