-- Records of a form table as it was read: the parts of a form, and what a record says, in this table or in another that agrees on it.
use Prim.Native.Nat.{ℕ, ◌+◌, ◌*◌, ◌%◌, ◌<◌}
use mathlib.Core.Path.{◌≡◌, ◌∙◌}
use mathlib.Core.List.{List}
use native.Mathlib.Omega.{arith}
use lib.ListN.{get_or}
use Rattle.language.specs.Objects.{Obj}
use Rattle.language.specs.Forms.{Form, word, name, chain, construct, constant, insert, apply_all, bu, condition, while, Forms, stop, ◌&◌, ◌+&◌}
use Rattle.language.specs.Accepted.{IsForm, AreForms}
use Rattle.language.specs.declared.Val.{Val}
use Rattle.cells.specs.Cells.{Rep}
use Rattle.cells.proofs.Reps.{val_same}
use Rattle.cells.proofs.Inversions.{tag_low}
use Rattle.formtable.specs.Standing.{kind_at, arity_at, wide_at, parts, Row, row_op, row_select, row_select_right, row_name, row_chain, row_construct, row_insert, row_apply_all, row_condition, row_while, row_constant, row_bu}
use Rattle.linker.specs.Linked.{constant_at}

-- ---- the parts of a form
pub parts_formed : (f : Form) → IsForm f → AreForms (parts f)
parts_formed (word w) h = tt
parts_formed (name w) h = tt
parts_formed (chain fs) h = h.1
parts_formed (construct fs) h = h.1
parts_formed (insert f) h = (h, tt)
parts_formed (apply_all f) h = (h, tt)
parts_formed (condition p f g) h = (h.0, (h.1, (h.2, tt)))
parts_formed (while p f) h = (h.0, (h.1, tt))
parts_formed (constant x) h = tt
parts_formed (bu f x) h = (h.0, tt)

pub both_formed : (fs gs : Forms) → AreForms fs → AreForms gs → AreForms (fs +& gs)
both_formed stop gs a b = b
both_formed (f & fs) gs a b = (a.0, both_formed fs gs a.1 b)

-- ---- one record
-- the constant of a record whose kind is k, 12 or 16, and the tag
pub constant_of : {C : List ℕ} {n : ℕ} (t : List ℕ) (i k : ℕ) (v : Val) {x : Obj} → k % 4 ≡ 0 → kind_at t i ≡ k + v.tag → wide_at t i ≡ v.word → Rep C n v x → Rep C n (constant_at t i) x
constant_of t i k v z a c r = let l = tag_low r in rw (val_same (constant_at t i) v (omega arith) c) r

module _ (t u : List ℕ) (i : ℕ) (same : (j : ℕ) → j < i * 4 + 4 → get_or u j 0 ≡ get_or t j 0) where
  kind_same : kind_at u i ≡ kind_at t i
  kind_same = same (i * 4) (omega arith)

  arity_same : arity_at u i ≡ arity_at t i
  arity_same = same (i * 4 + 1) (omega arith)

  word_same : wide_at u i ≡ wide_at t i
  word_same = omega (arith, same (i * 4 + 2) (omega arith), same (i * 4 + 3) (omega arith))

  pub row_same : {C : List ℕ} {n : ℕ} {f : Form} → Row t C n i f → Row u C n i f
  row_same (row_op a b c) = row_op (kind_same ∙ a) (arity_same ∙ b) (word_same ∙ c)
  row_same (row_select a b c) = row_select (kind_same ∙ a) (arity_same ∙ b) (word_same ∙ c)
  row_same (row_select_right a b c) = row_select_right (kind_same ∙ a) (arity_same ∙ b) (word_same ∙ c)
  row_same (row_name {w = w} a b c) = row_name {w = w} (kind_same ∙ a) (arity_same ∙ b) (word_same ∙ c)
  row_same (row_chain a b c) = row_chain (kind_same ∙ a) (arity_same ∙ b) (word_same ∙ c)
  row_same (row_construct a b c) = row_construct (kind_same ∙ a) (arity_same ∙ b) (word_same ∙ c)
  row_same (row_insert a b c) = row_insert (kind_same ∙ a) (arity_same ∙ b) (word_same ∙ c)
  row_same (row_apply_all a b c) = row_apply_all (kind_same ∙ a) (arity_same ∙ b) (word_same ∙ c)
  row_same (row_condition a b c) = row_condition (kind_same ∙ a) (arity_same ∙ b) (word_same ∙ c)
  row_same (row_while a b c) = row_while (kind_same ∙ a) (arity_same ∙ b) (word_same ∙ c)
  row_same (row_constant {x = x} {v = v} a b c r) = row_constant {x = x} {v = v} (kind_same ∙ a) (arity_same ∙ b) (word_same ∙ c) r
  row_same (row_bu {f = f} {x = x} {v = v} a b c r) = row_bu {f = f} {x = x} {v = v} (kind_same ∙ a) (arity_same ∙ b) (word_same ∙ c) r
