-- What a record's kind and word say of the form that it is the record of: its marks, its words and names, its object.
use Prim.Native.Nat.{ℕ, zero, suc, ◌+◌, ◌%◌, ◌≤◌, ◌<◌}
use mathlib.Core.Path.{◌≡◌, refl, ap, sym, subst, ◌∙◌}
use mathlib.Core.List.{List, [], ◌∷◌, ◌++◌}
use native.Mathlib.Omega.{arith}
use borrow.Author.Tests.{ne_eqb, le-leb, lt-leb}
use lib.IntN.{pos}
use lib.ListN.{take}
use lib.Seq.{take_at}
use Rattle.language.specs.Objects.{Obj, int}
use Rattle.language.specs.Forms.{Form, constant, bu}
use Rattle.language.specs.Accepted.{IsName}
use Rattle.packing.specs.Packing.{packed}
use Rattle.language.specs.Writing.{write_obj, write_integer, write_word, decimal}
use Rattle.language.specs.declared.Val.{Val}
use Rattle.cells.specs.Cells.{Rep, rep_pos}
use Rattle.cells.proofs.Reps.{val_same}
use Rattle.cells.proofs.Inversions.{tag_low}
use Rattle.lexer.specs.Vocabulary.{op_code, spelled_at}
use Rattle.packing.specs.Packing as lexed
use Rattle.packing.specs.declared.Case.TheVariants.{Lower}
use Rattle.packing.proofs.Packed.{name_back}
use Rattle.lexer.proofs.Words.{spelled_of, code_below}
use Rattle.formtable.specs.Standing.{kind_at, wide_at, Row, row_op, row_select, row_select_right, row_name, row_chain, row_construct, row_insert, row_apply_all, row_condition, row_while, row_constant, row_bu}
use Rattle.program_writer.specs.Layout.{takes_part, takes_kind, opening, behind_part, behind_chain, behind_construct, behind_condition, behind_while, ending}
use Rattle.program_writer.specs.Walks.{Wrote, NameWalked, ConstantWalked, MarkBehind, OpeningMark, Writable, BehindWalked, PlainWalked, OpeningWalked, EndingWalked}
use Rattle.program_writer.proofs.Wrote.{wrote_none, wrote_then, wrote_as}

-- the object of a record that has one
module _ {C : List ℕ} {n : ℕ} {x : Obj} {v : Val} (row : Val) where
  pub own_constant : row.tag ≡ 12 + v.tag → row.word ≡ v.word → Rep C n v x → Rep C n (record { tag = row.tag % 4; word = row.word }) x
  own_constant a b r = let l = tag_low r in subst (λ (u : Val). Rep C n u x) (val_same v (record { tag = row.tag % 4; word = row.word }) (omega arith) (sym b)) r

  pub own_bu : row.tag ≡ 16 + v.tag → row.word ≡ v.word → Rep C n v x → Rep C n (record { tag = row.tag % 4; word = row.word }) x
  own_bu a b r = let l = tag_low r in subst (λ (u : Val). Rep C n u x) (val_same v (record { tag = row.tag % 4; word = row.word }) (omega arith) (sym b)) r

-- ---- what stands behind a part
module _ {k : ℕ} {b : List ℕ} where
  chain_text : (left : ℕ) → MarkBehind k left b → k ≡ 5 → b ≡ behind_chain left
  unfolding behind_chain
  chain_text zero m h = m.chain_end h refl
  chain_text (suc l) m h = m.chain h (omega arith)

  construct_text : (left : ℕ) → MarkBehind k left b → k ≡ 6 → b ≡ behind_construct left
  unfolding behind_construct
  construct_text zero m h = m.construct_end h refl
  construct_text (suc l) m h = m.construct h (omega arith)

  condition_text : (left : ℕ) → MarkBehind k left b → k ≡ 9 → b ≡ behind_condition left
  unfolding behind_condition
  condition_text zero m h = m.condition_end h refl
  condition_text (suc zero) m h = m.condition_then h refl
  condition_text (suc (suc l)) m h = m.condition h (omega arith)

  while_text : (left : ℕ) → MarkBehind k left b → k ≡ 10 → b ≡ behind_while left
  unfolding behind_while
  while_text zero m h = m.while_end h refl
  while_text (suc l) m h = m.while h (omega arith)

  behind_text : {t C : List ℕ} {n j : ℕ} {g : Form} (left : ℕ) → k ≡ kind_at t j → MarkBehind k left b → Row t C n j g → b ≡ behind_part g left
  unfolding behind_part
  behind_text left e m (row_op h a w) = m.other (omega arith)
  behind_text left e m (row_select h a w) = m.other (omega arith)
  behind_text left e m (row_select_right h a w) = m.other (omega arith)
  behind_text left e m (row_name h a w) = m.other (omega arith)
  behind_text left e m (row_chain h a w) = chain_text left m (e ∙ h)
  behind_text left e m (row_construct h a w) = construct_text left m (e ∙ h)
  behind_text left e m (row_insert h a w) = m.insert (omega arith)
  behind_text left e m (row_apply_all h a w) = m.apply_all (omega arith)
  behind_text left e m (row_condition h a w) = condition_text left m (e ∙ h)
  behind_text left e m (row_while h a w) = while_text left m (e ∙ h)
  behind_text left e m (row_constant h a w r) = let l = tag_low r in m.constant (omega arith) (omega arith)
  behind_text left e m (row_bu h a w r) = m.bu (omega arith)

pub behind_walk : {k left at r : ℕ} {b out out' : List ℕ} → MarkBehind k left b → Wrote b at r out out' → BehindWalked k left at r out out'
behind_walk {left = left} m w = record { means = λ t C n j g e r. wrote_as (behind_text left e m r) w }

-- ---- what opens a form
module _ {k : ℕ} {b : List ℕ} (low : 5 ≤ k) (m : OpeningMark k b) where
  mark_text : {t C : List ℕ} {n i : ℕ} {f : Form} → (10 < k → k < 16 → ⊥) → k ≡ kind_at t i → Row t C n i f → b ≡ opening f
  unfolding opening
  mark_text o e (row_op q a w) = absurd (omega arith)
  mark_text o e (row_select q a w) = absurd (omega arith)
  mark_text o e (row_select_right q a w) = absurd (omega arith)
  mark_text o e (row_name q a w) = absurd (omega arith)
  mark_text o e (row_chain q a w) = m.chain (omega arith)
  mark_text o e (row_construct q a w) = m.construct (omega arith)
  mark_text o e (row_insert q a w) = m.insert (omega arith)
  mark_text o e (row_apply_all q a w) = m.apply_all (omega arith)
  mark_text o e (row_condition q a w) = m.condition (omega arith)
  mark_text o e (row_while q a w) = m.while (omega arith)
  mark_text o e (row_constant q a w r) = let l = tag_low r in absurd (o (omega arith) (omega arith))
  mark_text o e (row_bu q a w r) = m.bu (omega arith)

module _ {C : List ℕ} {row : Val} {at : ℕ} {b out : List ℕ} (low : 5 ≤ row.tag) (m : OpeningMark row.tag b) where
  module _ {r : ℕ} {out₁ : List ℕ} where
    pub open_parts : row.tag ≤ 10 → Wrote b at r out out₁ → OpeningWalked C row at r out out₁
    open_parts h v = record { means = λ t n i f c e w d s. wrote_as (mark_text low m (λ x y. omega arith) e s) v }

    pub open_bu : 15 < row.tag → Wrote b at r out out₁ → OpeningWalked C row at r out out₁
    open_bu h v = record { means = λ t n i f c e w d s. wrote_as (mark_text low m (λ x y. omega arith) e s) v }

  module _ {p q : ℕ} {out₁ out₂ : List ℕ} (h : 10 < row.tag) (l : row.tag ≤ 15) (v : Wrote b at p out out₁) (o : ConstantWalked C (record { tag = row.tag % 4; word = row.word }) p q out₁ out₂) where
    constant_text : {t : List ℕ} {n i : ℕ} (f : Form) → n < 4294967296 → row.tag ≡ kind_at t i → row.word ≡ wide_at t i → Writable f → Row t C n i f → Wrote (opening f) at q out out₂
    unfolding opening
    constant_text f c e w d (row_op y a z) = absurd (omega arith)
    constant_text f c e w d (row_select y a z) = absurd (omega arith)
    constant_text f c e w d (row_select_right y a z) = absurd (omega arith)
    constant_text f c e w d (row_name y a z) = absurd (omega arith)
    constant_text f c e w d (row_chain y a z) = absurd (omega arith)
    constant_text f c e w d (row_construct y a z) = absurd (omega arith)
    constant_text f c e w d (row_insert y a z) = absurd (omega arith)
    constant_text f c e w d (row_apply_all y a z) = absurd (omega arith)
    constant_text f c e w d (row_condition y a z) = absurd (omega arith)
    constant_text f c e w d (row_while y a z) = absurd (omega arith)
    constant_text {t} {n} {i} (constant x) c e w d (row_constant y a z r) =
        let few = d.few in
        wrote_as (ap (λ (a : List ℕ). a ++ write_obj x) (m.constant h (omega arith))) (wrote_then v (o.means n x c (omega arith) (own_constant row (e ∙ y) (w ∙ z) r)))
    constant_text f c e w d (row_bu y a z r) = absurd (omega arith)

    pub open_constant : OpeningWalked C row at q out out₂
    open_constant = record { means = λ t n i f c e w d r. constant_text f c e w d r }

-- ---- what ends a form
no_ending : {t C : List ℕ} {n i k : ℕ} {f : Form} → k < 16 → k ≡ kind_at t i → Row t C n i f → [] ≡ ending f
unfolding ending
no_ending h e (row_op q a w) = refl
no_ending h e (row_select q a w) = refl
no_ending h e (row_select_right q a w) = refl
no_ending h e (row_name q a w) = refl
no_ending h e (row_chain q a w) = refl
no_ending h e (row_construct q a w) = refl
no_ending h e (row_insert q a w) = refl
no_ending h e (row_apply_all q a w) = refl
no_ending h e (row_condition q a w) = refl
no_ending h e (row_while q a w) = refl
no_ending h e (row_constant q a w r) = refl
no_ending h e (row_bu q a w r) = absurd (omega arith)

module _ {C : List ℕ} {row : Val} {at : ℕ} {out : List ℕ} where
  pub end_none : row.tag < 16 → EndingWalked C row at at out out
  end_none h = record { means = λ t n i f c e w d r. wrote_as (no_ending h e r) wrote_none }

  module _ {p q : ℕ} {out₁ out₂ : List ℕ} (h : 16 ≤ row.tag) (o : ConstantWalked C (record { tag = row.tag % 4; word = row.word }) at p out out₁) (v : Wrote (125 ∷ []) p q out₁ out₂) where
    bu_text : {t : List ℕ} {n i : ℕ} (f : Form) → n < 4294967296 → row.tag ≡ kind_at t i → row.word ≡ wide_at t i → Writable f → Row t C n i f → Wrote (ending f) at q out out₂
    unfolding ending
    bu_text f c e w d (row_op y a z) = absurd (omega arith)
    bu_text f c e w d (row_select y a z) = absurd (omega arith)
    bu_text f c e w d (row_select_right y a z) = absurd (omega arith)
    bu_text f c e w d (row_name y a z) = absurd (omega arith)
    bu_text f c e w d (row_chain y a z) = absurd (omega arith)
    bu_text f c e w d (row_construct y a z) = absurd (omega arith)
    bu_text f c e w d (row_insert y a z) = absurd (omega arith)
    bu_text f c e w d (row_apply_all y a z) = absurd (omega arith)
    bu_text f c e w d (row_condition y a z) = absurd (omega arith)
    bu_text f c e w d (row_while y a z) = absurd (omega arith)
    bu_text f c e w d (row_constant y a z r) = let l = tag_low r in absurd (omega arith)
    bu_text {t} {n} {i} (bu f x) c e w d (row_bu y a z r) = let few = d.few in wrote_then (o.means n x c (omega arith) (own_bu row (e ∙ y) (w ∙ z) r)) v

    pub end_bu : EndingWalked C row at q out out₂
    end_bu = record { means = λ t n i f c e w d r. bu_text f c e w d r }

-- ---- words and names
module _ {v at r n : ℕ} {old new out out' : List ℕ} where
  pub name_walk : lexed.Unpacked Lower v n old new → Wrote (take n new) at r out out' → NameWalked v at r out out'
  name_walk u w = record { means = λ x i e. wrote_as (spelled x i e) w }
    where
      spelled : (x : List ℕ) → IsName x → v ≡ packed x → take n new ≡ x
      spelled x i e =
          let back : lexed.unpacked Lower v ≡ x = ap (λ (a : ℕ). lexed.unpacked Lower a) e ∙ name_back x i in
          ap (λ (l : List ℕ). take n l) u.bytes ∙ take_at (lexed.unpacked Lower v) _ n (sym u.size) ∙ back

-- ---- words, selectors and names
word_text : {t C : List ℕ} {n i k v : ℕ} {f : Form} → k ≡ 1 → k ≡ kind_at t i → v ≡ wide_at t i → Row t C n i f → spelled_at (v % 4294967296) ≡ opening f
unfolding opening write_word
word_text {v = v} h e w (row_op {o = o} q a z) =
    let l = code_below o in
    let y : v % 4294967296 ≡ op_code o = omega arith in
    ap spelled_at y ∙ spelled_of o
word_text h e w (row_select q a z) = absurd (omega arith)
word_text h e w (row_select_right q a z) = absurd (omega arith)
word_text h e w (row_name q a z) = absurd (omega arith)
word_text h e w (row_chain q a z) = absurd (omega arith)
word_text h e w (row_construct q a z) = absurd (omega arith)
word_text h e w (row_insert q a z) = absurd (omega arith)
word_text h e w (row_apply_all q a z) = absurd (omega arith)
word_text h e w (row_condition q a z) = absurd (omega arith)
word_text h e w (row_while q a z) = absurd (omega arith)
word_text h e w (row_constant q a z r) = absurd (omega arith)
word_text h e w (row_bu q a z r) = absurd (omega arith)

number : {C : List ℕ} {v at r : ℕ} {out out' : List ℕ} → ConstantWalked C (record { tag = 0; word = v }) at r out out' → (n k : ℕ) → n < 4294967296 → v ≡ k → k ≤ 255 → Wrote (decimal k) at r out out'
unfolding write_obj write_integer
number o n k c e l = o.means n (int (pos k)) c (omega arith) (rep_pos refl e (omega arith))

module _ {C : List ℕ} {row : Val} {at r : ℕ} {out out' : List ℕ} where
  pub plain_word : row.tag ≡ 1 → Wrote (spelled_at (row.word % 4294967296)) at r out out' → PlainWalked C row at r out out'
  plain_word h v = record { means = λ t n i f c e w l d s. wrote_as (word_text h e w s) v }

  module _ (h : row.tag ≡ 4) (v : NameWalked row.word at r out out') where
    name_text : {t : List ℕ} {n i : ℕ} {f : Form} → row.tag ≡ kind_at t i → row.word ≡ wide_at t i → Writable f → Row t C n i f → Wrote (opening f) at r out out'
    unfolding opening
    name_text e w d (row_op q a z) = absurd (omega arith)
    name_text e w d (row_select q a z) = absurd (omega arith)
    name_text e w d (row_select_right q a z) = absurd (omega arith)
    name_text e w d (row_name {w = x} q a z) = v.means x d.good (w ∙ z)
    name_text e w d (row_chain q a z) = absurd (omega arith)
    name_text e w d (row_construct q a z) = absurd (omega arith)
    name_text e w d (row_insert q a z) = absurd (omega arith)
    name_text e w d (row_apply_all q a z) = absurd (omega arith)
    name_text e w d (row_condition q a z) = absurd (omega arith)
    name_text e w d (row_while q a z) = absurd (omega arith)
    name_text e w d (row_constant q a z s) = absurd (omega arith)
    name_text e w d (row_bu q a z s) = absurd (omega arith)

    pub plain_name : PlainWalked C row at r out out'
    plain_name = record { means = λ t n i f c e w l d s. name_text e w d s }

  module _ (o : ConstantWalked C (record { tag = 0; word = row.word }) at r out out') where
    select_text : {t : List ℕ} {n i : ℕ} {f : Form} → (row.tag ≡ 1 → ⊥) → (row.tag ≡ 4 → ⊥) → (row.tag ≡ 3 → ⊥) → n < 4294967296 → row.tag ≡ kind_at t i → row.word ≡ wide_at t i → row.tag < 5 → Writable f → Row t C n i f → Wrote (opening f) at r out out'
    unfolding opening write_word
    select_text p1 p4 p3 c e w l d (row_op q a z) = absurd (p1 (e ∙ q))
    select_text {n = n} p1 p4 p3 c e w l d (row_select {k = k} q a z) = number o n k c (w ∙ z) d.good.1
    select_text p1 p4 p3 c e w l d (row_select_right q a z) = absurd (p3 (e ∙ q))
    select_text p1 p4 p3 c e w l d (row_name q a z) = absurd (p4 (e ∙ q))
    select_text p1 p4 p3 c e w l d (row_chain q a z) = absurd (omega arith)
    select_text p1 p4 p3 c e w l d (row_construct q a z) = absurd (omega arith)
    select_text p1 p4 p3 c e w l d (row_insert q a z) = absurd (omega arith)
    select_text p1 p4 p3 c e w l d (row_apply_all q a z) = absurd (omega arith)
    select_text p1 p4 p3 c e w l d (row_condition q a z) = absurd (omega arith)
    select_text p1 p4 p3 c e w l d (row_while q a z) = absurd (omega arith)
    select_text p1 p4 p3 c e w l d (row_constant q a z s) = absurd (omega arith)
    select_text p1 p4 p3 c e w l d (row_bu q a z s) = absurd (omega arith)

    pub plain_select : (row.tag ≡ 1 → ⊥) → (row.tag ≡ 4 → ⊥) → (row.tag ≡ 3 → ⊥) → PlainWalked C row at r out out'
    plain_select p1 p4 p3 = record { means = λ t n i f c e w l d s. select_text p1 p4 p3 c e w l d s }

    module _ {r₂ : ℕ} {out₂ : List ℕ} (h : row.tag ≡ 3) (v : Wrote (114 ∷ []) r r₂ out' out₂) where
      right_text : {t : List ℕ} {n i : ℕ} {f : Form} → n < 4294967296 → row.tag ≡ kind_at t i → row.word ≡ wide_at t i → Writable f → Row t C n i f → Wrote (opening f) at r₂ out out₂
      unfolding opening write_word
      right_text c e w d (row_op q a z) = absurd (omega arith)
      right_text c e w d (row_select q a z) = absurd (omega arith)
      right_text {n = n} c e w d (row_select_right {k = k} q a z) = wrote_then (number o n k c (w ∙ z) d.good.1) v
      right_text c e w d (row_name q a z) = absurd (omega arith)
      right_text c e w d (row_chain q a z) = absurd (omega arith)
      right_text c e w d (row_construct q a z) = absurd (omega arith)
      right_text c e w d (row_insert q a z) = absurd (omega arith)
      right_text c e w d (row_apply_all q a z) = absurd (omega arith)
      right_text c e w d (row_condition q a z) = absurd (omega arith)
      right_text c e w d (row_while q a z) = absurd (omega arith)
      right_text c e w d (row_constant q a z s) = absurd (omega arith)
      right_text c e w d (row_bu q a z s) = absurd (omega arith)

      pub plain_right : PlainWalked C row at r₂ out out₂
      plain_right = record { means = λ t n i f c e w l d s. right_text c e w d s }

-- all that opens a form below 5
-- ---- whether a part takes brackets
pub takes_kind_lem : {t C : List ℕ} {n j k : ℕ} {g : Form} → k ≡ kind_at t j → Row t C n j g → takes_kind k ≡ takes_part g
unfolding takes_kind
takes_kind_lem e (row_op q a w) = rw (e ∙ q)
takes_kind_lem e (row_select q a w) = rw (e ∙ q)
takes_kind_lem e (row_select_right q a w) = rw (e ∙ q)
takes_kind_lem e (row_name q a w) = rw (e ∙ q)
takes_kind_lem e (row_chain q a w) = rw (e ∙ q)
takes_kind_lem e (row_construct q a w) = rw (e ∙ q)
takes_kind_lem e (row_insert q a w) = rw (e ∙ q)
takes_kind_lem e (row_apply_all q a w) = rw (e ∙ q)
takes_kind_lem e (row_condition q a w) = rw (e ∙ q)
takes_kind_lem e (row_while q a w) = rw (e ∙ q)
takes_kind_lem {k = k} e (row_constant q a w r) =
    let l = tag_low r in
    rw (lt-leb 16 k (omega arith), ne_eqb k 5 (λ z. absurd (omega arith)), ne_eqb k 7 (λ z. absurd (omega arith)), ne_eqb k 8 (λ z. absurd (omega arith)))
takes_kind_lem {k = k} e (row_bu q a w r) = rw (le-leb 16 k (omega arith))
