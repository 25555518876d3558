-- Laws of walks over forms: a form, a part with its brackets, and parts one after the other.
use Prim.Native.Nat.{ℕ, ◌+◌, ◌-◌, ◌*◌, ◌≤◌, ◌<◌}
use mathlib.Core.Path.{◌≡◌, refl, ap, sym, ◌∙◌}
use mathlib.Core.Bool.{Bool, true, false, cond, not}
use mathlib.Core.List.{List, [], ◌∷◌, ◌++◌, append_assoc, append-nil}
use native.Mathlib.Omega.{arith}
use lib.ListN.{length, get_or}
use Rattle.language.specs.Bytes.{bytes}
use Rattle.language.specs.Forms.{Form, Forms, stop, ◌&◌, ◌+&◌, count, is_chain}
use Rattle.language.specs.Writing.{write_form, bracketed}
use Rattle.language.specs.declared.Val.{Val}
use Rattle.cells.specs.Cells.{val_at}
use Rattle.formtable.specs.Standing.{kind_at, wide_at, parts, Row, row_op, row_select, row_select_right, row_name, row_chain, row_construct, row_insert, row_apply_all, row_condition, row_while, row_constant, row_bu, Stands, a_form}
use Rattle.formtable.proofs.Standing.{stands_up, arity_of}
use Rattle.program_writer.specs.Layout.{takes_part, takes_kind, behind_part, part_text, parts_text}
use Rattle.program_writer.specs.Walks.{Way, Wrote, Writable, AllWritable, one_more, BehindWalked, OpeningWalked, EndingWalked, Went, FormWalked, PartWalked, PartsWalked}
use Rattle.program_writer.proofs.Wrote.{wrote_none, wrote_then, wrote_as}
use Rattle.program_writer.proofs.FormTexts.{form_text, parts_writable}
use Rattle.program_writer.proofs.Rows.{takes_kind_lem}

-- ---- what stands in the table
pub first_row : {t C : List ℕ} {n i e : ℕ} {f : Form} {fs : Forms} → Stands t C n i (f & fs) e → Row t C n i f
first_row (a_form r s) = r

pub rest_stands : {t C : List ℕ} {n i e : ℕ} {f : Form} {fs : Forms} → Stands t C n i (f & fs) e → Stands t C n (i + 1) (parts f +& fs) e
rest_stands (a_form r s) = s

pub not_chain : {t C : List ℕ} {n i : ℕ} {f : Form} → (kind_at t i ≡ 5 → ⊥) → Row t C n i f → is_chain f ≡ false
not_chain h (row_op q a w) = refl
not_chain h (row_select q a w) = refl
not_chain h (row_select_right q a w) = refl
not_chain h (row_name q a w) = refl
not_chain h (row_chain q a w) = absurd (h q)
not_chain h (row_construct q a w) = refl
not_chain h (row_insert q a w) = refl
not_chain h (row_apply_all q a w) = refl
not_chain h (row_condition q a w) = refl
not_chain h (row_while q a w) = refl
not_chain h (row_constant q a w r) = refl
not_chain h (row_bu q a w r) = refl

pub is_chain_lem : {t C : List ℕ} {n i : ℕ} {f : Form} → kind_at t i ≡ 5 → Row t C n i f → is_chain f ≡ true
is_chain_lem h (row_op q a w) = absurd (omega arith)
is_chain_lem h (row_select q a w) = absurd (omega arith)
is_chain_lem h (row_select_right q a w) = absurd (omega arith)
is_chain_lem h (row_name q a w) = absurd (omega arith)
is_chain_lem h (row_chain q a w) = refl
is_chain_lem h (row_construct q a w) = absurd (omega arith)
is_chain_lem h (row_insert q a w) = absurd (omega arith)
is_chain_lem h (row_apply_all q a w) = absurd (omega arith)
is_chain_lem h (row_condition q a w) = absurd (omega arith)
is_chain_lem h (row_while q a w) = absurd (omega arith)
is_chain_lem h (row_constant q a w r) = absurd (omega arith)
is_chain_lem h (row_bu q a w r) = absurd (omega arith)

-- ---- a form
pub form_out : {t C : List ℕ} {i at : ℕ} {out : List ℕ} → 2048 ≤ i → FormWalked t C i at (record { next = i; place = at }) out out
form_out h = record { ahead = omega arith; means = λ n e f gs c l w s. let g = stands_up (rest_stands s) in absurd (omega arith) }

module _ {t C : List ℕ} {i at arity p q x z : ℕ} {row : Val} {out out₁ out₂ out₃ : List ℕ} where
  pub form_done : row ≡ val_at t i → arity ≡ get_or t (i * 4 + 1) 0 → OpeningWalked C row at p out out₁ → PartsWalked t C row.tag arity (i + 1) p (record { next = x; place = z }) out₁ out₂ → EndingWalked C row z q out₂ out₃ → FormWalked t C i at (record { next = x; place = q }) out out₃
  form_done e a o ps d = record { ahead = let h = ps.ahead in omega arith; means = λ n e f gs c l g s. whole n e f gs c l g s }
    where
      kind : row.tag ≡ kind_at t i
      kind = ap (λ (v : Val). v.tag) e

      value : row.word ≡ wide_at t i
      value = ap (λ (v : Val). v.word) e

      whole : (n e : ℕ) (f : Form) (gs : Forms) → n < 4294967296 → e ≤ 2048 → Writable f → Stands t C n i (f & gs) e → Went t C n (write_form f) gs e at (record { next = x; place = q }) out out₃
      whole n e f gs c l g s =
          let r = first_row s in
          let k = ps.means n e i f (parts f) gs c l kind r (a ∙ arity_of r) (parts_writable f g) (rest_stands s) in
          record { rest = k.rest; wrote = wrote_as (form_text f g.good) (wrote_then (wrote_then (o.means t n i f c kind value g r) k.wrote) (d.means t n i f c kind value g r)) }

-- ---- a part
plain_part : (g f : Form) → is_chain f ≡ false → part_text g f ≡ write_form f
unfolding part_text
plain_part g f h = go (takes_part g)
  where
    go : (b : Bool) → cond b (bracketed f (write_form f)) (write_form f) ≡ write_form f
    go true = rw h
    go false = refl

free_part : (g f : Form) → takes_part g ≡ false → part_text g f ≡ write_form f
unfolding part_text
free_part g f h = rw h

bracket_part : (g f : Form) → takes_part g ≡ true → is_chain f ≡ true → part_text g f ≡ (bytes "(" ++ write_form f) ++ bytes ")"
unfolding part_text
bracket_part g f h e = rw (h, e)

module _ {t C : List ℕ} {k i at m : ℕ} {r : Way} {out out' : List ℕ} (q : m ≡ get_or t (i * 4) 0) where
  pub part_plain : (m ≡ 5 → ⊥) → FormWalked t C i at r out out' → PartWalked t C k i at r out out'
  part_plain h w =
      record {
        ahead = w.ahead;
        means = λ n e j g f gs c l kind row can s.
            let x = w.means n e f gs c l can s in
            record { rest = x.rest; wrote = wrote_as (sym (plain_part g f (not_chain (λ z. h (q ∙ z)) (first_row s)))) x.wrote };
      }

  pub part_free : {b : Bool} → b ≡ takes_kind k → not b ≡ true → FormWalked t C i at r out out' → PartWalked t C k i at r out out'
  part_free {b} v h w =
      record {
        ahead = w.ahead;
        means = λ n e j g f gs c l kind row can s.
            let x = w.means n e f gs c l can s in
            record { rest = x.rest; wrote = wrote_as (sym (free_part g f (sym (takes_kind_lem kind row) ∙ sym v ∙ no b h))) x.wrote };
      }
    where
      no : (b : Bool) → not b ≡ true → b ≡ false
      no true h = sym h
      no false h = refl

module _ {t C : List ℕ} {k i at m p n₁ p₁ : ℕ} {out out₁ out₂ out₃ : List ℕ} (q : m ≡ get_or t (i * 4) 0) where
  pub part_bracketed : {b : Bool} {z : ℕ} → m ≡ 5 → b ≡ takes_kind k → not b ≡ false → Wrote (40 ∷ []) at p out out₁ → FormWalked t C i p (record { next = n₁; place = p₁ }) out₁ out₂ → Wrote (41 ∷ []) p₁ z out₂ out₃ → PartWalked t C k i at (record { next = n₁; place = z }) out out₃
  part_bracketed {b} h v y o x d =
      record {
        ahead = x.ahead;
        means = λ n e j g f gs c l kind row can s.
            let u = x.means n e f gs c l can s in
            record {
              rest = u.rest;
              wrote = wrote_as (sym (bracket_part g f (sym (takes_kind_lem kind row) ∙ sym v ∙ yes' b y) (is_chain_lem (sym q ∙ h) (first_row s)))) (wrote_then (wrote_then o u.wrote) d);
            };
      }
    where
      yes' : (b : Bool) → not b ≡ false → b ≡ true
      yes' true h = refl
      yes' false h = sym h

-- ---- parts one after the other
-- what was walked over is the text of the first parts, and the others stand where the walk has come to
pub record Left (t C : List ℕ) (n : ℕ) (g : Form) (fs gs : Forms) (e left i start at : ℕ) (out₀ out : List ℕ) : Type 0 where
  pub front : List ℕ
  pub others : Forms
  pub whole : parts_text g fs ≡ front ++ parts_text g others
  pub many : left ≡ count others
  pub good : AllWritable others
  pub stands : Stands t C n i (others +& gs) e
  pub wrote : Wrote front start at out₀ out

pub record PartsLeft (t C : List ℕ) (k arity from start left i at : ℕ) (out₀ out : List ℕ) : Type 0 where
  pub ahead : from ≤ i
  pub len : length out ≡ length out₀
  pub means : (n e j : ℕ) (g : Form) (fs gs : Forms) → n < 4294967296 → e ≤ 2048 → k ≡ kind_at t j → Row t C n j g → arity ≡ count fs → AllWritable fs → Stands t C n from (fs +& gs) e → Left t C n g fs gs e left i start at out₀ out

module _ {t C : List ℕ} {k arity from start : ℕ} {out₀ : List ℕ} where
  pub parts_start : PartsLeft t C k arity from start arity from start out₀ out₀
  parts_start =
      record {
        ahead = omega arith;
        len = refl;
        means = λ n e j g fs gs c l kind row a can s. record { front = []; others = fs; whole = refl; many = a; good = can; stands = s; wrote = wrote_none };
      }

  module _ {left i at : ℕ} {out : List ℕ} where
    pub parts_done : left ≤ 0 → PartsLeft t C k arity from start left i at out₀ out → PartsWalked t C k arity from start (record { next = i; place = at }) out₀ out
    unfolding parts_text
    parts_done h p =
        record { ahead = p.ahead; means = λ n e j g fs gs c l kind row a can s. none n e g fs gs (p.means n e j g fs gs c l kind row a can s) }
      where
        end : (n e : ℕ) (g : Form) (fs gs os : Forms) (a : List ℕ) → left ≡ count os → parts_text g fs ≡ a ++ parts_text g os → Stands t C n i (os +& gs) e → Wrote a start at out₀ out → Went t C n (parts_text g fs) gs e start (record { next = i; place = at }) out₀ out
        end n e g fs gs stop a m q s w = record { rest = s; wrote = wrote_as (sym (q ∙ append-nil a)) w }
        end n e g fs gs (f & os) a m q s w = absurd (omega arith)

        none : (n e : ℕ) (g : Form) (fs gs : Forms) → Left t C n g fs gs e left i start at out₀ out → Went t C n (parts_text g fs) gs e start (record { next = i; place = at }) out₀ out
        none n e g fs gs x = end n e g fs gs x.others x.front x.many x.whole x.stands x.wrote

    module _ {n₁ p₁ r : ℕ} {out₁ out₂ : List ℕ} where
      pub parts_turn : 0 < left → PartsLeft t C k arity from start left i at out₀ out → PartWalked t C k i at (record { next = n₁; place = p₁ }) out out₁ → length out₁ ≡ length out → BehindWalked k (left - 1) p₁ r out₁ out₂ → length out₂ ≡ length out₁ → PartsLeft t C k arity from start (left - 1) n₁ r out₀ out₂
      unfolding parts_text
      parts_turn h p x l₁ b l₂ =
          record {
            ahead = let u = p.ahead in let v = x.ahead in omega arith;
            len = l₂ ∙ l₁ ∙ p.len;
            means = λ n e j g fs gs c l kind row a can s.
                let y = p.means n e j g fs gs c l kind row a can s in
                one n e j g fs gs y.others y.front c l kind row y.many y.whole y.good y.stands y.wrote;
          }
        where
          one : (n e j : ℕ) (g : Form) (fs gs os : Forms) (a : List ℕ) → n < 4294967296 → e ≤ 2048 → k ≡ kind_at t j → Row t C n j g → left ≡ count os → parts_text g fs ≡ a ++ parts_text g os → AllWritable os → Stands t C n i (os +& gs) e → Wrote a start at out₀ out → Left t C n g fs gs e (left - 1) n₁ start r out₀ out₂
          one n e j g fs gs stop a c l kind row m q can s v = absurd (omega arith)
          one n e j g fs gs (f & os) a c l kind row m q (one_more cf cs) s v =
              let u = x.means n e j g f (os +& gs) c l kind row cf s in
              let z : left - 1 ≡ count os = omega arith in
              let d : Wrote (behind_part g (count os)) p₁ r out₁ out₂ = rw z at (b.means t C n j g kind row) in
              record {
                front = a ++ (part_text g f ++ behind_part g (count os));
                others = os;
                whole = q ∙ sym (append_assoc a (part_text g f ++ behind_part g (count os)) (parts_text g os));
                many = z;
                good = cs;
                stands = u.rest;
                wrote = wrote_then v (wrote_then u.wrote d);
              }
