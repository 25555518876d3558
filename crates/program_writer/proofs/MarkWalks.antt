-- Laws of the most marks open at once: of objects and their places, of forms and their parts.
use Prim.Native.Nat.{ℕ, suc, min, max, ◌+◌, ◌*◌, ◌%◌, ◌≤◌, ◌<◌}
use mathlib.Core.Path.{◌≡◌, refl, ap, sym, ◌∙◌}
use mathlib.Core.Bool.{Bool, true, false, cond, not}
use mathlib.Core.List.{List}
use native.Mathlib.Omega.{arith}
use lib.ListN.{get_or}
use Rattle.language.specs.Objects.{seq, Objs, nil, ◌::◌, length_of}
use Rattle.language.specs.Forms.{Form, Forms, stop, ◌&◌, ◌+&◌, count, is_chain}
use Rattle.language.specs.Writing.{bracket_marks, marks_of, marks_of_obj, marks_of_objs}
use Rattle.language.specs.declared.Val.{Val}
use Rattle.cells.specs.Cells.{Rep, val_at}
use Rattle.cells.specs.Parts.{Headed, Tailed}
use Rattle.formtable.specs.Standing.{kind_at, wide_at, parts, Row, row_op, row_select, row_select_right, row_name, row_chain, row_construct, row_insert, row_apply_all, row_condition, row_while, row_constant, row_bu, Stands}
use Rattle.program_writer.specs.declared.Depth.{Depth}
use Rattle.program_writer.specs.Layout.{takes_part, takes_kind, part_marks, parts_marks, own_marks}
use Rattle.program_writer.specs.Depths.{ObjectDepth, OwnDepth, Deep, FormDepth, PartDepth, PartsDepth}
use Rattle.program_writer.proofs.FormTexts.{opens, form_marks}
use Rattle.program_writer.proofs.Rows.{own_constant, own_bu, takes_kind_lem}
use Rattle.formtable.proofs.Standing.{stands_up, arity_of}
use Rattle.program_writer.proofs.FormWalks.{first_row, rest_stands, not_chain, is_chain_lem}

-- ---- the larger of numbers, up to a limit
both_up_to : (a b l : ℕ) → min (max a b) l ≡ max (min a l) (min b l)
both_up_to a b l = omega arith

again_up_to : (a l : ℕ) → min (min a l) l ≡ min a l
again_up_to a l = omega arith

regroup : (a b c : ℕ) → max (max a b) c ≡ max a (max b c)
regroup a b c = omega arith

-- the largest so far, one more, and the others
pub turn : (most here more m l rest : ℕ) → more ≡ max most here → here ≡ min m l → min (max more rest) l ≡ min (max most (max m rest)) l
turn most here more m l rest e f =
    both_up_to more rest l
    ∙ ap (λ (a : ℕ). max (min a l) (min rest l)) e
    ∙ ap (λ (a : ℕ). max a (min rest l)) (both_up_to most here l)
    ∙ ap (λ (a : ℕ). max (max (min most l) (min a l)) (min rest l)) f
    ∙ ap (λ (a : ℕ). max (max (min most l) a) (min rest l)) (again_up_to m l)
    ∙ regroup (min most l) (min m l) (min rest l)
    ∙ ap (λ (a : ℕ). max (min most l) a) (sym (both_up_to m rest l))
    ∙ sym (both_up_to most (max m rest) l)

-- ---- objects
-- the most marks of the places passed, and of those to come
pub record PlacesNow (C : List ℕ) (s : Val) (limit total k most n all : ℕ) : Type 0 where
  pub others : Objs
  pub many : k + length_of others ≡ total
  pub stands : Rep C n s (seq others)
  pub marks : min (max most (marks_of_objs others)) limit ≡ min all limit

pub record PlacesLeft (C : List ℕ) (v : Val) (limit total k : ℕ) (s : Val) (most : ℕ) : Type 0 where
  pub low : most ≤ limit
  pub means : (n : ℕ) (xs : Objs) → n < 4294967296 → Rep C n v (seq xs) → PlacesNow C s limit total k most n (marks_of_objs xs)

module _ {C : List ℕ} {v : Val} {limit : ℕ} where
  module _ {total k most : ℕ} {s : Val} where
    module _ {h t : Val} {here more : ℕ} where
      pub places_turn : k < total → PlacesLeft C v limit total k s most → Headed C s h → ObjectDepth C h limit here → more ≡ max most here → Tailed C s t → PlacesLeft C v limit total (k + 1) t more
      places_turn u p hd o m tl =
          record { low = let a = p.low in let b = o.most in omega arith; means = λ n xs c r. let y = p.means n xs c r in one n (marks_of_objs xs) y.others c y.many y.stands y.marks }
        where
          one : (n a : ℕ) (os : Objs) → n < 4294967296 → k + length_of os ≡ total → Rep C n s (seq os) → min (max most (marks_of_objs os)) limit ≡ min a limit → PlacesNow C t limit total (k + 1) more n a
          one n a nil c q r e = absurd (omega arith)
          one n a (x :: os) c q r e =
              let same = o.means n x c (hd.means n x os c r) in
              record { others = os; many = omega arith; stands = tl.means n x os c r; marks = turn most here more (marks_of_obj x) limit (marks_of_objs os) m same ∙ e }

-- ---- the object of a record
no_own : {t C : List ℕ} {n i k : ℕ} {f : Form} → k < 12 → k ≡ kind_at t i → Row t C n i f → 0 ≡ min (own_marks f) 33
unfolding own_marks
no_own h e (row_op q a w) = refl
no_own h e (row_select q a w) = refl
no_own h e (row_select_right q a w) = refl
no_own h e (row_name q a w) = refl
no_own h e (row_chain q a w) = refl
no_own h e (row_construct q a w) = refl
no_own h e (row_insert q a w) = refl
no_own h e (row_apply_all q a w) = refl
no_own h e (row_condition q a w) = refl
no_own h e (row_while q a w) = refl
no_own h e (row_constant q a w r) = absurd (omega arith)
no_own h e (row_bu q a w r) = absurd (omega arith)

module _ {C : List ℕ} {row : Val} where
  pub own_none : row.tag < 12 → OwnDepth C row 0
  own_none h = record { means = λ t n i f c e w r. no_own h e r }

  module _ {m : ℕ} (h : 12 ≤ row.tag) (o : ObjectDepth C (record { tag = row.tag % 4; word = row.word }) 33 m) where
    of_row : {t : List ℕ} {n i : ℕ} {f : Form} → n < 4294967296 → row.tag ≡ kind_at t i → row.word ≡ wide_at t i → Row t C n i f → m ≡ min (own_marks f) 33
    unfolding own_marks
    of_row c e v (row_op q a w) = absurd (omega arith)
    of_row c e v (row_select q a w) = absurd (omega arith)
    of_row c e v (row_select_right q a w) = absurd (omega arith)
    of_row c e v (row_name q a w) = absurd (omega arith)
    of_row c e v (row_chain q a w) = absurd (omega arith)
    of_row c e v (row_construct q a w) = absurd (omega arith)
    of_row c e v (row_insert q a w) = absurd (omega arith)
    of_row c e v (row_apply_all q a w) = absurd (omega arith)
    of_row c e v (row_condition q a w) = absurd (omega arith)
    of_row c e v (row_while q a w) = absurd (omega arith)
    of_row {n = n} c e v (row_constant {x = x} q a w r) = o.means n x c (own_constant row (e ∙ q) (v ∙ w) r)
    of_row {n = n} c e v (row_bu {x = x} q a w r) = o.means n x c (own_bu row (e ∙ q) (v ∙ w) r)

    pub own_some : OwnDepth C row m
    own_some = record { means = λ t n i f c e w r. of_row c e w r }

-- ---- a form
opens_none : {t C : List ℕ} {n i k : ℕ} {f : Form} → k < 6 → k ≡ kind_at t i → Row t C n i f → opens f ≡ 0
opens_none h e (row_op q a w) = refl
opens_none h e (row_select q a w) = refl
opens_none h e (row_select_right q a w) = refl
opens_none h e (row_name q a w) = refl
opens_none h e (row_chain q a w) = refl
opens_none h e (row_construct q a w) = absurd (omega arith)
opens_none h e (row_insert q a w) = absurd (omega arith)
opens_none h e (row_apply_all q a w) = absurd (omega arith)
opens_none h e (row_condition q a w) = absurd (omega arith)
opens_none h e (row_while q a w) = absurd (omega arith)
opens_none h e (row_constant q a w r) = absurd (omega arith)
opens_none h e (row_bu q a w r) = absurd (omega arith)

opens_one : {t C : List ℕ} {n i k : ℕ} {f : Form} → 6 ≤ k → k ≡ kind_at t i → Row t C n i f → opens f ≡ 1
opens_one h e (row_op q a w) = absurd (omega arith)
opens_one h e (row_select q a w) = absurd (omega arith)
opens_one h e (row_select_right q a w) = absurd (omega arith)
opens_one h e (row_name q a w) = absurd (omega arith)
opens_one h e (row_chain q a w) = absurd (omega arith)
opens_one h e (row_construct q a w) = refl
opens_one h e (row_insert q a w) = refl
opens_one h e (row_apply_all q a w) = refl
opens_one h e (row_condition q a w) = refl
opens_one h e (row_while q a w) = refl
opens_one h e (row_constant q a w r) = refl
opens_one h e (row_bu q a w r) = refl

pub depth_out : {t C : List ℕ} {i : ℕ} → 2048 ≤ i → FormDepth t C i (record { next = i; marks = 0 })
depth_out h = record { ahead = omega arith; means = λ n e f gs c l s. let g = stands_up (rest_stands s) in absurd (omega arith) }

module _ {t C : List ℕ} {i arity own inside : ℕ} {row : Val} {d : Depth} (e : row ≡ val_at t i) (a : arity ≡ get_or t (i * 4 + 1) 0) (ps : PartsDepth t C row.tag arity (i + 1) d) (o : OwnDepth C row own) (m : inside ≡ max d.marks own) where
  form_ahead : i ≤ d.next
  form_ahead = let h = ps.ahead in omega arith

  of_form : (n e : ℕ) (f : Form) (gs : Forms) → n < 4294967296 → e ≤ 2048 → Stands t C n i (f & gs) e → Stands t C n d.next gs e × (min (opens f + inside) 33 ≡ min (marks_of f) 33) × (inside ≤ 33)
  of_form n l f gs c h s =
      let r = first_row s in
      let kind : row.tag ≡ kind_at t i = ap (λ (v : Val). v.tag) e in
      let value : row.word ≡ wide_at t i = ap (λ (v : Val). v.word) e in
      let k = ps.means n l i f (parts f) gs c h kind r (a ∙ arity_of r) (rest_stands s) in
      let p = k.marks in
      let q = o.means t n i f c kind value r in
      let z = form_marks f in
      (k.rest, omega arith, omega arith)

  pub depth_flat : row.tag < 6 → FormDepth t C i (record { next = d.next; marks = inside })
  depth_flat h =
      record { ahead = form_ahead; means = λ n l f gs c b s. let x = of_form n l f gs c b s in let z = opens_none h (ap (λ (v : Val). v.tag) e) (first_row s) in let y = x.1 in let w = x.2 in record { rest = x.0; marks = omega arith } }

  pub depth_open : {r : ℕ} → 6 ≤ row.tag → r ≡ min (suc inside) 33 → FormDepth t C i (record { next = d.next; marks = r })
  depth_open h g =
      record { ahead = form_ahead; means = λ n l f gs c b s. let x = of_form n l f gs c b s in let z = opens_one h (ap (λ (v : Val). v.tag) e) (first_row s) in let y = x.1 in record { rest = x.0; marks = omega arith } }

-- ---- a part
plain_marks : (g f : Form) → is_chain f ≡ false → part_marks g f ≡ marks_of f
unfolding part_marks
plain_marks g f h = go (takes_part g)
  where
    go : (b : Bool) → cond b (bracket_marks f (marks_of f)) (marks_of f) ≡ marks_of f
    go true = rw h
    go false = refl

free_marks : (g f : Form) → takes_part g ≡ false → part_marks g f ≡ marks_of f
unfolding part_marks
free_marks g f h = rw h

bracket_marks_lem : (g f : Form) → takes_part g ≡ true → is_chain f ≡ true → part_marks g f ≡ suc (marks_of f)
unfolding part_marks
bracket_marks_lem g f h e = rw (h, e)

module _ {t C : List ℕ} {k i m : ℕ} {d : Depth} (x : FormDepth t C i d) (q : m ≡ get_or t (i * 4) 0) where
  pub depth_plain : (m ≡ 5 → ⊥) → PartDepth t C k i d
  depth_plain h =
      record {
        ahead = x.ahead;
        means = λ n e j g f gs c l kind row s.
            let u = x.means n e f gs c l s in
            record { rest = u.rest; marks = rw (plain_marks g f (not_chain (λ z. h (q ∙ z)) (first_row s))) u.marks };
      }

  pub depth_free : {b : Bool} → b ≡ takes_kind k → not b ≡ true → PartDepth t C k i d
  depth_free {b} v h =
      record {
        ahead = x.ahead;
        means = λ n e j g f gs c l kind row s.
            let u = x.means n e f gs c l s in
            record { rest = u.rest; marks = rw (free_marks g f (sym (takes_kind_lem kind row) ∙ sym v ∙ no b h)) u.marks };
      }
    where
      no : (b : Bool) → not b ≡ true → b ≡ false
      no true h = sym h
      no false h = refl

  pub depth_bracketed : {b : Bool} {r : ℕ} → m ≡ 5 → b ≡ takes_kind k → not b ≡ false → r ≡ min (suc d.marks) 33 → PartDepth t C k i (record { next = d.next; marks = r })
  depth_bracketed {b} h v y z =
      record {
        ahead = x.ahead;
        means = λ n e j g f gs c l kind row s.
            let u = x.means n e f gs c l s in
            let p = u.marks in
            record { rest = u.rest; marks = rw (bracket_marks_lem g f (sym (takes_kind_lem kind row) ∙ sym v ∙ yes' b y) (is_chain_lem (sym q ∙ h) (first_row s))) (omega arith) };
      }
    where
      yes' : (b : Bool) → not b ≡ false → b ≡ true
      yes' true h = refl
      yes' false h = sym h

-- ---- parts one after the other
-- the most marks of the parts passed, and of those to come
pub record DepthNow (t C : List ℕ) (n : ℕ) (g : Form) (gs : Forms) (e total m i most all : ℕ) : Type 0 where
  pub others : Forms
  pub many : m + count others ≡ total
  pub low : most ≤ 33
  pub stands : Stands t C n i (others +& gs) e
  pub marks : min (max most (parts_marks g others)) 33 ≡ min all 33

pub record DepthLeft (t C : List ℕ) (k arity from m i most : ℕ) : Type 0 where
  pub ahead : from ≤ i
  pub means : (n e j : ℕ) (g : Form) (fs gs : Forms) → n < 4294967296 → e ≤ 2048 → k ≡ kind_at t j → Row t C n j g → arity ≡ count fs → Stands t C n from (fs +& gs) e → DepthNow t C n g gs e arity m i most (parts_marks g fs)

module _ {t C : List ℕ} {k arity from : ℕ} where
  module _ {m i most : ℕ} where
    pub depth_end : arity ≤ m → DepthLeft t C k arity from m i most → PartsDepth t C k arity from (record { next = i; marks = most })
    unfolding parts_marks
    depth_end h p =
        record { ahead = p.ahead; means = λ n e j g fs gs c l kind row a s. none n e g fs gs (p.means n e j g fs gs c l kind row a s) }
      where
        end : (n e all : ℕ) (g : Form) (gs os : Forms) → m + count os ≡ arity → most ≤ 33 → Stands t C n i (os +& gs) e → min (max most (parts_marks g os)) 33 ≡ min all 33 → Deep t C n all gs e (record { next = i; marks = most })
        end n e all g gs stop z l s q = record { rest = s; marks = omega arith }
        end n e all g gs (f & os) z l s q = absurd (omega arith)

        none : (n e : ℕ) (g : Form) (fs gs : Forms) → DepthNow t C n g gs e arity m i most (parts_marks g fs) → Deep t C n (parts_marks g fs) gs e (record { next = i; marks = most })
        none n e g fs gs x = end n e (parts_marks g fs) g gs x.others x.many x.low x.stands x.marks

    module _ {d : Depth} {more : ℕ} where
      pub depth_turn : m < arity → DepthLeft t C k arity from m i most → PartDepth t C k i d → more ≡ max most d.marks → DepthLeft t C k arity from (m + 1) d.next more
      unfolding parts_marks
      depth_turn h p x z =
          record {
            ahead = let u = p.ahead in let v = x.ahead in omega arith;
            means = λ n e j g fs gs c l kind row a s.
                let y = p.means n e j g fs gs c l kind row a s in
                one n e j (parts_marks g fs) g gs y.others c l kind row y.many y.low y.stands y.marks;
          }
        where
          one : (n e j all : ℕ) (g : Form) (gs os : Forms) → n < 4294967296 → e ≤ 2048 → k ≡ kind_at t j → Row t C n j g → m + count os ≡ arity → most ≤ 33 → Stands t C n i (os +& gs) e → min (max most (parts_marks g os)) 33 ≡ min all 33 → DepthNow t C n g gs e arity (m + 1) d.next more all
          one n e j all g gs stop c l kind row q low s v = absurd (omega arith)
          one n e j all g gs (f & os) c l kind row q low s v =
              let u = x.means n e j g f (os +& gs) c l kind row s in
              let w = u.marks in
              record { others = os; many = omega arith; low = omega arith; stands = u.rest; marks = turn most d.marks more (part_marks g f) 33 (parts_marks g os) z w ∙ v }
