-- What is read has no more forms, and no more cells of constants, than it has bytes.
use Prim.Native.Nat.{ℕ, zero, suc, ◌+◌, ◌-◌, ◌≤◌}
use Prim.Native.Char.{code}
use mathlib.Core.Bool.{Bool, true, false, cond, ◌&&◌}
use mathlib.Core.List.{List, [], ◌∷◌}
use mathlib.Core.Option.{Option, some, none}
use native.Mathlib.Omega.{arith}
use lib.Dec.{eqb}
use lib.ListN.{length, take, drop}
use Rattle.language.specs.Bytes.{bytes, same_bytes}
use Rattle.language.specs.Objects.{Obj, cells_of}
use Rattle.language.specs.Words.{Op, ops}
use Rattle.language.specs.Forms.{Form, word, name, construct, constant, insert, apply_all, bu, condition, while, Forms, Word, op, forms_in, forms_in_all, constant_cells, constant_cells_all}
use Rattle.language.specs.Tokens.{is_digit, is_letter, byte_at, span, place_from, size_at}
use Rattle.language.specs.Judging.{Judged, is, is_not, on_judged, is_name_byte, judge_word, is_selector, find_op, judge_selector, word_form, judge_part}
use Rattle.language.specs.Reading.{Got, got, and_then, word_at, as_judged, mark, read_obj, after_test, after_part, after_parts, after_form, read_form, read_parts, read_forms, read_part}
use Rattle.theorems.proofs.Outcomes.{meets, refuses_by, Meets, refuses, meets_then, meets_cond, meets_refused, meets_mark, meets_opens, place_on, word_long}
use Rattle.theorems.proofs.ObjectsRead.{ObjectIn, object_in}
use Rattle.theorems.proofs.WrittenCells.{object_cells}

-- ---- a part without marks is a word or a name
pub data Plain : Judged Form → Type 0 where
  a_word : {w : Word} → Plain (is (word w))
  a_name : {w : List ℕ} → Plain (is (name w))
  neither : {n : ℕ} → Plain (is_not n)

cond_plain : (t : Bool) {x y : Judged Form} → Plain x → Plain y → Plain (cond t x y)
cond_plain true p q = p
cond_plain false p q = q

form_plain : (w : List ℕ) → Plain (is (word_form w))
unfolding word_form
form_plain w = go (find_op ops w)
  where
    go : (o : Option Op) → Plain (is (elim o [ some x ↦ word (op x) | none ↦ name w ]))
    go (some x) = a_word
    go none = a_name

judged_plain : (j : Judged (List ℕ)) → Plain (on_judged j (λ v. is (word_form v)))
judged_plain (is v) = form_plain v
judged_plain (is_not n) = neither

selector_plain : (w : List ℕ) → Plain (judge_selector w)
unfolding judge_selector
selector_plain w =
    cond_plain (same_bytes (drop (span is_digit w) w) []) (cond_plain (is_selector (take (span is_digit w) w)) a_word neither)
    (cond_plain (same_bytes (drop (span is_digit w) w) (bytes "r")) (cond_plain (is_selector (take (span is_digit w) w)) a_word neither) neither)

pub part_plain : (w : List ℕ) → Plain (judge_part w)
unfolding judge_part
part_plain [] = neither
part_plain (b ∷ w) = cond_plain (is_digit b) (selector_plain (b ∷ w)) (cond_plain (is_letter b) (judged_plain (judge_word is_name_byte (b ∷ w))) neither)

-- ---- few forms and cells
pub record Small (at : ℕ) (f : Form) (e : ℕ) : Type 0 where
  pub forms : forms_in f + at ≤ e
  pub cells : constant_cells f + at ≤ e

pub record AllSmall (at : ℕ) (fs : Forms) (e : ℕ) : Type 0 where
  pub forms : forms_in_all fs + at ≤ e
  pub cells : constant_cells_all fs + at ≤ e

pub record SmallObject (at : ℕ) (x : Obj) (e : ℕ) : Type 0 where
  pub cells : cells_of x + at ≤ e

pub object_small : (k : ℕ) (s : List ℕ) (at room : ℕ) → Meets (SmallObject at) (read_obj k s at room)
object_small k s at room = go (object_in k s at room)
  where
    go : {g : Got Obj} → Meets (ObjectIn at room) g → Meets (SmallObject at) g
    go (meets {a = x} {e = e} q) = let i = object_cells x q.is_obj in meets {a = x} {e = e} (record { cells = omega (arith, q.short) })
    go (refuses_by h) = refuses

plain_small : (s : List ℕ) (at p : ℕ) → at ≤ p → Meets (Small at) (as_judged s p (judge_part (word_at s p)))
unfolding judge_part
plain_small s at p l = go (word_at s p) (word_long s p)
  where
    one : {j : Judged Form} → 1 ≤ size_at s p → Plain j → Meets (Small at) (as_judged s p j)
    one n (a_word {w}) = meets {a = word w} {e = p + size_at s p} (record { forms = omega arith; cells = omega arith })
    one n (a_name {w}) = meets {a = name w} {e = p + size_at s p} (record { forms = omega arith; cells = omega arith })
    one n neither = refuses

    go : (w : List ℕ) → length w ≤ size_at s p → Meets (Small at) (as_judged s p (judge_part w))
    go [] n = refuses
    go (b ∷ w) n = one (omega arith) (part_plain (b ∷ w))

module _ (s : List ℕ) (at : ℕ) where
  after_part_small : (f : Form) (e : ℕ) (r : ℕ → Got Forms) → Small at f e → Meets (AllSmall (place_from s e + 1)) (r (place_from s e + 1)) → Meets (Small at) (after_part s f e r)
  unfolding after_part
  after_part_small f e r q h =
      let o = place_on s e in
      meets_cond (eqb (byte_at s (place_from s e)) (code ".")) (λ t. meets_then h (λ fs e₁ q₁. meets (record { forms = omega (arith, q.forms, q₁.forms); cells = omega (arith, q.cells, q₁.cells) }))) (λ t. meets q)

  after_parts_small : (f : Form) (e : ℕ) (r : ℕ → Got Forms) → Small at f e → Meets (AllSmall (place_from s e + 1)) (r (place_from s e + 1)) → Meets (AllSmall at) (after_parts s f e r)
  unfolding after_parts
  after_parts_small f e r q h =
      let o = place_on s e in
      meets_cond (eqb (byte_at s (place_from s e)) (code ".")) (λ t. meets_then h (λ fs e₁ q₁. meets (record { forms = omega (arith, q.forms, q₁.forms); cells = omega (arith, q.cells, q₁.cells) })))
      (λ t. meets (record { forms = omega (arith, q.forms); cells = omega (arith, q.cells) }))

  after_form_small : (f : Form) (e : ℕ) (r : ℕ → Got Forms) → Small at f e → Meets (AllSmall (place_from s e + 1)) (r (place_from s e + 1)) → Meets (AllSmall at) (after_form s f e r)
  unfolding after_form
  after_form_small f e r q h =
      let o = place_on s e in
      meets_cond (eqb (byte_at s (place_from s e)) (code ",")) (λ t. meets_then h (λ fs e₁ q₁. meets (record { forms = omega (arith, q.forms, q₁.forms); cells = omega (arith, q.cells, q₁.cells) })))
      (λ t. meets_cond (eqb (byte_at s (place_from s e)) (code "]")) (λ v. meets (record { forms = omega (arith, q.forms); cells = omega (arith, q.cells) })) (λ v. meets_refused s (place_from s e)))

  -- the record of what opened at `at` takes the mark's byte
  after_test_small : (f : Form) (e : ℕ) (r : ℕ → Got Form) → Small (at + 1) f e → ((a : ℕ) → Meets (Small a) (r a)) → Meets (Small at) (after_test s f e r)
  unfolding after_test
  after_test_small f e r q h =
      let p = place_from s e in
      let o = place_on s e in
      meets_cond (eqb (byte_at s p) (code "-") && eqb (byte_at s (p + 1)) (code ">"))
      (λ t. meets_then (h (p + 2)) (λ g e₁ q₁.
      let o₁ = place_on s e₁ in
      meets_mark (code ";") s e₁ (λ a. and_then (r a) (λ g₁ e. mark (code ")") s e (λ a. got (condition f g g₁) a)))
      (meets_then (h (place_from s e₁ + 1)) (λ g₁ e₂ q₂.
      let o₂ = place_on s e₂ in
      meets_mark (code ")") s e₂ (λ a. got (condition f g g₁) a) (meets (record { forms = omega (arith, q.forms, q₁.forms, q₂.forms); cells = omega (arith, q.cells, q₁.cells, q₂.cells) }))))))
      (λ t. meets_cond (eqb (byte_at s p) (code "?"))
      (λ v. meets_then (h (p + 1)) (λ g e₁ q₁.
      let o₁ = place_on s e₁ in
      meets_mark (code ")") s e₁ (λ a. got (while f g) a) (meets (record { forms = omega (arith, q.forms, q₁.forms); cells = omega (arith, q.cells, q₁.cells) }))))
      (λ v. meets_cond (eqb (byte_at s p) (code ")")) (λ w. meets (record { forms = omega (arith, q.forms); cells = omega (arith, q.cells) })) (λ w. meets_refused s p)))

test_later : (s : List ℕ) (at p : ℕ) → at ≤ p → {g : Got Form} → Meets (Small p) g → Meets (Small at) g
test_later s at p l (meets {a = f} {e = e} q) = meets {a = f} {e = e} (record { forms = omega (arith, q.forms); cells = omega (arith, q.cells) })
test_later s at p l (refuses_by h) = refuses

mutual
  unfolding read_part

  pub form_small : (k : ℕ) (s : List ℕ) (at room : ℕ) → Meets (Small at) (read_form k s at room)
  form_small zero s at room = refuses
  form_small (suc k) s at room = meets_then (part_small k s at room) (λ f e q. after_part_small s at f e (λ a. read_parts k s a room) q (parts_small k s (place_from s e + 1) room))

  pub parts_small : (k : ℕ) (s : List ℕ) (at room : ℕ) → Meets (AllSmall at) (read_parts k s at room)
  parts_small zero s at room = refuses
  parts_small (suc k) s at room = meets_then (part_small k s at room) (λ f e q. after_parts_small s at f e (λ a. read_parts k s a room) q (parts_small k s (place_from s e + 1) room))

  pub forms_small : (k : ℕ) (s : List ℕ) (at room : ℕ) → Meets (AllSmall at) (read_forms k s at room)
  forms_small zero s at room = refuses
  forms_small (suc k) s at room = meets_then (form_small k s at room) (λ f e q. after_form_small s at f e (λ a. read_forms k s a room) q (forms_small k s (place_from s e + 1) room))

  pub part_small : (k : ℕ) (s : List ℕ) (at room : ℕ) → Meets (Small at) (read_part k s at room)
  part_small zero s at room = refuses
  part_small (suc k) s at room =
      let p = place_from s at in
      let b = byte_at s p in
      let a = p + 1 in
      let o = place_on s at in
      meets_cond (eqb b (code "["))
      (λ t. meets_opens p room (λ a. and_then (read_forms k s a (room - 1)) (λ fs e. got (construct fs) e)) (λ n. meets_then (forms_small k s a (room - 1)) (λ fs e q. meets (record { forms = omega (arith, q.forms); cells = omega (arith, q.cells) }))))
      (λ t. meets_cond (eqb b (code "%"))
      (λ t. meets_opens p room (λ a. and_then (read_obj k s a (room - 1)) (λ x e. got (constant x) e)) (λ n. meets_then (object_small k s a (room - 1)) (λ x e q. meets (record { forms = omega (arith, q.cells); cells = omega (arith, q.cells) }))))
      (λ t. meets_cond (eqb b (code "/"))
      (λ t. meets_opens p room (λ a. and_then (read_part k s a (room - 1)) (λ f e. got (insert f) e)) (λ n. meets_then (part_small k s a (room - 1)) (λ f e q. meets (record { forms = omega (arith, q.forms); cells = omega (arith, q.cells) }))))
      (λ t. meets_cond (eqb b (code "@"))
      (λ t. meets_opens p room (λ a. and_then (read_part k s a (room - 1)) (λ f e. got (apply_all f) e)) (λ n. meets_then (part_small k s a (room - 1)) (λ f e q. meets (record { forms = omega (arith, q.forms); cells = omega (arith, q.cells) }))))
      (λ t. meets_cond (eqb b (code "{"))
      (λ t. meets_opens p room (λ a. and_then (read_part k s a (room - 1)) (λ f e. mark (code ",") s e (λ a. and_then (read_obj k s a (room - 1)) (λ x e. mark (code "}") s e (λ a. got (bu f x) a)))))
      (λ n. meets_then (part_small k s a (room - 1)) (λ f e q.
      let o₁ = place_on s e in
      meets_mark (code ",") s e (λ a. and_then (read_obj k s a (room - 1)) (λ x e. mark (code "}") s e (λ a. got (bu f x) a)))
      (meets_then (object_small k s (place_from s e + 1) (room - 1)) (λ x e₁ q₁.
      let o₂ = place_on s e₁ in
      meets_mark (code "}") s e₁ (λ a. got (bu f x) a) (meets (record { forms = omega (arith, q.forms, q₁.cells); cells = omega (arith, q.cells, q₁.cells) })))))))
      (λ t. meets_cond (eqb b (code "("))
      (λ t. meets_opens p room (λ a. and_then (read_form k s a (room - 1)) (λ f e. after_test s f e (λ a. read_form k s a (room - 1))))
      (λ n. meets_then (form_small k s a (room - 1)) (λ f e q. test_later s at p o (after_test_small s p f e (λ a. read_form k s a (room - 1)) q (λ c. form_small k s c (room - 1))))))
      (λ t. plain_small s at p o))))))
