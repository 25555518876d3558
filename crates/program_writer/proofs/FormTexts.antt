-- A form's text is what opens it, its parts with what stands behind each, and what ends it; its marks are those of its
-- parts and of its own object, and one for what it opens itself.
use Prim.Native.Nat.{ℕ, suc, max, ◌+◌, ◌≤◌}
use Prim.Native.Char.{code}
use mathlib.Core.Path.{◌≡◌, refl, ap, ◌∙◌}
use mathlib.Core.Bool.{Bool, true, false, cond}
use mathlib.Core.List.{List, [], ◌∷◌, ◌++◌, append_assoc, append-nil}
use native.Mathlib.Omega.{arith}
use Rattle.language.specs.Bytes.{bytes}
use Rattle.language.specs.Forms.{Form, word, name, chain, construct, constant, insert, apply_all, bu, condition, while, Forms, stop, ◌&◌, is_chain}
use Rattle.language.specs.Accepted.{IsForm, AreForms}
use Rattle.language.specs.Writing.{write_obj, write_word, write_form, write_parts, write_forms, bracketed, bracket_marks, marks_of, marks_of_parts, marks_of_forms}
use Rattle.formtable.specs.Standing.{parts}
use Rattle.program_writer.specs.Layout.{opening, behind_part, behind_chain, behind_construct, behind_condition, behind_while, ending, part_text, parts_text, part_marks, parts_marks, own_marks}
use Rattle.program_writer.specs.Walks.{Writable, AllWritable, none_more, one_more}

-- ---- texts
chain_parts : (gs : Forms) (f : Form) (fs : Forms) → parts_text (chain gs) (f & fs) ≡ write_parts (f & fs)
unfolding parts_text part_text behind_part behind_chain write_parts
chain_parts gs f stop = simp (append-nil)
chain_parts gs f (h & fs) =
    ap (λ (l : List ℕ). (bracketed f (write_form f) ++ bytes ".") ++ l) (chain_parts gs h fs) ∙ append_assoc (bracketed f (write_form f)) (bytes ".") (write_parts (h & fs))

construct_parts : (gs : Forms) (f : Form) (fs : Forms) → parts_text (construct gs) (f & fs) ≡ write_forms (f & fs)
unfolding parts_text part_text behind_part behind_construct write_forms
construct_parts gs f stop = simp (append-nil)
construct_parts gs f (h & fs) =
    ap (λ (l : List ℕ). (write_form f ++ bytes ",") ++ l) (construct_parts gs h fs) ∙ append_assoc (write_form f) (bytes ",") (write_forms (h & fs))

-- texts one behind the other
one_part : (a p : List ℕ) → (a ++ ((p ++ []) ++ [])) ++ [] ≡ a ++ p
one_part a p = simp append-nil

part_and_end : (a p s c : List ℕ) → (a ++ ((p ++ s) ++ [])) ++ c ≡ a ++ (p ++ (s ++ c))
part_and_end a p s c = simp (append-nil, append_assoc)

two_parts : (a p s f u : List ℕ) → (a ++ ((p ++ s) ++ ((f ++ u) ++ []))) ++ [] ≡ a ++ (p ++ (s ++ (f ++ u)))
two_parts a p s f u = simp (append-nil, append_assoc)

three_parts : (a p s f u g v : List ℕ) → (a ++ ((p ++ s) ++ ((f ++ u) ++ ((g ++ v) ++ [])))) ++ [] ≡ a ++ (p ++ (s ++ (f ++ (u ++ (g ++ v)))))
three_parts a p s f u g v = simp (append-nil, append_assoc)

pub form_text : (f : Form) → IsForm f → (opening f ++ parts_text f (parts f)) ++ ending f ≡ write_form f
unfolding opening parts_text part_text behind_part behind_condition behind_while ending write_form
form_text (word w) i = append-nil (write_word w ++ []) ∙ append-nil (write_word w)
form_text (name w) i = append-nil (w ++ []) ∙ append-nil w
form_text (chain stop) i = absurd i.0
form_text (chain (f & fs)) i = append-nil (parts_text (chain (f & fs)) (f & fs)) ∙ chain_parts (f & fs) f fs
form_text (construct stop) i = absurd i.0
form_text (construct (f & fs)) i = append-nil (bytes "[" ++ parts_text (construct (f & fs)) (f & fs)) ∙ ap (λ (l : List ℕ). code "[" ∷ l) (construct_parts (f & fs) f fs)
form_text (constant x) i = append-nil ((bytes "%" ++ write_obj x) ++ []) ∙ append-nil (bytes "%" ++ write_obj x)
form_text (insert f) i = one_part (bytes "/") (bracketed f (write_form f))
form_text (apply_all f) i = one_part (bytes "@") (bracketed f (write_form f))
form_text (bu f x) i = part_and_end (bytes "{") (bracketed f (write_form f)) (bytes ",") (write_obj x ++ bytes "}")
form_text (condition p f g) i = three_parts (bytes "(") (write_form p) (bytes "->") (write_form f) (bytes ";") (write_form g) (bytes ")")
form_text (while p f) i = two_parts (bytes "(") (write_form p) (bytes "?") (write_form f) (bytes ")")

-- ---- marks
abbrev pub opens : Form → ℕ
opens (word w) = 0
opens (name w) = 0
opens (chain fs) = 0
opens (construct fs) = 1
opens (constant x) = 1
opens (insert f) = 1
opens (apply_all f) = 1
opens (bu f x) = 1
opens (condition p f g) = 1
opens (while p f) = 1

chain_marks : (gs fs : Forms) → parts_marks (chain gs) fs ≡ marks_of_parts fs
unfolding parts_marks part_marks
chain_marks gs stop = refl
chain_marks gs (f & fs) = ap (λ (m : ℕ). max (bracket_marks f (marks_of f)) m) (chain_marks gs fs)

construct_marks : (gs fs : Forms) → parts_marks (construct gs) fs ≡ marks_of_forms fs
unfolding parts_marks part_marks
construct_marks gs stop = refl
construct_marks gs (f & fs) = ap (λ (m : ℕ). max (marks_of f) m) (construct_marks gs fs)

pub form_marks : (f : Form) → marks_of f ≡ opens f + max (parts_marks f (parts f)) (own_marks f)
unfolding parts_marks part_marks own_marks
form_marks (word w) = refl
form_marks (name w) = refl
form_marks (chain fs) = let e = chain_marks fs fs in omega arith
form_marks (construct fs) = let e = construct_marks fs fs in omega arith
form_marks (constant x) = omega arith
form_marks (insert f) = omega arith
form_marks (apply_all f) = omega arith
form_marks (bu f x) = omega arith
form_marks (condition p f g) = omega arith
form_marks (while p f) = omega arith

-- ---- the parts of a form that can be written can be written
bracket_few : (f : Form) → bracket_marks f (marks_of f) ≤ 32 → marks_of f ≤ 32
bracket_few f h = go (is_chain f) h
  where
    go : (b : Bool) → cond b (suc (marks_of f)) (marks_of f) ≤ 32 → marks_of f ≤ 32
    go true h = omega arith
    go false h = h

can : (f : Form) → IsForm f → marks_of f ≤ 32 → Writable f
can f i h = record { good = i; few = h }

all_parts : (fs : Forms) → AreForms fs → marks_of_parts fs ≤ 32 → AllWritable fs
all_parts stop i h = none_more
all_parts (f & fs) i h = one_more (can f i.0 (bracket_few f (omega arith))) (all_parts fs i.1 (omega arith))

all_forms : (fs : Forms) → AreForms fs → marks_of_forms fs ≤ 32 → AllWritable fs
all_forms stop i h = none_more
all_forms (f & fs) i h = one_more (can f i.0 (omega arith)) (all_forms fs i.1 (omega arith))

pub parts_writable : (f : Form) → Writable f → AllWritable (parts f)
parts_writable (word w) h = none_more
parts_writable (name w) h = none_more
parts_writable (chain fs) h = all_parts fs h.good.1 h.few
parts_writable (construct fs) h = all_forms fs h.good.1 (let m = h.few in omega arith)
parts_writable (constant x) h = none_more
parts_writable (insert f) h = one_more (can f h.good (bracket_few f (let m = h.few in omega arith))) none_more
parts_writable (apply_all f) h = one_more (can f h.good (bracket_few f (let m = h.few in omega arith))) none_more
parts_writable (bu f x) h = one_more (can f h.good.0 (bracket_few f (let m = h.few in omega arith))) none_more
parts_writable (condition p f g) h =
    let m = h.few in
    one_more (can p h.good.0 (omega arith)) (one_more (can f h.good.1 (omega arith)) (one_more (can g h.good.2 (omega arith)) none_more))
parts_writable (while p f) h = let m = h.few in one_more (can p h.good.0 (omega arith)) (one_more (can f h.good.1 (omega arith)) none_more)
