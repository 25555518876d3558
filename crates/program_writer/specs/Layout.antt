-- A form's text from the left: what opens it, each part with what stands behind it, what ends it. Its marks the same way.
use Rattle.std.specs.Prelude.{ℕ, zero, suc, max, Bool, true, false, cond, List, [], ◌++◌, leb, eqb}
use Rattle.language.specs.Bytes.{bytes}
use Rattle.language.specs.Forms.{Form, word, name, chain, construct, constant, insert, apply_all, bu, condition, while, Forms, stop, ◌&◌, count}
use Rattle.language.specs.Writing.{write_obj, write_word, write_form, bracketed, marks_of, marks_of_obj, bracket_marks}

-- whether a part that is a chain stands in brackets
abbrev pub takes_part : Form → Bool
takes_part (word w) = false
takes_part (name w) = false
takes_part (chain fs) = true
takes_part (construct fs) = false
takes_part (constant x) = false
takes_part (insert f) = true
takes_part (apply_all f) = true
takes_part (bu f x) = true
takes_part (condition p f g) = false
takes_part (while p f) = false

-- the same by the kind of the form's record
unfoldable pub takes_kind : ℕ → Bool
takes_kind k = cond (leb 16 k) true (cond (eqb k 5) true (cond (eqb k 7) true (eqb k 8)))

unfoldable pub opening : Form → List ℕ
opening (word w) = write_word w
opening (name w) = w
opening (chain fs) = []
opening (construct fs) = bytes "["
opening (constant x) = bytes "%" ++ write_obj x
opening (insert f) = bytes "/"
opening (apply_all f) = bytes "@"
opening (bu f x) = bytes "{"
opening (condition p f g) = bytes "("
opening (while p f) = bytes "("

-- what stands behind a part, by the number of parts to come
unfoldable pub behind_chain : ℕ → List ℕ
behind_chain zero = []
behind_chain (suc n) = bytes "."

unfoldable pub behind_construct : ℕ → List ℕ
behind_construct zero = bytes "]"
behind_construct (suc n) = bytes ","

unfoldable pub behind_condition : ℕ → List ℕ
behind_condition zero = bytes ")"
behind_condition (suc zero) = bytes ";"
behind_condition (suc (suc n)) = bytes "->"

unfoldable pub behind_while : ℕ → List ℕ
behind_while zero = bytes ")"
behind_while (suc n) = bytes "?"

unfoldable pub behind_part : Form → ℕ → List ℕ
behind_part (word w) n = []
behind_part (name w) n = []
behind_part (chain fs) n = behind_chain n
behind_part (construct fs) n = behind_construct n
behind_part (constant x) n = []
behind_part (insert f) n = []
behind_part (apply_all f) n = []
behind_part (bu f x) n = bytes ","
behind_part (condition p f g) n = behind_condition n
behind_part (while p f) n = behind_while n

unfoldable pub ending : Form → List ℕ
ending (word w) = []
ending (name w) = []
ending (chain fs) = []
ending (construct fs) = []
ending (constant x) = []
ending (insert f) = []
ending (apply_all f) = []
ending (bu f x) = write_obj x ++ bytes "}"
ending (condition p f g) = []
ending (while p f) = []

-- a part of the form g
unfoldable pub part_text : Form → Form → List ℕ
part_text g f = cond (takes_part g) (bracketed f (write_form f)) (write_form f)

unfoldable pub parts_text : Form → Forms → List ℕ
parts_text g stop = []
parts_text g (f & fs) = (part_text g f ++ behind_part g (count fs)) ++ parts_text g fs

-- ---- marks
unfoldable pub part_marks : Form → Form → ℕ
part_marks g f = cond (takes_part g) (bracket_marks f (marks_of f)) (marks_of f)

unfoldable pub parts_marks : Form → Forms → ℕ
parts_marks g stop = 0
parts_marks g (f & fs) = max (part_marks g f) (parts_marks g fs)

-- the marks of the object that stands in a form
unfoldable pub own_marks : Form → ℕ
own_marks (word w) = 0
own_marks (name w) = 0
own_marks (chain fs) = 0
own_marks (construct fs) = 0
own_marks (constant x) = marks_of_obj x
own_marks (insert f) = 0
own_marks (apply_all f) = 0
own_marks (bu f x) = marks_of_obj x
own_marks (condition p f g) = 0
own_marks (while p f) = 0
