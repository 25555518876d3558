-- A program in the form table: four numbers to a form, [kind, arity, lo, hi], each form before its parts, the bodies of the
-- definitions one after the other. A record's number is the form's place. The constants lie in cells, one after the other.
use Rattle.std.specs.Prelude.{ℕ, ◌+◌, ◌*◌, ◌/◌, ◌%◌, Bool, ◌&&◌, List, [], ◌∷◌, ◌++◌, eqb, get_or}
use Rattle.language.specs.Forms.{Form, word, name, chain, construct, constant, insert, apply_all, bu, condition, while, Forms, stop, ◌&◌, Word, select, select_right, op, Prog, count, forms_in, constant_cells}
use Rattle.language.specs.Reading.{Placed}
use Rattle.packing.specs.Packing.{packed}
use Rattle.language.specs.declared.Val.{Val}
use Rattle.tables.specs.Tables.{field}
use Rattle.lexer.specs.Vocabulary.{op_code}
use Rattle.cells.specs.Encoding.{val_of, cells_from}

-- a 64-bit number in two
abbrev pub low_of : ℕ → ℕ
low_of w = w % 4294967296

abbrev pub high_of : ℕ → ℕ
high_of w = w / 4294967296

-- kinds 12 to 15 are constants and 16 to 19 are `{f,x}`, by the tag of the value
abbrev pub constant_record : Val → List ℕ
constant_record v = (12 + v.tag) ∷ 0 ∷ low_of v.word ∷ high_of v.word ∷ []

abbrev pub bu_record : Val → List ℕ
bu_record v = (16 + v.tag) ∷ 1 ∷ low_of v.word ∷ high_of v.word ∷ []

abbrev pub word_record : Word → List ℕ
word_record (op o) = 1 ∷ 0 ∷ op_code o ∷ 0 ∷ []
word_record (select k) = 2 ∷ 0 ∷ k ∷ 0 ∷ []
word_record (select_right k) = 3 ∷ 0 ∷ k ∷ 0 ∷ []

-- the records of a form whose constants lie from cell c on
unfoldable mutual
  pub encode_form : ℕ → Form → List ℕ
  encode_form c (word w) = word_record w
  encode_form c (name w) = 4 ∷ 0 ∷ low_of (packed w) ∷ high_of (packed w) ∷ []
  encode_form c (chain fs) = 5 ∷ count fs ∷ 0 ∷ 0 ∷ encode_forms c fs
  encode_form c (construct fs) = 6 ∷ count fs ∷ 0 ∷ 0 ∷ encode_forms c fs
  encode_form c (insert f) = 7 ∷ 1 ∷ 0 ∷ 0 ∷ encode_form c f
  encode_form c (apply_all f) = 8 ∷ 1 ∷ 0 ∷ 0 ∷ encode_form c f
  encode_form c (condition p f g) = 9 ∷ 3 ∷ 0 ∷ 0 ∷ (encode_form c p ++ (encode_form (c + constant_cells p) f ++ encode_form (c + constant_cells p + constant_cells f) g))
  encode_form c (while p f) = 10 ∷ 2 ∷ 0 ∷ 0 ∷ (encode_form c p ++ encode_form (c + constant_cells p) f)
  encode_form c (constant x) = constant_record (val_of c x)
  encode_form c (bu f x) = bu_record (val_of (c + constant_cells f) x) ++ encode_form c f

  pub encode_forms : ℕ → Forms → List ℕ
  encode_forms c stop = []
  encode_forms c (f & fs) = encode_form c f ++ encode_forms (c + constant_cells f) fs

-- the cells of a form's constants, from cell c on, in the order of the text
unfoldable mutual
  pub constants_from : ℕ → Form → List ℕ
  constants_from c (word w) = []
  constants_from c (name w) = []
  constants_from c (chain fs) = constants_from_all c fs
  constants_from c (construct fs) = constants_from_all c fs
  constants_from c (insert f) = constants_from c f
  constants_from c (apply_all f) = constants_from c f
  constants_from c (condition p f g) = constants_from c p ++ (constants_from (c + constant_cells p) f ++ constants_from (c + constant_cells p + constant_cells f) g)
  constants_from c (while p f) = constants_from c p ++ constants_from (c + constant_cells p) f
  constants_from c (constant x) = cells_from c x
  constants_from c (bu f x) = constants_from c f ++ cells_from (c + constant_cells f) x

  pub constants_from_all : ℕ → Forms → List ℕ
  constants_from_all c stop = []
  constants_from_all c (f & fs) = constants_from c f ++ constants_from_all (c + constant_cells f) fs

-- a program's forms, and its constants
unfoldable pub encode_program : ℕ → Prog → List ℕ
encode_program c [] = []
encode_program c (d ∷ ds) = encode_form c d.body ++ encode_program (c + constant_cells d.body) ds

unfoldable pub program_constants : ℕ → Prog → List ℕ
program_constants c [] = []
program_constants c (d ∷ ds) = constants_from c d.body ++ program_constants (c + constant_cells d.body) ds

-- The table of definitions: [name lo, name hi, root, place], the root being the record of the body.
unfoldable pub encode_definitions : ℕ → List Placed → List ℕ
encode_definitions r [] = []
encode_definitions r (d ∷ ds) =
    low_of (packed d.def.called) ∷ high_of (packed d.def.called) ∷ r ∷ d.place ∷ encode_definitions (r + forms_in d.def.body) ds

-- whether definition d of such a table has this name
unfoldable pub named : List ℕ → ℕ → ℕ → ℕ → Bool
named D d lo hi = eqb (get_or D (d * 4) 0) lo && eqb (field D d 1) hi
