-- Every form has four numbers in the form table, and every cell of a constant four in the cells.
use Prim.Native.Nat.{ℕ, ◌+◌, ◌*◌}
use mathlib.Core.Path.{◌≡◌, refl}
use mathlib.Core.List.{List, [], ◌∷◌, ◌++◌}
use native.Mathlib.Omega.{arith}
use lib.ListN.{length, length-append}
use Rattle.language.specs.Forms.{Form, word, name, chain, construct, constant, insert, apply_all, bu, condition, while, Forms, stop, ◌&◌, Word, select, select_right, op, Prog, forms_in, forms_in_all, forms_of, constant_cells, constant_cells_all, program_cells}
use Rattle.language.specs.Reading.{Placed}
use Rattle.cells.specs.Encoding.{cells_from}
use Rattle.cells.proofs.Encoded.{length_cells}
use Rattle.formtable.specs.Encoding.{word_record, encode_form, encode_forms, constants_from, constants_from_all, encode_program, program_constants, encode_definitions}

length_word : (w : Word) → length (word_record w) ≡ 4
length_word (op o) = refl
length_word (select k) = refl
length_word (select_right k) = refl

mutual
  unfolding encode_form encode_forms

  pub length_form : (f : Form) (c : ℕ) → length (encode_form c f) ≡ forms_in f * 4
  length_form (word w) c = length_word w
  length_form (name w) c = refl
  length_form (chain fs) c = let i = length_forms fs c in omega arith
  length_form (construct fs) c = let i = length_forms fs c in omega arith
  length_form (insert f) c = let i = length_form f c in omega arith
  length_form (apply_all f) c = let i = length_form f c in omega arith
  length_form (condition p f g) c =
      let d = c + constant_cells p in
      let e = d + constant_cells f in
      let i = length_form p c in
      let j = length_form f d in
      let k = length_form g e in
      let x = length-append (encode_form c p) (encode_form d f ++ encode_form e g) in
      let y = length-append (encode_form d f) (encode_form e g) in
      omega arith
  length_form (while p f) c =
      let d = c + constant_cells p in
      let i = length_form p c in
      let j = length_form f d in
      let x = length-append (encode_form c p) (encode_form d f) in
      omega arith
  length_form (constant x) c = refl
  length_form (bu f x) c = let i = length_form f c in omega arith

  pub length_forms : (fs : Forms) (c : ℕ) → length (encode_forms c fs) ≡ forms_in_all fs * 4
  length_forms stop c = refl
  length_forms (f & fs) c =
      let d = c + constant_cells f in
      let i = length_form f c in
      let j = length_forms fs d in
      let x = length-append (encode_form c f) (encode_forms d fs) in
      omega arith

mutual
  unfolding constants_from constants_from_all

  pub length_constants : (f : Form) (c : ℕ) → length (constants_from c f) ≡ constant_cells f * 4
  length_constants (word w) c = refl
  length_constants (name w) c = refl
  length_constants (chain fs) c = length_all_constants fs c
  length_constants (construct fs) c = length_all_constants fs c
  length_constants (insert f) c = length_constants f c
  length_constants (apply_all f) c = length_constants f c
  length_constants (condition p f g) c =
      let d = c + constant_cells p in
      let e = d + constant_cells f in
      let i = length_constants p c in
      let j = length_constants f d in
      let k = length_constants g e in
      let x = length-append (constants_from c p) (constants_from d f ++ constants_from e g) in
      let y = length-append (constants_from d f) (constants_from e g) in
      omega arith
  length_constants (while p f) c =
      let d = c + constant_cells p in
      let i = length_constants p c in
      let j = length_constants f d in
      let x = length-append (constants_from c p) (constants_from d f) in
      omega arith
  length_constants (constant x) c = length_cells x c
  length_constants (bu f x) c =
      let d = c + constant_cells f in
      let i = length_constants f c in
      let j = length_cells x d in
      let y = length-append (constants_from c f) (cells_from d x) in
      omega arith

  pub length_all_constants : (fs : Forms) (c : ℕ) → length (constants_from_all c fs) ≡ constant_cells_all fs * 4
  length_all_constants stop c = refl
  length_all_constants (f & fs) c =
      let d = c + constant_cells f in
      let i = length_constants f c in
      let j = length_all_constants fs d in
      let x = length-append (constants_from c f) (constants_from_all d fs) in
      omega arith

pub length_program : (P : Prog) (c : ℕ) → length (encode_program c P) ≡ forms_of P * 4
unfolding encode_program
length_program [] c = refl
length_program (d ∷ ds) c =
    let e = c + constant_cells d.body in
    let i = length_form d.body c in
    let j = length_program ds e in
    let x = length-append (encode_form c d.body) (encode_program e ds) in
    omega arith

pub length_program_constants : (P : Prog) (c : ℕ) → length (program_constants c P) ≡ program_cells P * 4
unfolding program_constants
length_program_constants [] c = refl
length_program_constants (d ∷ ds) c =
    let e = c + constant_cells d.body in
    let i = length_constants d.body c in
    let j = length_program_constants ds e in
    let x = length-append (constants_from c d.body) (program_constants e ds) in
    omega arith

pub length_definitions : (ds : List Placed) (r : ℕ) → length (encode_definitions r ds) ≡ length ds * 4
unfolding encode_definitions
length_definitions [] r = refl
length_definitions (d ∷ ds) r = let i = length_definitions ds (r + forms_in d.def.body) in omega arith
