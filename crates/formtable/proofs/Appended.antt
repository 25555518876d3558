-- The records and the constants of forms, of programs and of definitions, one behind the other.
use Prim.Native.Nat.{ℕ, ◌+◌}
use mathlib.Core.Path.{◌≡◌, ap}
use mathlib.Core.List.{List, [], ◌∷◌, ◌++◌, append_assoc, append-nil}
use native.Mathlib.Nat.{add-zero}
use native.Mathlib.Omega.{arith}
use Rattle.language.specs.Forms.{Form, Forms, stop, ◌&◌, ◌+&◌, Prog, forms_in, forms_of, constant_cells, constant_cells_all, program_cells}
use Rattle.language.specs.Reading.{Placed, program_of}
use Rattle.formtable.specs.Encoding.{encode_form, encode_forms, constants_from, constants_from_all, encode_program, program_constants, encode_definitions}

pub forms_appended : (fs gs : Forms) (c : ℕ) → encode_forms c (fs +& gs) ≡ encode_forms c fs ++ encode_forms (c + constant_cells_all fs) gs
unfolding encode_form
forms_appended stop gs c = rw add-zero
forms_appended (f & fs) gs c =
    let z : c + (constant_cells f + constant_cells_all fs) ≡ c + constant_cells f + constant_cells_all fs = omega arith in
    rw (z, append_assoc) (ap (λ (x : List ℕ). encode_form c f ++ x) (forms_appended fs gs (c + constant_cells f)))

pub constants_appended : (fs gs : Forms) (c : ℕ) → constants_from_all c (fs +& gs) ≡ constants_from_all c fs ++ constants_from_all (c + constant_cells_all fs) gs
unfolding constants_from
constants_appended stop gs c = rw add-zero
constants_appended (f & fs) gs c =
    let z : c + (constant_cells f + constant_cells_all fs) ≡ c + constant_cells f + constant_cells_all fs = omega arith in
    rw (z, append_assoc) (ap (λ (x : List ℕ). constants_from c f ++ x) (constants_appended fs gs (c + constant_cells f)))

-- one form alone
pub one_form : (f : Form) (c : ℕ) → encode_forms c (f & stop) ≡ encode_form c f
unfolding encode_form
one_form f c = append-nil (encode_form c f)

pub one_constants : (f : Form) (c : ℕ) → constants_from_all c (f & stop) ≡ constants_from c f
unfolding constants_from
one_constants f c = append-nil (constants_from c f)

pub programs_appended : (P Q : Prog) (c : ℕ) → encode_program c (P ++ Q) ≡ encode_program c P ++ encode_program (c + program_cells P) Q
unfolding encode_program
programs_appended [] Q c = rw add-zero
programs_appended (d ∷ P) Q c =
    let z : c + (constant_cells d.body + program_cells P) ≡ c + constant_cells d.body + program_cells P = omega arith in
    rw (z, append_assoc) (ap (λ (x : List ℕ). encode_form c d.body ++ x) (programs_appended P Q (c + constant_cells d.body)))

pub program_constants_appended : (P Q : Prog) (c : ℕ) → program_constants c (P ++ Q) ≡ program_constants c P ++ program_constants (c + program_cells P) Q
unfolding program_constants
program_constants_appended [] Q c = rw add-zero
program_constants_appended (d ∷ P) Q c =
    let z : c + (constant_cells d.body + program_cells P) ≡ c + constant_cells d.body + program_cells P = omega arith in
    rw (z, append_assoc) (ap (λ (x : List ℕ). constants_from c d.body ++ x) (program_constants_appended P Q (c + constant_cells d.body)))

pub definitions_appended : (ds es : List Placed) (r : ℕ) → encode_definitions r (ds ++ es) ≡ encode_definitions r ds ++ encode_definitions (r + forms_of (program_of ds)) es
unfolding encode_definitions
definitions_appended [] es r = rw add-zero
definitions_appended (d ∷ ds) es r =
    let z : r + (forms_in d.def.body + forms_of (program_of ds)) ≡ r + forms_in d.def.body + forms_of (program_of ds) = omega arith in
    rw (z, definitions_appended ds es (r + forms_in d.def.body))
