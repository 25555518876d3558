-- A cell of a constant takes two bytes of a program's written text, so that 8,192 bytes hold at most 4,093 cells.
use Prim.Native.Nat.{ℕ, min, ◌+◌, ◌*◌, ◌≤◌}
use mathlib.Core.List.{[], ◌∷◌}
use native.Mathlib.Omega.{arith}
use lib.IntN.{pos, negsuc}
use lib.ListN.{length, length-append}
use Rattle.language.specs.Objects.{Obj, int, symbol, seq, Objs, nil, ◌::◌, cells_of, cells_of_all}
use Rattle.language.specs.Forms.{Form, word, name, chain, construct, constant, insert, apply_all, bu, condition, while, Forms, stop, ◌&◌, Prog, constant_cells, constant_cells_all, program_cells}
use Rattle.language.specs.Writing.{write_integer, write_obj, write_objs, write_more_objs, write_form, write_parts, write_more_parts, write_forms, write_more_forms, write_program}
use Rattle.language.specs.Accepted.{IsObj, AreObjs, IsForm, AreForms, TwoOrMore, AreDefinitions}
use Rattle.theorems.specs.EachUse.{FewConstants}
use Rattle.theorems.proofs.Decimals.{decimal_long}
use Rattle.theorems.proofs.WordsBack.{word_plain, name_plain}
use Rattle.theorems.proofs.ProgramsRead.{bracket_bytes, programs_read}

-- ---- objects: two bytes for a cell, and one

mutual
  unfolding write_obj write_integer

  pub object_cells : (x : Obj) → IsObj x → 2 * cells_of x + 1 ≤ length (write_obj x)
  object_cells (int (pos n)) h = decimal_long n
  object_cells (int (negsuc n)) h = omega arith
  object_cells (symbol []) h = absurd h
  object_cells (symbol (b ∷ w)) h = omega arith
  object_cells (seq xs) h = let i = objects_cells xs h in omega arith

  objects_cells : (xs : Objs) → AreObjs xs → 2 * cells_of_all xs ≤ length (write_objs xs)
  objects_cells nil h = omega arith
  objects_cells (x :: xs) h =
      let i = object_cells x h.0 in
      let j = more_cells xs h.1 in
      rw length-append (omega arith)

  more_cells : (xs : Objs) → AreObjs xs → 2 * cells_of_all xs + 1 ≤ length (write_more_objs xs)
  more_cells nil h = omega arith
  more_cells (x :: xs) h =
      let i = object_cells x h.0 in
      let j = more_cells xs h.1 in
      rw length-append (omega arith)

-- ---- forms: one byte more, and another if there are cells at all

-- the bytes that c cells take
abbrev bytes_for : ℕ → ℕ
bytes_for c = 2 * c + min c 1

mutual
  unfolding write_form

  pub form_cells : (f : Form) → IsForm f → bytes_for (constant_cells f) + 1 ≤ length (write_form f)
  form_cells (word w) h = (word_plain w h).long
  form_cells (name w) h = (name_plain w h).long
  form_cells (chain fs) h = parts_cells fs h.0 h.1
  form_cells (construct fs) h = let i = forms_cells fs h.1 in omega arith
  form_cells (constant x) h = let i = object_cells x h in omega arith
  form_cells (insert f) h = let i = form_cells f h in omega (arith, (bracket_bytes f (write_form f)).0)
  form_cells (apply_all f) h = let i = form_cells f h in omega (arith, (bracket_bytes f (write_form f)).0)
  form_cells (bu f x) h =
      let i = form_cells f h.0 in
      let j = object_cells x h.1 in
      simp length-append (omega (arith, (bracket_bytes f (write_form f)).0))
  form_cells (condition p f g) h =
      let i = form_cells p h.0 in
      let j = form_cells f h.1 in
      let k = form_cells g h.2 in
      simp length-append (omega arith)
  form_cells (while p f) h =
      let i = form_cells p h.0 in
      let j = form_cells f h.1 in
      simp length-append (omega arith)

  parts_cells : (fs : Forms) → TwoOrMore fs → AreForms fs → bytes_for (constant_cells_all fs) + 1 ≤ length (write_parts fs)
  parts_cells stop o h = absurd o
  parts_cells (f & fs) o h =
      let i = form_cells f h.0 in
      let j = more_parts_cells fs h.1 in
      rw length-append (omega (arith, (bracket_bytes f (write_form f)).0))

  more_parts_cells : (fs : Forms) → AreForms fs → bytes_for (constant_cells_all fs) ≤ length (write_more_parts fs)
  more_parts_cells stop h = omega arith
  more_parts_cells (f & fs) h =
      let i = form_cells f h.0 in
      let j = more_parts_cells fs h.1 in
      rw length-append (omega (arith, (bracket_bytes f (write_form f)).0))

  forms_cells : (fs : Forms) → AreForms fs → bytes_for (constant_cells_all fs) ≤ length (write_forms fs)
  forms_cells stop h = omega arith
  forms_cells (f & fs) h =
      let i = form_cells f h.0 in
      let j = more_forms_cells fs h.1 in
      rw length-append (omega arith)

  more_forms_cells : (fs : Forms) → AreForms fs → bytes_for (constant_cells_all fs) ≤ length (write_more_forms fs)
  more_forms_cells stop h = omega arith
  more_forms_cells (f & fs) h =
      let i = form_cells f h.0 in
      let j = more_forms_cells fs h.1 in
      rw length-append (omega arith)

-- ---- programs: five bytes more if there are cells at all

pub program_cells_lem : (P : Prog) → AreDefinitions P → 2 * program_cells P + 5 * min (program_cells P) 1 ≤ length (write_program P)
unfolding write_program
program_cells_lem [] h = omega arith
program_cells_lem (d ∷ ds) h =
    let n = (name_plain d.called h.0).long in
    let i = form_cells d.body h.1 in
    let j = program_cells_lem ds h.2 in
    simp length-append (omega arith)

pub few_constants_lem : FewConstants
few_constants_lem s P e l h =
    let r = programs_read s P e h in
    let c = program_cells_lem P r.well_formed.definitions in
    omega (arith, r.no_longer)
