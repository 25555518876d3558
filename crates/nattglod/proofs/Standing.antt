-- A program and an object that were read one behind the other stand in the tables, where the cells have room for both.
use Prim.Native.Nat.{ℕ, ◌+◌, ◌*◌, ◌≤◌}
use mathlib.Core.Path.{◌≡◌, ap, ◌∙◌}
use mathlib.Core.List.{List, ◌++◌, append_assoc}
use native.Mathlib.Omega.{arith}
use lib.ListN.{length, drop, length-map}
use lib.Seq.{take_at}
use Rattle.language.specs.Objects.{Obj, cells_of}
use Rattle.language.specs.Forms.{Prog, forms_of}
use Rattle.language.specs.Reading.{got, Placed, read_object}
use Rattle.language.specs.Accepted.{WellFormed}
use Rattle.language.specs.declared.Meter.{Meter}
use Rattle.theorems.proofs.ProgramsRead.{programs_read}
use Rattle.theorems.proofs.ObjectsRead.{objects_read}
use Rattle.tables.specs.Tables.{put}
use Rattle.tables.proofs.Put.{length_put}
use Rattle.cells.specs.Cells.{Rep, Room, free}
use Rattle.cells.specs.Encoding.{val_of, cells_from}
use Rattle.cells.proofs.Encoded.{length_cells, put_rep}
use Rattle.formtable.specs.Encoding.{encode_program, program_constants}
use Rattle.formtable.specs.Standing.{Stands, bodies}
use Rattle.formtable.proofs.Lengths.{length_program_constants}
use Rattle.formtable.proofs.Stood.{program_stands}
use Rattle.program_runner.specs.Mains.{Loaded}
use Rattle.nattglod.specs.Stages.{ProgramLies, Small, without_cells}

-- ---- what was put in front stays in front of what is put behind it
module _ (t k vs : List ℕ) (n : ℕ) (long : length k ≡ n) where
  pub put_front : put (put t 0 k) n vs ≡ k ++ (vs ++ drop (n + length vs) (put t 0 k))
  unfolding put
  put_front = rw (take_at k (drop (0 + length k) t) n long) (append_assoc k vs (drop (n + length vs) (k ++ drop (0 + length k) t)))

-- ---- the program and the object in the tables
module _ {program : List ℕ} {P : Prog} {T : List ℕ} {total : ℕ} {D : List ℕ} {many : ℕ} {C : List ℕ} {used : ℕ} (L : ProgramLies program P T total D many C used) (object : List ℕ) {x : Obj} {e o : ℕ} (is-object : read_object object ≡ got x e) (b : Meter) (S : Small o b (length T) total many (length C) used) (fit : used + cells_of x ≤ b.cells) {C' : List ℕ} (is-put : C' ≡ put C (used * 4) (cells_from used x)) where
  formed : WellFormed P
  formed = (programs_read program P L.ends L.read).well_formed

  long_after : length C' ≡ 4 * b.cells
  long_after = ap length is-put ∙ length_put C (used * 4) (cells_from used x) (omega (arith, length_cells x used, S.cell_table)) ∙ S.cell_table

  pub room_left : Room C' (without_cells b (used + cells_of x))
  room_left = let l = long_after in record { fits = omega arith; small = omega arith }

  free_is : free C' (without_cells b (used + cells_of x)) ≡ used + cells_of x
  free_is = let l = long_after in omega arith

  pub object_stands : Rep C' (free C' (without_cells b (used + cells_of x))) (val_of used x) x
  object_stands = rw (free_is, is-put) (put_rep x used C (omega arith) (objects_read object x e is-object).is_obj)

  -- the constants come first in the cells
  constants_first : C' ≡ program_constants 0 P ++ (cells_from used x ++ drop (used * 4 + length (cells_from used x)) C)
  constants_first =
      let h = L.laid.cells in
      let c = L.laid.constants (omega (arith, L.laid.long)) in
      is-put ∙ rw c (put_front L.cells (program_constants 0 P) (cells_from used x) (used * 4) (omega (arith, length_program_constants P 0)))

  program_placed : Stands T C' (free C' (without_cells b (used + cells_of x))) 0 (bodies P) total
  unfolding put
  program_placed =
      let z : 0 + forms_of P ≡ total = omega (arith, L.laid.forms) in
      rw z at (program_stands T C' (free C' (without_cells b (used + cells_of x))) P 0 0 (drop (0 + length (encode_program 0 P)) L.forms) (cells_from used x ++ drop (used * 4 + length (cells_from used x)) C)
      formed.definitions (omega (arith, free_is, L.laid.cells)) L.laid.table constants_first)

  pub program_loaded : Loaded L.laid.placed T total D many C' (without_cells b (used + cells_of x))
  program_loaded =
      let p = L.laid.program in
      let n = length-map L.laid.placed (λ (d : Placed). d.def) in
      let q = ap (λ (Q : Prog). length Q) p in
      record {
        formed = rw p at formed.definitions;
        forms = rw p at program_placed;
        few_forms = S.few_forms;
        in_table = omega (arith, S.few_forms, S.form_table);
        count = omega (arith, L.laid.definitions);
        blank = L.definitions;
        names = L.laid.names;
      }
