-- The stages of a run call, each from what the stage before it left in the tables.
use Rattle.std.specs.Prelude.{ℕ, ◌-◌, ◌≤◌, ◌<◌, ◌≡◌, cond, ◌||◌, not, List, ltb, eqb, Result, Ok, Err}
use Rattle.language.specs.Objects.{Obj}
use Rattle.language.specs.Forms.{Prog, main_form}
use Rattle.language.specs.Reading.{got, Placed, read_program, program_of}
use Rattle.language.specs.Numbers.{one, object_limit, form_limit, definition_limit, cell_limit, form_table_size, cell_table_size}
use Rattle.language.specs.Evaluation.{Out, apply}
use Rattle.language.specs.Answers.{writing}
use Rattle.language.specs.declared.Meter.{Meter}
use Rattle.language.specs.declared.refusals.Refusal.{Refusal}
use Rattle.language.specs.declared.refusals.Refusal.TheVariants.{CellsOver}
use Rattle.language.specs.declared.Answer.{Answer}
use Rattle.language.specs.declared.Val.{Val}
use Rattle.cells.specs.Cells.{Rep, Room, free}
use Rattle.primitives.specs.Ends.{Ended, Gives}
use Rattle.programs.specs.Definitions.{ProgramLaid}
use Rattle.program_runner.specs.Mains.{Loaded}
use Rattle.nattglod.specs.Calls.{budgets, lends, TextsAnswered, EndAnswered}

-- the last of the early refusals, by the budgeted cells and the lengths of both tables
unfoldable pub table_refusal : (budget forms cells : ℕ) → Result (Unit {0}) Refusal
table_refusal budget forms cells = cond (ltb cell_limit budget || not (eqb forms form_table_size) || not (eqb cells (cell_table_size budget))) (Err CellsOver) (Ok tt)

-- P was read from the program's text and lies in the tables, its constants in the first `used` cells if the table has room.
pub record ProgramLies (program : List ℕ) (P : Prog) (T : List ℕ) (total : ℕ) (D : List ℕ) (many : ℕ) (C : List ℕ) (used : ℕ) : Type 0 where
  pub ends : ℕ
  pub forms : List ℕ
  pub cells : List ℕ
  pub definitions : List ℕ
  pub read : read_program program ≡ got P ends
  pub laid : ProgramLaid program P ends forms cells definitions many total used T C D

-- What is behind the program's text has the sizes that are allowed: the object's text, the budgeted cells and both tables; and
-- the program's forms, definitions and cells of constants.
pub record Small (object : ℕ) (b : Meter) (forms total many cells used : ℕ) : Type 0 where
  pub short_object : object ≤ object_limit
  pub few_cells : b.cells ≤ cell_limit
  pub form_table : forms ≡ form_table_size
  pub cell_table : cells ≡ cell_table_size b.cells
  pub few_forms : total ≤ form_limit
  pub few_definitions : many ≤ definition_limit
  pub few_constants : used ≤ 4093

-- what the object's text gives then
pub record ObjectAnswered (object : List ℕ) (b : Meter) (T : List ℕ) (total : ℕ) (D : List ℕ) (many : ℕ) (C : List ℕ) (used : ℕ) (output : List ℕ) (r : Answer) (output' : List ℕ) : Type 0 where
  pub means : (program : List ℕ) (P : Prog) (forms cells : List ℕ) → ProgramLies program P T total D many C used → TextsAnswered program object b (lends forms cells output) r output'

-- the budgets with which `main` is applied, where `used` cells are taken
abbrev pub without_cells : Meter → ℕ → Meter
without_cells b used = budgets b.steps b.names (b.cells - used)

-- what applying `main` to v gives, where a program and the object of v stand in the first `used` cells
pub record MainAnswered (b : Meter) (T : List ℕ) (total : ℕ) (D : List ℕ) (many : ℕ) (C : List ℕ) (used : ℕ) (v : Val) (output : List ℕ) (r : Answer) (output' : List ℕ) : Type 0 where
  pub means : (placed : List Placed) (x : Obj) (forms cells : List ℕ) → Loaded placed T total D many C (without_cells b used) → Room C (without_cells b used)
      → Rep C (free C (without_cells b used)) v x
      → EndAnswered b (lends forms cells output) (apply b.steps one (program_of placed) main_form x (without_cells b used)) r output'

-- what the end of an application gives, with the cells C' that it left
pub record EndMet (b : Meter) (C' : List ℕ) (ended : Ended) (output : List ℕ) (r : Answer) (output' : List ℕ) : Type 0 where
  pub means : (C : List ℕ) (m : Meter) (o : Out Obj) (forms cells : List ℕ) → Gives C m C' o ended → EndAnswered b (lends forms cells output) o r output'

-- what writing the object of v gives: 20, 25 or 26
pub record WrittenAnswered (C : List ℕ) (v : Val) (s c : ℕ) (output : List ℕ) (r : Answer) (output' : List ℕ) : Type 0 where
  pub answer : (n : ℕ) (x : Obj) (forms cells : List ℕ) → n < 4294967296 → Rep C n v x → r ≡ (writing (lends forms cells output) s c x).answer
  pub output_after : (n : ℕ) (x : Obj) (forms cells : List ℕ) → n < 4294967296 → Rep C n v x → output' ≡ (writing (lends forms cells output) s c x).lent.output
