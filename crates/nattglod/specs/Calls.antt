-- A run call: what it answers and leaves in the lent buffers, and the parts that its code is made of.
use Rattle.std.specs.Prelude.{ℕ, ◌≤◌, ◌≡◌, cond, ◌||◌, not, List, ltb, eqb, Result, Ok, Err}
use Rattle.language.specs.Objects.{Obj}
use Rattle.language.specs.Reading.{read_object, read_program}
use Rattle.language.specs.Numbers.{one, program_limit, object_limit, step_limit, name_limit, cell_limit, form_table_size, cell_table_size}
use Rattle.language.specs.Evaluation.{Out, counted, run}
use Rattle.language.specs.Answers.{Lent, Outcome, on_read, ended, run_call}
use Rattle.language.specs.declared.Meter.{Meter}
use Rattle.language.specs.declared.refusals.Refusal.{Refusal}
use Rattle.language.specs.declared.refusals.Refusal.TheVariants.{LongProgram, LongObject, StepsOver, NamesOver, CellsOver}
use Rattle.language.specs.declared.Answer.{Answer}

abbrev pub budgets : ℕ → ℕ → ℕ → Meter
budgets steps names cells = record { steps = steps; names = names; cells = cells }

abbrev pub lends : List ℕ → List ℕ → List ℕ → Lent
lends forms cells output = record { forms = forms; cells = cells; output = output }

-- all six numbers, and every entry and byte of the lent buffers afterwards
pub record RunAnswered (program object : List ℕ) (b : Meter) (lent : Lent) (r : Answer) (forms cells output : List ℕ) : Type 0 where
  pub answer : r ≡ (run_call program object b lent).answer
  pub forms_after : forms ≡ (run_call program object b lent).lent.forms
  pub cells_after : cells ≡ (run_call program object b lent).lent.cells
  pub output_after : output ≡ (run_call program object b lent).lent.output

-- Two results that the contract allows are equal.
abbrev pub RunDetermined : Type 0
RunDetermined =
    (program object : List ℕ) (b : Meter) (lent : Lent) (r r' : Answer) (forms forms' cells cells' output output' : List ℕ) → RunAnswered program object b lent r forms cells output
    → RunAnswered program object b lent r' forms' cells' output' → (r ≡ r') × (forms ≡ forms') × (cells ≡ cells') × (output ≡ output')

-- 1 to 5, by lengths and budgets; Ok if none of them
unfoldable pub early_refusal : (program object : ℕ) → Meter → (forms cells : ℕ) → Result (Unit {0}) Refusal
early_refusal program object b forms cells =
    cond (ltb program_limit program) (Err LongProgram)
    (cond (ltb object_limit object) (Err LongObject)
    (cond (ltb step_limit b.steps) (Err StepsOver)
    (cond (ltb name_limit b.names) (Err NamesOver)
    (cond (ltb cell_limit b.cells || not (eqb forms form_table_size) || not (eqb cells (cell_table_size b.cells))) (Err CellsOver) (Ok tt)))))

-- what holds where it is Ok
pub record WithinLimits (program object : ℕ) (b : Meter) (forms cells : ℕ) : Type 0 where
  pub short_program : program ≤ program_limit
  pub short_object : object ≤ object_limit
  pub few_steps : b.steps ≤ step_limit
  pub few_names : b.names ≤ name_limit
  pub few_cells : b.cells ≤ cell_limit
  pub form_table : forms ≡ form_table_size
  pub cell_table : cells ≡ cell_table_size b.cells

-- what a run call does then
unfoldable pub on_texts : (program object : List ℕ) → Meter → Lent → Outcome
on_texts program object b lent = on_read lent 1 (read_program program) (λ P. on_read lent 2 (read_object object) (λ x. ended lent (run one P x b)))

-- the answer and the output of it; the tables are not zeroed yet
pub record TextsAnswered (program object : List ℕ) (b : Meter) (lent : Lent) (r : Answer) (output : List ℕ) : Type 0 where
  pub answer : r ≡ (on_texts program object b lent).answer
  pub output_after : output ≡ (on_texts program object b lent).lent.output

-- the same from how the application of `main` ended
pub record EndAnswered (b : Meter) (lent : Lent) (o : Out Obj) (r : Answer) (output : List ℕ) : Type 0 where
  pub answer : r ≡ (ended lent (counted b o)).answer
  pub output_after : output ≡ (ended lent (counted b o)).lent.output
