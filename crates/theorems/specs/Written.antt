-- What a run call writes reads as the object that was reached, and running it again gives it again.
use Rattle.std.specs.Prelude.{ℕ, ◌≤◌, ◌≡◌, List, length, take}
use Rattle.language.specs.Numbers.{step_limit, cell_limit, form_table_size, name_limit, cell_table_size}
use Rattle.language.specs.declared.Meter.{Meter}
use Rattle.language.specs.Bytes.{bytes}
use Rattle.language.specs.Objects.{Obj, cells_of}
use Rattle.language.specs.Reading.{got, read_object}
use Rattle.language.specs.Writing.{write_obj}
use Rattle.language.specs.Answers.{Lent, Outcome, counting, run_call}
use Rattle.theorems.specs.Demand3.{object, Runs}

-- the text in front of an outcome's output, as long as its answer says
abbrev pub text_of : Outcome → List ℕ
text_of o = take o.answer.length o.lent.output

-- t is what is written of the object that the two texts run to, and it reads as that object
pub record Written (s x : List ℕ) (b : Meter) (t : List ℕ) : Type 0 where
  pub result : Obj
  pub runs : Runs s x b (object result)
  pub writes : write_obj result ≡ t
  pub reads_back : read_object t ≡ got result (length t)

-- A run call that answers 20 has written such a text.
abbrev pub WrittenReadsBack : Type 0
WrittenReadsBack =
    (s x t : List ℕ) (b : Meter) (lent : Lent) → (run_call s x b lent).answer.number ≡ 20 → text_of (run_call s x b lent) ≡ t → Written s x b t

-- budgets and buffers that are enough for `main=id;` on a text t of the object y
pub record EnoughFor (y : Obj) (t : List ℕ) (b : Meter) (lent : Lent) : Type 0 where
  pub steps : 2 ≤ b.steps
  pub steps_within : b.steps ≤ step_limit
  pub names : 1 ≤ b.names
  pub names_within : b.names ≤ name_limit
  pub cells : cells_of y ≤ b.cells
  pub cells_within : b.cells ≤ cell_limit
  pub form_table : length lent.forms ≡ form_table_size
  pub cell_table : length lent.cells ≡ cell_table_size b.cells
  pub output : length t ≤ length lent.output

-- `main=id;` on such a text answers 20 and writes it again, with two steps and the object's cells.
abbrev pub WrittenAgain : Type 0
WrittenAgain =
    (s x t : List ℕ) (b : Meter) (lent : Lent) → (run_call s x b lent).answer.number ≡ 20 → text_of (run_call s x b lent) ≡ t
    → (y : Obj) (e : ℕ) → read_object t ≡ got y e → (b' : Meter) (lent' : Lent) → EnoughFor y t b' lent'
    → ((run_call (bytes "main=id;") t b' lent').answer ≡ counting 20 2 (cells_of y) (length t)) × (text_of (run_call (bytes "main=id;") t b' lent') ≡ t)
