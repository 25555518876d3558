-- What applying `main` answers, where a program stands in the tables: its forms in T, its definitions in D, its constants in C.
use Rattle.std.specs.Prelude.{ℕ, ◌*◌, ◌≤◌, ◌≡◌, List, length}
use Rattle.language.specs.Objects.{Obj}
use Rattle.language.specs.Forms.{main_form}
use Rattle.language.specs.Accepted.{AreDefinitions}
use Rattle.language.specs.Reading.{Placed, program_of}
use Rattle.language.specs.Numbers.{one, form_limit}
use Rattle.language.specs.Evaluation.{apply}
use Rattle.language.specs.declared.Meter.{Meter}
use Rattle.language.specs.declared.Val.{Val}
use Rattle.tables.specs.Tables.{put}
use Rattle.cells.specs.Cells.{Rep, Room, free}
use Rattle.formtable.specs.Encoding.{encode_definitions}
use Rattle.formtable.specs.Standing.{Stands, bodies}
use Rattle.primitives.specs.Ends.{Ended, Gives}

-- the program of these definitions stands: `total` forms from record 0 on, and a record for each of its `many` definitions
pub record Loaded (placed : List Placed) (T : List ℕ) (total : ℕ) (D : List ℕ) (many : ℕ) (C : List ℕ) (m : Meter) : Type 0 where
  pub formed : AreDefinitions (program_of placed)
  pub forms : Stands T C (free C m) 0 (bodies (program_of placed)) total
  pub few_forms : total ≤ form_limit
  pub in_table : total * 4 ≤ length T
  pub count : many ≡ length placed
  pub blank : List ℕ
  pub names : D ≡ put blank 0 (encode_definitions 0 placed)

-- `main` applied to v
pub record MainApplied (T : List ℕ) (total : ℕ) (D : List ℕ) (many : ℕ) (C : List ℕ) (v : Val) (m : Meter) (r : Ended) (C' : List ℕ) : Type 0 where
  pub means : (placed : List Placed) (x : Obj) → Loaded placed T total D many C m → Room C m → Rep C (free C m) v x → Gives C m C' (apply m.steps one (program_of placed) main_form x m) r
