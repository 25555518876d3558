-- What the calls on whole programs answer, for every program that the tables hold.
use Rattle.std.specs.Prelude.{ℕ, min, ◌+◌, ◌*◌, ◌≤◌, ◌<◌, ◌≡◌, List, [], ◌∷◌, ◌++◌, length, drop, get_or, Option, Some, None}
use Prim.Native.Char.{code}
use Rattle.language.specs.Numbers.{form_limit, mark_limit, written_limit}
use Rattle.language.specs.Forms.{Forms, ◌&◌, Def, Prog}
use Rattle.language.specs.Accepted.{IsName, AreDefinitions}
use Rattle.packing.specs.Packing.{packed}
use Rattle.language.specs.Writing.{write_form, write_program, marks_of_program}
use Rattle.tables.specs.Tables.{field}
use Rattle.formtable.specs.Standing.{Stands, bodies}
use Rattle.program_writer.specs.declared.Measured.{Measured}
use Rattle.program_writer.specs.Walks.{Way, Writable, Wrote, Went}

-- the packed name in record k of the table of definitions
abbrev pub name_at : List ℕ → ℕ → ℕ
name_at D k = get_or D (k * 4) 0 + 4294967296 * field D k 1

-- the names of the definitions, packed, from record k on
pub data Named (D : List ℕ) : ℕ → Prog → Type 0 where
  no_name : {k : ℕ} → Named D k []
  a_name : {k : ℕ} {d : Def} {ds : Prog} → name_at D k ≡ packed d.called → Named D (k + 1) ds → Named D k (d ∷ ds)

-- The program P stands in the tables: its bodies in the form table t up to record `end`, its constants in the first n cells
-- of C, its names in D.
pub record Holds (t C D : List ℕ) (defs n end : ℕ) (P : Prog) : Type 0 where
  pub cells : n < 4294967296
  pub forms : end ≤ form_limit
  pub stands : Stands t C n 0 (bodies P) end
  pub names : Named D 0 P
  pub many : length P ≡ defs
  pub good : AreDefinitions P

-- ---- inside
pub record DefinitionWalked (t C D : List ℕ) (k i at : ℕ) (r : Way) (out out' : List ℕ) : Type 0 where
  pub means : (n e : ℕ) (d : Def) (gs : Forms) → n < 4294967296 → e ≤ form_limit → name_at D k ≡ packed d.called → IsName d.called → Writable d.body → Stands t C n i (d.body & gs) e → Went t C n (d.called ++ (code "=" ∷ (write_form d.body ++ code ";" ∷ []))) gs e at r out out'

pub record ProgramWalked (t C D : List ℕ) (defs r : ℕ) (out out' : List ℕ) : Type 0 where
  pub means : (n e : ℕ) (P : Prog) → Holds t C D defs n e P → marks_of_program P ≤ mark_limit → Wrote (write_program P) 0 r out out'

pub record TextMeasured (t C D : List ℕ) (defs r : ℕ) : Type 0 where
  pub means : (n e : ℕ) (P : Prog) → Holds t C D defs n e P → marks_of_program P ≤ mark_limit → r ≡ min (length (write_program P)) (written_limit + 1)

-- the marks need no name
pub record ProgramDepth (t C : List ℕ) (defs r : ℕ) : Type 0 where
  pub means : (n e : ℕ) (P : Prog) → n < 4294967296 → e ≤ form_limit → length P ≡ defs → Stands t C n 0 (bodies P) e → r ≡ min (marks_of_program P) (mark_limit + 1)

-- ---- the calls
-- The length of the text up to 16,385, where no 33rd mark opens; the marks up to 33, for which the names don't matter.
pub record ProgramMeasured (t C D : List ℕ) (defs : ℕ) (r : Measured) : Type 0 where
  pub size : (n e : ℕ) (P : Prog) → Holds t C D defs n e P → marks_of_program P ≤ mark_limit → r.length ≡ min (length (write_program P)) (written_limit + 1)
  pub marks : (n e : ℕ) (P : Prog) → n < 4294967296 → e ≤ form_limit → length P ≡ defs → Stands t C n 0 (bodies P) e → r.marks ≡ min (marks_of_program P) (mark_limit + 1)

-- All of the text stands in front and the rest of the output is as it was; or nothing has changed.
pub data ProgramEnd (text : List ℕ) (r : Option ℕ) (out out' : List ℕ) : Type 0 where
  program_written : length text ≤ min (length out) written_limit → r ≡ Some (length text) → out' ≡ text ++ drop (length text) out → ProgramEnd text r out out'
  no_room : min (length out) written_limit < length text → r ≡ None → out' ≡ out → ProgramEnd text r out out'

pub record ProgramWritten (t C D : List ℕ) (defs : ℕ) (r : Option ℕ) (out out' : List ℕ) : Type 0 where
  pub fits : (l : ℕ) → r ≡ Some l → l ≤ min (length out) written_limit
  pub means : (n e : ℕ) (P : Prog) → Holds t C D defs n e P → marks_of_program P ≤ mark_limit → ProgramEnd (write_program P) r out out'
