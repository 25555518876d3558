-- What is written reads back, and what is read is well formed.
use Rattle.std.specs.Prelude.{ℕ, ◌≤◌, ◌≡◌, List, length}
use Rattle.std.proofs.Math.Option.{some}
use Rattle.language.specs.Objects.{Obj}
use Rattle.language.specs.Forms.{Prog}
use Rattle.language.specs.Numbers.{mark_limit, program_limit}
use Rattle.language.specs.Reading.{got, no, read_obj, read_object, read_definitions, read_program, calls}
use Rattle.language.specs.Writing.{write_obj, write_program, marks_of_obj}
use Rattle.language.specs.Uses.{apply_law}
use Rattle.language.specs.Laws.{Law}
use Rattle.language.specs.Accepted.{Accepted, IsObj, WellFormed}

-- An object of at most 32 marks that a text can hold is read from what is written of it.
abbrev pub ObjectsReadBack : Type 0
ObjectsReadBack = (x : Obj) → IsObj x → marks_of_obj x ≤ mark_limit → read_object (write_obj x) ≡ got x (length (write_obj x))

-- What is read is such an object, and its written text is no longer than the text read.
pub record ReadObject (s : List ℕ) (x : Obj) (e : ℕ) : Type 0 where
  pub is_obj : IsObj x
  pub marks : marks_of_obj x ≤ mark_limit
  pub ends : e ≡ length s
  pub no_longer : length (write_obj x) ≤ length s

abbrev pub ObjectsRead : Type 0
ObjectsRead = (s : List ℕ) (x : Obj) (e : ℕ) → read_object s ≡ got x e → ReadObject s x e

-- Equal bytes mean equal objects, however deep. (That equal objects have equal bytes needs no proof: writing is a function.)
abbrev pub EqualBytes : Type 0
EqualBytes = (x y : Obj) → IsObj x → IsObj y → write_obj x ≡ write_obj y → x ≡ y

-- A well-formed program is read from what is written of it.
abbrev pub ProgramsReadBack : Type 0
ProgramsReadBack = (P : Prog) → WellFormed P → read_program (write_program P) ≡ got P (length (write_program P))

pub record ReadProgram (s : List ℕ) (P : Prog) (e : ℕ) : Type 0 where
  pub well_formed : WellFormed P
  pub ends : e ≡ length s
  pub no_longer : length (write_program P) ≤ length s

abbrev pub ProgramsRead : Type 0
ProgramsRead = (s : List ℕ) (P : Prog) (e : ℕ) → read_program s ≡ got P e → ReadProgram s P e

-- So accepted means well formed with a written text of at most 8,192 bytes.
abbrev pub AcceptedMeans : Type 0
AcceptedMeans =
    (P : Prog)
    → (Accepted P → WellFormed P × (length (write_program P) ≤ program_limit)) × (WellFormed P → length (write_program P) ≤ program_limit → Accepted P)

-- Every program that reading accepts, and every result of a law used on one, is read from what is written of it.
abbrev pub AcceptedReadBack : Type 0
AcceptedReadBack = (P : Prog) → Accepted P → read_program (write_program P) ≡ got P (length (write_program P))

abbrev pub UsesReadBack : Type 0
UsesReadBack = (l : Law) (i : ℕ) (P Q : Prog) → Accepted P → apply_law l i P ≡ some Q → read_program (write_program Q) ≡ got Q (length (write_program Q))

-- A refusal has one of 01's numbers, and its place is in the text or its end.
pub record Refusal (s : List ℕ) (highest number place : ℕ) : Type 0 where
  pub low : 6 ≤ number
  pub high : number ≤ highest
  pub within : place ≤ length s

abbrev pub ObjectsRefused : Type 0
ObjectsRefused = (s : List ℕ) (n p : ℕ) → read_object s ≡ no n p → Refusal s 9 n p

abbrev pub ProgramsRefused : Type 0
ProgramsRefused = (s : List ℕ) (n p : ℕ) → read_program s ≡ no n p → Refusal s 11 n p

-- The bound on calls never decides what is read: any larger one reads the same.
abbrev pub CallsNeverDecide : Type 0
CallsNeverDecide =
    (s : List ℕ) (k : ℕ) → calls s ≤ k
    → (read_obj k s 0 mark_limit ≡ read_obj (calls s) s 0 mark_limit) × (read_definitions k s 0 ≡ read_definitions (calls s) s 0)
