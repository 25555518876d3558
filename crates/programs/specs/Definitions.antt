-- What the readers of definitions answer, and what the table of definitions holds then.
use Rattle.std.specs.Prelude.{ℕ, zero, suc, ◌+◌, ◌*◌, ◌≤◌, ◌<◌, ◌≡◌, Bool, List, [], ◌∷◌, map, length, get_or, Option, Some, None, Result, Ok, Err}
use Rattle.language.specs.Forms.{Prog, forms_of, program_cells}
use Rattle.language.specs.Accepted.{IsName}
use Rattle.packing.specs.Packing.{packed}
use Rattle.language.specs.Reading.{Got, got, no, Placed, program_of, is_in, none_twice, calls, read_definitions}
use Rattle.tables.specs.Tables.{put, field, record_put}
use Rattle.formtable.specs.Encoding.{low_of, high_of, encode_program, program_constants, encode_definitions}
use Rattle.forms.specs.declared.Upto.{Upto}
use Rattle.language.specs.declared.refusals.RefusedText.{RefusedText}
use Rattle.language.specs.Refusals.{refused_at}
use Rattle.programs.specs.declared.ProgramRead.{ProgramRead}
use Rattle.forms.specs.Readings.{Run, Laid, FormLaid}

-- the names, in order
abbrev pub names_of : List Placed → List (List ℕ)
names_of ds = map (λ (d : Placed). d.def.called) ds

abbrev pub defined_name : List Placed → ℕ → List ℕ
defined_name ds i = get_or (names_of ds) i []

abbrev pub place_at : List Placed → ℕ → ℕ
place_at ds i = get_or (map (λ (d : Placed). d.place) ds) i 0

pub data AllNamed : List Placed → Type 0 where
  none_named : AllNamed []
  more_named : {d : Placed} {ds : List Placed} → IsName d.def.called → AllNamed ds → AllNamed (d ∷ ds)

pub record DefinitionPut (k name root place : ℕ) (d d' : List ℕ) : Type 0 where
  pub is : d' ≡ record_put d k (low_of name) (high_of name) root place

-- one definition: its body from record n on, its own record k
pub data PlacedMet (n c k : ℕ) (t u d : List ℕ) (r : Result Upto RefusedText) (t' u' d' : List ℕ) : Got Placed → Type 0 where
  placed_read : {q : Placed} {e : ℕ} {x : Upto} → r ≡ Ok x → x.next ≡ e → IsName q.def.called → FormLaid q.def.body n c t u x t' u' → Run (encode_definitions n (q ∷ [])) k d (k + 1) d' → PlacedMet n c k t u d r t' u' d' (got q e)
  placed_refused : {j p : ℕ} → r ≡ Err (refused_at j p) → PlacedMet n c k t u d r t' u' d' (no j p)

-- all definitions, from the first records on
pub data DefinitionsMet (t u d : List ℕ) (r : Result ProgramRead RefusedText) (t' u' d' : List ℕ) : Got (List Placed) → Type 0 where
  definitions_read : {ds : List Placed} {e : ℕ} {w : ProgramRead} → r ≡ Ok w → w.definitions ≡ length ds → AllNamed ds → Laid (encode_program 0 (program_of ds)) (program_constants 0 (program_of ds)) 0 0 t u w.forms w.cells t' u' → Run (encode_definitions 0 ds) 0 d w.definitions d' → DefinitionsMet t u d r t' u' d' (got ds e)
  definitions_refused : {j p : ℕ} → r ≡ Err (refused_at j p) → DefinitionsMet t u d r t' u' d' (no j p)

-- ---- names that are defined twice
-- the names before definition i, the nearest first
unfoldable pub earlier_of : List Placed → ℕ → List (List ℕ)
earlier_of ds zero = []
earlier_of ds (suc i) = defined_name ds i ∷ earlier_of ds i

-- the table holds the names and places of the definitions
pub record Listed (d : List ℕ) (ds : List Placed) : Type 0 where
  pub low : (i : ℕ) → i < length ds → get_or d (i * 4) 0 ≡ low_of (packed (defined_name ds i))
  pub high : (i : ℕ) → i < length ds → field d i 1 ≡ high_of (packed (defined_name ds i))
  pub place : (i : ℕ) → i < length ds → field d i 3 ≡ place_at ds i
  pub named : (i : ℕ) → i < length ds → IsName (defined_name ds i)

pub record Compared (d : List ℕ) (i : ℕ) (r : Bool) : Type 0 where
  pub means : (ds : List Placed) → Listed d ds → i < length ds → r ≡ is_in (defined_name ds i) (earlier_of ds i)

abbrev pub twice_of : Option ℕ → Got Prog → Got Prog
twice_of (Some p) good = no 11 p
twice_of None good = good

pub record TwiceMet (d : List ℕ) (n : ℕ) (r : Option ℕ) : Type 0 where
  pub means : (ds : List Placed) (good : Got Prog) → Listed d ds → length ds ≡ n → none_twice [] ds good ≡ twice_of r good

-- ---- a whole program
-- P was read, and ends at e: its k definitions, n forms and c cells of constants, and what the tables hold
pub record ProgramLaid (s : List ℕ) (P : Prog) (e : ℕ) (t u d : List ℕ) (k n c : ℕ) (t' u' d' : List ℕ) : Type 0 where
  pub placed : List Placed
  pub read : read_definitions (calls s) s 0 ≡ got placed e
  pub program : P ≡ program_of placed
  pub definitions : k ≡ length P
  pub forms : n ≡ forms_of P
  pub cells : c ≡ program_cells P
  pub table : t' ≡ put t 0 (encode_program 0 P)
  pub names : d' ≡ put d 0 (encode_definitions 0 placed)
  pub constants : program_cells P * 4 ≤ length u → u' ≡ put u 0 (program_constants 0 P)
  pub long : length u' ≡ length u

pub data ProgramMet (s t u d : List ℕ) (r : Result ProgramRead RefusedText) (t' u' d' : List ℕ) : Got Prog → Type 0 where
  program_read : {Q : Prog} {e : ℕ} {w : ProgramRead} → r ≡ Ok w → ProgramLaid s Q e t u d w.definitions w.forms w.cells t' u' d' → ProgramMet s t u d r t' u' d' (got Q e)
  program_refused : {j p : ℕ} → r ≡ Err (refused_at j p) → ProgramMet s t u d r t' u' d' (no j p)
