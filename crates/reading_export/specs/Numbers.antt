-- What a reading call answers, as one number: an answer's number times 2^32, and its place; with 20 how many forms or cells.
use Rattle.std.specs.Prelude.{ℕ, ◌+◌, ◌*◌, ◌%◌, cond, not, List, ltb, eqb, length}
use Rattle.language.specs.Numbers.{program_limit, object_limit, definition_limit, form_table_size}
use Rattle.language.specs.Objects.{Obj, cells_of}
use Rattle.language.specs.Forms.{Prog, forms_of}
use Rattle.language.specs.Reading.{Got, got, no, read_object, read_program}

abbrev pub joined : ℕ → ℕ → ℕ
joined number place = number * 4294967296 + place % 4294967296

abbrev pub program_answer : Got Prog → ℕ
program_answer (got P e) = joined 20 (forms_of P)
program_answer (no number place) = joined number place

abbrev pub object_answer : Got Obj → ℕ
object_answer (got x e) = joined 20 (cells_of x)
object_answer (no number place) = joined number place

-- 1 for a text that is too long, 5 for a table of another length; else what is read
unfoldable pub program_call : List ℕ → (forms definitions : ℕ) → ℕ
program_call s forms definitions =
    let read = program_answer (read_program s) in
    cond (ltb program_limit (length s)) (joined 1 0) (cond (not (eqb forms form_table_size)) (joined 5 0) (cond (not (eqb definitions (4 * definition_limit))) (joined 5 0) read))

-- 2 for a text that is too long; else what is read
unfoldable pub object_call : List ℕ → ℕ
object_call s =
    let read = object_answer (read_object s) in
    cond (ltb object_limit (length s)) (joined 2 0) read
