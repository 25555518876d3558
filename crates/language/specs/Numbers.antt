-- The limits of document 01, each said once.
use Rattle.std.specs.Prelude.{ℕ, ◌*◌, Bool, ltb, ℤ, pos, negsuc}

-- Program text 8,192 bytes; object text 16,384; 2,048 forms; 128 definitions.
abbrev pub program_limit : ℕ
program_limit = 8192

abbrev pub object_limit : ℕ
object_limit = 16384

abbrev pub form_limit : ℕ
form_limit = 2048

abbrev pub definition_limit : ℕ
definition_limit = 128

-- 32 marks open at once, counting ( [ { < and the prefixes / @ %.
abbrev pub mark_limit : ℕ
mark_limit = 32

-- Steps up to 1,000,000, open names up to 256, cells up to 4,096.
abbrev pub step_limit : ℕ
step_limit = 1000000

abbrev pub name_limit : ℕ
name_limit = 256

abbrev pub cell_limit : ℕ
cell_limit = 4096

-- A form table of exactly 8,192 32-bit numbers; exactly four to each budgeted cell.
abbrev pub form_table_size : ℕ
form_table_size = 8192

abbrev pub cell_table_size : ℕ → ℕ
cell_table_size cells = 4 * cells

-- A written text has at most 16,384 bytes.
abbrev pub written_limit : ℕ
written_limit = 16384

-- A word has at most 12 characters; a selector's k is from 1 to 255.
abbrev pub word_limit : ℕ
word_limit = 12

abbrev pub selector_limit : ℕ
selector_limit = 255

-- Document 01 has one edition: how div rounds and which integers there are.
pub data Edition : Type 0 where
  one : Edition

-- Integers from -2147483648 to 2147483647: n and -(n + 1) for each n below this.
abbrev pub half : Edition → ℕ
half one = 2147483648

abbrev pub in_range : Edition → ℤ → Bool
in_range e (pos n) = ltb n (half e)
in_range e (negsuc n) = ltb n (half e)
