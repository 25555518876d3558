-- The test of each class of bytes.
use Rattle.std.specs.Prelude.{ℕ, Bool}
use Rattle.language.specs.Tokens.{is_blank, is_digit, is_word_byte}
use Rattle.language.specs.Judging.{is_symbol_byte, is_name_byte}
use Rattle.lexer.specs.declared.Class.{Class}
use Rattle.lexer.specs.declared.Class.TheVariants.{Blank, Digit, Word, Symbol, Name}

abbrev pub test_of : Class → ℕ → Bool
test_of Blank = is_blank
test_of Digit = is_digit
test_of Word = is_word_byte
test_of Symbol = is_symbol_byte
test_of Name = is_name_byte
