-- `size_at` gives the length of what stands at p, a law for each way out. Assumes nothing.
use Rattle.lexer.proofs.Sizes.{sized_past, sized_word, sized_other, sized_number, sized_arrow, sized_dash}
use Rattle.lexer.proofs.reader.size_at.Goals as goal

pub returns-then-s-p : goal.returns-then-s-p
returns-then-s-p c = search sized_past

pub returns-then-is_word_byte : goal.returns-then-is_word_byte
returns-then-is_word_byte c = search sized_word

pub returns-then-b-ne45 : goal.returns-then-b-ne45
returns-then-b-ne45 c = search sized_other

pub returns-then-is_digit : goal.returns-then-is_digit
returns-then-is_digit c = search sized_number

pub returns-in-62 : goal.returns-in-62
returns-in-62 c = search sized_arrow

pub returns-in_default-2 : goal.returns-in_default-2
returns-in_default-2 c = search sized_dash
