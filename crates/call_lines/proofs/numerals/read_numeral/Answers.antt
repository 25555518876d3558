-- A numeral is read as its value; all else is refused.
use Rattle.call_lines.proofs.Spelled.{one_digit, no_leading}
use Rattle.call_lines.proofs.numerals.read_numeral.Goals as goal

pub returns-then-n-eq1 : goal.returns-then-n-eq1
returns-then-n-eq1 c = search one_digit

pub returns : goal.returns
returns c = search no_leading
