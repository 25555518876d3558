-- The text's bytes are put into the output, and a line feed behind them.
use Rattle.call_lines.proofs.Lettered.{print_line}
use Rattle.call_lines.proofs.printing.print_text.Goals as goal

pub returns : goal.returns
returns c = search print_line
