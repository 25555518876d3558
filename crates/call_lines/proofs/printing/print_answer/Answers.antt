-- Six numbers, and after 20 the text behind them.
use Rattle.call_lines.proofs.Lettered.{show_numbers, show_text}
use Rattle.call_lines.proofs.printing.print_answer.Goals as goal

pub returns-then-a-ne-DONE : goal.returns-then-a-ne-DONE
returns-then-a-ne-DONE c = search show_numbers

pub returns : goal.returns
returns c = search show_text
