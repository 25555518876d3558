-- The digits stand at the end of the array; they are put into the output, and the byte behind them.
use Rattle.call_lines.proofs.Lettered.{room_behind, print_one}
use Rattle.call_lines.proofs.printing.print_number.Goals as goal

pub bounds-out-end : goal.bounds-out-end
bounds-out-end c = search room_behind

pub returns : goal.returns
returns c = search print_one
