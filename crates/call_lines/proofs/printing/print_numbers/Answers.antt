-- Six numbers, one behind the other.
use Rattle.call_lines.proofs.Lettered.{print_six}
use Rattle.call_lines.proofs.printing.print_numbers.Goals as goal

pub returns : goal.returns
returns c =
    print_six c.args.a c.requires c.print_number-number.ensures c.print_number-place.ensures c.print_number-text.ensures c.print_number-steps.ensures c.print_number-cells.ensures c.print_number.ensures
