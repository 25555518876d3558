-- `apply_main` meets its contract: what `evaluate` ensures of the linked table.
use Rattle.program_runner.proofs.Mains.{main_applied}
use Rattle.program_runner.proofs.apply_main.Goals as goal

pub returns : goal.returns
returns c = search main_applied
