-- `main_root` meets its contract: `root_of` at the number that `main` is packed as.
use Rattle.program_runner.proofs.Mains.{main_packed}
use Rattle.program_runner.proofs.main_root.Goals as goal

pub returns : goal.returns
returns c = search main_packed
