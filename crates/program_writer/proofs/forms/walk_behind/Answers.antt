-- `walk_behind` walks over what stands behind a part. Assumes nothing.
use Rattle.program_writer.proofs.Rows.{behind_walk}
use Rattle.program_writer.proofs.forms.walk_behind.Goals as goal

pub returns-clause-wrote : goal.returns-clause-wrote
returns-clause-wrote c = search behind_walk
