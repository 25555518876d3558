-- `walk_ending` walks over the object of a `{f,x}` and the `}`, or over nothing. Assumes nothing.
use Rattle.program_writer.proofs.Rows.{end_none, end_bu}
use Rattle.program_writer.proofs.forms.walk_ending.Goals as goal

pub returns-then-kind-lt-BU-clause-wrote : goal.returns-then-kind-lt-BU-clause-wrote
returns-then-kind-lt-BU-clause-wrote c = search end_none

pub returns-clause-wrote : goal.returns-clause-wrote
returns-clause-wrote c = search end_bu
