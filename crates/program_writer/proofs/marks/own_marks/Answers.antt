-- `own_marks` gives the marks of a record's own object. Assumes nothing.
use Rattle.program_writer.proofs.MarkWalks.{own_none, own_some}
use Rattle.program_writer.proofs.marks.own_marks.Goals as goal

pub returns-then-kind-lt-CONSTANT : goal.returns-then-kind-lt-CONSTANT
returns-then-kind-lt-CONSTANT c = search own_none

pub returns : goal.returns
returns c = search own_some
