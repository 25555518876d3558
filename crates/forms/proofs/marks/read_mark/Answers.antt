-- `read_mark` reads the mark, or refuses what stands there. Assumes nothing.
use Rattle.forms.proofs.Plains.{mark_is, mark_other}
use Rattle.forms.proofs.marks.read_mark.Goals as goal

pub returns-then-byte_at-b : goal.returns-then-byte_at-b
returns-then-byte_at-b c = search mark_other

pub returns : goal.returns
returns c = search mark_is
