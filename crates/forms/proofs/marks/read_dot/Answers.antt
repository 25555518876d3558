-- `read_dot` says whether a dot follows. Assumes nothing.
use Rattle.forms.proofs.Plains.{dot_is, dot_none}
use Rattle.forms.proofs.marks.read_dot.Goals as goal

pub returns-then-byte_at-ne46 : goal.returns-then-byte_at-ne46
returns-then-byte_at-ne46 c = search dot_none

pub returns : goal.returns
returns c = search dot_is
