-- `link_over` leads to the cell d further on.
use Rattle.sequences.proofs.Copying.{link_none, link_is}
use Rattle.sequences.proofs.lines.link_over.Goals as goal

pub returns-then-d-eq0 : goal.returns-then-d-eq0
returns-then-d-eq0 c = search link_none

pub returns : goal.returns
returns c = search link_is
