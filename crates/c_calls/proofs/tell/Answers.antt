-- `c_calls::tell` copies as many of the six numbers as there is room for.
use Rattle.c_calls.proofs.Tellings.{told_is}
use Rattle.c_calls.proofs.tell.Goals as goal

pub returns : goal.returns
returns c = told_is c.min-n.ensures c.copy_from_slice.ensures.after
