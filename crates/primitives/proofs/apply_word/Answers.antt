-- `apply_word` answers as the word with the code means; past the table it gives bottom.
use Rattle.primitives.proofs.Dispatched.{coded_as, coded_past}
use Rattle.primitives.proofs.apply_word.Goals as goal

pub returns-in-Ok : goal.returns-in-Ok
returns-in-Ok c = coded_as _ c.in-Ok.ensures c.apply.ensures

pub returns-in-Err : goal.returns-in-Err
returns-in-Err c = rw c.bottom.ensures (coded_past c.in-Err.ensures.1)
