-- 21 to 24 carry their number; a value is written.
use Rattle.nattglod.proofs.Ended.{end_stopped, end_wrote}
use Rattle.nattglod.proofs.ends.answer_end.Goals as goal

pub returns-in-Err : goal.returns-in-Err
returns-in-Err c = search end_stopped

pub returns-in-Ok : goal.returns-in-Ok
returns-in-Ok c = search end_wrote
