-- 20, 25 or 26, by what became of writing.
use Rattle.nattglod.proofs.Written.{written_done, written_err, written_few}
use Rattle.nattglod.proofs.ends.answer_written.Goals as goal

pub overflow_cast-length : goal.overflow_cast-length
overflow_cast-length c = search written_few

pub returns-in-Ok : goal.returns-in-Ok
returns-in-Ok c = search written_done

pub returns-in-Err : goal.returns-in-Err
returns-in-Err c = search written_err
