-- `nattglod_run` gives what the run answered, and tells its six numbers.
use Rattle.c_calls.proofs.nattglod_run.Goals as goal

pub returns : goal.returns
returns c = record { result = c.run-r.result; run = c.run-r.ensures; telling = c.tell.ensures }
