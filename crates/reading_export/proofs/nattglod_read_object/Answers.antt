-- The text is read as the definitions read it, unless it is too long. Assumes nothing.
use Rattle.reading_export.proofs.Calls.{object_long, object_refuses, object_reads}
use Rattle.reading_export.proofs.nattglod_read_object.Goals as goal

pub returns-then-s-gt-OBJECT_LIMIT : goal.returns-then-s-gt-OBJECT_LIMIT
returns-then-s-gt-OBJECT_LIMIT c = search object_long

pub returns-in-Err : goal.returns-in-Err
returns-in-Err c = search object_refuses

pub returns-in-Ok : goal.returns-in-Ok
returns-in-Ok c = search object_reads
