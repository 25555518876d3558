-- The object is refused, or takes more cells than are budgeted, or stands behind the program and is run on.
use Rattle.nattglod.proofs.TextExits.{object_place, object_answered_no, object_answered_few, object_answered_run}
use Rattle.nattglod.proofs.texts.answer_object.Goals as goal

pub at-requires : goal.at-requires
at-requires c = search object_place

pub returns-in-Err : goal.returns-in-Err
returns-in-Err c = search object_answered_no

pub returns-then-b-x : goal.returns-then-b-x
returns-then-b-x c = search object_answered_few

pub returns : goal.returns
returns c = search object_answered_run
