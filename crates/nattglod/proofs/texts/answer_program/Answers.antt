-- The program is refused, or lies in the tables and the object follows.
use Rattle.nattglod.proofs.TextExits.{program_place, program_small, texts_no, texts_got}
use Rattle.nattglod.proofs.texts.answer_program.Goals as goal

pub at-requires : goal.at-requires
at-requires c = search program_place

pub answer_object-requires : goal.answer_object-requires
answer_object-requires c = search program_small

pub returns-in-Err : goal.returns-in-Err
returns-in-Err c = search texts_no

pub returns-in-Ok : goal.returns-in-Ok
returns-in-Ok c = search texts_got
