use Rattle.program_writer.proofs.MarkWalks.{depth_out, depth_flat, depth_open, depth_plain, depth_free, depth_bracketed, depth_turn, depth_end}
use Rattle.program_writer.proofs.marks.+marks_of_forms.Goals as goal

pub form_marks-returns-then-i-ge-RECORDS : goal.form_marks-returns-then-i-ge-RECORDS
form_marks-returns-then-i-ge-RECORDS t c = search depth_out

pub form_marks-returns-then-row-lt-CONSTRUCT : goal.form_marks-returns-then-row-lt-CONSTRUCT
form_marks-returns-then-row-lt-CONSTRUCT t c = search depth_flat

pub form_marks-returns : goal.form_marks-returns
form_marks-returns t c = search depth_open

pub part_marks-returns-then-at-ne-CHAIN : goal.part_marks-returns-then-at-ne-CHAIN
part_marks-returns-then-at-ne-CHAIN t c = search depth_plain

pub part_marks-returns-then-not-takes_part : goal.part_marks-returns-then-not-takes_part
part_marks-returns-then-not-takes_part t c = search depth_free

pub part_marks-returns : goal.part_marks-returns
part_marks-returns t c = search depth_bracketed

pub parts_marks-loop-preserved : goal.parts_marks-loop-preserved
parts_marks-loop-preserved t c = search depth_turn

pub parts_marks-returns : goal.parts_marks-returns
parts_marks-returns t c = search depth_end
