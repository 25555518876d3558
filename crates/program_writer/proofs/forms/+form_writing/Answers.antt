use Rattle.program_writer.proofs.FormWalks.{form_out, form_done, part_plain, part_free, part_bracketed, parts_start, parts_turn, parts_done}
use Rattle.program_writer.proofs.forms.+form_writing.Goals as goal

pub walk_form-returns-then-i-ge-RECORDS-clause-wrote : goal.walk_form-returns-then-i-ge-RECORDS-clause-wrote
walk_form-returns-then-i-ge-RECORDS-clause-wrote t c = search form_out

pub walk_form-returns-clause-wrote : goal.walk_form-returns-clause-wrote
walk_form-returns-clause-wrote t c = search form_done

pub walk_part-returns-then-at-ne-CHAIN-clause-wrote : goal.walk_part-returns-then-at-ne-CHAIN-clause-wrote
walk_part-returns-then-at-ne-CHAIN-clause-wrote t c = search part_plain

pub walk_part-returns-then-not-takes_part-clause-wrote : goal.walk_part-returns-then-not-takes_part-clause-wrote
walk_part-returns-then-not-takes_part-clause-wrote t c = search part_free

pub walk_part-returns-clause-wrote : goal.walk_part-returns-clause-wrote
walk_part-returns-clause-wrote t c = search part_bracketed

pub walk_parts-loop-left-init : goal.walk_parts-loop-left-init
walk_parts-loop-left-init t c = search parts_start

pub walk_parts-loop-left-preserved : goal.walk_parts-loop-left-preserved
walk_parts-loop-left-preserved t c = search parts_turn

pub walk_parts-returns-clause-wrote : goal.walk_parts-returns-clause-wrote
walk_parts-returns-clause-wrote t c = search parts_done
