-- The cycle of form and part readers meets its contracts. The measure is five times the text left, and 0 to 3 by how many calls
-- a function is from read_part. Each answer cites a law of proofs/. Assumes nothing.
use Prim.Native.Nat.{◌+◌, ◌*◌, ◌-◌}
use lib.ListN.{length}
use Rattle.forms.specs.Readers.{forms_at, parts_at}
use Rattle.forms.proofs.Rows.{Going}
use Rattle.forms.proofs.reader.+form_reading.Given as goal

abbrev pub decreases-read_branches : goal.decreases-read_branches
decreases-read_branches l = 5 * (length l.s.now - l.from.next) + 2

abbrev pub decreases-read_bu : goal.decreases-read_bu
decreases-read_bu l = 5 * (length l.s.now - l.from.next) + 1

abbrev pub decreases-read_chain : goal.decreases-read_chain
decreases-read_chain l = 5 * (length l.s.now - l.from.next) + 2

abbrev pub decreases-read_closed : goal.decreases-read_closed
decreases-read_closed l = 5 * (length l.s.now - l.from.next) + 2

abbrev pub decreases-read_condition : goal.decreases-read_condition
decreases-read_condition l = 5 * (length l.s.now - l.from.next) + 3

abbrev pub decreases-read_construct : goal.decreases-read_construct
decreases-read_construct l = 5 * (length l.s.now - l.from.next) + 3

abbrev pub decreases-read_form : goal.decreases-read_form
decreases-read_form l = 5 * (length l.s.now - l.from.next) + 1

abbrev pub decreases-read_forms : goal.decreases-read_forms
decreases-read_forms l = 5 * (length l.s.now - l.from.next) + 2

abbrev pub decreases-read_part : goal.decreases-read_part
decreases-read_part l = 5 * (length l.s.now - l.from.next)

abbrev pub decreases-read_parts : goal.decreases-read_parts
decreases-read_parts l = 5 * (length l.s.now - l.from.next) + 1

abbrev pub decreases-read_prefix : goal.decreases-read_prefix
decreases-read_prefix l = 5 * (length l.s.now - l.from.next) + 1

abbrev pub decreases-read_round : goal.decreases-read_round
decreases-read_round l = 5 * (length l.s.now - l.from.next) + 2

abbrev pub decreases-read_while : goal.decreases-read_while
decreases-read_while l = 5 * (length l.s.now - l.from.next) + 3

abbrev pub invariant-read_forms-loop-upto : goal.invariant-read_forms-loop-upto
invariant-read_forms-loop-upto l = Going forms_at l.s l.room l.fn.from.next l.fn.from.forms l.fn.from.cells l.initial.t l.initial.c l.upto.next l.upto.forms l.upto.cells l.count l.t l.c

abbrev pub decreases-read_forms-loop-upto : goal.decreases-read_forms-loop-upto
decreases-read_forms-loop-upto l = length l.s - l.upto.next

abbrev pub invariant-read_parts-loop-upto : goal.invariant-read_parts-loop-upto
invariant-read_parts-loop-upto l = Going parts_at l.s l.room l.fn.from.next l.fn.from.forms l.fn.from.cells l.initial.t l.initial.c l.upto.next l.upto.forms l.upto.cells l.count l.t l.c

abbrev pub decreases-read_parts-loop-upto : goal.decreases-read_parts-loop-upto
decreases-read_parts-loop-upto l = length l.s - l.upto.next
