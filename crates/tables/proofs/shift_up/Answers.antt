-- `tables::shift_up` copies the records one record up where there is room, else none.
use native.Mathlib.Omega.{arith}
use mathlib.Core.Path.{sym, ◌∙◌}
use Rattle.tables.proofs.Records.{shift_copied, shift_full, shift_none}
use Rattle.tables.proofs.shift_up.Goals.{else-from-to-via-then-from-to+else-to-t, else-from-to-via-else-from-to}
use Rattle.tables.proofs.shift_up.Goals as goal

pub returns-then-to-t : goal.returns-then-to-t
returns-then-to-t c = c.copy_within.ensures.after ∙ shift_copied _ _ _ c.if-from-to.true c.if-to-t.true

pub returns-else-from-to : goal.returns-else-from-to
returns-else-from-to c = elim c.else-from-to.branch [
  | else-from-to-via-then-from-to+else-to-t w ↦ sym (shift_full _ _ _ (omega arith))
  | else-from-to-via-else-from-to w ↦ sym (shift_none _ _ _ w.if-from-to.false)
]
