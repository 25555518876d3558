-- `tables::put_record` writes four numbers where there is room, else none.
use native.Mathlib.Omega.{arith}
use mathlib.Core.Path.{sym}
use Rattle.tables.proofs.Records.{four_are, record_none}
use Rattle.tables.proofs.put_record.Goals as goal

pub returns-then-i-t : goal.returns-then-i-t
returns-then-i-t c = four_are _ _ _ _ _ _ _ (omega arith) (omega arith)

pub returns-else-i-t : goal.returns-else-i-t
returns-else-i-t c = sym (record_none _ _ _ _ _ _ (omega arith))
