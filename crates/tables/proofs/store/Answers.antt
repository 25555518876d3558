-- `tables::store` sets the number at an index; past the end nothing changes.
use lib.Seq.{set_out}
use mathlib.Core.Path.{sym}
use Rattle.tables.proofs.store.Goals as goal

pub returns-else-i-t : goal.returns-else-i-t
returns-else-i-t c = sym (set_out _ _ _ c.if-i-t.false)
