use native.Mathlib.Omega.{arith}
use borrow.Author.Rules.{rules}
use Rattle.sequences.proofs.Spreading.{spread_none, spread_start, spread_next, spread_end}
use Rattle.sequences.proofs.rows.spread.Goals as goal

pub returns-then-n-eq0 : goal.returns-then-n-eq0
returns-then-n-eq0 c = search spread_none

pub loop-init : goal.loop-init
loop-init c = spread_start (search rules) (omega arith)

pub loop-preserved : goal.loop-preserved
loop-preserved c = search spread_next

pub returns : goal.returns
returns c = search spread_end
