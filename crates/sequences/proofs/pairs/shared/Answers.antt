use borrow.Author.Rules.{rules}
use native.Mathlib.Omega.{arith}
use Rattle.sequences.proofs.Sharing.{share_none, share_long, share_far, share_start, share_next, share_end}
use Rattle.sequences.proofs.pairs.shared.Goals.{then-n-via-then-n, then-n-via-else-n+then-p-n}
use Rattle.sequences.proofs.pairs.shared.Goals as goal

pub returns-then-n-eq0 : goal.returns-then-n-eq0
returns-then-n-eq0 c = search share_none

pub returns-then-n : goal.returns-then-n
returns-then-n c = elim c.then-n.branch [ then-n-via-then-n w ↦ share_long w.if-n.true | then-n-via-else-n+then-p-n w ↦ share_far w.if-p-n.true ]

pub loop-init : goal.loop-init
loop-init c = share_start (search rules) (omega arith) (omega arith)

pub loop-preserved : goal.loop-preserved
loop-preserved c = search share_next

pub returns : goal.returns
returns c = search share_end
