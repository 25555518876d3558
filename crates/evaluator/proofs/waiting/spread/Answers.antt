use Rattle.evaluator.proofs.Spreads.{spread_start, spread_next, spread_end}
use Rattle.evaluator.proofs.waiting.spread.Goals as goal

pub loop-q-init : goal.loop-q-init
loop-q-init c = search spread_start

pub loop-q-preserved : goal.loop-q-preserved
loop-q-preserved c = search spread_next

pub returns : goal.returns
returns c = search spread_end
