use Rattle.linker.proofs.Walks.{link_start, link_next}
use Rattle.linker.proofs.link.Goals as goal

pub loop-i-init : goal.loop-i-init
loop-i-init c = search link_start

pub loop-i-preserved : goal.loop-i-preserved
loop-i-preserved c = link_next c.loop-i-test.true c.loop-i.invariant (rw (← c.new-names.ensures.definitions, ← c.new-names.ensures.count) c.link_one.ensures) c.link_one.auto.t
