-- `spread` meets its contract: the invariant is `Spreading`.
use Rattle.evaluator.proofs.Spreads.{Spreading}
use Rattle.evaluator.proofs.waiting.spread.Given as goal

abbrev pub invariant-loop-q : goal.invariant-loop-q
invariant-loop-q l = Spreading l.c l.initial.w l.top l.many l.initial.s l.w l.s l.q
