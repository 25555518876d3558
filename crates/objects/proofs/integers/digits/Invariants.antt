-- The digits of n stand at the end of the array. The invariant: what is left of n, and behind it the digits that stand.
use Rattle.objects.proofs.NumberTexts.{Spelling}
use Rattle.objects.proofs.integers.digits.Given as goal

abbrev pub invariant-loop-i : goal.invariant-loop-i
invariant-loop-i l = Spelling l.n l.a l.left l.i
