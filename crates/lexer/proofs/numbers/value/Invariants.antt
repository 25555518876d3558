-- `value` gives the value of the digits, or 2,147,483,649 if it is that or more. The invariant: the value from the start is
-- the value of what is left with v before it. Assumes nothing.
use mathlib.Core.Path.{◌≡◌}
use Prim.Native.Nat.{◌≤◌, min}
use lib.ListN.{drop}
use Rattle.language.specs.Judging.{value_from}
use Rattle.lexer.proofs.numbers.value.Given as goal

abbrev pub invariant-loop-b : goal.invariant-loop-b
invariant-loop-b l = (min (value_from 0 l.digits) 2147483649 ≡ min (value_from l.v (drop l.b-index l.digits)) 2147483649) × (l.v ≤ 2147483648)
