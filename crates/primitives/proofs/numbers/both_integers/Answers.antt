-- `both_integers` tells two integers by their tags and sizes.
use Rattle.primitives.proofs.Shaped.{both_integers_lem, no_first, no_second}
use Rattle.primitives.proofs.numbers.both_integers.Goals.{else-is_integer-via-then-is_integer+else-is_integer-2, else-is_integer-via-else-is_integer}
use Rattle.primitives.proofs.numbers.both_integers.Goals as goal

pub returns-then-is_integer-2 : goal.returns-then-is_integer-2
returns-then-is_integer-2 c = search both_integers_lem

pub returns : goal.returns
returns c =
    rw c.bottom.ensures (elim c.else-is_integer.branch [
      | else-is_integer-via-then-is_integer+else-is_integer-2 w ↦ search no_second
      | else-is_integer-via-else-is_integer w ↦ search no_first
    ])
