-- `two` reads the two values of a pair.
use Rattle.primitives.proofs.Shaped.{two_atom, two_size, two_is}
use Rattle.primitives.proofs.shapes.two.Goals.{then-v-ne-SEQUENCE-via-then-v-ne-SEQUENCE, then-v-ne-SEQUENCE-via-else-v-ne-SEQUENCE+then-size-ne2}
use Rattle.primitives.proofs.shapes.two.Goals as goal

pub returns-then-v-ne-SEQUENCE : goal.returns-then-v-ne-SEQUENCE
returns-then-v-ne-SEQUENCE c =
    elim c.then-v-ne-SEQUENCE.branch [
      | then-v-ne-SEQUENCE-via-then-v-ne-SEQUENCE w ↦ search two_atom
      | then-v-ne-SEQUENCE-via-else-v-ne-SEQUENCE+then-size-ne2 w ↦ search two_size
    ]

pub returns : goal.returns
returns c = search two_is
