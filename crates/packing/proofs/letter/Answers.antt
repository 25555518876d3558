-- `letter` gives a byte as a digit of a packed word. Assumes nothing.
use mathlib.Core.Path.{◌≡◌}
use Prim.Native.Nat.{◌<◌}
use native.Mathlib.Omega.{arith}
use Rattle.packing.specs.Packing.{letter_of}
use Rattle.packing.proofs.Packed.{letter_low, letter_upper, letter_lower}
use Rattle.packing.proofs.letter.Goals.{in-0-to-57, in-0-to-90, in_default}
use Rattle.packing.proofs.letter.Goals as goal

pub returns : goal.returns
returns c =
    let b = c.args.b in
    let e : letter_of b ≡ c.if-b-lt58.from = elim c.if-b-lt58.branch [ in-0-to-57 w ↦ rw (letter_low b (omega arith)) (omega arith) | in-0-to-90 w ↦ rw (letter_upper b (omega arith) (omega arith)) (omega arith) | in_default w ↦ rw (letter_lower b (omega arith)) (omega arith) ] in
    let f : c.if-b-lt58.from < 37 = elim c.if-b-lt58.branch [ in-0-to-57 w ↦ omega arith | in-0-to-90 w ↦ omega arith | in_default w ↦ omega arith ] in
    (omega arith, omega arith)
