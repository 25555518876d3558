-- `unpack` writes a packed word's bytes in front. The invariant: the word is what is written and what is left of the number. Assumes
-- nothing.
use mathlib.Core.Path.{◌≡◌}
use mathlib.Core.List.{◌++◌}
use Prim.Native.Nat.{◌-◌, ◌≤◌}
use lib.ListN.{length, take, drop}
use Rattle.packing.specs.Packing.{unpacked_from, unpacked}
use Rattle.packing.proofs.unpack.Given as goal

abbrev pub invariant-loop-i : goal.invariant-loop-i
invariant-loop-i l = (unpacked l.case l.v ≡ take l.i l.out ++ unpacked_from l.case (12 - l.i) l.left) × (drop l.i l.out ≡ drop l.i l.initial.out) × (12 ≤ length l.out) × (length l.out ≡ length l.initial.out)
