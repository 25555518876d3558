use native.Mathlib.Omega.{arith}
use lib.ListN.{length-set}
use Rattle.packing.proofs.Packed.{unpack_on, unpack_rest, unpack_out, unpack_full}
use Rattle.packing.proofs.unpack.Goals as goal

pub returns-then-left-eq0 : goal.returns-then-left-eq0
returns-then-left-eq0 c = search unpack_out

pub loop-i-preserved : goal.loop-i-preserved
loop-i-preserved c = (search unpack_on, search unpack_rest, simp length-set (omega arith), simp length-set (omega arith))

pub returns : goal.returns
returns c = search unpack_full
