use native.Mathlib.Omega.{arith}
use Rattle.packing.proofs.Packed.{packed_none, packed_turn, packed_fits, packed_done}
use Rattle.packing.proofs.pack.Goals as goal

pub loop-b-init : goal.loop-b-init
loop-b-init c = packed_none _ _ (cc)

pub overflow_mul-v : goal.overflow_mul-v
overflow_mul-v c = let h = packed_fits _ _ _ _ _ c.loop-b.invariant c.in-Some.ensures.steps c.requires in omega arith

pub overflow_add-v : goal.overflow_add-v
overflow_add-v c = let h = packed_fits _ _ _ _ _ c.loop-b.invariant c.in-Some.ensures.steps c.requires in omega arith

pub loop-b-preserved : goal.loop-b-preserved
loop-b-preserved c = packed_turn _ _ _ _ _ c.loop-b.invariant c.in-Some.ensures.steps c.letter.ensures.0

pub returns : goal.returns
returns c = packed_done c.loop-b.invariant c.in-None.ensures.steps.0
