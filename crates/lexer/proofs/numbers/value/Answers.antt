use Prim.Native.Nat.{◌+◌, ◌*◌}
use native.Mathlib.Omega.{arith}
use lib.ListN.{drop}
use Rattle.lexer.proofs.Values.{value_turn, value_end, value_grows}
use Rattle.lexer.proofs.numbers.value.Goals as goal

pub returns-then-v-gt-HALF : goal.returns-then-v-gt-HALF
returns-then-v-gt-HALF c =
    let s = c.args.digits.now in
    let l = c.loop-b in
    let t = rw (← c.digit.ensures.0) at (value_turn s l.v l.b-index c.loop-b-test.true) in
    let g = value_grows (l.v * 10 + c.digit.result) (drop (l.b-index + 1) s) in
    omega arith

pub loop-b-preserved : goal.loop-b-preserved
loop-b-preserved c =
    let t = rw (← c.digit.ensures.0) at (value_turn c.args.digits.now c.loop-b.v c.loop-b.b-index c.loop-b-test.true) in
    omega arith

pub returns : goal.returns
returns c =
    let t = value_end c.args.digits.now c.loop-b.v c.loop-b.b-index c.loop-b-test.false in
    omega arith
