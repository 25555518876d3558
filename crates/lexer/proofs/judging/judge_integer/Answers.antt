-- `judge_integer` judges a number without a sign, a law for each way out. Assumes nothing.
use native.Mathlib.Omega.{arith}
use Prim.Native.Nat.{◌≤◌, ◌<◌}
use Rattle.lexer.proofs.Judged.{integer_mixed, integer_zero, integer_large, integer_good}
use Rattle.lexer.proofs.judging.judge_integer.Goals as goal

pub returns-then-not-all_pass : goal.returns-then-not-all_pass
returns-then-not-all_pass c = search integer_mixed

pub returns-then-has_leading_zero : goal.returns-then-has_leading_zero
returns-then-has_leading_zero c = search integer_zero

pub returns-then-v-gt-LARGEST : goal.returns-then-v-gt-LARGEST
returns-then-v-gt-LARGEST c =
    let h : 2147483647 < c.value-v.result = omega arith in
    search integer_large

pub returns : goal.returns
returns c =
    let h : c.value-v.result ≤ 2147483647 = omega arith in
    search integer_good
