-- `div` answers as its word means.
use Rattle.std.proofs.Common.{arith, ◌+◌, ◌≡◌}
use Rattle.std.proofs.lemmas.Result.{err_from_is_err_and}
use Rattle.primitives.proofs.Numbered.{no_ints, on_div, div_end, div-zero}
use Rattle.primitives.proofs.numbers.div.Goals as goal

pub returns-in_err-both_integers : goal.returns-in_err-both_integers
returns-in_err-both_integers c =
    let p = err_from_is_err_and c.from_residual.result c.from_residual.ensures.1 in
    rw (p.1, p.2) (search (no_ints, on_div, c.in_err-both_integers.ensures))

pub returns-then-b-from-eq0 : goal.returns-then-b-from-eq0
returns-then-b-from-eq0 c =
    let zero : c.args.b.word + c.args.b.tag ≡ 0 = omega (arith, c.from.ensures, c.if-b-from-eq0.true) in
    rw c.bottom.ensures (search (div-zero, zero, c.in_ok-both_integers.ensures))

pub returns : goal.returns
returns c =
    let no : (c.args.b.word + c.args.b.tag ≡ 0) → ⊥ = λ z. omega (arith, c.from.ensures, c.if-b-from-eq0.false) in
    search (div_end, no, c.in_ok-both_integers.ensures)
