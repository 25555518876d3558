-- `reserve` takes the cells of the word, or none.
use Rattle.std.proofs.lemmas.Result.{err_from_is_err_and}
use Rattle.primitives.proofs.Asked.{reserve_far, reserve_short, reserve_at}
use Rattle.primitives.proofs.asking.reserve.Goals as goal

pub returns-then-first-gt-CELL_LIMIT : goal.returns-then-first-gt-CELL_LIMIT
returns-then-first-gt-CELL_LIMIT c = search reserve_far

pub returns-in_err-meter : goal.returns-in_err-meter
returns-in_err-meter c =
    let p = err_from_is_err_and c.from_residual.result c.from_residual.ensures.1 in
    let a = rw (c.from.ensures, c.from-2.ensures) at c.cells_by.ensures in
    rw (p.1, p.2) (reserve_short _ c.rule.ensures a c.clipped-need.ensures c.in_err-meter.ensures)

pub returns : goal.returns
returns c =
    let a = rw (c.from.ensures, c.from-2.ensures) at c.cells_by.ensures in
    reserve_at _ c.free_cell-first.ensures c.if-first-gt-CELL_LIMIT.false c.rule.ensures a c.clipped-need.ensures c.in_ok-meter.ensures
