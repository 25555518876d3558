use borrow.Author.Rules.{rules}
use Rattle.std.proofs.lemmas.Result.{err_from_is_err_and}
use Rattle.equality.proofs.Comparisons.{look_out, look_atoms, look_apart, look_places, place_next, place_differ, place_out, place_longer, place_end, below_look}
use Rattle.equality.proofs.+comparison.Goals as goal

pub places-returns-then-size-eq0 : goal.places-returns-then-size-eq0
places-returns-then-size-eq0 t c = search place_longer

pub places-returns-in_err-seen : goal.places-returns-in_err-seen
places-returns-in_err-seen t c = let p = err_from_is_err_and c.from_residual.result c.from_residual.ensures.1 in rw (p.1, p.2) (search (place_out, c.in_err-seen.ensures))

pub places-returns-then-not-seen : goal.places-returns-then-not-seen
places-returns-then-not-seen t c = search (place_differ, c.in_ok-seen.ensures)

pub places-loop-p-preserved : goal.places-loop-p-preserved
places-loop-p-preserved t c = search (place_next, c.in_ok-seen.ensures)

pub places-returns : goal.places-returns
places-returns t c = search place_end

pub same-returns-in_err-meter : goal.same-returns-in_err-meter
same-returns-in_err-meter t c = let p = err_from_is_err_and c.from_residual.result c.from_residual.ensures.1 in rw (p.1, p.2) (search (look_out, c.in_err-meter.ensures))

pub same-returns-then-a-b : goal.same-returns-then-a-b
same-returns-then-a-b t c = search (look_apart, c.in_ok-meter.ensures)

pub same-places-requires : goal.same-places-requires
same-places-requires t c = search (below_look, rules, c.in_ok-meter.ensures)

pub same-returns-then-a-eq-SEQUENCE : goal.same-returns-then-a-eq-SEQUENCE
same-returns-then-a-eq-SEQUENCE t c = search (look_places, c.in_ok-meter.ensures)

pub same-returns : goal.same-returns
same-returns t c = search (look_atoms, c.in_ok-meter.ensures)
