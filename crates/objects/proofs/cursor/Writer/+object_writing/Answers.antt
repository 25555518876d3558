use Rattle.std.proofs.lemmas.Result.{err_from_is_err_and}
use Rattle.objects.proofs.Writes.{obj_deep, obj_err, obj_empty, obj_places, place_err, place_done, places_turn, places_err, places_end}
use Rattle.objects.proofs.cursor.Writer.+object_writing.Goals as goal

pub object-returns-then-opened-ge-MARK_LIMIT-clause-walked : goal.object-returns-then-opened-ge-MARK_LIMIT-clause-walked
object-returns-then-opened-ge-MARK_LIMIT-clause-walked t c = search obj_deep

pub object-returns-in_err-mark-clause-walked : goal.object-returns-in_err-mark-clause-walked
object-returns-in_err-mark-clause-walked t c = let p = err_from_is_err_and c.from_residual.result c.from_residual.ensures.1 in rw (p.1, p.2) (search (obj_err, c.in_err-mark.was))

pub object-returns-then-size-eq0-clause-walked : goal.object-returns-then-size-eq0-clause-walked
object-returns-then-size-eq0-clause-walked t c = search (obj_empty, c.in_ok-mark.was)

pub object-returns-clause-walked : goal.object-returns-clause-walked
object-returns-clause-walked t c = search (obj_places, c.in_ok-mark.was)

pub place-returns-in_err-object-clause-walked : goal.place-returns-in_err-object-clause-walked
place-returns-in_err-object-clause-walked t c = let p = err_from_is_err_and c.from_residual.result c.from_residual.ensures.1 in rw (p.1, p.2) (search (place_err, c.in_err-object.was))

pub place-returns-clause-walked : goal.place-returns-clause-walked
place-returns-clause-walked t c = search (place_done, c.in_ok-object.was)

pub places-loop-preserved : goal.places-loop-preserved
places-loop-preserved t c = search (places_turn, c.in_ok-place.was)

pub places-returns-in_err-place-clause-walked : goal.places-returns-in_err-place-clause-walked
places-returns-in_err-place-clause-walked t c = let p = err_from_is_err_and c.from_residual.result c.from_residual.ensures.1 in rw (p.1, p.2) (search (places_err, c.in_err-place.was))

pub places-returns-clause-walked : goal.places-returns-clause-walked
places-returns-clause-walked t c = search places_end
