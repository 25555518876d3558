-- The walk that measures decides the answer; only where all fits does the same walk write.
use Rattle.std.proofs.Common.{arith, ◌≡◌, length}
use Rattle.std.proofs.lemmas.Result.{err_from_is_err_and}
use Rattle.objects.proofs.Writes.{write_err, write_done}
use Rattle.objects.proofs.writer.write_object.Goals as goal

pub returns-in_err-walk_object : goal.returns-in_err-walk_object
returns-in_err-walk_object c =
    let p = err_from_is_err_and c.from_residual.result c.from_residual.ensures.1 in
    let empty : length c.walk_object.new.out ≡ 0 = omega arith in
    rw (p.1, p.2) (write_err empty c.min-cap.ensures c.walk_object.ensures c.in_err-walk_object.was)

pub returns : goal.returns
returns c =
    let empty : length c.walk_object.new.out ≡ 0 = omega arith in
    write_done empty c.min-cap.ensures c.walk_object.ensures c.in_ok-walk_object.was c.walk_object-2.ensures
