use Rattle.std.proofs.Common.{arith, rules}
use Rattle.objects.proofs.ObjectReads.{inside, object_word, object_full, object_empty, object_places, place_last, place_bad, place_more, place_no, going_start, going_on, going_no, going_last}
use Rattle.objects.proofs.Refused.{handed_on}
use Rattle.objects.proofs.reader.+object_reading.Goals as goal

pub read_object-returns-then-b-ne60 : goal.read_object-returns-then-b-ne60
read_object-returns-then-b-ne60 t c = search object_word

pub read_object-returns-then-room-eq0 : goal.read_object-returns-then-room-eq0
read_object-returns-then-room-eq0 t c = search object_full

pub read_object-overflow_add-p : goal.read_object-overflow_add-p
read_object-overflow_add-p t c =
    let w = inside c.args.s.now c.skip_blanks-p.result c.byte_at-b.result 60 c.byte_at-b.ensures c.if-b-ne60.false (omega arith) in
    omega arith

pub read_object-overflow_add-result : goal.read_object-overflow_add-result
read_object-overflow_add-result t c =
    let w = inside c.args.s.now c.skip_blanks-q.result c.byte_at-d.result 62 c.byte_at-d.ensures c.if-d-eq62.true (omega arith) in
    omega arith

pub read_object-returns-then-d-eq62 : goal.read_object-returns-then-d-eq62
read_object-returns-then-d-eq62 t c = search object_empty

pub read_object-read_places-requires : goal.read_object-read_places-requires
read_object-read_places-requires t c =
    let w = inside c.args.s.now c.skip_blanks-p.result c.byte_at-b.result 60 c.byte_at-b.ensures c.if-b-ne60.false (omega arith) in
    omega arith

pub read_object-returns : goal.read_object-returns
read_object-returns t c = search object_places

pub read_place-overflow_add-result : goal.read_place-overflow_add-result
read_place-overflow_add-result t c =
    let w = inside c.args.s.now c.skip_blanks-p.result c.byte_at-b.result 62 c.byte_at-b.ensures c.if-b-eq62.true (omega arith) in
    omega arith

pub read_place-returns-then-b-eq62 : goal.read_place-returns-then-b-eq62
read_place-returns-then-b-eq62 t c = search (place_last, c.in_ok-x.was)

pub read_place-returns-then-b-ne44 : goal.read_place-returns-then-b-ne44
read_place-returns-then-b-ne44 t c = search (place_bad, c.in_ok-x.was)

pub read_place-returns-in_err-x : goal.read_place-returns-in_err-x
read_place-returns-in_err-x t c = search (place_no, handed_on, c.in_err-x.was)

pub read_place-returns : goal.read_place-returns
read_place-returns t c = search (place_more, c.in_ok-x.was)

pub read_places-loop-next-init : goal.read_places-loop-next-init
read_places-loop-next-init t c = going_start (search rules)

pub read_places-returns-in_err-next : goal.read_places-returns-in_err-next
read_places-returns-in_err-next t c = search (going_no, handed_on, c.in_err-next.was)

pub read_places-returns-in-Last : goal.read_places-returns-in-Last
read_places-returns-in-Last t c = search (going_last, c.in_ok-next.was)

pub read_places-loop-next-preserved : goal.read_places-loop-next-preserved
read_places-loop-next-preserved t c = search (going_on, c.in_ok-next.was)
