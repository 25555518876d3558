-- A whole text is one object with nothing but blanks behind it, or is refused as the definitions do.
use Rattle.objects.proofs.Refused.{handed_on}
use Rattle.objects.proofs.ObjectReads.{whole_no, whole_end, whole_more}
use Rattle.objects.proofs.reader.read_whole_object.Goals as goal

pub returns-in_err-x : goal.returns-in_err-x
returns-in_err-x c = search (whole_no, handed_on, c.in_err-x.was)

pub returns-then-next-s : goal.returns-then-next-s
returns-then-next-s c = search (whole_more, c.in_ok-x.was)

pub returns : goal.returns
returns c = search (whole_end, c.in_ok-x.was)
