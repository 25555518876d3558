-- `read_bound` reads the object of `{f,x}` with the marks around it. Assumes nothing.
use Rattle.objects.proofs.Refused.{handed_on}
use Rattle.forms.proofs.Plains.{bound_stops, bound_no, bound_open, bound_is}
use Rattle.forms.proofs.plain.read_bound.Goals as goal

pub returns-in_err-a : goal.returns-in_err-a
returns-in_err-a c = search (bound_stops, handed_on, c.in_err-a.was)

pub returns-in_err-x : goal.returns-in_err-x
returns-in_err-x c = search (bound_no, handed_on, c.in_ok-a.was, c.in_err-x.was)

pub returns-in_err-next : goal.returns-in_err-next
returns-in_err-next c = search (bound_open, handed_on, c.in_ok-a.was, c.in_ok-x.was, c.in_err-next.was)

pub returns : goal.returns
returns c = search (bound_is, c.in_ok-a.was, c.in_ok-x.was, c.in_ok-next.was)
