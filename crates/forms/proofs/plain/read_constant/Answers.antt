-- `read_constant` reads an object to the cells and puts its value in a record. Assumes nothing.
use Rattle.objects.proofs.Refused.{handed_on}
use Rattle.forms.proofs.Plains.{constant_stops, constant_is}
use Rattle.forms.proofs.plain.read_constant.Goals as goal

pub returns-in_err-x : goal.returns-in_err-x
returns-in_err-x c = search (constant_stops, handed_on, c.in_err-x.was)

pub returns : goal.returns
returns c = search (constant_is, c.in_ok-x.was)
