-- `read_body` reads a form with the marks around it. Assumes nothing.
use borrow.Author.Rules.{rules}
use Rattle.objects.proofs.Refused.{handed_on}
use Rattle.programs.proofs.Bodies.{body_stops, body_no, body_open, body_is, body_ready, body_mark_requires}
use Rattle.programs.proofs.definitions.read_body.Goals as goal

pub returns-in_err-a : goal.returns-in_err-a
returns-in_err-a c = search (body_stops, handed_on, c.in_err-a.was)

pub read_form-requires : goal.read_form-requires
read_form-requires c = search (body_ready, c.in_ok-a.was)

pub returns-in_err-x : goal.returns-in_err-x
returns-in_err-x c = search (body_no, handed_on, c.in_ok-a.was, c.in_err-x.was)

pub read_mark-requires-2 : goal.read_mark-requires-2
read_mark-requires-2 c = (search rules, search (body_mark_requires, c.in_ok-a.was, c.in_ok-x.was))

pub returns-in_err-next : goal.returns-in_err-next
returns-in_err-next c = search (body_open, handed_on, c.in_ok-a.was, c.in_ok-x.was, c.in_err-next.was)

pub returns : goal.returns
returns c = search (body_is, c.in_ok-a.was, c.in_ok-x.was, c.in_ok-next.was)
