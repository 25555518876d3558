-- `read_test` says what follows the first form in `( )`. Assumes nothing.
use Rattle.forms.proofs.Plains.{test_arrow, test_loop, test_close, test_else}
use Rattle.forms.proofs.marks.read_test.Goals as goal

pub returns-then-is_arrow : goal.returns-then-is_arrow
returns-then-is_arrow c = search test_arrow

pub returns-in-63 : goal.returns-in-63
returns-in-63 c = search test_loop

pub returns-in-41 : goal.returns-in-41
returns-in-41 c = search test_close

pub returns-in_default : goal.returns-in_default
returns-in_default c = search test_else
