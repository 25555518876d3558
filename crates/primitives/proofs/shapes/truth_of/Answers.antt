-- `truth_of` reads T, F or neither.
use Rattle.primitives.proofs.Shaped.{truth_read_t, truth_read_f, truth_other}
use Rattle.primitives.proofs.shapes.truth_of.Goals as goal

pub returns-in-20 : goal.returns-in-20
returns-in-20 c = search truth_read_t

pub returns-in-6 : goal.returns-in-6
returns-in-6 c = search truth_read_f

pub returns-in_default : goal.returns-in_default
returns-in_default c = search truth_other
