-- A turn that goes on leaves less of the text, so stepping through a text ends.
use Rattle.stepper.specs.Steps.{left}
use Rattle.words.proofs.show_all.Given as goal

abbrev pub decreases-loop-r : goal.decreases-loop-r
decreases-loop-r g l = left l.r
