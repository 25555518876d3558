-- A turn that goes on leaves less of the text.
use Rattle.std.proofs.Common.{◌<◌, ◌∙◌, sym}
use Rattle.std.proofs.lemmas.Bool.{ltb-true}
use Rattle.stepper.specs.Steps.{next_of}
use Rattle.stepper.proofs.Ending.{steps_on}
use Rattle.words.proofs.show_all.Goals as goal

pub loop-r-smaller : goal.loop-r-smaller
loop-r-smaller g c =
    let told = ltb-true 0 c.word.result.length (sym c.in_ok-show.ensures ∙ c.if-branch.true) in
    let some : 0 < (next_of c.loop-r.r).length = rw (← c.word.ensures) told in
    rw c.behind-r.ensures (steps_on c.loop-r.r some)
