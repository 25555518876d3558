-- `arranged` gives the places in the order that the code says.
use Rattle.primitives.proofs.Made.{arranged_tlr, arranged_reverse, arranged_rotl, arranged_rotr}
use Rattle.primitives.proofs.places.arranged.Goals as goal

pub returns-in-Tlr : goal.returns-in-Tlr
returns-in-Tlr c = search arranged_tlr

pub returns-in-Reverse : goal.returns-in-Reverse
returns-in-Reverse c = search arranged_reverse

pub returns-in-Rotl : goal.returns-in-Rotl
returns-in-Rotl c = search arranged_rotl

pub returns-in_default : goal.returns-in_default
returns-in_default c = search arranged_rotr
