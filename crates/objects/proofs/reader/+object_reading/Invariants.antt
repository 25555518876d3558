-- An object, one place and all places of a sequence are read as the definitions read them, for any bound on calls that is
-- enough. Marks left to open are the measure; what is left of the text is the measure of the loop.
use Rattle.std.proofs.Common.{◌+◌, ◌-◌, ◌*◌, length}
use Rattle.objects.proofs.ObjectReads.{Going}
use Rattle.objects.proofs.reader.+object_reading.Given as goal

abbrev pub decreases-read_object : goal.decreases-read_object
decreases-read_object l = 3 * l.room

abbrev pub decreases-read_place : goal.decreases-read_place
decreases-read_place l = 3 * l.room + 1

abbrev pub decreases-read_places : goal.decreases-read_places
decreases-read_places l = 3 * l.room + 2

abbrev pub invariant-read_places-loop-next : goal.invariant-read_places-loop-next
invariant-read_places-loop-next l = Going l.s l.from l.room l.used l.initial.c l.c l.at l.cell l.n

abbrev pub decreases-read_places-loop-next : goal.decreases-read_places-loop-next
decreases-read_places-loop-next l = length l.s - l.at
