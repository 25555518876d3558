-- A walk answers by the scan of its object's text. Marks left to open are the measure, so that no premise is needed for it.
use Rattle.std.proofs.Common.{◌+◌, ◌-◌, ◌*◌}
use Rattle.objects.specs.Writings.{Kept}
use Rattle.objects.proofs.Writes.{PlacesLeft}
use Rattle.objects.proofs.cursor.Writer.+object_writing.Given as goal

abbrev pub decreases-object : goal.decreases-object
decreases-object l = 3 * (32 - l.opened)

abbrev pub decreases-place : goal.decreases-place
decreases-place l = 3 * (32 - l.opened) + 1

abbrev pub decreases-places : goal.decreases-places
decreases-places l = 3 * (32 - l.opened) + 2

abbrev pub invariant-places-loop : goal.invariant-places-loop
invariant-places-loop l = (Kept l.initial.self l.self) × (PlacesLeft l.c l.initial.s l.initial.self.out.now l.initial.self.at l.initial.self.cap l.opened l.end l.counter l.s l.self.at l.self.out.now)
