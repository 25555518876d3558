-- A mark fits, and is put; or there is no room for it.
use Rattle.objects.proofs.Writes.{mark_short, mark_done}
use Rattle.objects.proofs.cursor.Writer.mark.Goals as goal

pub returns-then-self-clause-walked : goal.returns-then-self-clause-walked
returns-then-self-clause-walked c = search mark_short

pub returns-clause-walked : goal.returns-clause-walked
returns-clause-walked c = search mark_done
