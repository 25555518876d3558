-- The digits of n are walked over as the definitions write them.
use Rattle.objects.proofs.Writes.{decimal_walk}
use Rattle.objects.proofs.cursor.Writer.decimal.Goals as goal

pub returns-clause-walked : goal.returns-clause-walked
returns-clause-walked c = search decimal_walk
