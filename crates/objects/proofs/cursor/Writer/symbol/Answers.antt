-- A symbol is walked over as it was before it was packed.
use Rattle.objects.proofs.Symbols.{symbol_walk}
use Rattle.objects.proofs.cursor.Writer.symbol.Goals as goal

pub returns-clause-walked : goal.returns-clause-walked
returns-clause-walked c = search symbol_walk
