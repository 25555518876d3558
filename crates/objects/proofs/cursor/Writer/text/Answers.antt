-- A text without marks fits, and is put; or it is too long.
use Rattle.objects.proofs.Writes.{text_short, text_done}
use Rattle.objects.proofs.cursor.Writer.text.Goals as goal

pub returns-then-self-text-clause-walked : goal.returns-then-self-text-clause-walked
returns-then-self-text-clause-walked c = search text_short

pub returns-clause-walked : goal.returns-clause-walked
returns-clause-walked c = search text_done
