-- A value that is no sequence is walked over as its object is written.
use Rattle.std.proofs.lemmas.Result.{err_from_is_err_and}
use Rattle.objects.proofs.Writes.{atom_symbol, atom_number, atom_err, atom_negative}
use Rattle.objects.proofs.cursor.Writer.atom.Goals as goal

pub returns-then-tag-eq-SYMBOL-clause-walked : goal.returns-then-tag-eq-SYMBOL-clause-walked
returns-then-tag-eq-SYMBOL-clause-walked c = search atom_symbol

pub returns-then-tag-eq-POSITIVE-clause-walked : goal.returns-then-tag-eq-POSITIVE-clause-walked
returns-then-tag-eq-POSITIVE-clause-walked c = search atom_number

pub returns-in_err-mark-clause-walked : goal.returns-in_err-mark-clause-walked
returns-in_err-mark-clause-walked c = let p = err_from_is_err_and c.from_residual.result c.from_residual.ensures.1 in rw (p.1, p.2) (search (atom_err, c.in_err-mark.was))

pub returns-clause-walked : goal.returns-clause-walked
returns-clause-walked c = search (atom_negative, c.in_ok-mark.was)
