-- A word or number is what it is judged to be.
use Rattle.objects.proofs.ObjectReads.{atom_empty, atom_not, atom_is}
use Rattle.objects.proofs.reader.read_atom.Goals as goal

pub returns-then-n-eq0 : goal.returns-then-n-eq0
returns-then-n-eq0 c = search atom_empty

pub returns-in-Ok : goal.returns-in-Ok
returns-in-Ok c = search atom_is

pub returns-in-Err : goal.returns-in-Err
returns-in-Err c = atom_not c.size_at-n.ensures c.judge_atom.ensures c.in-Err.is
