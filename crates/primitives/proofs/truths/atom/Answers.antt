-- `atom` answers as its word means.
use Rattle.primitives.proofs.Judged.{atom_is}
use Rattle.primitives.proofs.truths.atom.Goals as goal

pub returns : goal.returns
returns c = search atom_is
