-- A text that is not too long may be read.
use Rattle.std.proofs.Common.{arith, rules}
use Rattle.reread.proofs.rereading.reread_program.Goals as goal

pub read_program-requires : goal.read_program-requires
read_program-requires c = (omega arith, search rules, search rules)
