use borrow.Author.Rules.{rules}
use native.Mathlib.Omega.{arith}
use Rattle.std.proofs.lemmas.Grind.{common_steps}
use Rattle.sequences.proofs.Listing.{list_start, list_next, list_end}
use Rattle.sequences.proofs.rows.listed.Goals as goal

pub loop-left-init : goal.loop-left-init
loop-left-init c = list_start (grind (arith, common_steps, c.checked_add.ensures)) (search rules)

pub loop-left-preserved : goal.loop-left-preserved
loop-left-preserved c = search list_next

pub returns : goal.returns
returns c = search list_end
