-- `leaf` meets its contract.
use Rattle.evaluator.specs.Applying.{no_kind}
use Rattle.evaluator.proofs.Applies.{alone_word, alone_select, alone_select_right, alone_constant}
use Rattle.evaluator.proofs.alone.leaf.Goals as goal

pub returns-in-1 : goal.returns-in-1
returns-in-1 c = search alone_word

pub returns-in-2 : goal.returns-in-2
returns-in-2 c = search alone_select

pub returns-in-3 : goal.returns-in-3
returns-in-3 c = search alone_select_right

pub returns-in-12 : goal.returns-in-12
returns-in-12 c = search alone_constant

pub returns-in_default : goal.returns-in_default
returns-in_default c = rw c.bottom.ensures (search no_kind)
