-- `link_one` meets its contract: a chain, a name, any other form.
use Rattle.linker.proofs.Walks.{one_plain, one_chain, one_name}
use Rattle.linker.proofs.link_one.Goals as goal

pub returns-in-5 : goal.returns-in-5
returns-in-5 c = search one_chain

pub returns-in-4 : goal.returns-in-4
returns-in-4 c = search one_name

pub returns-in_default : goal.returns-in_default
returns-in_default c = search one_plain
