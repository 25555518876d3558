use Rattle.objects.proofs.Refused.{handed_on}
use Rattle.programs.proofs.Defining.{defining_starts, definitions_end, definition_requires, definitions_stop, definitions_next, definitions_less, definitions_count_fits}
use Rattle.programs.proofs.definitions.read_definitions.Goals as goal

pub loop-upto-init : goal.loop-upto-init
loop-upto-init c = search defining_starts

pub returns-then-next-s : goal.returns-then-next-s
returns-then-next-s c = search definitions_end

pub read_definition-requires : goal.read_definition-requires
read_definition-requires c = search definition_requires

pub returns-in_err-upto : goal.returns-in_err-upto
returns-in_err-upto c = search (definitions_stop, handed_on, c.in_err-upto.was)

pub overflow_add-k : goal.overflow_add-k
overflow_add-k c = search definitions_count_fits

pub loop-upto-smaller : goal.loop-upto-smaller
loop-upto-smaller c = search (definitions_less, c.in_ok-upto.was)

pub loop-upto-preserved : goal.loop-upto-preserved
loop-upto-preserved c = search (definitions_next, c.in_ok-upto.was)
