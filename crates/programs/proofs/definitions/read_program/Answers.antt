-- `read_program` reads the definitions, and then refuses too many and names defined twice. Assumes nothing.
use Rattle.objects.proofs.Refused.{handed_on}
use Rattle.programs.proofs.Programs.{program_stops, program_forms, program_names, program_twice, program_is}
use Rattle.programs.proofs.definitions.read_program.Goals as goal

pub returns-in-Some : goal.returns-in-Some
returns-in-Some c = search (program_twice, c.in_ok-read.was)

pub returns-in-None : goal.returns-in-None
returns-in-None c = search (program_is, c.in_ok-read.was)

pub returns-in_err-read : goal.returns-in_err-read
returns-in_err-read c = search (program_stops, handed_on, c.in_err-read.was)

pub returns-then-read-gt-FORM_LIMIT : goal.returns-then-read-gt-FORM_LIMIT
returns-then-read-gt-FORM_LIMIT c = search (program_forms, c.in_ok-read.was)

pub returns-then-read-gt-DEFINITION_LIMIT : goal.returns-then-read-gt-DEFINITION_LIMIT
returns-then-read-gt-DEFINITION_LIMIT c = search (program_names, c.in_ok-read.was)
