-- `walk_opening` walks over what stands before a form's parts. Assumes nothing.
use Rattle.program_writer.proofs.Rows.{open_parts, open_bu, open_constant}
use Rattle.program_writer.proofs.forms.walk_opening.Goals as goal

pub returns-then-kind-le-WHILE-clause-wrote : goal.returns-then-kind-le-WHILE-clause-wrote
returns-then-kind-le-WHILE-clause-wrote c = search open_parts

pub returns-then-kind-gt-LAST_CONSTANT-clause-wrote : goal.returns-then-kind-gt-LAST_CONSTANT-clause-wrote
returns-then-kind-gt-LAST_CONSTANT-clause-wrote c = search open_bu

pub returns-clause-wrote : goal.returns-clause-wrote
returns-clause-wrote c = search open_constant
