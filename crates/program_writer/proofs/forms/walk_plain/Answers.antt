-- `walk_plain` walks over a word, a selector or a name. Assumes nothing.
use Rattle.program_writer.proofs.Rows.{plain_word, plain_name, plain_right, plain_select}
use Rattle.program_writer.proofs.forms.walk_plain.Goals as goal

pub returns-then-kind-eq-WORD-clause-wrote : goal.returns-then-kind-eq-WORD-clause-wrote
returns-then-kind-eq-WORD-clause-wrote c = search plain_word

pub returns-then-kind-eq-NAME-clause-wrote : goal.returns-then-kind-eq-NAME-clause-wrote
returns-then-kind-eq-NAME-clause-wrote c = search plain_name

pub returns-then-kind-ne-SELECT_RIGHT-clause-wrote : goal.returns-then-kind-ne-SELECT_RIGHT-clause-wrote
returns-then-kind-ne-SELECT_RIGHT-clause-wrote c = search plain_select

pub returns-clause-wrote : goal.returns-clause-wrote
returns-clause-wrote c = search plain_right
