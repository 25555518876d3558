-- A run's contract allows one result only.
use mathlib.Core.Path.{sym, ◌∙◌}
use Rattle.nattglod.specs.Calls.{RunDetermined}

pub run_determined : RunDetermined
run_determined program object b lent r r' forms forms' cells cells' output output' p q =
    (p.answer ∙ sym q.answer, p.forms_after ∙ sym q.forms_after, p.cells_after ∙ sym q.cells_after, p.output_after ∙ sym q.output_after)
