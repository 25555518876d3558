-- A text is cut at the first b, or it is one piece.
use Rattle.std.proofs.Common.{refl}
use Rattle.call_lines.proofs.Splits.{found, not_found}
use Rattle.call_lines.proofs.cutting.cut.Goals as goal

pub returns-in_err-at : goal.returns-in_err-at
returns-in_err-at c = rw c.from_residual.ensures (not_found _ _ c.find.ensures c.in_err-at.was)

pub returns : goal.returns
returns c = found _ _ _ _ refl c.find.ensures c.in_ok-at.was
