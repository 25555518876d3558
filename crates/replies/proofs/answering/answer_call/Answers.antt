-- A run with the lent tables, and what is shown of it.
use native.Mathlib.Omega.{arith}
use lib.ListN.{length-take}
use Rattle.replies.proofs.Replying.{call_printed}
use Rattle.replies.proofs.answering.answer_call.Goals as goal

pub slice_bounds-run-end-2 : goal.slice_bounds-run-end-2
slice_bounds-run-end-2 c = simp length-take (omega arith)

pub returns : goal.returns
returns c = search call_printed
