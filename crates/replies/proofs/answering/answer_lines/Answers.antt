-- The reply to three lines: the budgets are read, and then the call is run.
use Rattle.replies.proofs.Replying.{no_budgets, with_budgets}
use Rattle.replies.proofs.answering.answer_lines.Goals as goal

pub returns-in_default : goal.returns-in_default
returns-in_default c = search no_budgets

pub returns : goal.returns
returns c = search with_budgets
