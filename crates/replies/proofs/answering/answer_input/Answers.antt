-- An input that is too long or of another shape is answered by 99, every other as its three lines.
use Rattle.replies.proofs.Replying.{too_long, other_shaped, three_shaped}
use Rattle.replies.proofs.answering.answer_input.Goals as goal

pub returns-then-s-gt-INPUT_LIMIT : goal.returns-then-s-gt-INPUT_LIMIT
returns-then-s-gt-INPUT_LIMIT c = search too_long

pub returns-in-None : goal.returns-in-None
returns-in-None c = search other_shaped

pub returns-in-Some : goal.returns-in-Some
returns-in-Some c = search three_shaped
