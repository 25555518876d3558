-- What `apply_main` gives of the definition's application, and the answer from its end.
use Rattle.nattglod.proofs.TextExits.{main_answered}
use Rattle.nattglod.proofs.texts.answer_main.Goals as goal

pub returns : goal.returns
returns c = search main_answered
