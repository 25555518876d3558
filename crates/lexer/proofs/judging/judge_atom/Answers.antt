-- `judge_atom` judges what stands where an object may stand, by its first byte. Assumes nothing.
use Rattle.lexer.proofs.Judged.{atoms, first_none, first_number, first_word, first_other, other_not, other_minus, behind_first}
use Rattle.lexer.proofs.judging.judge_atom.Goals as goal

pub returns-in_default : goal.returns-in_default
returns-in_default c = search (first_none atoms)

pub returns-then-is_digit : goal.returns-then-is_digit
returns-then-is_digit c = search (first_number atoms)

pub returns-then-is_letter : goal.returns-then-is_letter
returns-then-is_letter c = search (first_word atoms)

pub returns-then-first-ne45 : goal.returns-then-first-ne45
returns-then-first-ne45 c = search (first_other atoms, other_not)

pub returns : goal.returns
returns c =
    let e = other_minus _ _ c.if-first-ne45.false (behind_first c.args.word.now) c.judge_negative.ensures in
    search (first_other atoms)
