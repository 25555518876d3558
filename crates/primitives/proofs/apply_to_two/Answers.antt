-- `apply_to_two` answers as the word with the code means of a pair.
use Rattle.primitives.proofs.Dispatched.{word_eq, word_lt, word_add, word_sub, word_mul, word_div, word_and, word_or, word_apndl, word_apndr, word_distl, word_distr, two_none}
use Rattle.primitives.proofs.apply_to_two.Goals as goal

pub returns-in-Eq : goal.returns-in-Eq
returns-in-Eq c = search word_eq

pub returns-in-Lt : goal.returns-in-Lt
returns-in-Lt c = search word_lt

pub returns-in-Add : goal.returns-in-Add
returns-in-Add c = search word_add

pub returns-in-Sub : goal.returns-in-Sub
returns-in-Sub c = search word_sub

pub returns-in-Mul : goal.returns-in-Mul
returns-in-Mul c = search word_mul

pub returns-in-Div : goal.returns-in-Div
returns-in-Div c = search word_div

pub returns-in-And : goal.returns-in-And
returns-in-And c = search word_and

pub returns-in-Or : goal.returns-in-Or
returns-in-Or c = search word_or

pub returns-in-Apndl : goal.returns-in-Apndl
returns-in-Apndl c = search word_apndl

pub returns-in-Apndr : goal.returns-in-Apndr
returns-in-Apndr c = search word_apndr

pub returns-in-Distl : goal.returns-in-Distl
returns-in-Distl c = search word_distl

pub returns-in-Distr : goal.returns-in-Distr
returns-in-Distr c = search word_distr

pub returns-in_default : goal.returns-in_default
returns-in_default c = rw c.bottom.ensures (search two_none)
