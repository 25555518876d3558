-- `apply` answers as the word means.
use Rattle.primitives.proofs.Dispatched.{word_id, word_tl, word_atom, word_null, word_length, word_not, word_tlr, word_reverse, word_rotl, word_rotr, word_trans, coded_pair}
use Rattle.primitives.proofs.apply.Goals as goal

pub returns-in-Id : goal.returns-in-Id
returns-in-Id c = search word_id

pub returns-in-Tl : goal.returns-in-Tl
returns-in-Tl c = search word_tl

pub returns-in-Atom : goal.returns-in-Atom
returns-in-Atom c = search word_atom

pub returns-in-Null : goal.returns-in-Null
returns-in-Null c = search word_null

pub returns-in-Length : goal.returns-in-Length
returns-in-Length c = search word_length

pub returns-in-Not : goal.returns-in-Not
returns-in-Not c = search word_not

pub returns-in-Tlr : goal.returns-in-Tlr
returns-in-Tlr c = search word_tlr

pub returns-in-Reverse : goal.returns-in-Reverse
returns-in-Reverse c = search word_reverse

pub returns-in-Rotl : goal.returns-in-Rotl
returns-in-Rotl c = search word_rotl

pub returns-in-Rotr : goal.returns-in-Rotr
returns-in-Rotr c = search word_rotr

pub returns-in-Trans : goal.returns-in-Trans
returns-in-Trans c = search word_trans

pub returns-in_default : goal.returns-in_default
returns-in_default c = search coded_pair
