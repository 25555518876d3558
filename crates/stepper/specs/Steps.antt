-- What a step of a reader gives, and where the reader then stands.
use Rattle.std.specs.Prelude.{ℕ, ◌+◌, ◌-◌, ◌<◌, length}
use Rattle.language.specs.declared.Token.{Token}
use Rattle.language.specs.Tokens.{token_from}
use Rattle.stepper.specs.declared.Stepper.{Stepper}

-- the word that a reader gives next; at the end, and beyond it, the text's length and 0
abbrev pub next_of : Stepper → Token
next_of r = token_from r.text.now r.place

-- the same text, at the place behind that word; at the end, and beyond it, at the text's length
abbrev pub behind_word : Stepper → Stepper
behind_word r = record { text = r.text; place = (next_of r).place + (next_of r).length }

-- how much of the text a reader has before it
abbrev pub left : Stepper → ℕ
left r = length r.text.now - r.place

-- Every step that gives a word leaves less of the text, so stepping through a text ends.
abbrev pub StepsOn : Type 0
StepsOn = (r : Stepper) → 0 < (next_of r).length → left (behind_word r) < left r
