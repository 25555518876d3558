-- The numbers of a call's two texts in an answer.
use Rattle.std.specs.Prelude.{ℕ}
use Rattle.language.specs.declared.texts.Text.{Text}
use Rattle.language.specs.declared.texts.Text.TheVariants.{Program, Object}

abbrev pub number_of_text : Text → ℕ
number_of_text Program = 1
number_of_text Object = 2
