-- The refusals of the answer table as code names them. The definitions of Judging and Reading give their numbers.
use Rattle.std.specs.Prelude.{ℕ, [], ◌∷◌, get_or}
use Rattle.language.specs.declared.refusals.Refusal.{Refusal}
use Rattle.language.specs.declared.refusals.Refusal.TheVariants.{LongProgram, LongObject, StepsOver, NamesOver, CellsOver, NotInGrammar, OpenMarks, BadNumber, LongWord, TooMany, NameTwice, FewCells}
use Rattle.language.specs.declared.refusals.RefusedText.{RefusedText}

abbrev pub number_of : Refusal → ℕ
number_of LongProgram = 1
number_of LongObject = 2
number_of StepsOver = 3
number_of NamesOver = 4
number_of CellsOver = 5
number_of NotInGrammar = 6
number_of OpenMarks = 7
number_of BadNumber = 8
number_of LongWord = 9
number_of TooMany = 10
number_of NameTwice = 11
number_of FewCells = 13

-- The refusal that has a number. 0, 12 and all behind 13 are no refusal's, and no definition refuses with them.
abbrev pub refusal : ℕ → Refusal
refusal n =
    get_or
    (NotInGrammar ∷ LongProgram ∷ LongObject ∷ StepsOver ∷ NamesOver ∷ CellsOver ∷ NotInGrammar ∷ OpenMarks ∷ BadNumber ∷ LongWord ∷
    TooMany ∷ NameTwice ∷ NotInGrammar ∷ FewCells ∷ []) n NotInGrammar

-- a text that is refused with the number n at p
abbrev pub refused_at : ℕ → ℕ → RefusedText
refused_at n p = record { refusal = refusal n; place = p }
