-- What an accepted program is, and the same said of its tree.
use Rattle.std.specs.Prelude.{ℕ, ◌≤◌, ◌≡◌, true, false, List, [], ◌∷◌, ℤ, length}
use Rattle.std.proofs.Math.Option.{none}
use Rattle.language.specs.Numbers.{program_limit, form_limit, definition_limit, mark_limit, word_limit, selector_limit, one, in_range}
use Rattle.language.specs.Objects.{Obj, int, symbol, seq, Objs, nil, ◌::◌}
use Rattle.language.specs.Words.{ops}
use Rattle.language.specs.Forms.{Form, word, name, chain, construct, constant, insert, apply_all, bu, condition, while, Forms, stop, ◌&◌, Word, select, select_right, op, Prog, forms_of}
use Rattle.language.specs.Tokens.{is_lower, is_upper}
use Rattle.language.specs.Judging.{all, is_symbol_byte, is_name_byte, find_op}
use Rattle.language.specs.Reading.{got, read_program, is_in}
use Rattle.language.specs.Writing.{marks_of_program}

-- A program is accepted if a text of at most 8,192 bytes reads as it.
pub record Accepted (P : Prog) : Type 0 where
  pub text : List ℕ
  pub short : length text ≤ program_limit
  pub reads : read_program text ≡ got P (length text)

-- The trees that texts hold.
abbrev pub IsInteger : ℤ → Type 0
IsInteger z = in_range one z ≡ true

abbrev pub IsSymbol : List ℕ → Type 0
IsSymbol [] = ⊥
IsSymbol (b ∷ w) = (is_upper b ≡ true) × (all is_symbol_byte w ≡ true) × (length (b ∷ w) ≤ word_limit)

abbrev mutual
  pub IsObj : Obj → Type 0
  IsObj (int z) = IsInteger z
  IsObj (symbol w) = IsSymbol w
  IsObj (seq xs) = AreObjs xs

  pub AreObjs : Objs → Type 0
  AreObjs nil = Unit {0}
  AreObjs (x :: xs) = IsObj x × AreObjs xs

abbrev pub IsName : List ℕ → Type 0
IsName [] = ⊥
IsName (b ∷ w) = (is_lower b ≡ true) × (all is_name_byte w ≡ true) × (length (b ∷ w) ≤ word_limit) × (find_op ops (b ∷ w) ≡ none)

abbrev pub IsWord : Word → Type 0
IsWord (select k) = (1 ≤ k) × (k ≤ selector_limit)
IsWord (select_right k) = (1 ≤ k) × (k ≤ selector_limit)
IsWord (op o) = Unit {0}

abbrev pub OneOrMore : Forms → Type 0
OneOrMore stop = ⊥
OneOrMore (f & fs) = Unit {0}

abbrev pub TwoOrMore : Forms → Type 0
TwoOrMore stop = ⊥
TwoOrMore (f & fs) = OneOrMore fs

-- A chain has two parts or more, a construction at least one form.
abbrev mutual
  pub IsForm : Form → Type 0
  IsForm (word w) = IsWord w
  IsForm (name w) = IsName w
  IsForm (chain fs) = TwoOrMore fs × AreForms fs
  IsForm (construct fs) = OneOrMore fs × AreForms fs
  IsForm (constant x) = IsObj x
  IsForm (insert f) = IsForm f
  IsForm (apply_all f) = IsForm f
  IsForm (bu f x) = IsForm f × IsObj x
  IsForm (condition p f g) = IsForm p × IsForm f × IsForm g
  IsForm (while p f) = IsForm p × IsForm f

  pub AreForms : Forms → Type 0
  AreForms stop = Unit {0}
  AreForms (f & fs) = IsForm f × AreForms fs

abbrev pub AreDefinitions : Prog → Type 0
AreDefinitions [] = Unit {0}
AreDefinitions (d ∷ ds) = IsName d.called × IsForm d.body × AreDefinitions ds

-- no name is among the earlier ones
abbrev pub Different : List (List ℕ) → Prog → Type 0
Different earlier [] = Unit {0}
Different earlier (d ∷ ds) = (is_in d.called earlier ≡ false) × Different (d.called ∷ earlier) ds

pub record WellFormed (P : Prog) : Type 0 where
  pub definitions : AreDefinitions P
  pub different : Different [] P
  pub few_forms : forms_of P ≤ form_limit
  pub few_definitions : length P ≤ definition_limit
  pub few_marks : marks_of_program P ≤ mark_limit
