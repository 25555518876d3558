-- Every call answers from document 01's table: its numbers, what each carries, and what becomes of each lent buffer.
use Rattle.std.specs.Prelude.{ℕ, ◌≤◌, ◌≡◌, Bool, true, false, ◌||◌, List, [], ◌∷◌, eqb, length, drop, replicate}
use Rattle.language.specs.declared.Meter.{Meter}
use Rattle.language.specs.declared.Answer.{Answer}
use Rattle.language.specs.Answers.{Lent, Outcome, run_call, law_call, simplify_call}

-- whether a number is one of some
abbrev pub is_one_of : ℕ → List ℕ → Bool
is_one_of n [] = false
is_one_of n (m ∷ ms) = eqb n m || is_one_of n ms

-- What 01 says of a call: the numbers that it may answer, the texts that it reads, and which answers carry steps and cells.
pub record Table : Type 0 where
  pub numbers : List ℕ
  pub texts : List ℕ
  pub with_steps : List ℕ
  pub with_cells : List ℕ

abbrev pub run_table : Table
run_table = record {
  numbers = 1 ∷ 2 ∷ 3 ∷ 4 ∷ 5 ∷ 6 ∷ 7 ∷ 8 ∷ 9 ∷ 10 ∷ 11 ∷ 13 ∷ 20 ∷ 21 ∷ 22 ∷ 23 ∷ 24 ∷ 25 ∷ 26 ∷ [];
  texts = 1 ∷ 2 ∷ [];
  with_steps = 20 ∷ 21 ∷ 22 ∷ 23 ∷ 24 ∷ 25 ∷ 26 ∷ [];
  with_cells = 20 ∷ 21 ∷ 22 ∷ 23 ∷ 24 ∷ 25 ∷ 26 ∷ [];
}

abbrev pub law_table : Table
law_table = record {
  numbers = 1 ∷ 5 ∷ 6 ∷ 7 ∷ 8 ∷ 9 ∷ 10 ∷ 11 ∷ 14 ∷ 15 ∷ 20 ∷ 25 ∷ [];
  texts = 1 ∷ [];
  with_steps = 20 ∷ 25 ∷ [];
  with_cells = [];
}

-- The simplifier leaves out 15 and 14.
abbrev pub simplify_table : Table
simplify_table = record {
  numbers = 1 ∷ 5 ∷ 6 ∷ 7 ∷ 8 ∷ 9 ∷ 10 ∷ 11 ∷ 20 ∷ 25 ∷ [];
  texts = 1 ∷ [];
  with_steps = 20 ∷ 25 ∷ [];
  with_cells = [];
}

-- 6 to 9 and 11 carry place and text, 10 carries text; 10 and 11 are a program's; only 20 has a length; 1 to 5 touch nothing.
abbrev pub with_place : List ℕ
with_place = 6 ∷ 7 ∷ 8 ∷ 9 ∷ 11 ∷ []

abbrev pub with_text : List ℕ
with_text = 6 ∷ 7 ∷ 8 ∷ 9 ∷ 10 ∷ 11 ∷ []

abbrev pub of_program : List ℕ
of_program = 10 ∷ 11 ∷ []

abbrev pub with_length : List ℕ
with_length = 20 ∷ []

abbrev pub touch_nothing : List ℕ
touch_nothing = 1 ∷ 2 ∷ 3 ∷ 4 ∷ 5 ∷ []

-- The six numbers: those not named are 0.
pub record SixNumbers (t : Table) (a : Answer) : Type 0 where
  pub number : is_one_of a.number t.numbers ≡ true
  pub place : is_one_of a.number with_place ≡ false → a.place ≡ 0
  pub text : is_one_of a.number with_text ≡ true → is_one_of a.text t.texts ≡ true
  pub program_text : is_one_of a.number of_program ≡ true → a.text ≡ 1
  pub no_text : is_one_of a.number with_text ≡ false → a.text ≡ 0
  pub steps : is_one_of a.number t.with_steps ≡ false → a.steps ≡ 0
  pub cells : is_one_of a.number t.with_cells ≡ false → a.cells ≡ 0
  pub length : is_one_of a.number with_length ≡ false → a.length ≡ 0

-- both tables zero throughout, and as long as before
pub record Zeroed (before after : Lent) : Type 0 where
  pub forms : after.forms ≡ replicate (length before.forms) 0
  pub cells : after.cells ≡ replicate (length before.cells) 0

-- the output as it was behind its first n bytes, and as long as before
pub record OnlyFirst (n : ℕ) (before after : List ℕ) : Type 0 where
  pub fits : n ≤ length before
  pub as_long : length after ≡ length before
  pub behind : drop n after ≡ drop n before

-- The buffers: 1 to 5 touch nothing; after all others both tables are zero throughout; the output changes only on 20, and
-- only in its first length bytes.
pub record Buffers (a : Answer) (before after : Lent) : Type 0 where
  pub untouched : is_one_of a.number touch_nothing ≡ true → after ≡ before
  pub zeroed : is_one_of a.number touch_nothing ≡ false → Zeroed before after
  pub unwritten : is_one_of a.number with_length ≡ false → after.output ≡ before.output
  pub written : is_one_of a.number with_length ≡ true → OnlyFirst a.length before.output after.output

pub record FromTable (t : Table) (before : Lent) (o : Outcome) : Type 0 where
  pub numbers : SixNumbers t o.answer
  pub buffers : Buffers o.answer before o.lent

abbrev pub RunFromTable : Type 0
RunFromTable = (program object : List ℕ) (budgets : Meter) (lent : Lent) → FromTable run_table lent (run_call program object budgets lent)

abbrev pub LawFromTable : Type 0
LawFromTable = (program : List ℕ) (law place : ℕ) (lent : Lent) → FromTable law_table lent (law_call program law place lent)

abbrev pub SimplifyFromTable : Type 0
SimplifyFromTable = (program : List ℕ) (lent : Lent) → FromTable simplify_table lent (simplify_call program lent)
