-- A run call for programs in other languages: its answer told in a lent list of numbers.
use Rattle.std.specs.Prelude.{ℕ, ◌≡◌, List, [], ◌∷◌, ◌++◌, length, set, take, drop}
use Rattle.language.specs.Answers.{Lent}
use Rattle.language.specs.declared.Meter.{Meter}
use Rattle.language.specs.declared.Answer.{Answer}
use Rattle.nattglod.specs.Calls.{RunAnswered}

-- the six numbers in the first six places, as far as the list has them
abbrev pub told : List ℕ → Answer → List ℕ
told a r = set (set (set (set (set (set a 0 r.number) 1 r.place) 2 r.text) 3 r.steps) 4 r.cells) 5 r.length

-- the six numbers of an answer in their order
abbrev pub six : Answer → List ℕ
six r = r.number ∷ r.place ∷ r.text ∷ r.steps ∷ r.cells ∷ r.length ∷ []

-- A list of six places or more is told the six numbers, and keeps what stands behind them. One of fewer is told as many numbers
-- as it has places.
abbrev pub ToldFirst : Type 0
ToldFirst = (a : List ℕ) (r : Answer) → told a r ≡ take (length a) (six r) ++ drop 6 a

pub record Told (a : List ℕ) (r : Answer) (a' : List ℕ) : Type 0 where
  pub is : a' ≡ told a r

pub record RunTold (program object : List ℕ) (b : Meter) (lent : Lent) (answer : List ℕ) (forms cells output answer' : List ℕ) : Type 0 where
  pub result : Answer
  pub run : RunAnswered program object b lent result forms cells output
  pub telling : Told answer result answer'

-- Two results that the contract allows are equal, for every list that is lent, also one of fewer than six places.
abbrev pub TellingDetermined : Type 0
TellingDetermined =
    (program object : List ℕ) (b : Meter) (lent : Lent) (answer : List ℕ) (forms forms' cells cells' output output' answer₁ answer₂ : List ℕ) → RunTold program object b lent answer forms cells output answer₁
    → RunTold program object b lent answer forms' cells' output' answer₂ → (forms ≡ forms') × (cells ≡ cells') × (output ≡ output') × (answer₁ ≡ answer₂)
