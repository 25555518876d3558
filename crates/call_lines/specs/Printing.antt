-- A text that is put into an output at a place; what is shown of an answer and the output's bytes.
use Rattle.std.specs.Prelude.{ℕ, ◌+◌, ◌≤◌, ◌≡◌, cond, List, [], ◌++◌, eqb, length, take}
use Rattle.language.specs.Fprun.{line, numbers}
use Rattle.language.specs.declared.Answer.{Answer}
use Rattle.tables.specs.Tables.{put}

-- the text, of `most` bytes at most, stands from `at` up to r, and all else is as it was
pub record Printed (text : List ℕ) (most : ℕ) (out : List ℕ) (at r : ℕ) (out' : List ℕ) : Type 0 where
  pub is : out' ≡ put out at text
  pub ends : r ≡ at + length text
  pub few : length text ≤ most

-- language's `shown`, by the answer and the output alone
unfoldable pub shown_as : Answer → List ℕ → List ℕ
shown_as a output = line (numbers a) ++ cond (eqb a.number 20) (line (take a.length output)) []
