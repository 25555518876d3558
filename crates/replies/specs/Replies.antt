-- What is replied: to an input, to three lines, and to a call whose budgets are read.
use Rattle.std.specs.Prelude.{ℕ, ◌*◌, ◌≤◌, ◌≡◌, List, ◌++◌, length, take, drop}
use Rattle.std.proofs.Math.Option.{some}
use Rattle.groundwork.specs.Options.{on_some}
use Rattle.language.specs.Numbers.{cell_limit, cell_table_size}
use Rattle.language.specs.Answers.{run_call}
use Rattle.language.specs.Fprun.{budgets_in, lent_for, shown, reply, fprun}
use Rattle.language.specs.declared.Meter.{Meter}

-- The output afterwards is language's `fprun` of the input, r bytes, and behind it what stood there. The last two parts follow
-- from the ones before them: they spare those who lend the reply's bytes a proof.
pub record Replied (input out : List ℕ) (r : ℕ) (out' : List ℕ) : Type 0 where
  pub is : out' ≡ fprun input ++ drop r out
  pub ends : r ≡ length (fprun input)
  pub fits : r ≤ length out'
  pub counts : r ≡ length (take r out')

-- Two results that the contract allows are equal.
abbrev pub ReplyDetermined : Type 0
ReplyDetermined = (input out : List ℕ) (r r' : ℕ) (out₁ out₂ : List ℕ) → Replied input out r out₁ → Replied input out r' out₂ → (r ≡ r') × (out₁ ≡ out₂)

unfoldable pub call_reply : (program object : List ℕ) → Meter → List ℕ
call_reply program object b = shown (run_call program object b (lent_for b))

unfoldable pub lines_reply : (first program object : List ℕ) → List ℕ
lines_reply first program object = reply (on_some (budgets_in first) (λ b. some (call_reply program object b)))

-- four numbers to each cell, where the cells are within the limit
pub record CellsLent (cells r : ℕ) : Type 0 where
  pub four : cells ≤ cell_limit → r ≡ 4 * cells
  pub fits : r ≤ cell_table_size cell_limit
