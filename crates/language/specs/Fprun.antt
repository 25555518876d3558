-- The program fprun: from the bytes of standard input to the bytes of standard output.
use Rattle.std.specs.Prelude.{ℕ, Bool, true, false, cond, ◌&&◌, not, List, [], ◌∷◌, ◌++◌, leb, eqb, length, take, replicate}
use Prim.Native.Char.{code}
use Rattle.std.proofs.Math.Option.{Option, some, none}
use Rattle.language.specs.Bytes.{bytes}
use Rattle.language.specs.Numbers.{form_table_size, cell_table_size, written_limit}
use Rattle.language.specs.Tokens.{is_digit}
use Rattle.language.specs.Judging.{all, value_of, leading_zero}
use Rattle.language.specs.Writing.{decimal}
use Rattle.groundwork.specs.Options.{on_some}
use Rattle.language.specs.declared.Meter.{Meter}
use Rattle.language.specs.declared.Answer.{Answer}
use Rattle.language.specs.Answers.{Lent, Outcome, run_call}

-- what stands before, between and behind the bytes b
abbrev pub put_first : ℕ → List (List ℕ) → List (List ℕ)
put_first c [] = (c ∷ []) ∷ []
put_first c (w ∷ ws) = (c ∷ w) ∷ ws

unfoldable pub split : ℕ → List ℕ → List (List ℕ)
split b [] = [] ∷ []
split b (c ∷ s) = elim (eqb c b) [ true ↦ [] ∷ split b s | false ↦ put_first c (split b s) ]

abbrev pub on_three : {A : Type 0} → List (List ℕ) → (List ℕ → List ℕ → List ℕ → Option A) → Option A
on_three [] k = none
on_three (x ∷ []) k = none
on_three (x ∷ y ∷ []) k = none
on_three (x ∷ y ∷ z ∷ []) k = k x y z
on_three (x ∷ y ∷ z ∷ w ∷ ws) k = none

-- three lines, each ended by a line feed
abbrev pub on_lines : {A : Type 0} → List (List ℕ) → (List ℕ → List ℕ → List ℕ → Option A) → Option A
on_lines [] k = none
on_lines (x ∷ []) k = none
on_lines (x ∷ y ∷ []) k = none
on_lines (x ∷ y ∷ z ∷ []) k = none
on_lines (x ∷ y ∷ z ∷ [] ∷ []) k = k x y z
on_lines (x ∷ y ∷ z ∷ [] ∷ w ∷ ws) k = none
on_lines (x ∷ y ∷ z ∷ (b ∷ bs) ∷ ws) k = none

-- one to seven digits, no leading zero
abbrev pub is_numeral : List ℕ → Bool
is_numeral ds = leb 1 (length ds) && leb (length ds) 7 && all is_digit ds && not (leading_zero ds)

abbrev pub on_numeral : {A : Type 0} → List ℕ → (ℕ → Option A) → Option A
on_numeral ds k = elim (is_numeral ds) [ true ↦ k (value_of ds) | false ↦ none ]

-- steps, open names and cells with one space between
abbrev pub budgets_in : List ℕ → Option Meter
budgets_in line =
    on_three (split (code " ") line) (λ s n c. on_numeral s (λ steps. on_numeral n (λ names. on_numeral c (λ cells. some (record { steps = steps; names = names; cells = cells })))))

-- What fprun lends: tables of the right length and an output buffer of 16,384 bytes.
abbrev pub lent_for : Meter → Lent
lent_for b = record { forms = replicate form_table_size 0; cells = replicate (cell_table_size b.cells) 0; output = replicate written_limit 0 }

abbrev pub line : List ℕ → List ℕ
line s = s ++ bytes "\n"

-- the six numbers in the table's order with single spaces
unfoldable pub numbers : Answer → List ℕ
numbers a =
    decimal a.number ++ code " " ∷ (decimal a.place ++ code " " ∷ (decimal a.text ++ code " " ∷
    (decimal a.steps ++ code " " ∷ (decimal a.cells ++ code " " ∷ decimal a.length))))

-- after 20 a second line, the text
unfoldable pub shown : Outcome → List ℕ
shown r =
    let text = line (take r.answer.length r.lent.output) in
    line (numbers r.answer) ++ cond (eqb r.answer.number 20) text []

abbrev pub reply : Option (List ℕ) → List ℕ
reply (some s) = s
reply none = line (bytes "99")

-- Input of another shape, or over 25,000 bytes, prints 99.
unfoldable pub fprun : List ℕ → List ℕ
fprun s =
    let shaped = on_lines (split (code "\n") s) (λ first program object. on_some (budgets_in first) (λ b. some (shown (run_call program object b (lent_for b))))) in
    cond (leb (length s) 25000) (reply shaped) (line (bytes "99"))
