-- Demand 3: any series of law uses keeps the answer, within the same budgets, with no more steps or cells; and if the last
-- program reaches an answer, so does the first under some budgets.
use Rattle.std.specs.Prelude.{ℕ, ◌≤◌, ◌≡◌, List, take}
use Rattle.std.proofs.Math.Option.{some}
use Rattle.language.specs.declared.Meter.{Meter}
use Rattle.language.specs.Objects.{Obj}
use Rattle.language.specs.Forms.{Prog}
use Rattle.language.specs.Reading.{got, read_object, read_program}
use Rattle.language.specs.Numbers.{Edition, one}
use Rattle.language.specs.Evaluation.{RunEnd, done, fell, run}
use Rattle.language.specs.Laws.{Law}
use Rattle.language.specs.Uses.{apply_law}
use Rattle.language.specs.Answers.{Lent, Outcome, run_call, law_call}

-- an answer: an object, or bottom
pub data Result : Type 0 where
  object : Obj → Result
  bottom : Result

abbrev pub reaches : Result → (steps cells : ℕ) → RunEnd
reaches (object x) s c = done x s c
reaches bottom s c = fell s c

-- a series of uses, each at a place where its law applies
pub data Uses : Prog → Prog → Type 0 where
  no_use : {P : Prog} → Uses P P
  use_then : {P P' P'' : Prog} (l : Law) (i : ℕ) → apply_law l i P ≡ some P' → Uses P' P'' → Uses P P''

-- the same answer within the same budgets, with no more steps or cells
pub record NoMore (e : Edition) (P : Prog) (x : Obj) (b : Meter) (r : Result) (s c : ℕ) : Type 0 where
  pub s' : ℕ
  pub c' : ℕ
  pub answers : run e P x b ≡ reaches r s' c'
  pub steps : s' ≤ s
  pub cells : c' ≤ c

-- the same answer under some budgets, perhaps beyond 01's limits
pub record Somehow (e : Edition) (P : Prog) (x : Obj) (r : Result) : Type 0 where
  pub budgets : Meter
  pub s : ℕ
  pub c : ℕ
  pub answers : run e P x budgets ≡ reaches r s c

abbrev pub Demand3 : Type 0
Demand3 =
    (e : Edition) (P P' : Prog) → Uses P P' → (x : Obj) (b : Meter) (r : Result) (s c : ℕ)
    → (run e P x b ≡ reaches r s c → NoMore e P' x b r s c) × (run e P' x b ≡ reaches r s c → Somehow e P x r)

-- The same on texts. A series of law calls: each answers 20, and the next takes the text that it wrote.
pub data LawCalls : List ℕ → List ℕ → Type 0 where
  no_call : {s : List ℕ} → LawCalls s s
  call_then : {s t u : List ℕ} (law place : ℕ) (lent : Lent) → (law_call s law place lent).answer.number ≡ 20 → take (law_call s law place lent).answer.length (law_call s law place lent).lent.output ≡ t → LawCalls t u → LawCalls s u

-- a run that reached an object or bottom: 20, 21, or 25 or 26 where the object can't be written
pub data Reached : ℕ → Type 0 where
  wrote : Reached 20
  fell_out : Reached 21
  too_long : Reached 25
  too_deep : Reached 26

-- the same numbers but for steps and cells, which are no more, and the same buffers
pub record SameButLess (o o' : Outcome) : Type 0 where
  pub number : o'.answer.number ≡ o.answer.number
  pub place : o'.answer.place ≡ o.answer.place
  pub text : o'.answer.text ≡ o.answer.text
  pub length : o'.answer.length ≡ o.answer.length
  pub steps : o'.answer.steps ≤ o.answer.steps
  pub cells : o'.answer.cells ≤ o.answer.cells
  pub lent : o'.lent ≡ o.lent

abbrev pub Demand3OnTexts : Type 0
Demand3OnTexts =
    (s u : List ℕ) → LawCalls s u → (x : List ℕ) (b : Meter) (lent : Lent)
    → Reached (run_call s x b lent).answer.number → SameButLess (run_call s x b lent) (run_call u x b lent)

-- what two texts say: a program and an object that run to an answer
pub record Runs (s x : List ℕ) (b : Meter) (r : Result) : Type 0 where
  pub program : Prog
  pub object : Obj
  pub e : ℕ
  pub e' : ℕ
  pub reads_program : read_program s ≡ got program e
  pub reads_object : read_object x ≡ got object e'
  pub steps : ℕ
  pub cells : ℕ
  pub answers : run one program object b ≡ reaches r steps cells

pub record RunsSomehow (s x : List ℕ) (r : Result) : Type 0 where
  pub budgets : Meter
  pub runs : Runs s x budgets r

abbrev pub Demand3OnTextsBack : Type 0
Demand3OnTextsBack = (s u : List ℕ) → LawCalls s u → (x : List ℕ) (b : Meter) (r : Result) → Runs u x b r → RunsSomehow s x r
