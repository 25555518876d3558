-- The starred rows of document 01's "Checked rules": one list under one claim, from program text and object text to all six
-- numbers and the written text.
use Rattle.std.specs.Prelude.{ℕ, ◌≡◌, List, [], ◌∷◌, map, take, replicate}
use Prim.Native.String.{String}
use Rattle.language.specs.Numbers.{step_limit, form_table_size, cell_table_size}
use Rattle.language.specs.Bytes.{bytes}
use Rattle.language.specs.declared.Meter.{Meter}
use Rattle.language.specs.declared.Answer.{Answer}
use Rattle.language.specs.Answers.{Lent, run_call}

pub record StarredRow : Type 0 where
  pub program : String
  pub object : String
  pub budgets : Meter
  pub answer : Answer
  pub text : String

-- the answer of a run with an output buffer of 64 bytes, and the text written
abbrev pub lent : Meter → Lent
lent b = record { forms = replicate form_table_size 0; cells = replicate (cell_table_size b.cells) 0; output = replicate 64 0 }

pub record Seen : Type 0 where
  pub answer : Answer
  pub text : List ℕ

abbrev pub seen : StarredRow → Seen
seen r = let o = run_call (bytes r.program) (bytes r.object) r.budgets (lent r.budgets) in record { answer = o.answer; text = take o.answer.length o.lent.output }

abbrev pub stated : StarredRow → Seen
stated r = record { answer = r.answer; text = bytes r.text }

abbrev pub usual : Meter
usual = record { steps = step_limit; names = 8; cells = 64 }

abbrev pub says : (number steps cells length : ℕ) → Answer
says n s c l = record { number = n; place = 0; text = 0; steps = s; cells = c; length = l }

abbrev pub starred : List StarredRow
starred =
    record { program = "main=/add.@mul.trans;"; object = "<<2,3>,<5,7>>"; budgets = usual; answer = says 20 8 16 2; text = "31" }
    ∷ record { program = "main=last;last=(null.tl->1;last.tl);"; object = "<4,7>"; budgets = usual; answer = says 20 14 2 1; text = "7" }
    ∷ record { program = "main=last;last=(null.tl->1;last.tl);"; object = "<4,7>"; budgets = record { steps = 13; names = 8; cells = 64 }; answer = says 22 13 2 0; text = "" }
    ∷ record { program = "main=last;last=(null.tl->1;last.tl);"; object = "<4,7>"; budgets = record { steps = step_limit; names = 2; cells = 64 }; answer = says 23 9 2 0; text = "" }
    ∷ record { program = ""; object = "A"; budgets = usual; answer = says 21 1 0 0; text = "" }
    ∷ record { program = "main=id;"; object = "<>"; budgets = usual; answer = says 20 2 0 2; text = "<>" }
    ∷ record { program = "main=1.[id,zap];"; object = "5"; budgets = usual; answer = says 21 5 0 0; text = "" }
    ∷ record { program = "main=eq;"; object = "<<1,2>,<1,3>>"; budgets = usual; answer = says 20 5 6 1; text = "F" }
    ∷ record { program = "main=reverse.reverse;"; object = "A"; budgets = usual; answer = says 21 3 0 0; text = "" }
    ∷ record { program = "main=div;"; object = "<-7,2>"; budgets = usual; answer = says 20 2 2 2; text = "-3" }
    ∷ record { program = "main=add;"; object = "<2147483647,1>"; budgets = usual; answer = says 21 2 2 0; text = "" }
    ∷ record { program = "main=add.[%1,id];"; object = "41"; budgets = usual; answer = says 20 6 2 2; text = "42" }
    ∷ []

abbrev pub StarredRows : Type 0
StarredRows = map seen starred ≡ map stated starred
