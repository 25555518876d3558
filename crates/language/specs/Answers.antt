-- The answer of each call, complete: the six numbers, and what stands in each lent buffer afterwards.
use Rattle.std.specs.Prelude.{ℕ, min, cond, ◌||◌, not, List, ◌++◌, leb, ltb, eqb, length, drop, replicate}
use Rattle.std.proofs.Math.Option.{Option, some, none}
use Rattle.language.specs.Objects.{Obj}
use Rattle.language.specs.Forms.{Prog}
use Rattle.language.specs.Reading.{Got, got, no, read_object, read_program}
use Rattle.language.specs.Writing.{write_obj, write_program, Scan, on, short, deep, scan}
use Rattle.language.specs.Numbers.{program_limit, object_limit, step_limit, name_limit, cell_limit, form_table_size, cell_table_size, written_limit, one}
use Rattle.language.specs.Evaluation.{Spent, no_step, no_name, no_cell, RunEnd, done, fell, ran_out, too_few, run}
use Rattle.language.specs.Laws.{Law}
use Rattle.language.specs.Uses.{simplify, apply_law, law_numbered}
use Rattle.language.specs.declared.Meter.{Meter}
use Rattle.language.specs.declared.Answer.{Answer}

-- What the caller lends.
pub record Lent : Type 0 where
  pub forms : List ℕ
  pub cells : List ℕ
  pub output : List ℕ

-- The answer, and what stands in the lent buffers afterwards.
pub record Outcome : Type 0 where
  pub answer : Answer
  pub lent : Lent

-- Numbers not named are 0.
abbrev pub bare : ℕ → Answer
bare n = record { number = n; place = 0; text = 0; steps = 0; cells = 0; length = 0 }

-- 6 to 9 and 11 carry place and text, 10 carries text: its place is 0.
abbrev pub at : (number place text : ℕ) → Answer
at n p t = record { number = n; place = p; text = t; steps = 0; cells = 0; length = 0 }

abbrev pub counting : (number steps cells length : ℕ) → Answer
counting n s c l = record { number = n; place = 0; text = 0; steps = s; cells = c; length = l }

-- 1 to 5 touch nothing.
abbrev pub untouched : ℕ → Lent → Outcome
untouched n lent = record { answer = bare n; lent = lent }

-- After all others both tables are zero throughout.
abbrev pub zeroed : Lent → List ℕ → Lent
zeroed lent output = record { forms = replicate (length lent.forms) 0; cells = replicate (length lent.cells) 0; output = output }

-- Output changes only on 20, and only in its first length bytes.
abbrev pub unwritten : Lent → Answer → Outcome
unwritten lent a = record { answer = a; lent = zeroed lent lent.output }

abbrev pub written : Lent → (steps cells : ℕ) → List ℕ → Outcome
written lent s c text =
    record { answer = counting 20 s c (length text); lent = zeroed lent (text ++ drop (length text) lent.output) }

-- the bytes that a text may have: 25 if it is longer
abbrev pub room_in : Lent → ℕ
room_in lent = min (length lent.output) written_limit

-- The object to be written: 20, 25 or 26.
abbrev pub scanned : Lent → (steps cells : ℕ) → Obj → Scan → Outcome
scanned lent s c x (on opened room) = written lent s c (write_obj x)
scanned lent s c x short = unwritten lent (counting 25 s c 0)
scanned lent s c x deep = unwritten lent (counting 26 s c 0)

abbrev pub writing : Lent → (steps cells : ℕ) → Obj → Outcome
writing lent s c x = scanned lent s c x (scan (write_obj x) 0 (room_in lent))

abbrev pub spent_number : Spent → ℕ
spent_number no_step = 22
spent_number no_name = 23
spent_number no_cell = 24

-- 20 to 26 of a run carry steps and cells counted until the end, starting cells included.
abbrev pub ended : Lent → RunEnd → Outcome
ended lent (done x s c) = writing lent s c x
ended lent (fell s c) = unwritten lent (counting 21 s c 0)
ended lent (ran_out w s c) = unwritten lent (counting (spent_number w) s c 0)
ended lent too_few = unwritten lent (bare 13)

abbrev pub on_read : {A : Type 0} → Lent → ℕ → Got A → (A → Outcome) → Outcome
on_read lent t (got a e) k = k a
on_read lent t (no n p) k = unwritten lent (at n p t)

-- A run: 1 to 5; then the program's 6 to 9 by place, then 10, then 11; the object's 6 to 9; 13; then the run.
unfoldable pub run_call : (program object : List ℕ) → Meter → Lent → Outcome
run_call program object budgets lent =
    let follows = on_read lent 1 (read_program program) (λ P. on_read lent 2 (read_object object) (λ x. ended lent (run one P x budgets))) in
    cond (ltb program_limit (length program)) (untouched 1 lent)
    (cond (ltb object_limit (length object)) (untouched 2 lent)
    (cond (ltb step_limit budgets.steps) (untouched 3 lent)
    (cond (ltb name_limit budgets.names) (untouched 4 lent)
    (cond (ltb cell_limit budgets.cells || not (eqb (length lent.forms) form_table_size) || not (eqb (length lent.cells) (cell_table_size budgets.cells))) (untouched 5 lent)
    follows))))

-- For the laws, 20 and 25 carry the uses made as steps; cells is 0.
abbrev pub rewritten : Lent → ℕ → Prog → Outcome
rewritten lent uses Q =
    cond (leb (length (write_program Q)) (room_in lent)) (written lent uses 0 (write_program Q)) (unwritten lent (counting 25 uses 0 0))

-- A law call and the simplifier take a program text and tables for 2,048 forms and 4,096 cells: 1, 5, the program's 6 to 11.
abbrev pub with_program : List ℕ → Lent → (Prog → Outcome) → Outcome
with_program program lent k =
    let follows = on_read lent 1 (read_program program) k in
    cond (ltb program_limit (length program)) (untouched 1 lent)
    (cond (not (eqb (length lent.forms) form_table_size) || not (eqb (length lent.cells) (cell_table_size cell_limit))) (untouched 5 lent)
    follows)

-- A law call: 15, 14, 25. A place that no form has gives 14.
abbrev pub used : Lent → Option Prog → Outcome
used lent none = unwritten lent (bare 14)
used lent (some Q) = rewritten lent 1 Q

abbrev pub used_law : Lent → (place : ℕ) → Prog → Option Law → Outcome
used_law lent i P none = unwritten lent (bare 15)
used_law lent i P (some l) = used lent (apply_law l i P)

unfoldable pub law_call : (program : List ℕ) → (law place : ℕ) → Lent → Outcome
law_call program law place lent = with_program program lent (λ P. used_law lent place P (law_numbered law))

-- The simplifier leaves out 15 and 14.
unfoldable pub simplify_call : (program : List ℕ) → Lent → Outcome
simplify_call program lent = with_program program lent (λ P. rewritten lent (simplify P).uses (simplify P).program)
