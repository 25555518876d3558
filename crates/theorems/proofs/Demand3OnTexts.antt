-- Demand 3 on texts: a series of law calls keeps what a run call answers, with no more steps or cells.
use Prim.Native.Nat.{ℕ, ◌*◌, ◌≤◌}
use mathlib.Core.Path.{◌≡◌, refl, sym, subst, ap, ◌∙◌}
use mathlib.Core.Bool.{Bool, true, false, cond, ◌&&◌, ◌||◌, not}
use mathlib.Core.List.{List}
use mathlib.Core.Option.{Option, some, none}
use native.Mathlib.Omega.{arith}
use lib.Dec.{leb, ltb, eqb}
use lib.ListN.{length, take, drop}
use lib.Seq.{take-append_seam}
use borrow.Author.Tests.{ltb-false, le-ltb}
use Rattle.language.specs.declared.Meter.{Meter}
use Rattle.language.specs.Objects.{Obj}
use Rattle.language.specs.Forms.{Prog}
use Rattle.language.specs.Reading.{Got, got, no, read_object, read_program}
use Rattle.language.specs.Writing.{write_obj, write_program, Scan, on, short, deep, scan}
use Rattle.language.specs.Numbers.{one}
use Rattle.language.specs.Evaluation.{no_step, no_name, no_cell, RunEnd, done, fell, ran_out, too_few, run}
use Rattle.language.specs.Laws.{Law}
use Rattle.language.specs.Uses.{apply_law, law_numbered}
use Rattle.language.specs.Answers.{Lent, Outcome, counting, untouched, unwritten, written, room_in, scanned, ended, on_read, run_call, used, used_law, law_call}
use Rattle.theorems.specs.Demand3.{Result, object, reaches, Uses, no_use, use_then, LawCalls, no_call, call_then, Reached, wrote, fell_out, too_long, too_deep, SameButLess, Demand3OnTexts, Demand3OnTextsBack}
use Rattle.theorems.specs.Demand3.{bottom as bottomResult}
use Rattle.theorems.proofs.ProgramsBack.{programs_read_back}
use Rattle.theorems.proofs.ProgramsRead.{programs_read}
use Rattle.theorems.proofs.EachUse.{each_use_shrinks}
use Rattle.theorems.proofs.Refusals.{objects_refused, programs_refused}
use Rattle.theorems.proofs.Demand3.{demand3}

-- ---- an answer's number

reached_low : {n : ℕ} → Reached n → 20 ≤ n
reached_low wrote = omega arith
reached_low fell_out = omega arith
reached_low too_long = omega arith
reached_low too_deep = omega arith

reached_gap : {n : ℕ} → Reached n → (leb 22 n && leb n 24) ≡ false
reached_gap wrote = refl
reached_gap fell_out = refl
reached_gap too_long = refl
reached_gap too_deep = refl

pub got_inj : {A : Type 0} {a b : A} {d e : ℕ} → got a d ≡ got b e → a ≡ b
got_inj h = cc

-- ---- a law call that answers 20

-- the program read, the law that applied and the program written
record Wrote (s : List ℕ) (o : Outcome) : Type 0 where
  program : Prog
  result : Prog
  law : Law
  place : ℕ
  e : ℕ
  few : length s ≤ 8192
  reads : read_program s ≡ got program e
  applies : apply_law law place program ≡ some result
  text : take o.answer.length o.lent.output ≡ write_program result

-- an outcome that is such a one if its number is 20
abbrev On20 : (s : List ℕ) (o : Outcome) → Type 0
On20 s o = o.answer.number ≡ 20 → Wrote s o

on_cond : (s : List ℕ) (t : Bool) (a b : Outcome) → On20 s a → (t ≡ false → On20 s b) → On20 s (cond t a b)
on_cond s true a b f g = f
on_cond s false a b f g = g refl

on_read_lem : (s : List ℕ) (lent : Lent) (k : Prog → Outcome) → ((P : Prog) (e : ℕ) → read_program s ≡ got P e → On20 s (k P)) → On20 s (on_read lent 1 (read_program s) k)
on_read_lem s lent k f = go (read_program s) refl
  where
    go : (r : Got Prog) → read_program s ≡ r → On20 s (on_read lent 1 r k)
    go (got P e) u = f P e u
    go (no n p) u = λ h. absurd (omega (arith, h, (programs_refused s n p u).high))

on_used : (s : List ℕ) (lent : Lent) (l : Law) (i : ℕ) (P : Prog) (e : ℕ) → length s ≤ 8192 → read_program s ≡ got P e → (q : Option Prog) → apply_law l i P ≡ q → On20 s (used lent q)
on_used s lent l i P e few u none v = λ h. absurd (omega (arith, h))
on_used s lent l i P e few u (some Q) v =
    on_cond s (leb (length (write_program Q)) (room_in lent)) (written lent 1 0 (write_program Q)) (unwritten lent (counting 25 1 0 0))
    (λ h. record { program = P; result = Q; law = l; place = i; e = e; few = few; reads = u; applies = v; text = take-append_seam (write_program Q) (drop (length (write_program Q)) lent.output) })
    (λ t h. absurd (omega (arith, h)))

on_law : (s : List ℕ) (lent : Lent) (i : ℕ) (P : Prog) (e : ℕ) → length s ≤ 8192 → read_program s ≡ got P e → (o : Option Law) → On20 s (used_law lent i P o)
on_law s lent i P e few u none = λ h. absurd (omega (arith, h))
on_law s lent i P e few u (some l) = on_used s lent l i P e few u (apply_law l i P) refl

law_call_lem : (s : List ℕ) (n i : ℕ) (lent : Lent) → On20 s (law_call s n i lent)
unfolding law_call
law_call_lem s n i lent =
    on_cond s (ltb 8192 (length s)) (untouched 1 lent) _ (λ h. absurd (omega (arith, h)))
    (λ t. on_cond s (not (eqb (length lent.forms) 8192) || not (eqb (length lent.cells) 16384)) (untouched 5 lent) _ (λ h. absurd (omega (arith, h)))
    (λ v. on_read_lem s lent _ (λ P e u. on_law s lent i P e (ltb-false 8192 (length s) t) u (law_numbered n))))

-- the text written reads as the result
wrote_reads : {s : List ℕ} {o : Outcome} (W : Wrote s o) → read_program (write_program W.result) ≡ got W.result (length (write_program W.result))
wrote_reads W = programs_read_back W.result (each_use_shrinks W.law W.place W.program W.result (programs_read _ W.program W.e W.reads).well_formed W.applies).well_formed

wrote_short : {s : List ℕ} {o : Outcome} (W : Wrote s o) → length (write_program W.result) ≤ 8192
wrote_short W =
    let R = programs_read _ W.program W.e W.reads in
    omega (arith, (each_use_shrinks W.law W.place W.program W.result R.well_formed W.applies).no_longer, R.no_longer, W.few)

-- ---- a series of calls

record Series (P : Prog) (u : List ℕ) : Type 0 where
  result : Prog
  e : ℕ
  reads : read_program u ≡ got result e
  uses : Uses P result
  few : length u ≤ 8192

series : {s u : List ℕ} (P : Prog) (e : ℕ) → LawCalls s u → read_program s ≡ got P e → length s ≤ 8192 → Series P u
series P e no_call r h = record { result = P; e = e; reads = r; uses = no_use; few = h }
series {s} {u} P e (call_then n i lent h t cs) r few =
    let W = law_call_lem s n i lent h in
    let p : W.program ≡ P = got_inj (sym W.reads ∙ r) in
    let S = series W.result (length (write_program W.result)) cs (ap read_program (sym t ∙ W.text) ∙ wrote_reads W) (subst (λ (v : List ℕ). length v ≤ 8192) (sym (sym t ∙ W.text)) (wrote_short W)) in
    record { result = S.result; e = S.e; reads = S.reads; few = S.few; uses = use_then W.law W.place (subst (λ (Q : Prog). apply_law W.law W.place Q ≡ some W.result) p W.applies) S.uses }

-- ---- a run call that reached an object or bottom

-- the texts were read, and the call's outcome is the run's, as it is for every other program text that reads
pub record Opened (s x : List ℕ) (b : Meter) (lent : Lent) : Type 0 where
  pub program : Prog
  pub object : Obj
  pub e : ℕ
  pub e' : ℕ
  pub few : length s ≤ 8192
  pub reads_program : read_program s ≡ got program e
  pub reads_object : read_object x ≡ got object e'
  pub others : (u : List ℕ) (Q : Prog) (d : ℕ) → length u ≤ 8192 → read_program u ≡ got Q d → run_call u x b lent ≡ ended lent (run one Q object b)

-- whether a table has another length, or the cells are over the limit
abbrev pub other_tables : Meter → Lent → Bool
other_tables b lent = ltb 4096 b.cells || not (eqb (length lent.forms) 8192) || not (eqb (length lent.cells) (4 * b.cells))

pub run_call_lem : (u x : List ℕ) (b : Meter) (lent : Lent) (Q : Prog) (d : ℕ) (y : Obj) (e : ℕ) → length u ≤ 8192 → ltb 16384 (length x) ≡ false → ltb 1000000 b.steps ≡ false → ltb 256 b.names ≡ false → other_tables b lent ≡ false → read_program u ≡ got Q d → read_object x ≡ got y e → run_call u x b lent ≡ ended lent (run one Q y b)
unfolding run_call
run_call_lem u x b lent Q d y e l t2 t3 t4 t5 r o = rw (le-ltb 8192 (length u) l, t2, t3, t4, t5, r, o)

pass : (t : Bool) (n : ℕ) (lent : Lent) (rest : Outcome) → n ≤ 19 → Reached (cond t (untouched n lent) rest).answer.number → (t ≡ false) × Reached rest.answer.number
pass true n lent rest low h = absurd (omega (arith, reached_low h))
pass false n lent rest low h = (refl, h)

pass_read : {A : Type 0} (lent : Lent) (t : ℕ) (r : Got A) (k : A → Outcome) → ((n p : ℕ) → r ≡ no n p → n ≤ 19) → Reached (on_read lent t r k).answer.number → (a : A) × (e : ℕ) × (r ≡ got a e) × Reached (k a).answer.number
pass_read lent t (got a e) k low h = (a, e, refl, h)
pass_read lent t (no n p) k low h = absurd (omega (arith, low n p refl, reached_low h))

pub open_run : (s x : List ℕ) (b : Meter) (lent : Lent) → Reached (run_call s x b lent).answer.number → Opened s x b lent
unfolding run_call
open_run s x b lent h =
    let p1 = pass (ltb 8192 (length s)) 1 lent _ (omega arith) h in
    let p2 = pass (ltb 16384 (length x)) 2 lent _ (omega arith) p1.1 in
    let p3 = pass (ltb 1000000 b.steps) 3 lent _ (omega arith) p2.1 in
    let p4 = pass (ltb 256 b.names) 4 lent _ (omega arith) p3.1 in
    let p5 = pass (other_tables b lent) 5 lent _ (omega arith) p4.1 in
    let p6 = pass_read lent 1 (read_program s) _ (λ n p u. omega (arith, (programs_refused s n p u).high)) p5.1 in
    let p7 = pass_read lent 2 (read_object x) _ (λ n p u. omega (arith, (objects_refused x n p u).high)) p6.3 in
    record {
      program = p6.0;
      object = p7.0;
      e = p6.1;
      e' = p7.1;
      few = ltb-false 8192 (length s) p1.0;
      reads_program = p6.2;
      reads_object = p7.2;
      others = λ u Q d l r. run_call_lem u x b lent Q d p7.0 p7.1 l p2.0 p3.0 p4.0 p5.0 r p7.2;
    }

-- a run's end that is an object or bottom
record Answered (R : RunEnd) : Type 0 where
  result : Result
  s : ℕ
  c : ℕ
  is : R ≡ reaches result s c

answered : (lent : Lent) (R : RunEnd) → Reached (ended lent R).answer.number → Answered R
answered lent (done x s c) h = record { result = object x; s = s; c = c; is = refl }
answered lent (fell s c) h = record { result = bottomResult; s = s; c = c; is = refl }
answered lent (ran_out no_step s c) h = let z : ◌≡◌ {A = Bool} true false = reached_gap h in let y : ◌≡◌ {A = ℕ} 0 1 = cc in absurd (omega arith)
answered lent (ran_out no_name s c) h = let z : ◌≡◌ {A = Bool} true false = reached_gap h in let y : ◌≡◌ {A = ℕ} 0 1 = cc in absurd (omega arith)
answered lent (ran_out no_cell s c) h = let z : ◌≡◌ {A = Bool} true false = reached_gap h in let y : ◌≡◌ {A = ℕ} 0 1 = cc in absurd (omega arith)
answered lent too_few h = absurd (omega (arith, reached_low h))

-- the same result with no more counted is answered the same
less_written : (lent : Lent) (x : Obj) (s c s' c' : ℕ) → s' ≤ s → c' ≤ c → (w : Scan) → SameButLess (scanned lent s c x w) (scanned lent s' c' x w)
less_written lent x s c s' c' p q (on o r) = record { number = refl; place = refl; text = refl; length = refl; steps = p; cells = q; lent = refl }
less_written lent x s c s' c' p q short = record { number = refl; place = refl; text = refl; length = refl; steps = p; cells = q; lent = refl }
less_written lent x s c s' c' p q deep = record { number = refl; place = refl; text = refl; length = refl; steps = p; cells = q; lent = refl }

less_counted : (lent : Lent) (r : Result) (s c s' c' : ℕ) → s' ≤ s → c' ≤ c → SameButLess (ended lent (reaches r s c)) (ended lent (reaches r s' c'))
less_counted lent bottomResult s c s' c' p q = record { number = refl; place = refl; text = refl; length = refl; steps = p; cells = q; lent = refl }
less_counted lent (object x) s c s' c' p q = less_written lent x s c s' c' p q (scan (write_obj x) 0 (room_in lent))

pub demand3_on_texts : Demand3OnTexts
demand3_on_texts s u cs x b lent h =
    let O = open_run s x b lent h in
    let S = series O.program O.e cs O.reads_program O.few in
    let first = O.others s O.program O.e O.few O.reads_program in
    let last = O.others u S.result S.e S.few S.reads in
    let A = answered lent (run one O.program O.object b) (subst (λ (o : Outcome). Reached o.answer.number) first h) in
    let N = (demand3 one O.program S.result S.uses O.object b A.result A.s A.c).0 A.is in
    let less = less_counted lent A.result A.s A.c N.s' N.c' N.steps N.cells in
    subst (λ (o : Outcome). SameButLess o (run_call u x b lent)) (sym (first ∙ ap (ended lent) A.is))
    (subst (λ (o : Outcome). SameButLess (ended lent (reaches A.result A.s A.c)) o) (sym (last ∙ ap (ended lent) N.answers)) less)

pub demand3_on_texts_back : Demand3OnTextsBack
demand3_on_texts_back s u no_call x b r R = record { budgets = b; runs = R }
demand3_on_texts_back s u (call_then {t = t} n i lent h v cs) x b r R =
    let W = law_call_lem s n i lent h in
    let later = demand3_on_texts_back t u cs x b r R in
    let K = later.runs in
    let q : K.program ≡ W.result = got_inj (sym K.reads_program ∙ ap read_program (sym v ∙ W.text) ∙ wrote_reads W) in
    let M = (demand3 one W.program W.result (use_then W.law W.place W.applies no_use) K.object later.budgets r K.steps K.cells).1 (subst (λ (Q : Prog). run one Q K.object later.budgets ≡ reaches r K.steps K.cells) q K.answers) in
    record { budgets = M.budgets; runs = record { program = W.program; object = K.object; e = W.e; e' = K.e'; reads_program = W.reads; reads_object = K.reads_object; steps = M.s; cells = M.c; answers = M.answers } }
