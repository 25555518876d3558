-- Every call answers from document 01's table.
use Prim.Native.Nat.{ℕ, zero, suc, ◌*◌, ◌≤◌}
use mathlib.Core.Path.{◌≡◌, refl, sym, ◌∙◌}
use mathlib.Core.Bool.{Bool, true, false, cond, ◌||◌, not, false≢true, true≢false}
use mathlib.Core.List.{List, [], ◌∷◌}
use mathlib.Core.Option.{Option, some, none}
use native.Mathlib.Omega.{arith}
use lib.Dec.{leb, ltb, eqb}
use lib.ListN.{length, drop, length-append, length-drop}
use lib.Seq.{drop-append_seam}
use borrow.Author.Tests.{leb-true}
use Rattle.language.specs.declared.Answer.{Answer}
use Rattle.language.specs.Objects.{Obj}
use Rattle.language.specs.Forms.{Prog, forms_of}
use Rattle.language.specs.Reading.{Got, got, no, Placed, program_of, calls, is_in, none_twice, within_limits, read_object, read_program}
use Rattle.language.specs.Writing.{write_obj, write_program, Scan, on, short, deep, scan}
use Rattle.language.specs.Numbers.{one}
use Rattle.language.specs.Evaluation.{no_step, no_name, no_cell, RunEnd, done, fell, ran_out, too_few, run}
use Rattle.language.specs.Laws.{Law}
use Rattle.language.specs.Uses.{apply_law, law_numbered, simplify}
use Rattle.language.specs.Answers.{Lent, Outcome, bare, at, counting, untouched, unwritten, written, room_in, scanned, ended, on_read, run_call, rewritten, used, used_law, with_program, law_call, simplify_call}
use Rattle.theorems.specs.AnswerTable.{is_one_of, Table, run_table, law_table, simplify_table, with_place, with_text, of_program, with_length, touch_nothing, SixNumbers, FromTable, RunFromTable, LawFromTable, SimplifyFromTable}
use Rattle.theorems.proofs.Outcomes as Outcomes
use Rattle.theorems.proofs.Outcomes.{no_meets, meets_then, meets_cond}
use Rattle.theorems.proofs.Refusals.{objects_refused, programs_refused, definitions_within, Reads as Within}
use Rattle.theorems.proofs.Scans.{scan-length}

-- ---- numbers among others

-- 6 to 11, one by one
data Refused : ℕ → Type 0 where
  six : Refused 6
  seven : Refused 7
  eight : Refused 8
  nine : Refused 9
  ten : Refused 10
  eleven : Refused 11

refused_is : (n : ℕ) → 6 ≤ n → n ≤ 11 → Refused n
refused_is zero l h = absurd (omega arith)
refused_is (suc zero) l h = absurd (omega arith)
refused_is (suc (suc zero)) l h = absurd (omega arith)
refused_is (suc (suc (suc zero))) l h = absurd (omega arith)
refused_is (suc (suc (suc (suc zero)))) l h = absurd (omega arith)
refused_is (suc (suc (suc (suc (suc zero))))) l h = absurd (omega arith)
refused_is (suc (suc (suc (suc (suc (suc zero)))))) l h = six
refused_is (suc (suc (suc (suc (suc (suc (suc zero))))))) l h = seven
refused_is (suc (suc (suc (suc (suc (suc (suc (suc zero)))))))) l h = eight
refused_is (suc (suc (suc (suc (suc (suc (suc (suc (suc zero))))))))) l h = nine
refused_is (suc (suc (suc (suc (suc (suc (suc (suc (suc (suc zero)))))))))) l h = ten
refused_is (suc (suc (suc (suc (suc (suc (suc (suc (suc (suc (suc zero))))))))))) l h = eleven
refused_is (suc (suc (suc (suc (suc (suc (suc (suc (suc (suc (suc (suc n)))))))))))) l h = absurd (omega arith)

no_way : {A : Type 0} → ◌≡◌ {A = Bool} true false → A
no_way h = absurd (true≢false h)

no_way' : {A : Type 0} → ◌≡◌ {A = Bool} false true → A
no_way' h = absurd (false≢true h)

-- ---- each kind of outcome

module _ (t : Table) (lent : Lent) where
  -- 1 to 5
  bare_numbers : (n : ℕ) → is_one_of n t.numbers ≡ true → is_one_of n with_text ≡ false → is_one_of n of_program ≡ false → SixNumbers t (bare n)
  bare_numbers n h k g = record {
    number = h;
    place = λ i. refl;
    text = λ i. no_way (sym i ∙ k);
    program_text = λ i. no_way (sym i ∙ g);
    no_text = λ i. refl;
    steps = λ i. refl;
    cells = λ i. refl;
    length = λ i. refl;
  }

  from_untouched : (n : ℕ) → is_one_of n t.numbers ≡ true → is_one_of n with_text ≡ false → is_one_of n of_program ≡ false → is_one_of n touch_nothing ≡ true → is_one_of n with_length ≡ false → FromTable t lent (untouched n lent)
  from_untouched n h k g u l = record {
    numbers = bare_numbers n h k g;
    buffers = record { untouched = λ i. refl; zeroed = λ i. no_way (sym u ∙ i); unwritten = λ i. refl; written = λ i. no_way (sym i ∙ l) };
  }

  -- all others but 20
  from_unwritten : (a : Answer) → SixNumbers t a → is_one_of a.number touch_nothing ≡ false → is_one_of a.number with_length ≡ false → FromTable t lent (unwritten lent a)
  from_unwritten a h u l = record {
    numbers = h;
    buffers = record { untouched = λ i. no_way (sym i ∙ u); zeroed = λ i. record { forms = refl; cells = refl }; unwritten = λ i. refl; written = λ i. no_way (sym i ∙ l) };
  }

  from_bare : (n : ℕ) → is_one_of n t.numbers ≡ true → is_one_of n with_text ≡ false → is_one_of n of_program ≡ false → is_one_of n touch_nothing ≡ false → is_one_of n with_length ≡ false → FromTable t lent (unwritten lent (bare n))
  from_bare n h k g u l = from_unwritten (bare n) (bare_numbers n h k g) u l

  -- an answer that carries steps, and cells unless they are 0
  from_counting : (n s c : ℕ) → is_one_of n t.numbers ≡ true → is_one_of n with_text ≡ false → is_one_of n of_program ≡ false → is_one_of n t.with_steps ≡ true → (is_one_of n t.with_cells ≡ false → c ≡ 0) → is_one_of n touch_nothing ≡ false → is_one_of n with_length ≡ false → FromTable t lent (unwritten lent (counting n s c 0))
  from_counting n s c h k g p q u l =
      from_unwritten (counting n s c 0) (record {
        number = h;
        place = λ i. refl;
        text = λ i. no_way (sym i ∙ k);
        program_text = λ i. no_way (sym i ∙ g);
        no_text = λ i. refl;
        steps = λ i. no_way (sym p ∙ i);
        cells = q;
        length = λ i. refl;
      }) u l

  -- 20
  from_written : (s c : ℕ) (text : List ℕ) → is_one_of 20 t.numbers ≡ true → is_one_of 20 t.with_steps ≡ true → (is_one_of 20 t.with_cells ≡ false → c ≡ 0) → length text ≤ length lent.output → FromTable t lent (written lent s c text)
  from_written s c text h p q l = record {
    numbers = record {
      number = h;
      place = λ i. refl;
      text = λ i. no_way' i;
      program_text = λ i. no_way' i;
      no_text = λ i. refl;
      steps = λ i. no_way (sym p ∙ i);
      cells = q;
      length = λ i. no_way i;
    };
    buffers = record {
      untouched = λ i. no_way' i;
      zeroed = λ i. record { forms = refl; cells = refl };
      unwritten = λ i. no_way i;
      written = λ i. record { fits = l; as_long = rw (length-append, length-drop) (omega arith); behind = drop-append_seam text (drop (length text) lent.output) };
    };
  }

  from-cond : (b : Bool) {x y : Outcome} → FromTable t lent x → (b ≡ false → FromTable t lent y) → FromTable t lent (cond b x y)
  from-cond true f g = f
  from-cond false f g = g refl

  -- a refusal of a text
  from_refused : (n p k : ℕ) → is_one_of n t.numbers ≡ true → is_one_of k t.texts ≡ true → is_one_of n with_text ≡ true → (is_one_of n of_program ≡ true → k ≡ 1) → (is_one_of n with_place ≡ false → p ≡ 0) → is_one_of n touch_nothing ≡ false → is_one_of n with_length ≡ false → FromTable t lent (unwritten lent (at n p k))
  from_refused n p k h r x g q u l =
      from_unwritten (at n p k) (record {
        number = h;
        place = q;
        text = λ i. r;
        program_text = g;
        no_text = λ i. no_way (sym x ∙ i);
        steps = λ i. refl;
        cells = λ i. refl;
        length = λ i. refl;
      }) u l

-- ---- refusals

-- 10 has place 0
abbrev TenAtZero : ℕ → ℕ → Type 0
TenAtZero n p = n ≡ 10 → p ≡ 0

abbrev Any : Prog → ℕ → Type 0
Any P e = Unit {0}

below_ten : {A : Type 0} {Q : A → ℕ → Type 0} {s : List ℕ} {r : Got A} → Within s Q r → Outcomes.Outcome TenAtZero Q r
below_ten (Outcomes.meets q) = Outcomes.meets q
below_ten (Outcomes.refuses_by {n = n} {p = p} h) = Outcomes.refuses_by (low n p h.high)
  where
    low : (n p : ℕ) → n ≤ 9 → TenAtZero n p
    low n p l e = absurd (omega arith)

twice_not_ten : (earlier : List (List ℕ)) (ds : List Placed) (good : Got Prog) → Outcomes.Outcome TenAtZero Any good → Outcomes.Outcome TenAtZero Any (none_twice earlier ds good)
unfolding none_twice
twice_not_ten earlier [] good h = h
twice_not_ten earlier (d ∷ ds) good h =
    meets_cond (is_in d.def.called earlier) (λ t. Outcomes.refuses_by {n = 11} (λ e. absurd (omega arith))) (λ t. twice_not_ten (d.def.called ∷ earlier) ds good h)

ten_at_zero : (s : List ℕ) (n p : ℕ) → read_program s ≡ no n p → TenAtZero n p
unfolding read_program within_limits
ten_at_zero s n p h =
    no_meets (meets_then (below_ten (definitions_within (calls s) s 0 (omega arith))) (λ ds e q.
    let P = program_of ds in
    meets_cond (ltb 2048 (forms_of P) || ltb 128 (length P)) (λ t. Outcomes.refuses_by {n = 10} {p = 0} (λ e. refl))
    (λ t. twice_not_ten [] ds (got P e) (Outcomes.meets tt)))) h

-- what a call's table says of 6 to 11
record Reads (t : Table) (k : ℕ) : Type 0 where
  text : is_one_of k t.texts ≡ true
  has6 : is_one_of 6 t.numbers ≡ true
  has7 : is_one_of 7 t.numbers ≡ true
  has8 : is_one_of 8 t.numbers ≡ true
  has9 : is_one_of 9 t.numbers ≡ true
  has10 : is_one_of 10 t.numbers ≡ true
  has11 : is_one_of 11 t.numbers ≡ true

from_refusal : (t : Table) (lent : Lent) (n p k : ℕ) → Reads t k → Refused n → (10 ≤ n → k ≡ 1) → TenAtZero n p → FromTable t lent (unwritten lent (at n p k))
from_refusal t lent n p k r six o z = from_refused t lent 6 p k r.has6 r.text refl (λ i. no_way' i) (λ i. no_way i) refl refl
from_refusal t lent n p k r seven o z = from_refused t lent 7 p k r.has7 r.text refl (λ i. no_way' i) (λ i. no_way i) refl refl
from_refusal t lent n p k r eight o z = from_refused t lent 8 p k r.has8 r.text refl (λ i. no_way' i) (λ i. no_way i) refl refl
from_refusal t lent n p k r nine o z = from_refused t lent 9 p k r.has9 r.text refl (λ i. no_way' i) (λ i. no_way i) refl refl
from_refusal t lent n p k r ten o z = from_refused t lent 10 p k r.has10 r.text refl (λ i. o (omega arith)) (λ i. z refl) refl refl
from_refusal t lent n p k r eleven o z = from_refused t lent 11 p k r.has11 r.text refl (λ i. o (omega arith)) (λ i. no_way i) refl refl

from_program : (t : Table) (lent : Lent) (s : List ℕ) (f : Prog → Outcome) → Reads t 1 → ((P : Prog) → FromTable t lent (f P)) → FromTable t lent (on_read lent 1 (read_program s) f)
from_program t lent s f r g = go (read_program s) refl
  where
    go : (q : Got Prog) → read_program s ≡ q → FromTable t lent (on_read lent 1 q f)
    go (got P e) u = g P
    go (no n p) u = let R = programs_refused s n p u in from_refusal t lent n p 1 r (refused_is n R.low R.high) (λ l. refl) (ten_at_zero s n p u)

from_object : (t : Table) (lent : Lent) (s : List ℕ) (f : Obj → Outcome) → Reads t 2 → ((x : Obj) → FromTable t lent (f x)) → FromTable t lent (on_read lent 2 (read_object s) f)
from_object t lent s f r g = go (read_object s) refl
  where
    go : (q : Got Obj) → read_object s ≡ q → FromTable t lent (on_read lent 2 q f)
    go (got x e) u = g x
    go (no n p) u =
        let R = objects_refused s n p u in
        from_refusal t lent n p 2 r (refused_is n R.low (omega (arith, R.high))) (λ l. absurd (omega (arith, R.high))) (λ e. absurd (omega (arith, R.high)))

-- ---- a run

run_reads : (k : ℕ) → is_one_of k run_table.texts ≡ true → Reads run_table k
run_reads k h = record { text = h; has6 = refl; has7 = refl; has8 = refl; has9 = refl; has10 = refl; has11 = refl }

from_scan : (lent : Lent) (s c : ℕ) (x : Obj) (w : Scan) → scan (write_obj x) 0 (room_in lent) ≡ w → FromTable run_table lent (scanned lent s c x w)
from_scan lent s c x (on o r) h = let l = scan-length (write_obj x) 0 (room_in lent) o r h in from_written run_table lent s c (write_obj x) refl refl (λ i. no_way i) (omega arith)
from_scan lent s c x short h = from_counting run_table lent 25 s c refl refl refl refl (λ i. no_way i) refl refl
from_scan lent s c x deep h = from_counting run_table lent 26 s c refl refl refl refl (λ i. no_way i) refl refl

from_end : (lent : Lent) (r : RunEnd) → FromTable run_table lent (ended lent r)
from_end lent (done x s c) = from_scan lent s c x (scan (write_obj x) 0 (room_in lent)) refl
from_end lent (fell s c) = from_counting run_table lent 21 s c refl refl refl refl (λ i. no_way i) refl refl
from_end lent (ran_out no_step s c) = from_counting run_table lent 22 s c refl refl refl refl (λ i. no_way i) refl refl
from_end lent (ran_out no_name s c) = from_counting run_table lent 23 s c refl refl refl refl (λ i. no_way i) refl refl
from_end lent (ran_out no_cell s c) = from_counting run_table lent 24 s c refl refl refl refl (λ i. no_way i) refl refl
from_end lent too_few = from_bare run_table lent 13 refl refl refl refl refl

pub run_from_table : RunFromTable
unfolding run_call
run_from_table s x b lent =
    from-cond run_table lent (ltb 8192 (length s)) (from_untouched run_table lent 1 refl refl refl refl refl) (λ t.
    from-cond run_table lent (ltb 16384 (length x)) (from_untouched run_table lent 2 refl refl refl refl refl) (λ t.
    from-cond run_table lent (ltb 1000000 b.steps) (from_untouched run_table lent 3 refl refl refl refl refl) (λ t.
    from-cond run_table lent (ltb 256 b.names) (from_untouched run_table lent 4 refl refl refl refl refl) (λ t.
    from-cond run_table lent (ltb 4096 b.cells || not (eqb (length lent.forms) 8192) || not (eqb (length lent.cells) (4 * b.cells))) (from_untouched run_table lent 5 refl refl refl refl refl) (λ t.
    from_program run_table lent s _ (run_reads 1 refl) (λ P. from_object run_table lent x _ (run_reads 2 refl) (λ y. from_end lent (run one P y b))))))))

-- ---- the laws and the simplifier

-- what both tables have
record Rewrites (t : Table) : Type 0 where
  one : is_one_of 1 t.numbers ≡ true
  five : is_one_of 5 t.numbers ≡ true
  reads : Reads t 1
  done : is_one_of 20 t.numbers ≡ true
  done_steps : is_one_of 20 t.with_steps ≡ true
  long : is_one_of 25 t.numbers ≡ true
  long_steps : is_one_of 25 t.with_steps ≡ true

module _ (t : Table) (R : Rewrites t) (lent : Lent) where
  from_rewritten : (uses : ℕ) (Q : Prog) → FromTable t lent (rewritten lent uses Q)
  from_rewritten uses Q = go (leb (length (write_program Q)) (room_in lent)) refl
    where
      go : (u : Bool) → leb (length (write_program Q)) (room_in lent) ≡ u → FromTable t lent (cond u (written lent uses 0 (write_program Q)) (unwritten lent (counting 25 uses 0 0)))
      go true h = let l = leb-true (length (write_program Q)) (room_in lent) h in from_written t lent uses 0 (write_program Q) R.done R.done_steps (λ i. refl) (omega arith)
      go false h = from_counting t lent 25 uses 0 R.long refl refl R.long_steps (λ i. refl) refl refl

  from_call : (s : List ℕ) (f : Prog → Outcome) → ((P : Prog) → FromTable t lent (f P)) → FromTable t lent (with_program s lent f)
  from_call s f g =
      from-cond t lent (ltb 8192 (length s)) (from_untouched t lent 1 R.one refl refl refl refl) (λ u.
      from-cond t lent (not (eqb (length lent.forms) 8192) || not (eqb (length lent.cells) 16384)) (from_untouched t lent 5 R.five refl refl refl refl) (λ v.
      from_program t lent s f R.reads g))

law_rewrites : Rewrites law_table
law_rewrites = record { one = refl; five = refl; reads = record { text = refl; has6 = refl; has7 = refl; has8 = refl; has9 = refl; has10 = refl; has11 = refl }; done = refl; done_steps = refl; long = refl; long_steps = refl }

simplify_rewrites : Rewrites simplify_table
simplify_rewrites = record { one = refl; five = refl; reads = record { text = refl; has6 = refl; has7 = refl; has8 = refl; has9 = refl; has10 = refl; has11 = refl }; done = refl; done_steps = refl; long = refl; long_steps = refl }

from_used : (lent : Lent) (o : Option Prog) → FromTable law_table lent (used lent o)
from_used lent none = from_bare law_table lent 14 refl refl refl refl refl
from_used lent (some Q) = from_rewritten law_table law_rewrites lent 1 Q

from_law : (lent : Lent) (i : ℕ) (P : Prog) (o : Option Law) → FromTable law_table lent (used_law lent i P o)
from_law lent i P none = from_bare law_table lent 15 refl refl refl refl refl
from_law lent i P (some l) = from_used lent (apply_law l i P)

pub law_from_table : LawFromTable
unfolding law_call
law_from_table s n i lent = from_call law_table law_rewrites lent s _ (λ P. from_law lent i P (law_numbered n))

pub simplify_from_table : SimplifyFromTable
unfolding simplify_call
simplify_from_table s lent = from_call simplify_table simplify_rewrites lent s _ (λ P. from_rewritten simplify_table simplify_rewrites lent (simplify P).uses (simplify P).program)
