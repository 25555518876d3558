-- What a run call writes reads as the object that was reached, and `main=id;` writes it again.
use Prim.Native.Nat.{ℕ, ◌+◌, ◌-◌, ◌*◌, ◌≤◌}
use mathlib.Core.Path.{◌≡◌, refl, sym, subst, ap, ◌∙◌}
use mathlib.Core.Bool.{false}
use mathlib.Core.List.{List, [], ◌∷◌}
use native.Mathlib.Omega.{arith}
use lib.ListN.{length, drop}
use lib.Seq.{take-append_seam}
use borrow.Author.Tests.{le-ltb, eq-eqb}
use Rattle.language.specs.declared.Meter.{Meter}
use Rattle.language.specs.Bytes.{bytes}
use Rattle.language.specs.Objects.{Obj, cells_of}
use Rattle.language.specs.Words.{Op}
use Rattle.language.specs.Forms.{word, op, Prog, main_form}
use Rattle.language.specs.Tokens.{span, place_from, size, size_at, dash_size}
use Rattle.language.specs.Judging.{judge_word, word_form, judge_part, judge_name}
use Rattle.language.specs.Reading.{got, read_object, read_program, mark, after_part, read_form, definition_at, read_definitions, is_in, none_twice, within_limits}
use Rattle.language.specs.Writing.{write_obj, Scan, on, short, deep, scan}
use Rattle.language.specs.Numbers.{one}
use Rattle.language.specs.Evaluation.{no_step, no_name, no_cell, RunEnd, done, fell, ran_out, too_few, starting_cells, run}
use Rattle.language.specs.Accepted.{IsObj}
use Rattle.language.specs.Answers.{Lent, Outcome, counting, written, room_in, scanned, ended, run_call}
use Rattle.theorems.specs.Demand3.{object, Reached, wrote}
use Rattle.theorems.specs.Written.{text_of, WrittenReadsBack, WrittenAgain}
use Rattle.theorems.proofs.ObjectsBack.{objects_read_back}
use Rattle.theorems.proofs.ObjectsRead.{objects_read}
use Rattle.theorems.proofs.ProgramsRead.{programs_read}
use Rattle.theorems.proofs.Ends.{just, Ends, name_in, word_object}
use Rattle.theorems.proofs.Reached.{ran_complete}
use Rattle.theorems.proofs.ResultObjects.{reached_is}
use Rattle.theorems.proofs.Scans.{scan-length, scan_fits, scan_marks}
use Rattle.theorems.proofs.Demand3OnTexts.{got_inj, Opened, open_run, other_tables, run_call_lem}

-- ---- a run call that answers 20

-- an outcome's text, where the object's whole text is written
written_text : (lent : Lent) (s c : ℕ) (w : List ℕ) → text_of (written lent s c w) ≡ w
written_text lent s c w = take-append_seam w (drop (length w) lent.output)

-- the object reached, its text scanned to the end
record Done (lent : Lent) (R : RunEnd) : Type 0 where
  result : Obj
  s : ℕ
  c : ℕ
  o : ℕ
  r : ℕ
  reached : R ≡ done result s c
  scanned : scan (write_obj result) 0 (room_in lent) ≡ on o r

scan_done : (lent : Lent) (x : Obj) (s c : ℕ) (w : Scan) → scan (write_obj x) 0 (room_in lent) ≡ w → (scanned lent s c x w).answer.number ≡ 20 → Done lent (done x s c)
scan_done lent x s c (on o r) e h = record { result = x; s = s; c = c; o = o; r = r; reached = refl; scanned = e }
scan_done lent x s c short e h = absurd (omega (arith, h))
scan_done lent x s c deep e h = absurd (omega (arith, h))

end_done : (lent : Lent) (R : RunEnd) → (ended lent R).answer.number ≡ 20 → Done lent R
end_done lent (done x s c) h = scan_done lent x s c (scan (write_obj x) 0 (room_in lent)) refl h
end_done lent (fell s c) h = absurd (omega (arith, h))
end_done lent (ran_out no_step s c) h = absurd (omega (arith, h))
end_done lent (ran_out no_name s c) h = absurd (omega (arith, h))
end_done lent (ran_out no_cell s c) h = absurd (omega (arith, h))
end_done lent too_few h = absurd (omega (arith, h))

-- what such a call's texts hold, and the object that it wrote
record Wrote (s x t : List ℕ) (b : Meter) (lent : Lent) : Type 0 where
  opened : Opened s x b lent
  ends : Done lent (run one opened.program opened.object b)
  is_obj : IsObj ends.result
  text : write_obj ends.result ≡ t

wrote_is : (s x t : List ℕ) (b : Meter) (lent : Lent) → (run_call s x b lent).answer.number ≡ 20 → text_of (run_call s x b lent) ≡ t → Wrote s x t b lent
wrote_is s x t b lent h u =
    let O = open_run s x b lent (subst Reached (sym h) wrote) in
    let first = O.others s O.program O.e O.few O.reads_program in
    let D = end_done lent (run one O.program O.object b) (sym (ap (λ (o : Outcome). o.answer.number) first) ∙ h) in
    let w = write_obj D.result in
    let e : run_call s x b lent ≡ written lent D.s D.c w = first ∙ ap (ended lent) D.reached ∙ ap (scanned lent D.s D.c D.result) D.scanned in
    record {
      opened = O;
      ends = D;
      is_obj = reached_is one O.program O.object D.result b D.s D.c (programs_read s O.program O.e O.reads_program).well_formed.definitions (objects_read x O.object O.e' O.reads_object).is_obj D.reached;
      text = sym (written_text lent D.s D.c w) ∙ sym (ap text_of e) ∙ u;
    }

-- its text reads as the object
wrote_back : {s x t : List ℕ} {b : Meter} {lent : Lent} (W : Wrote s x t b lent) → read_object t ≡ got W.ends.result (length t)
wrote_back {lent = lent} W =
    let D = W.ends in
    let m = scan_marks D.result W.is_obj (room_in lent) D.o D.r D.scanned in
    subst (λ (v : List ℕ). read_object v ≡ got D.result (length v)) W.text (objects_read_back D.result W.is_obj m)

pub written_reads_back : WrittenReadsBack
written_reads_back s x t b lent h u =
    let W = wrote_is s x t b lent h u in
    let O = W.opened in
    let D = W.ends in
    record {
      result = D.result;
      runs = record { program = O.program; object = O.object; e = O.e; e' = O.e'; reads_program = O.reads_program; reads_object = O.reads_object; steps = D.s; cells = D.c; answers = D.reached };
      writes = W.text;
      reads_back = wrote_back W;
    }

-- ---- `main=id;`

abbrev identity : Prog
identity = record { called = bytes "main"; body = word (op Op.id) } ∷ []

identity_reads : read_program (bytes "main=id;") ≡ got identity 8
unfolding read_program read_definitions definition_at within_limits none_twice is_in read_form after_part mark judge_name judge_part word_form judge_word dash_size size_at size place_from span
identity_reads = refl

identity_ends : (y : Obj) → Ends one identity 1 (just main_form y) (object y) 2 0
identity_ends y = name_in refl (word_object refl)

identity_runs : (y : Obj) (b : Meter) → 2 ≤ b.steps → 1 ≤ b.names → cells_of y ≤ b.cells → run one identity y b ≡ done y 2 (cells_of y)
identity_runs y b s n c =
    let e : starting_cells identity y + 0 ≡ cells_of y = omega arith in
    subst (λ (k : ℕ). run one identity y b ≡ done y 2 k) e (ran_complete one identity y b (object y) (identity_ends y) n s (omega arith))

-- the tables have the right lengths
tables_fit : (b : Meter) (lent : Lent) → b.cells ≤ 4096 → length lent.forms ≡ 8192 → length lent.cells ≡ 4 * b.cells → other_tables b lent ≡ false
tables_fit b lent c f g = rw (le-ltb 4096 b.cells c, eq-eqb (length lent.forms) 8192 f, eq-eqb (length lent.cells) (4 * b.cells) g)

pub written_again : WrittenAgain
written_again s x t b lent h u y e g b' lent' E =
    let W = wrote_is s x t b lent h u in
    let D = W.ends in
    let q : D.result ≡ y = got_inj (sym (wrote_back W) ∙ g) in
    let w : write_obj y ≡ t = ap write_obj (sym q) ∙ W.text in
    let n = ap length w in
    let k = ap length W.text in
    let short = scan-length (write_obj D.result) 0 (room_in lent) D.o D.r D.scanned in
    let out = E.output in
    let z = subst (λ (v : Obj). scan (write_obj v) 0 (room_in lent') ≡ on D.o (room_in lent' - length (write_obj v))) q (scan_fits (write_obj D.result) 0 (room_in lent) (room_in lent') D.o D.r D.scanned (omega arith)) in
    let f = run_call_lem (bytes "main=id;") t b' lent' identity 8 y e (omega arith) (le-ltb 16384 (length t) (omega arith)) (le-ltb 1000000 b'.steps E.steps_within) (le-ltb 256 b'.names E.names_within) (tables_fit b' lent' E.cells_within E.form_table E.cell_table) identity_reads g in
    let a : run_call (bytes "main=id;") t b' lent' ≡ written lent' 2 (cells_of y) (write_obj y) = f ∙ ap (ended lent') (identity_runs y b' E.steps E.names E.cells) ∙ ap (scanned lent' 2 (cells_of y) y) z in
    (ap (λ (o : Outcome). o.answer) a ∙ ap (counting 20 2 (cells_of y)) n, ap text_of a ∙ written_text lent' 2 (cells_of y) (write_obj y) ∙ w)
