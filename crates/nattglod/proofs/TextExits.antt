-- The two texts of a run: a law for each way out of reading the program, of reading the object, and of applying `main`.
use Prim.Native.Nat.{ℕ, ◌+◌, ◌*◌, ◌≤◌, ◌<◌}
use mathlib.Core.Path.{◌≡◌, refl, ap, sym, subst, ◌∙◌}
use mathlib.Core.List.{List}
use native.Mathlib.Omega.{arith}
use lib.ListN.{length}
use Rattle.language.specs.Objects.{Obj, cells_of}
use Rattle.language.specs.Forms.{Prog}
use Rattle.language.specs.Reading.{Got, got, no, read_object, read_program}
use Rattle.language.specs.Answers.{bare, at}
use Rattle.language.specs.declared.Meter.{Meter}
use Rattle.language.specs.declared.Answer.{Answer}
use Rattle.language.specs.declared.Val.{Val}
use Rattle.language.specs.declared.refusals.RefusedText.{RefusedText}
use Rattle.language.specs.Refusals.{number_of}
use Rattle.std.specs.Prelude.{Result, Ok, Err}
use Rattle.theorems.proofs.ProgramsRead.{programs_read}
use Rattle.theorems.proofs.Refusals.{objects_refused, programs_refused}
use Rattle.theorems.proofs.WrittenCells.{few_constants_lem}
use Rattle.tables.specs.Tables.{put}
use Rattle.cells.specs.Encoding.{val_of, cells_from}
use Rattle.objects.specs.declared.ObjectRead.{ObjectRead}
use Rattle.objects.proofs.Refused.{error_of, Refuses, number_told}
use Rattle.objects.specs.Readings.{ReadMeets, reads, refuses, WholeReading}
use Rattle.programs.specs.declared.ProgramRead.{ProgramRead}
use Rattle.programs.specs.Definitions.{ProgramLaid, ProgramMet, program_read, program_refused}
use Rattle.primitives.specs.Ends.{Ended}
use Rattle.program_runner.specs.Mains.{MainApplied}
use Rattle.nattglod.specs.Calls.{lends, WithinLimits, TextsAnswered}
use Rattle.nattglod.specs.Stages.{Small, without_cells, ObjectAnswered, MainAnswered, EndMet}
use Rattle.nattglod.proofs.Exits as Exits
use Rattle.nattglod.proofs.Standing.{room_left, object_stands, program_loaded}

-- ---- `main` is applied
pub main_answered : {b : Meter} {T : List ℕ} {total : ℕ} {D : List ℕ} {many : ℕ} {C : List ℕ} {used : ℕ} {v : Val} {q : Ended} {C' output output' : List ℕ} {r : Answer} →
    MainApplied T total D many C v (without_cells b used) q C' → EndMet b C' q output r output' → MainAnswered b T total D many C used v output r output'
main_answered {b = b} {C = C} {used = used} A E =
    record { means = λ placed x forms cells L R p. E.means C (without_cells b used) _ forms cells (A.means placed x L R p) }

-- ---- the object
record GotObject (C : List ℕ) (used : ℕ) (v : Val) (n : ℕ) (C' : List ℕ) (g : Got Obj) : Type 0 where
  object : Obj
  ends : ℕ
  is : g ≡ got object ends
  value : v ≡ val_of used object
  counted : n ≡ used + cells_of object
  laid : (used + cells_of object) * 4 ≤ length C → C' ≡ put C (used * 4) (cells_from used object)

same_object : {x y : ObjectRead} → ◌≡◌ {A = Result ObjectRead RefusedText} (Ok x) (Ok y) → x ≡ y
same_object h = cc

module _ {C : List ℕ} {used : ℕ} {q : Result ObjectRead RefusedText} {C' : List ℕ} where
  object_got : {g : Got Obj} {y : ObjectRead} → ReadMeets C used q C' g → q ≡ Ok y → GotObject C used y.value y.cells C' g
  object_got {y = y} (reads {x = x} {e = e} h l) z =
      let i = same_object (sym z ∙ h) in
      record { object = x; ends = e; is = refl; value = ap (λ (t : ObjectRead). t.value) i; counted = ap (λ (t : ObjectRead). t.cells) i; laid = l }
  object_got (refuses h) z = absurd (let z : ◌≡◌ {A = ℕ} 0 1 = cc in omega arith)

  object_no : {g : Got Obj} {e : RefusedText} → ReadMeets C used q C' g → q ≡ Err e → Refuses e g
  object_no (reads h l) z = absurd (let z : ◌≡◌ {A = ℕ} 0 1 = cc in omega arith)
  object_no (refuses {n} {p} h) z = record { number = n; place = p; is = refl; told = error_of (sym z ∙ h) }

-- the object x in the cells behind the program's, and `main` applied to it
module _ {object : List ℕ} {x : Obj} {e : ℕ} (is : read_object object ≡ got x e) {b : Meter} {T : List ℕ} {total : ℕ} {D : List ℕ} {many : ℕ} {C : List ℕ} {used : ℕ} {v : Val} {n : ℕ} {C' output output' : List ℕ} {r : Answer} where
  object_runs : v ≡ val_of used x → n ≡ used + cells_of x → ((used + cells_of x) * 4 ≤ length C → C' ≡ put C (used * 4) (cells_from used x)) → Small (length object) b (length T) total many (length C) used → n ≤ b.cells → MainAnswered b T total D many C' n v output r output'
      → ObjectAnswered object b T total D many C used output r output'
  object_runs w k laid S l M =
      record {
        means = λ program P forms cells L.
            let u = L.laid.cells in
            let fit : used + cells_of x ≤ b.cells = omega arith in
            let s = laid (omega (arith, S.cell_table)) in
            let N : MainAnswered b T total D many C' (used + cells_of x) (val_of used x) output r output' = rw (w, k) at M in
            let E = N.means L.laid.placed x forms cells (program_loaded L object is b S fit s) (room_left L object is b S fit s) (object_stands L object is b S fit s) in
            Exits.ran program object b (lends forms cells output) L.read is (omega arith) (rw (← L.laid.program, u) at E);
      }

module _ {object C : List ℕ} {used : ℕ} {q : Result ObjectRead RefusedText} {C' : List ℕ} (W : WholeReading object C used q C') where
  module _ {e : RefusedText} (z : q ≡ Err e) where
    told : (y : Refuses e (read_object object)) → (read_object object ≡ no (number_of e.refusal) e.place) × (e.place ≤ length object)
    told y =
        let h = objects_refused object y.number y.place y.is in
        let u = number_told y.told h.low (omega (arith, h.high)) in
        (y.is ∙ ap (λ (n : ℕ). no n y.place) u.0 ∙ ap (λ (p : ℕ). no (number_of e.refusal) p) u.1, let i = h.within in omega (arith, u.1))

    pub object_place : length object ≤ 16384 → e.place ≤ 16384
    object_place l = let h = (told (object_no W.means z)).1 in omega arith

    pub object_answered_no : {b : Meter} {T : List ℕ} {total : ℕ} {D : List ℕ} {many : ℕ} {output : List ℕ} {r : Answer} → r ≡ at (number_of e.refusal) e.place 2 → ObjectAnswered object b T total D many C used output r output
    object_answered_no {b = b} {output = output} a =
        record { means = λ program P forms cells L. rw a (Exits.object_refused program object b (lends forms cells output) L.read (told (object_no W.means z)).0) }

  module _ {w : ObjectRead} (z : q ≡ Ok w) where
    y : GotObject C used w.value w.cells C' (read_object object)
    y = object_got W.means z

    pub object_answered_few : {b : Meter} {T : List ℕ} {total : ℕ} {D : List ℕ} {many : ℕ} {output : List ℕ} {r : Answer} → b.cells < w.cells → r ≡ bare 13 → ObjectAnswered object b T total D many C used output r output
    object_answered_few {b = b} {output = output} l a =
        record { means = λ program P forms cells L. rw a (Exits.too_few_lem program object b (lends forms cells output) L.read y.is (omega (arith, y.counted, L.laid.cells))) }

    pub object_answered_run : {b : Meter} {T : List ℕ} {total : ℕ} {D : List ℕ} {many : ℕ} {output output' : List ℕ} {r : Answer} → Small (length object) b (length T) total many (length C) used → w.cells ≤ b.cells → MainAnswered b T total D many C' w.cells w.value output r output' → ObjectAnswered object b T total D many C used output r output'
    object_answered_run S l M = object_runs y.is y.value y.counted y.laid S l M

-- ---- the program
record GotProgram (s t u d : List ℕ) (k n c : ℕ) (T C D : List ℕ) (g : Got Prog) : Type 0 where
  program : Prog
  ends : ℕ
  is : g ≡ got program ends
  laid : ProgramLaid s program ends t u d k n c T C D

same_program : {x y : ProgramRead} → ◌≡◌ {A = Result ProgramRead RefusedText} (Ok x) (Ok y) → x ≡ y
same_program h = cc

module _ {s t u d : List ℕ} {q : Result ProgramRead RefusedText} {T C D : List ℕ} where
  program_got : {g : Got Prog} {w : ProgramRead} → ProgramMet s t u d q T C D g → q ≡ Ok w → GotProgram s t u d w.definitions w.forms w.cells T C D g
  program_got {w = x} (program_read {Q = Q} {e = e} {w = y} h l) z =
      let i : y ≡ x = same_program (sym h ∙ z) in
      subst (λ (o : ProgramRead). GotProgram s t u d o.definitions o.forms o.cells T C D (got Q e)) i (record { program = Q; ends = e; is = refl; laid = l })
  program_got (program_refused h) z = absurd (let z : ◌≡◌ {A = ℕ} 0 1 = cc in omega arith)

  program_no : {g : Got Prog} {e : RefusedText} → ProgramMet s t u d q T C D g → q ≡ Err e → Refuses e g
  program_no (program_read h l) z = absurd (let z : ◌≡◌ {A = ℕ} 0 1 = cc in omega arith)
  program_no (program_refused {j} {p} h) z = record { number = j; place = p; is = refl; told = error_of (sym z ∙ h) }

module _ {program t u d : List ℕ} {q : Result ProgramRead RefusedText} {T C D : List ℕ} (M : ProgramMet program t u d q T C D (read_program program)) where
  module _ {e : RefusedText} (z : q ≡ Err e) where
    told_program : (y : Refuses e (read_program program)) → (read_program program ≡ no (number_of e.refusal) e.place) × (e.place ≤ length program)
    told_program y =
        let h = programs_refused program y.number y.place y.is in
        let u = number_told y.told h.low h.high in
        (y.is ∙ ap (λ (n : ℕ). no n y.place) u.0 ∙ ap (λ (p : ℕ). no (number_of e.refusal) p) u.1, let i = h.within in omega (arith, u.1))

    pub program_place : length program ≤ 8192 → e.place ≤ 16384
    program_place l = let h = (told_program (program_no M z)).1 in omega arith

    pub texts_no : {object : List ℕ} {b : Meter} {output : List ℕ} {r : Answer} → r ≡ at (number_of e.refusal) e.place 1 → TextsAnswered program object b (lends t u output) r output
    texts_no {object} {b} {output} a = rw a (Exits.program_refused program object b (lends t u output) (told_program (program_no M z)).0)

  module _ {w : ProgramRead} (z : q ≡ Ok w) where
    g : GotProgram program t u d w.definitions w.forms w.cells T C D (read_program program)
    g = program_got M z

    pub program_small : {object : ℕ} {b : Meter} → WithinLimits (length program) object b (length t) (length u) → length T ≡ length t → Small object b (length T) w.forms w.definitions (length C) w.cells
    program_small S i =
        let f = (programs_read program g.program g.ends g.is).well_formed in
        let l = few_constants_lem program g.program g.ends S.short_program g.is in
        record { short_object = S.short_object; few_cells = S.few_cells; form_table = i ∙ S.form_table; cell_table = g.laid.long ∙ S.cell_table; few_forms = omega (arith, g.laid.forms); few_definitions = omega (arith, g.laid.definitions); few_constants = omega (arith, g.laid.cells) }

    pub texts_got : {object : List ℕ} {b : Meter} {output : List ℕ} {r : Answer} {output' : List ℕ} → ObjectAnswered object b T w.forms D w.definitions C w.cells output r output' → TextsAnswered program object b (lends t u output) r output'
    texts_got A = A.means program g.program t u (record { ends = g.ends; forms = t; cells = u; definitions = d; read = g.is; laid = g.laid })
