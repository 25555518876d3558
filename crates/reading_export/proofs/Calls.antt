-- A law for each way out of the two calls.
use Prim.Native.Nat.{ℕ, ◌+◌, ◌≤◌, ◌<◌}
use mathlib.Core.Path.{◌≡◌, refl, ap, sym, ◌∙◌}
use mathlib.Core.List.{List}
use native.Mathlib.Omega.{arith}
use lib.ListN.{length}
use borrow.Author.Tests.{lt-ltb, le-ltb, eq-eqb, ne_eqb}
use Rattle.language.specs.Objects.{Obj, cells_of}
use Rattle.language.specs.Forms.{Prog}
use Rattle.language.specs.Reading.{Got, read_object, read_program}
use Rattle.language.specs.declared.refusals.RefusedText.{RefusedText}
use Rattle.language.specs.Refusals.{number_of}
use Rattle.std.specs.Prelude.{Result, Ok, Err}
use Rattle.objects.specs.declared.ObjectRead.{ObjectRead}
use Rattle.objects.proofs.Refused.{error_of, number_told}
use Rattle.theorems.proofs.Refusals.{objects_refused, programs_refused}
use Rattle.objects.specs.Readings.{ReadMeets, reads, refuses, WholeReading}
use Rattle.programs.specs.declared.ProgramRead.{ProgramRead}
use Rattle.programs.specs.Definitions.{ProgramMet, program_read, program_refused}
use Rattle.reading_export.specs.Numbers.{joined, program_answer, object_answer, program_call, object_call}

-- ---- programs
pub program_long : (s : List ℕ) (f d : ℕ) {v : ℕ} → 8192 < length s → v ≡ joined 1 0 → v ≡ program_call s f d
unfolding program_call
program_long s f d l e = rw (lt-ltb 8192 (length s) l) e

pub program_forms : (s : List ℕ) (f d : ℕ) {v : ℕ} → length s ≤ 8192 → (f ≡ 8192 → ⊥) → v ≡ joined 5 0 → v ≡ program_call s f d
unfolding program_call
program_forms s f d l h e = rw (le-ltb 8192 (length s) l, ne_eqb f 8192 h) e

pub program_names : (s : List ℕ) (f d : ℕ) {v : ℕ} → length s ≤ 8192 → f ≡ 8192 → (d ≡ 512 → ⊥) → v ≡ joined 5 0 → v ≡ program_call s f d
unfolding program_call
program_names s f d l h i e = rw (le-ltb 8192 (length s) l, eq-eqb f 8192 h, ne_eqb d 512 i) e

program_is : (s : List ℕ) (f d : ℕ) → length s ≤ 8192 → f ≡ 8192 → d ≡ 512 → program_call s f d ≡ program_answer (read_program s)
unfolding program_call
program_is s f d l h i = rw (le-ltb 8192 (length s) l, eq-eqb f 8192 h, eq-eqb d 512 i)

same_program : {x y : ProgramRead} → ◌≡◌ {A = Result ProgramRead RefusedText} (Ok x) (Ok y) → x ≡ y
same_program h = cc

module _ {s t u d t' u' d' : List ℕ} {r : Result ProgramRead RefusedText} where
  met_no : {g : Got Prog} {e : RefusedText} → read_program s ≡ g → ProgramMet s t u d r t' u' d' g → r ≡ Err e → program_answer g ≡ joined (number_of e.refusal) e.place
  met_no i (program_read h l) q = absurd (let z : ◌≡◌ {A = ℕ} 0 1 = cc in omega arith)
  met_no {e = e} i (program_refused {j} {p} h) q =
      let w = programs_refused s j p i in
      let u = number_told (error_of (sym q ∙ h)) w.low w.high in
      ap (λ n. joined n p) u.0 ∙ ap (λ m. joined (number_of e.refusal) m) u.1

  met_got : {g : Got Prog} {w : ProgramRead} → ProgramMet s t u d r t' u' d' g → r ≡ Ok w → program_answer g ≡ joined 20 w.forms
  met_got {w = x} (program_read {w = y} h l) q =
      let z : y ≡ x = same_program (sym h ∙ q) in
      ap (λ m. joined 20 m) (sym l.forms ∙ ap (λ (i : ProgramRead). i.forms) z)
  met_got (program_refused h) q = absurd (let z : ◌≡◌ {A = ℕ} 0 1 = cc in omega arith)

  pub program_refuses : {f l v : ℕ} {e : RefusedText} → ProgramMet s t u d r t' u' d' (read_program s) → length s ≤ 8192 → f ≡ 8192 → l ≡ 512 → r ≡ Err e → v ≡ joined (number_of e.refusal) e.place → v ≡ program_call s f l
  program_refuses {f = f} {l = l} {e = e} m short eight names q i = i ∙ sym (program_is s f l short eight names ∙ met_no refl m q)

  pub program_reads : {f l v : ℕ} {w : ProgramRead} → ProgramMet s t u d r t' u' d' (read_program s) → length s ≤ 8192 → f ≡ 8192 → l ≡ 512 → r ≡ Ok w → v ≡ joined 20 w.forms → v ≡ program_call s f l
  program_reads {f = f} {l = l} m short eight names q e = e ∙ sym (program_is s f l short eight names ∙ met_got m q)

-- ---- objects
pub object_long : (s : List ℕ) {v : ℕ} → 16384 < length s → v ≡ joined 2 0 → v ≡ object_call s
unfolding object_call
object_long s l e = rw (lt-ltb 16384 (length s) l) e

object_is : (s : List ℕ) → length s ≤ 16384 → object_call s ≡ object_answer (read_object s)
unfolding object_call
object_is s l = rw (le-ltb 16384 (length s) l)

same_object : {x y : ObjectRead} → ◌≡◌ {A = Result ObjectRead RefusedText} (Ok x) (Ok y) → x ≡ y
same_object h = cc

module _ {C C' : List ℕ} {r : Result ObjectRead RefusedText} where
  read_no : (s : List ℕ) {g : Got Obj} {e : RefusedText} → read_object s ≡ g → ReadMeets C 0 r C' g → r ≡ Err e → object_answer g ≡ joined (number_of e.refusal) e.place
  read_no s i (reads h l) q = absurd (let z : ◌≡◌ {A = ℕ} 0 1 = cc in omega arith)
  read_no s {e = e} i (refuses {n} {p} h) q =
      let w = objects_refused s n p i in
      let u = number_told (error_of (sym q ∙ h)) w.low (omega (arith, w.high)) in
      ap (λ n. joined n p) u.0 ∙ ap (λ m. joined (number_of e.refusal) m) u.1

  read_got : {g : Got Obj} {y : ObjectRead} → ReadMeets C 0 r C' g → r ≡ Ok y → object_answer g ≡ joined 20 y.cells
  read_got {y = y} (reads {x = x} h l) q =
      let z : 0 + cells_of x ≡ y.cells = ap (λ (i : ObjectRead). i.cells) (same_object (sym h ∙ q)) in
      ap (λ m. joined 20 m) (let y : cells_of x ≡ y.cells = omega arith in y)
  read_got (refuses h) q = absurd (let z : ◌≡◌ {A = ℕ} 0 1 = cc in omega arith)

module _ {s C C' : List ℕ} {r : Result ObjectRead RefusedText} where
  pub object_refuses : {v : ℕ} {e : RefusedText} → WholeReading s C 0 r C' → length s ≤ 16384 → r ≡ Err e → v ≡ joined (number_of e.refusal) e.place → v ≡ object_call s
  object_refuses w short q i = i ∙ sym (object_is s short ∙ read_no s refl w.means q)

  pub object_reads : {v : ℕ} {y : ObjectRead} → WholeReading s C 0 r C' → length s ≤ 16384 → r ≡ Ok y → v ≡ joined 20 y.cells → v ≡ object_call s
  object_reads w short q e = e ∙ sym (object_is s short ∙ read_got w.means q)
