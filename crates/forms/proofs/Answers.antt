-- What an answer says of what was read, and that reading may go on behind it.
use Prim.Native.Nat.{ℕ, ◌+◌, ◌≤◌, ◌<◌}
use mathlib.Core.Path.{◌≡◌, refl, ap, sym, ◌∙◌}
use mathlib.Core.List.{List}
use native.Mathlib.Omega.{arith}
use lib.ListN.{length}
use borrow.Author.Tests.{eq-eqb, ne_eqb}
use Rattle.language.specs.Objects.{Obj}
use Rattle.language.specs.Forms.{Form, Forms, count}
use Rattle.language.specs.Tokens.{byte_at, place_from}
use Rattle.language.specs.Judging.{refusal_of}
use Rattle.language.specs.Reading.{Got, got, word_at, refused, mark, calls}
use Rattle.theorems.proofs.Outcomes.{got_meets, place_on}
use Rattle.theorems.proofs.Refusals.{Ends, mark_within, form_within, part_within, parts_within}
use Rattle.cells.specs.Encoding.{val_of, cells_from}
use Rattle.formtable.proofs.Lengths.{length_form, length_forms, length_constants, length_all_constants}
use Rattle.language.specs.declared.Val.{Val}
use Rattle.objects.specs.declared.ObjectRead.{ObjectRead}
use Rattle.std.specs.Prelude.{Option, Some, Result, Ok, Err}
use Rattle.language.specs.declared.refusals.RefusedText.{RefusedText}
use Rattle.objects.proofs.Refused.{error_of, Refuses}
use Rattle.forms.specs.declared.Upto.{Upto}
use Rattle.forms.specs.declared.CommaRead.{CommaRead}
use Rattle.forms.specs.declared.CommaRead.TheVariants as C
use Rattle.forms.specs.declared.FormsRead.{FormsRead}
use Rattle.forms.specs.Readers.{part_at, form_at, parts_at}
use Rattle.forms.specs.Readings.{Ready, Passed, Dotted, dot_read, no_dot, Separated, comma_read, bracket_read, neither_read, Marked, mark_read, mark_refused, Run, FormLaid, FormsLaid, ObjectMet, object_read, object_refused, FormMet, form_read, form_refused, FormsMet, forms_read, forms_refused}
use Rattle.forms.proofs.Small.{Small, AllSmall, form_small, parts_small, part_small}

-- ---- what was got, and what was refused
pub record GotForm (n c : ℕ) (t u : List ℕ) (x : Upto) (t' u' : List ℕ) (g : Got Form) : Type 0 where
  pub form : Form
  pub is : g ≡ got form x.next
  pub laid : FormLaid form n c t u x t' u'

pub record GotForms (n c : ℕ) (t u : List ℕ) (x : Upto) (k : ℕ) (t' u' : List ℕ) (g : Got Forms) : Type 0 where
  pub forms : Forms
  pub is : g ≡ got forms x.next
  pub counted : k ≡ count forms
  pub laid : FormsLaid forms n c t u x t' u'

pub record GotObject (c : ℕ) (u : List ℕ) (v : Val) (e d : ℕ) (u' : List ℕ) (g : Got Obj) : Type 0 where
  pub object : Obj
  pub is : g ≡ got object e
  pub value : v ≡ val_of c object
  pub laid : Run (cells_from c object) c u d u'

pub same_object : {x y : ObjectRead} → ◌≡◌ {A = Result ObjectRead RefusedText} (Ok x) (Ok y) → x ≡ y
same_object h = cc

module _ {n c : ℕ} {t u t' u' : List ℕ} where
  pub form_got : {r : Result Upto RefusedText} {x : Upto} {g : Got Form} → FormMet n c t u r t' u' g → r ≡ Ok x → GotForm n c t u x t' u' g
  form_got {r} {x} (form_read {f = f} {x = y} h i l) q =
      let z : y ≡ x = cc in
      record { form = f; is = ap (λ (v : ℕ). got f v) (sym i ∙ ap (λ (w : Upto). w.next) z); laid = rw z at l }
  form_got (form_refused h) q = absurd (let z : ◌≡◌ {A = ℕ} 0 1 = cc in omega arith)

  pub form_no : {r : Result Upto RefusedText} {e : RefusedText} {g : Got Form} → FormMet n c t u r t' u' g → r ≡ Err e → Refuses e g
  form_no (form_read h i l) q = absurd (let z : ◌≡◌ {A = ℕ} 0 1 = cc in omega arith)
  form_no (form_refused {k} {p} h) q = record { number = k; place = p; is = refl; told = error_of (sym q ∙ h) }

  pub forms_got : {r : Result FormsRead RefusedText} {w : FormsRead} {g : Got Forms} → FormsMet n c t u r t' u' g → r ≡ Ok w → GotForms n c t u w.upto w.count t' u' g
  forms_got {r} {w} (forms_read {fs = fs} {e = e} {w = y} h i o l) q =
      let z : y ≡ w = cc in
      record { forms = fs; is = ap (λ (v : ℕ). got fs v) (sym i ∙ ap (λ (v : FormsRead). v.upto.next) z); counted = ap (λ (v : FormsRead). v.count) (sym z) ∙ o; laid = rw z at l }
  forms_got (forms_refused h) q = absurd (let z : ◌≡◌ {A = ℕ} 0 1 = cc in omega arith)

  pub forms_no : {r : Result FormsRead RefusedText} {e : RefusedText} {g : Got Forms} → FormsMet n c t u r t' u' g → r ≡ Err e → Refuses e g
  forms_no (forms_read h i w l) q = absurd (let z : ◌≡◌ {A = ℕ} 0 1 = cc in omega arith)
  forms_no (forms_refused {k} {p} h) q = record { number = k; place = p; is = refl; told = error_of (sym q ∙ h) }

module _ {c : ℕ} {u u' : List ℕ} where
  pub object_got : {r : Result ObjectRead RefusedText} {y : ObjectRead} {g : Got Obj} → ObjectMet c u r u' g → r ≡ Ok y → GotObject c u y.value y.next y.cells u' g
  object_got {r} {y} (object_read {x = o} {e = e₁} {d = d₁} h l) q =
      let i = same_object (sym h ∙ q) in
      let z : e₁ ≡ y.next = ap (λ (t : ObjectRead). t.next) i in
      let w : d₁ ≡ y.cells = ap (λ (t : ObjectRead). t.cells) i in
      record { object = o; is = ap (λ (w : ℕ). got o w) z; value = sym (ap (λ (t : ObjectRead). t.value) i); laid = rw w at l }
  object_got (object_refused h) q = absurd (let z : ◌≡◌ {A = ℕ} 0 1 = cc in omega arith)

  pub object_no : {r : Result ObjectRead RefusedText} {e : RefusedText} {g : Got Obj} → ObjectMet c u r u' g → r ≡ Err e → Refuses e g
  object_no (object_read h l) q = absurd (let z : ◌≡◌ {A = ℕ} 0 1 = cc in omega arith)
  object_no (object_refused {k} {p} h) q = record { number = k; place = p; is = refl; told = error_of (sym q ∙ h) }

-- a mark
module _ {b : ℕ} {s : List ℕ} {at : ℕ} {r : Result ℕ RefusedText} where
  pub mark_got : {a : ℕ} {A : Type 0} (rest : ℕ → Got A) → Marked b s at r → r ≡ Ok a → mark b s at rest ≡ rest a
  unfolding mark
  mark_got {a} rest (mark_read h q) e =
      let z : place_from s at + 1 ≡ a = cc in
      rw (h, eq-eqb b b refl, z)
  mark_got rest (mark_refused h q) e = absurd (let z : ◌≡◌ {A = ℕ} 0 1 = cc in omega arith)

  pub mark_no : {e : RefusedText} {A : Type 0} (rest : ℕ → Got A) → Marked b s at r → r ≡ Err e → Refuses e (mark b s at rest)
  unfolding mark refused
  mark_no rest (mark_read h q) e = absurd (let z : ◌≡◌ {A = ℕ} 0 1 = cc in omega arith)
  mark_no rest (mark_refused h q) e = record {
    number = refusal_of (word_at s (place_from s at));
    place = place_from s at;
    is = rw (ne_eqb (byte_at s (place_from s at)) b h);
    told = error_of (sym e ∙ q);
  }

  -- a mark that was read is passed
  pub mark_passed : {a : ℕ} → 1 ≤ b → Marked b s at r → r ≡ Ok a → (at + 1 ≤ a) × (a ≤ length s)
  mark_passed {a} l (mark_read h q) e =
      let z : place_from s at + 1 ≡ a = cc in
      let o = place_on s at in
      let w = mark_within s (place_from s at) b l (eq-eqb (byte_at s (place_from s at)) b h) in
      (omega arith, omega arith)
  mark_passed l (mark_refused h q) e = absurd (let z : ◌≡◌ {A = ℕ} 0 1 = cc in omega arith)

-- a dot
pub dot_passed : {s : List ℕ} {at a : ℕ} {r : Option ℕ} → Dotted s at r → r ≡ Some a → Passed s at a
dot_passed {s} {at} {a} (dot_read h q) e =
    let z : place_from s at + 1 ≡ a = cc in
    let o = place_on s at in
    let w = mark_within s (place_from s at) 46 (omega arith) (eq-eqb (byte_at s (place_from s at)) 46 h) in
    record { behind = omega arith; inside = omega arith }
dot_passed (no_dot h q) e = absurd (let z : ◌≡◌ {A = ℕ} 0 1 = cc in omega arith)

-- a comma
pub comma_passed : {s : List ℕ} {at a : ℕ} {r : Result CommaRead RefusedText} → Separated s at r → r ≡ Ok (C.More a) → Passed s at a
comma_passed {s} {at} {a} (comma_read h q) e =
    let z : place_from s at + 1 ≡ a = cc in
    let o = place_on s at in
    let w = mark_within s (place_from s at) 44 (omega arith) (eq-eqb (byte_at s (place_from s at)) 44 h) in
    record { behind = omega arith; inside = omega arith }
comma_passed (bracket_read h q) e = absurd (let z : ◌≡◌ {A = ℕ} 0 1 = cc in omega arith)
comma_passed (neither_read g h q) e = absurd (let z : ◌≡◌ {A = ℕ} 0 1 = cc in omega arith)

-- ---- reading may go on behind what was read
pub record After (s : List ℕ) (at : ℕ) (x : Upto) : Type 0 where
  pub ready : Ready s x.next x.forms x.cells
  pub behind : at < x.next

after : {s : List ℕ} {at n c : ℕ} {t u t' u' : List ℕ} {x : Upto} {g : Got Form} → Ready s at n c → (y : GotForm n c t u x t' u' g) → Ends s at x.next → Small at y.form x.next → After s at x
after {c = c} a y w q =
    let i = length_form y.form c in
    let j = length_constants y.form c in
    let k = y.laid.records.ends in
    let l = y.laid.cells.ends in
    record {
      ready = record { short = a.short; inside = w.inside; forms = omega (arith, a.forms, q.forms); cells = omega (arith, a.cells, q.cells) };
      behind = omega (arith, w.behind);
    }

after_all : {s : List ℕ} {at n c k : ℕ} {t u t' u' : List ℕ} {x : Upto} {g : Got Forms} → Ready s at n c → (y : GotForms n c t u x k t' u' g) → Ends s at x.next → AllSmall at y.forms x.next → After s at x
after_all {c = c} a y w q =
    let i = length_forms y.forms c in
    let j = length_all_constants y.forms c in
    let k = y.laid.records.ends in
    let l = y.laid.cells.ends in
    record {
      ready = record { short = a.short; inside = w.inside; forms = omega (arith, a.forms, q.forms); cells = omega (arith, a.cells, q.cells) };
      behind = omega (arith, w.behind);
    }

module _ {s : List ℕ} {at : ℕ} (room : ℕ) {n c : ℕ} {t u t' u' : List ℕ} {r : Result Upto RefusedText} {x : Upto} where
  pub part_after : Ready s at n c → FormMet n c t u r t' u' (part_at s at room) → r ≡ Ok x → After s at x
  unfolding part_at
  part_after a m e =
      let y = form_got m e in
      after a y (got_meets (part_within (calls s) s at room a.inside) y.is) (got_meets (part_small (calls s) s at room) y.is)

  pub form_after : Ready s at n c → FormMet n c t u r t' u' (form_at s at room) → r ≡ Ok x → After s at x
  unfolding form_at
  form_after a m e =
      let y = form_got m e in
      after a y (got_meets (form_within (calls s) s at room a.inside) y.is) (got_meets (form_small (calls s) s at room) y.is)

module _ {s : List ℕ} {at : ℕ} (room : ℕ) {n c : ℕ} {t u t' u' : List ℕ} {r : Result FormsRead RefusedText} {w : FormsRead} where
  pub parts_after : Ready s at n c → FormsMet n c t u r t' u' (parts_at s at room) → r ≡ Ok w → After s at w.upto
  unfolding parts_at
  parts_after a m e =
      let y = forms_got m e in
      after_all a y (got_meets (parts_within (calls s) s at room a.inside) y.is) (got_meets (parts_small (calls s) s at room) y.is)
