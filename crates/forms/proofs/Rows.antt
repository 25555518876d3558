-- Forms in a row, as read_parts and read_forms read them: those read so far, one more, the last; and a law for each way out.
use Prim.Native.Nat.{ℕ, ◌+◌, ◌-◌, ◌*◌, ◌≤◌, ◌<◌}
use mathlib.Core.Path.{◌≡◌, refl, ap, sym, ◌∙◌}
use mathlib.Core.List.{List, ◌++◌}
use native.Mathlib.Omega.{arith}
use mir.Syntax.{w32}
use mir.Val.{Fits}
use lib.ListN.{length}
use Rattle.language.specs.Forms.{Form, construct, Forms, stop, ◌&◌, ◌+&◌, count, constant_cells_all}
use Rattle.language.specs.Reading.{Got, got, no, and_then, after_parts, after_form}
use Rattle.theorems.proofs.FormCounts.{count-append}
use Rattle.tables.specs.Tables.{record_put}
use Rattle.formtable.specs.Encoding.{encode_form, encode_forms, constants_from, constants_from_all}
use Rattle.formtable.proofs.Lengths.{length_all_constants}
use Rattle.formtable.proofs.Appended.{forms_appended, constants_appended, one_form, one_constants}
use Rattle.std.specs.Prelude.{Option, Some, None, Result, Ok, Err}
use Rattle.language.specs.declared.refusals.RefusedText.{RefusedText}
use Rattle.objects.proofs.Refused.{Refuses, refuses_as}
use Rattle.forms.specs.declared.Upto.{Upto}
use Rattle.forms.specs.declared.CommaRead.{CommaRead}
use Rattle.forms.specs.declared.CommaRead.TheVariants as C
use Rattle.forms.specs.declared.FormsRead.{FormsRead}
use Rattle.forms.specs.Readers.{part_at, form_at, parts_at, forms_at, construct_at}
use Rattle.forms.specs.Readings.{Ready, Dotted, Separated, Laid, FormMet, form_read, form_refused, FormsMet, forms_read, forms_refused}
use Rattle.forms.proofs.Laying.{run_none, run_then, run_under, run_as}
use Rattle.forms.proofs.Equations.{parts_are, forms_are, last_part, next_part, last_form, next_form, other_form, then_got}
use Rattle.forms.proofs.Answers.{GotForm, form_got, form_no, forms_got, forms_no, part_after, form_after, dot_passed, comma_passed}

-- the forms read so far from `from` on, k of them; reading goes on at `at`
pub record Going (read_at : List ℕ → ℕ → ℕ → Got Forms) (s : List ℕ) (room from first cell : ℕ) (t₀ u₀ : List ℕ) (at n c k : ℕ) (t u : List ℕ) : Type 0 where
  pub ready : Ready s at n c
  pub onward : from ≤ at
  pub few : k ≤ at
  pub read : Forms
  pub is : read_at s from room ≡ and_then (read_at s at room) (λ gs e. got (read +& gs) e)
  pub counted : k ≡ count read
  pub laid : Laid (encode_forms cell read) (constants_from_all cell read) first cell t₀ u₀ n c t u

none_laid : {n c : ℕ} {t u : List ℕ} → Laid (encode_forms c stop) (constants_from_all c stop) n c t u n c t u
unfolding encode_form constants_from
none_laid = record { records = run_none; cells = run_none }

pub row_starts : (read_at : List ℕ → ℕ → ℕ → Got Forms) {s : List ℕ} {room from first cell : ℕ} {t u : List ℕ} → Ready s from first cell → Going read_at s room from first cell t u from first cell 0 t u
row_starts read_at {s} {room} {from} a = record { ready = a; onward = omega arith; few = omega arith; read = stop; is = sym (then_got (read_at s from room)); counted = refl; laid = none_laid }

-- one more form behind those read so far
rows_append : (fs : Forms) (f : Form) (gs : Forms) → (fs +& (f & stop)) +& gs ≡ fs +& (f & gs)
rows_append stop f gs = refl
rows_append (g & fs) f gs = ap (λ (x : Forms). g & x) (rows_append fs f gs)

rows_then : (fs : Forms) (f : Form) (g : Got Forms) → and_then (and_then g (λ gs e. got (f & gs) e)) (λ gs e. got (fs +& gs) e) ≡ and_then g (λ gs e. got ((fs +& (f & stop)) +& gs) e)
rows_then fs f (got gs e) = ap (λ (x : Forms). got x e) (sym (rows_append fs f gs))
rows_then fs f (no n p) = refl

more_laid : (fs : Forms) (f : Form) {n c m d e h : ℕ} {t u t₁ u₁ t₂ u₂ : List ℕ} → Laid (encode_forms c fs) (constants_from_all c fs) n c t u m d t₁ u₁ → Laid (encode_form d f) (constants_from d f) m d t₁ u₁ e h t₂ u₂
    → Laid (encode_forms c (fs +& (f & stop))) (constants_from_all c (fs +& (f & stop))) n c t u e h t₂ u₂
more_laid fs f {c = c} {d = d} l w =
    let i = length_all_constants fs c in
    let z : d ≡ c + constant_cells_all fs = omega (arith, l.cells.ends) in
    let p : encode_forms c fs ++ encode_form d f ≡ encode_forms c (fs +& (f & stop)) = ap (λ (x : ℕ). encode_forms c fs ++ encode_form x f) z ∙ sym (forms_appended fs (f & stop) c ∙ ap (λ (x : List ℕ). encode_forms c fs ++ x) (one_form f (c + constant_cells_all fs))) in
    let q : constants_from_all c fs ++ constants_from d f ≡ constants_from_all c (fs +& (f & stop)) = ap (λ (x : ℕ). constants_from_all c fs ++ constants_from x f) z ∙ sym (constants_appended fs (f & stop) c ∙ ap (λ (x : List ℕ). constants_from_all c fs ++ x) (one_constants f (c + constant_cells_all fs))) in
    record { records = run_as p (run_then l.records w.records); cells = run_as q (run_then l.cells w.cells) }

module _ (read_at : List ℕ → ℕ → ℕ → Got Forms) {s : List ℕ} {room from first cell : ℕ} {t₀ u₀ : List ℕ} {at n c k : ℕ} {t u t₁ u₁ : List ℕ} {x : Upto} {g : Got Form} (w : Going read_at s room from first cell t₀ u₀ at n c k t u) (y : GotForm n c t u x t₁ u₁ g) where
  row_more : (a : ℕ) → read_at s at room ≡ and_then (read_at s a room) (λ gs e. got (y.form & gs) e) → Ready s a x.forms x.cells → at < a → Going read_at s room from first cell t₀ u₀ a x.forms x.cells (k + 1) t₁ u₁
  row_more a e r l =
      let i = count-append w.read (y.form & stop) in
      record {
        ready = r;
        onward = omega (arith, w.onward);
        few = omega (arith, w.few);
        read = w.read +& (y.form & stop);
        is = w.is ∙ ap (λ (v : Got Forms). and_then v (λ gs e. got (w.read +& gs) e)) e ∙ rows_then w.read y.form (read_at s a room);
        counted = omega (arith, w.counted);
        laid = more_laid w.read y.form w.laid y.laid;
      }

  row_last : (e : ℕ) → read_at s at room ≡ got (y.form & stop) e → FormsMet first cell t₀ u₀ (Ok (record { upto = record { next = e; forms = x.forms; cells = x.cells }; count = k + 1 })) t₁ u₁ (read_at s from room)
  row_last e h =
      let i = count-append w.read (y.form & stop) in
      rw (w.is ∙ ap (λ (v : Got Forms). and_then v (λ gs e. got (w.read +& gs) e)) h)
      (forms_read {fs = w.read +& (y.form & stop)} refl refl (omega (arith, w.counted)) (more_laid w.read y.form w.laid y.laid))

row_no : (read_at : List ℕ → ℕ → ℕ → Got Forms) {s : List ℕ} {room from first cell : ℕ} {t₀ u₀ : List ℕ} {at n c k : ℕ} {t u t' u' : List ℕ} (w : Going read_at s room from first cell t₀ u₀ at n c k t u) {e : RefusedText} {q : Result FormsRead RefusedText} → Refuses e (read_at s at room) → q ≡ Err e → FormsMet first cell t₀ u₀ q t' u' (read_at s from room)
row_no read_at w y o = rw (w.is ∙ ap (λ (v : Got Forms). and_then v (λ gs e. got (w.read +& gs) e)) y.is) (forms_refused (refuses_as y o))

-- what refuses before a step refuses behind it
refuses_then : {A B : Type 0} {e : RefusedText} {g : Got A} {h : Got B} (k : A → ℕ → Got B) → h ≡ and_then g k → Refuses e g → Refuses e h
refuses_then k i y = record { number = y.number; place = y.place; is = i ∙ ap (λ g. and_then g k) y.is; told = y.told }

refuses_here : {A : Type 0} {e : RefusedText} {g h : Got A} → h ≡ g → Refuses e g → Refuses e h
refuses_here i y = record { number = y.number; place = y.place; is = i ∙ y.is; told = y.told }

-- ---- read_parts
module _ (s : List ℕ) (room : ℕ) {from first cell at n c k : ℕ} {t₀ u₀ t u : List ℕ} (w : Going parts_at s room from first cell t₀ u₀ at n c k t u) where
  pub parts_below : {j : ℕ} → 5 * (length s - from) + 1 ≡ j → 5 * (length s - at) < j
  parts_below z = omega (arith, w.onward)

  pub parts_count_fits : Fits w32 (k + 1)
  parts_count_fits = record { fits = omega (arith, w.few, w.ready.inside, w.ready.short) }

  module _ {t₁ u₁ : List ℕ} {r : Result Upto RefusedText} (m : FormMet n c t u r t₁ u₁ (part_at s at room)) where
    part_then : parts_at s at room ≡ and_then (part_at s at room) (λ f e. after_parts s f e (λ a. parts_at s a room))
    part_then = parts_are s at room w.ready.inside

    pub parts_stop : {e : RefusedText} {q : Result FormsRead RefusedText} {t' u' : List ℕ} → r ≡ Err e → q ≡ Err e → FormsMet first cell t₀ u₀ q t' u' (parts_at s from room)
    parts_stop e o = row_no parts_at w (refuses_then (λ f e. after_parts s f e (λ a. parts_at s a room)) part_then (form_no m e)) o

    module _ {x : Upto} (e : r ≡ Ok x) where
      pub parts_dot_requires : x.next ≤ length s
      parts_dot_requires = (part_after room w.ready m e).ready.inside

      part_here : parts_at s at room ≡ after_parts s (form_got m e).form x.next (λ a. parts_at s a room)
      part_here = part_then ∙ ap (λ (g : Got Form). and_then g (λ f e. after_parts s f e (λ a. parts_at s a room))) (form_got m e).is

      module _ {q : Option ℕ} (i : Dotted s x.next q) where
        pub parts_last : q ≡ None → FormsMet first cell t₀ u₀ (Ok (record { upto = x; count = k + 1 })) t₁ u₁ (parts_at s from room)
        parts_last o = row_last parts_at w (form_got m e) x.next (part_here ∙ last_part s x.next (form_got m e).form (λ a. parts_at s a room) i o)

        module _ {a : ℕ} (o : q ≡ Some a) where
          pub parts_next : Going parts_at s room from first cell t₀ u₀ a x.forms x.cells (k + 1) t₁ u₁
          parts_next =
              let z = part_after room w.ready m e in
              let v = dot_passed i o in
              let y = z.ready in
              row_more parts_at w (form_got m e) a (part_here ∙ next_part s x.next (form_got m e).form (λ a. parts_at s a room) i o)
              (record { short = y.short; inside = v.inside; forms = omega (arith, y.forms, v.behind); cells = omega (arith, y.cells, v.behind) }) (omega (arith, z.behind, v.behind))

          pub parts_less : length s - a < length s - at
          parts_less = let z = part_after room w.ready m e in let v = dot_passed i o in omega (arith, z.behind, v.behind, v.inside)

-- ---- read_forms
module _ (s : List ℕ) (room : ℕ) {from first cell at n c k : ℕ} {t₀ u₀ t u : List ℕ} (w : Going forms_at s room from first cell t₀ u₀ at n c k t u) where
  pub forms_below : {j : ℕ} → 5 * (length s - from) + 2 ≡ j → 5 * (length s - at) + 1 < j
  forms_below z = omega (arith, w.onward)

  pub forms_count_fits : Fits w32 (k + 1)
  forms_count_fits = record { fits = omega (arith, w.few, w.ready.inside, w.ready.short) }

  module _ {t₁ u₁ : List ℕ} {r : Result Upto RefusedText} (m : FormMet n c t u r t₁ u₁ (form_at s at room)) where
    form_then : forms_at s at room ≡ and_then (form_at s at room) (λ f e. after_form s f e (λ a. forms_at s a room))
    form_then = forms_are s at room w.ready.inside

    pub forms_stop : {e : RefusedText} {q : Result FormsRead RefusedText} {t' u' : List ℕ} → r ≡ Err e → q ≡ Err e → FormsMet first cell t₀ u₀ q t' u' (forms_at s from room)
    forms_stop e o = row_no forms_at w (refuses_then (λ f e. after_form s f e (λ a. forms_at s a room)) form_then (form_no m e)) o

    module _ {x : Upto} (e : r ≡ Ok x) where
      pub forms_comma_requires : x.next ≤ length s
      forms_comma_requires = (form_after room w.ready m e).ready.inside

      form_here : forms_at s at room ≡ after_form s (form_got m e).form x.next (λ a. forms_at s a room)
      form_here = form_then ∙ ap (λ (g : Got Form). and_then g (λ f e. after_form s f e (λ a. forms_at s a room))) (form_got m e).is

      module _ {q : Result CommaRead RefusedText} (i : Separated s x.next q) where
        pub forms_last : {v : CommaRead} {a : ℕ} → q ≡ Ok v → v ≡ C.Closed a → FormsMet first cell t₀ u₀ (Ok (record { upto = record { next = a; forms = x.forms; cells = x.cells }; count = k + 1 })) t₁ u₁ (forms_at s from room)
        forms_last {v} {a} o₁ o₂ =
            let o = o₁ ∙ ap (λ (t : CommaRead). Ok t) o₂ in
            row_last forms_at w (form_got m e) a (form_here ∙ last_form s x.next (form_got m e).form (λ a. forms_at s a room) i o)

        pub forms_other : {o : RefusedText} {q₂ : Result FormsRead RefusedText} {t' u' : List ℕ} → q ≡ Err o → q₂ ≡ Err o → FormsMet first cell t₀ u₀ q₂ t' u' (forms_at s from room)
        forms_other o o₂ = row_no forms_at w (refuses_here form_here (other_form s x.next (form_got m e).form (λ a. forms_at s a room) i o)) o₂

        module _ {v : CommaRead} {a : ℕ} (o₁ : q ≡ Ok v) (o₂ : v ≡ C.More a) where
          o : q ≡ Ok (C.More a)
          o = o₁ ∙ ap (λ (t : CommaRead). Ok t) o₂

          pub forms_next : Going forms_at s room from first cell t₀ u₀ a x.forms x.cells (k + 1) t₁ u₁
          forms_next =
              let z = form_after room w.ready m e in
              let v = comma_passed i o in
              let y = z.ready in
              row_more forms_at w (form_got m e) a (form_here ∙ next_form s x.next (form_got m e).form (λ a. forms_at s a room) i o)
              (record { short = y.short; inside = v.inside; forms = omega (arith, y.forms, v.behind); cells = omega (arith, y.cells, v.behind) }) (omega (arith, z.behind, v.behind))

          pub forms_less : length s - a < length s - at
          forms_less = let z = form_after room w.ready m e in let v = comma_passed i o in omega (arith, z.behind, v.behind, v.inside)

-- ---- read_construct
construct_laid : (fs : Forms) {n c k m d : ℕ} {t u t₁ u₁ t₂ : List ℕ} → Laid (encode_forms c fs) (constants_from_all c fs) (n + 1) c t u m d t₁ u₁ → k ≡ count fs → t₂ ≡ record_put t₁ n 6 k 0 0 → Laid (encode_form c (construct fs)) (constants_from c (construct fs)) n c t u m d t₂ u₁
unfolding encode_form constants_from
construct_laid fs l h e = record { records = run_under l.records (rw h at e); cells = l.cells }

module _ (s : List ℕ) (at room : ℕ) {n c : ℕ} {t u t₁ u₁ : List ℕ} {r : Result FormsRead RefusedText} where
  pub construct_stops : {e : RefusedText} {q : Result Upto RefusedText} {t' u' : List ℕ} → FormsMet (n + 1) c t u r t₁ u₁ (forms_at s at room) → r ≡ Err e → q ≡ Err e → FormMet n c t u q t' u' (construct_at s at room)
  unfolding construct_at
  construct_stops m e o = let y = forms_no m e in rw y.is (form_refused (refuses_as y o))

  pub construct_is : {w : FormsRead} {t₂ : List ℕ} → FormsMet (n + 1) c t u r t₁ u₁ (forms_at s at room) → r ≡ Ok w → t₂ ≡ record_put t₁ n 6 w.count 0 0 → FormMet n c t u (Ok w.upto) t₂ u₁ (construct_at s at room)
  unfolding construct_at
  construct_is m e i = let y = forms_got m e in rw y.is (form_read refl refl (construct_laid y.forms y.laid y.counted i))
