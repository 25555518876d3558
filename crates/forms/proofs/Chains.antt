-- Forms and chains: a law for each way out of read_form, read_chain and read_parts, and for each call that they make.
use Prim.Native.Nat.{ℕ, suc, ◌+◌, ◌-◌, ◌*◌, ◌≤◌, ◌<◌}
use mathlib.Core.Path.{◌≡◌, refl, ap, ◌∙◌}
use mathlib.Core.List.{List}
use native.Mathlib.Omega.{arith}
use mir.Syntax.{w32}
use mir.Val.{Fits}
use lib.ListN.{length}
use Rattle.language.specs.Forms.{Form, chain, Forms, stop, ◌&◌, count, forms_in_all, constant_cells}
use Rattle.language.specs.Reading.{Got, no, and_then, after_part}
use Rattle.theorems.proofs.FormCounts.{form_counted}
use Rattle.tables.specs.Tables.{record_put, shifted}
use Rattle.formtable.specs.Encoding.{encode_form, encode_forms, constants_from, constants_from_all}
use Rattle.formtable.proofs.Lengths.{length_forms, length_constants}
use Rattle.std.specs.Prelude.{Option, Some, None, Result, Ok, Err}
use Rattle.language.specs.declared.refusals.RefusedText.{RefusedText}
use Rattle.objects.proofs.Refused.{refuses_as}
use Rattle.forms.specs.declared.Upto.{Upto}
use Rattle.forms.specs.declared.FormsRead.{FormsRead}
use Rattle.forms.specs.Readers.{part_at, form_at, parts_at, chain_at}
use Rattle.forms.specs.Readings.{Ready, Dotted, Laid, FormMet, form_read, form_refused, FormsMet, Continued}
use Rattle.forms.proofs.Laying.{run_then, run_moved, run_as}
use Rattle.forms.proofs.Equations.{form_is, one_part, more_parts}
use Rattle.forms.proofs.Answers.{form_got, form_no, forms_got, forms_no, part_after, parts_after, dot_passed}

-- the cell behind a form's constants
pub cells_at : (f : Form) {n c m d : ℕ} {t u t' u' : List ℕ} → Laid (encode_form c f) (constants_from c f) n c t u m d t' u' → d ≡ c + constant_cells f
cells_at f {c = c} l = let i = length_constants f c in omega (arith, l.cells.ends)

count_few : (fs : Forms) → count fs ≤ forms_in_all fs
count_few stop = omega arith
count_few (f & fs) = let i = form_counted f in let j = count_few fs in omega arith

-- ---- read_form
module _ (s : List ℕ) (at room : ℕ) {n c : ℕ} {t u t₁ u₁ : List ℕ} {r : Result Upto RefusedText} where
  pub form_stops : {e : RefusedText} {q : Result Upto RefusedText} {t' u' : List ℕ} → Ready s at n c → FormMet n c t u r t₁ u₁ (part_at s at room) → r ≡ Err e → q ≡ Err e → FormMet n c t u q t' u' (form_at s at room)
  form_stops a m e o =
      let y = form_no m e in
      let z : form_at s at room ≡ no y.number y.place = form_is s at room a.inside ∙ ap (λ (g : Got Form). and_then g (λ f e. after_part s f e (λ a. parts_at s a room))) y.is in
      rw z (form_refused (refuses_as y o))

  module _ {x : Upto} (a : Ready s at n c) (m : FormMet n c t u r t₁ u₁ (part_at s at room)) (e : r ≡ Ok x) where
    pub dot_requires : x.next ≤ length s
    dot_requires = (part_after room a m e).ready.inside

    first : form_at s at room ≡ after_part s (form_got m e).form x.next (λ a. parts_at s a room)
    first = form_is s at room a.inside ∙ ap (λ (g : Got Form). and_then g (λ f e. after_part s f e (λ a. parts_at s a room))) (form_got m e).is

    module _ {q : Option ℕ} (i : Dotted s x.next q) where
      pub form_one : q ≡ None → FormMet n c t u (Ok x) t₁ u₁ (form_at s at room)
      form_one o =
          let y = form_got m e in
          rw (first ∙ one_part s x.next y.form (λ a. parts_at s a room) i o) (form_read refl refl y.laid)

      module _ {b : ℕ} (o : q ≡ Some b) where
        pub chain_ready : Ready s b (x.forms + 1) x.cells
        chain_ready =
            let y = (part_after room a m e).ready in
            let v = dot_passed i o in
            record { short = y.short; inside = v.inside; forms = omega (arith, y.forms, v.behind); cells = omega (arith, y.cells, v.behind) }

        pub chain_below : {j : ℕ} → 5 * (length s - at) + 1 ≡ j → 5 * (length s - b) + 2 < j
        chain_below z = let w = part_after room a m e in let v = dot_passed i o in omega (arith, v.inside, v.behind, w.behind)

        pub form_chains : {r₂ : Result Upto RefusedText} {t₂ u₂ : List ℕ} → Continued (chain_at s b room) n x.forms x.cells t₁ u₁ r₂ t₂ u₂ → FormMet n c t u r₂ t₂ u₂ (form_at s at room)
        unfolding chain_at
        form_chains k =
            let y = form_got m e in
            rw (first ∙ more_parts s x.next y.form (λ a. parts_at s a room) i o) (k.means y.form c t u y.laid)

-- ---- read_chain
chain_laid : (f : Form) (fs : Forms) {n m c c₀ k e d : ℕ} {t₀ u₀ t u t₁ t₂ u₂ t₃ : List ℕ} → Laid (encode_form c₀ f) (constants_from c₀ f) n c₀ t₀ u₀ m c t u → t₁ ≡ shifted t n m
    → Laid (encode_forms c fs) (constants_from_all c fs) (m + 1) c t₁ u e d t₂ u₂ → k ≡ count fs → t₃ ≡ record_put t₂ n 5 (k + 1) 0 0
    → Laid (encode_form c₀ (chain (f & fs))) (constants_from c₀ (chain (f & fs))) n c₀ t₀ u₀ e d t₃ u₂
unfolding encode_form constants_from
chain_laid f fs {k = k} l s m h w =
    let z = cells_at f l in
    let v : k + 1 ≡ suc (count fs) = omega arith in
    record {
      records = run_moved l.records s (run_as (ap (λ (x : ℕ). encode_forms x fs) z) m.records) (rw v at w);
      cells = run_then l.cells (run_as (ap (λ (x : ℕ). constants_from_all x fs) z) m.cells);
    }

pub count_fits : (s : List ℕ) (at room : ℕ) {m c : ℕ} {t u t₂ u₂ : List ℕ} {r : Result FormsRead RefusedText} {w : FormsRead} → Ready s at m c → FormsMet m c t u r t₂ u₂ (parts_at s at room) → r ≡ Ok w → Fits w32 (w.count + 1)
count_fits s at room {c = c} a h e =
    let y = forms_got h e in
    let w = parts_after room a h e in
    let i = length_forms y.forms c in
    record { fits = omega (arith, w.ready.short, w.ready.inside, w.ready.forms, y.laid.records.ends, count_few y.forms, y.counted) }

module _ (s : List ℕ) (at room : ℕ) {n m c : ℕ} {t u t₁ t₂ u₂ : List ℕ} {r : Result FormsRead RefusedText} where
  pub chain_stops : {e : RefusedText} {q : Result Upto RefusedText} {t' u' : List ℕ} → FormsMet (m + 1) c t₁ u r t₂ u₂ (parts_at s at room) → r ≡ Err e → q ≡ Err e → Continued (chain_at s at room) n m c t u q t' u'
  unfolding chain_at
  chain_stops h e o = record { means = λ f c₀ t₀ u₀ l. let y = forms_no h e in rw y.is (form_refused (refuses_as y o)) }

  module _ {w : FormsRead} where
    pub chain_is : {t₃ : List ℕ} → t₁ ≡ shifted t n m → FormsMet (m + 1) c t₁ u r t₂ u₂ (parts_at s at room) → r ≡ Ok w → t₃ ≡ record_put t₂ n 5 (w.count + 1) 0 0 → Continued (chain_at s at room) n m c t u (Ok w.upto) t₃ u₂
    unfolding chain_at
    chain_is g h e i = record { means = λ f c₀ t₀ u₀ l. let y = forms_got h e in rw y.is (form_read refl refl (chain_laid f y.forms l g y.laid y.counted i)) }
