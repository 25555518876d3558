-- One definition: a law for each way out of read_body and read_definition, and for each call that they make.
use Prim.Native.Nat.{ℕ, suc, ◌+◌, ◌≤◌}
use mathlib.Core.Path.{◌≡◌, refl, ap, sym, ◌∙◌}
use mathlib.Core.Bool.{cond}
use mathlib.Core.List.{List, [], ◌∷◌}
use native.Mathlib.Omega.{arith}
use lib.Dec.{eqb}
use lib.ListN.{length}
use Rattle.std.specs.Prelude.{slice_range}
use Rattle.language.specs.Forms.{Form, forms_in, constant_cells}
use Rattle.language.specs.Accepted.{IsName}
use Rattle.packing.specs.Packing.{packed}
use Rattle.language.specs.Tokens.{place_from, size_at}
use Rattle.language.specs.Judging.{Judged, is, is_not, judge_name}
use Rattle.language.specs.Numbers.{mark_limit}
use Rattle.language.specs.Reading.{Got, got, no, and_then, word_at, as_judged, mark, calls, Placed, definition_at, read_definitions}
use Rattle.theorems.proofs.Outcomes.{meets, Meets, refuses, MeetsWord, meets_word, misspelled, out_of_range, too_long, meets_then, meets_mark, got_meets, place_on}
use Rattle.theorems.proofs.JudgedWords.{IsNameIn, judged_name}
use Rattle.theorems.proofs.Refusals.{first_within}
use Rattle.theorems.proofs.Calls.{definitions_calls}
use Rattle.lexer.specs.Readings.{WordSized}
use Rattle.lexer.specs.Judgements.{name_judged}
use Rattle.std.specs.Prelude.{Result, Ok, Err}
use Rattle.language.specs.declared.refusals.Refusal.{Refusal}
use Rattle.language.specs.declared.refusals.RefusedText.{RefusedText}
use Rattle.objects.proofs.Refused.{error_of, word_lent, placed as placed_error, Refuses, refuses_as}
use Rattle.formtable.specs.Encoding.{encode_definitions}
use Rattle.formtable.proofs.Lengths.{length_form, length_constants}
use Rattle.forms.specs.declared.Upto.{Upto}
use Rattle.forms.specs.Readers.{form_at}
use Rattle.programs.specs.Bodies.{body_at, placed, placed_at, definitions_at}
use Rattle.forms.specs.Readings.{Ready, Marked, Run, FormLaid, FormMet, form_read, form_refused}
use Rattle.programs.specs.Definitions.{DefinitionPut, PlacedMet, placed_read, placed_refused}
use Rattle.forms.proofs.Laying.{run_record}
use Rattle.forms.proofs.Small.{Small, form_small}
use Rattle.forms.proofs.Equations.{mark_same, mark_then, wrap}
use Rattle.forms.proofs.Answers.{form_got, form_no, mark_got, mark_no, mark_passed, After, form_after}

-- ---- read_body
module _ (s : List ℕ) (at : ℕ) {q : Result ℕ RefusedText} (i : Marked 61 s at q) where
  pub body_stops : {n c : ℕ} {e : RefusedText} {r : Result Upto RefusedText} {t u t' u' : List ℕ} → q ≡ Err e → r ≡ Err e → FormMet n c t u r t' u' (body_at s at)
  unfolding body_at
  body_stops g o = let y = mark_no (λ a. and_then (form_at s a mark_limit) (λ f e. mark 59 s e (λ a. got f a))) i g in rw y.is (form_refused (refuses_as y o))

  module _ {a : ℕ} (j : q ≡ Ok a) where
    begun : body_at s at ≡ and_then (form_at s a mark_limit) (λ f e. mark 59 s e (λ a. got f a))
    unfolding body_at
    begun = mark_got (λ a. and_then (form_at s a mark_limit) (λ f e. mark 59 s e (λ a. got f a))) i j

    module _ {n c : ℕ} {t u t₁ u₁ : List ℕ} {r : Result Upto RefusedText} (m : FormMet n c t u r t₁ u₁ (form_at s a 32)) where
      pub body_no : {e : RefusedText} {r₂ : Result Upto RefusedText} {t' u' : List ℕ} → r ≡ Err e → r₂ ≡ Err e → FormMet n c t u r₂ t' u' (body_at s at)
      body_no e o = let y = form_no m e in rw (begun ∙ ap (λ (g : Got Form). and_then g (λ f e. mark 59 s e (λ a. got f a))) y.is) (form_refused (refuses_as y o))

      module _ {x : Upto} {z : Result ℕ RefusedText} (e : r ≡ Ok x) (k : Marked 59 s x.next z) where
        whole : body_at s at ≡ mark 59 s x.next (λ a. got (form_got m e).form a)
        whole = begun ∙ ap (λ (g : Got Form). and_then g (λ f e. mark 59 s e (λ a. got f a))) (form_got m e).is

        pub body_open : {o : RefusedText} {r₂ : Result Upto RefusedText} {t' u' : List ℕ} → z ≡ Err o → r₂ ≡ Err o → FormMet n c t u r₂ t' u' (body_at s at)
        body_open g o = let y = mark_no (λ a. got (form_got m e).form a) k g in rw (whole ∙ y.is) (form_refused (refuses_as y o))

        pub body_is : {b : ℕ} → z ≡ Ok b → FormMet n c t u (Ok (record { next = b; forms = x.forms; cells = x.cells })) t₁ u₁ (body_at s at)
        body_is g = rw (whole ∙ mark_got (λ a. got (form_got m e).form a) k g) (form_read refl refl (form_got m e).laid)

pub body_ready : {s : List ℕ} {at n c a : ℕ} {q : Result ℕ RefusedText} → Ready s at n c → Marked 61 s at q → q ≡ Ok a → Ready s a n c
body_ready b i j =
    let v = mark_passed (omega arith) i j in
    record { short = b.short; inside = v.1; forms = omega (arith, b.forms, v.0); cells = omega (arith, b.cells, v.0) }

pub body_mark_requires : (s : List ℕ) (a : ℕ) {at n c : ℕ} {t u t₁ u₁ : List ℕ} {q : Result ℕ RefusedText} {r : Result Upto RefusedText} {x : Upto} → Ready s at n c → Marked 61 s at q → q ≡ Ok a → FormMet n c t u r t₁ u₁ (form_at s a 32) → r ≡ Ok x → x.next ≤ length s
body_mark_requires s a b i j m e = (form_after 32 (body_ready b i j) m e).ready.inside

-- ---- read_definition
-- what is judged to be a name, and its number
record JudgedName (j : Judged (List ℕ)) (v : ℕ) : Type 0 where
  called : List ℕ
  judged : j ≡ is called
  good : IsName called
  packs : v ≡ packed called

name_as : {j : Judged (List ℕ)} {n v : ℕ} → MeetsWord (IsNameIn n) j → name_judged j ≡ Ok v → JudgedName j v
name_as {v = v} (meets_word {a = w} q) e =
    let z : packed w ≡ v = cc in
    record { called = w; judged = refl; good = q.is_name; packs = sym z }
name_as misspelled e = absurd (let z : ◌≡◌ {A = ℕ} 0 1 = cc in omega arith)
name_as out_of_range e = absurd (let z : ◌≡◌ {A = ℕ} 0 1 = cc in omega arith)
name_as too_long e = absurd (let z : ◌≡◌ {A = ℕ} 0 1 = cc in omega arith)

module _ {s : List ℕ} {p size : ℕ} {j : Result ℕ RefusedText} (i : WordSized s p size) (h : j ≡ placed_error p (name_judged (judge_name (slice_range s p (p + size))))) where
  judged_here : placed_error p (name_judged (judge_name (word_at s p))) ≡ j
  judged_here = sym (h ∙ ap (λ (w : List ℕ). placed_error p (name_judged (judge_name w))) (word_lent i))

  pub definition_unnamed : {n c k : ℕ} {e : RefusedText} {r : Result Upto RefusedText} {t u d t' u' d' : List ℕ} → j ≡ Err e → r ≡ Err e → PlacedMet n c k t u d r t' u' d' (placed_at s p)
  unfolding placed_at
  definition_unnamed {n} {c} {k} {e} {r} {t} {u} {d} {t'} {u'} {d'} f o = go (judge_name (word_at s p)) (judged_here ∙ f)
    where
      go : (x : Judged (List ℕ)) → placed_error p (name_judged x) ≡ Err e → PlacedMet n c k t u d r t' u' d' (and_then (as_judged s p x) (λ w e. and_then (body_at s e) (λ f e. got (placed p w f) e)))
      go (is w) g = absurd (let z : ◌≡◌ {A = ℕ} 0 1 = cc in omega arith)
      go (is_not m) g = placed_refused {j = m} {p = p} (o ∙ ap (λ (t : RefusedText). Err t) (sym (error_of g)))

  module _ {v : ℕ} (e : j ≡ Ok v) where
    as_ok : (x : Result ℕ Refusal) → placed_error p x ≡ Ok v → x ≡ Ok v
    as_ok (Ok y) g = cc
    as_ok (Err y) g = absurd (let z : ◌≡◌ {A = ℕ} 0 1 = cc in omega arith)

    named : JudgedName (judge_name (word_at s p)) v
    named = name_as (judged_name (word_at s p)) (as_ok (name_judged (judge_name (word_at s p))) (judged_here ∙ e))

    begins : placed_at s p ≡ and_then (body_at s (p + size)) (λ f e₁. got (placed p named.called f) e₁)
    unfolding placed_at
    begins = ap (λ (x : Judged (List ℕ)). and_then (as_judged s p x) (λ w e. and_then (body_at s e) (λ f e. got (placed p w f) e))) named.judged ∙ ap (λ (x : ℕ). and_then (body_at s (p + x)) (λ f e₁. got (placed p named.called f) e₁)) (sym i.is)

    module _ {n c : ℕ} {t u t₁ u₁ : List ℕ} {r : Result Upto RefusedText} (m : FormMet n c t u r t₁ u₁ (body_at s (p + size))) where
      pub definition_stops : {k : ℕ} {o : RefusedText} {r₂ : Result Upto RefusedText} {d t' u' d' : List ℕ} → r ≡ Err o → r₂ ≡ Err o → PlacedMet n c k t u d r₂ t' u' d' (placed_at s p)
      definition_stops g o = let y = form_no m g in rw (begins ∙ ap (λ (x : Got Form). and_then x (λ f e₁. got (placed p named.called f) e₁)) y.is) (placed_refused (refuses_as y o))

      pub definition_is : {k : ℕ} {d d' : List ℕ} {x : Upto} → r ≡ Ok x → DefinitionPut k v n p d d' → PlacedMet n c k t u d (Ok x) t₁ u₁ d' (placed_at s p)
      unfolding encode_definitions
      definition_is g w =
          let y = form_got m g in
          rw (begins ∙ ap (λ (x : Got Form). and_then x (λ f e₁. got (placed p named.called f) e₁)) y.is)
          (placed_read refl refl named.good y.laid (run_record (rw named.packs at w.is)))

-- ---- a definition is read from its name on, and then the others
module _ (s : List ℕ) (p : ℕ) where
  body_placed : (w : List ℕ) (e : ℕ) → definition_at (calls s) s p w e ≡ and_then (body_at s e) (λ f e. got (placed p w f) e)
  unfolding definition_at body_at form_at
  body_placed w e =
      mark_same 61 s e (λ a. and_then (form_at s a mark_limit) (λ f e. mark 59 s e (λ a. got (placed p w f) a))) (λ a. and_then (and_then (form_at s a mark_limit) (λ f e. mark 59 s e (λ a. got f a))) (λ f e. got (placed p w f) e)) (wrap 59 s (form_at s (place_from s e + 1) mark_limit) (λ f. placed p w f))
      ∙ mark_then 61 s e (λ a. and_then (form_at s a mark_limit) (λ f e. mark 59 s e (λ a. got f a))) (λ f e. got (placed p w f) e)

  placed_same : (g : Got (List ℕ)) → and_then g (λ w e. definition_at (calls s) s p w e) ≡ and_then g (λ w e. and_then (body_at s e) (λ f e. got (placed p w f) e))
  placed_same (got w e) = body_placed w e
  placed_same (no n q) = refl

  pub placed_is : and_then (as_judged s p (judge_name (word_at s p))) (λ w e. definition_at (calls s) s p w e) ≡ placed_at s p
  unfolding placed_at
  placed_is = placed_same (as_judged s p (judge_name (word_at s p)))

pub definitions_are : (s : List ℕ) (at : ℕ) → at ≤ length s → definitions_at s at ≡ cond (eqb (place_from s at) (length s)) (got [] (place_from s at)) (and_then (placed_at s (place_from s at)) (λ d e. and_then (definitions_at s e) (λ ds e. got (d ∷ ds) e)))
unfolding definitions_at read_definitions
definitions_are s at l =
    definitions_calls (calls s) (suc (calls s)) s at l (omega arith) (omega arith)
    ∙ ap (λ (g : Got Placed). cond (eqb (place_from s at) (length s)) (got [] (place_from s at)) (and_then g (λ d e. and_then (definitions_at s e) (λ ds e. got (d ∷ ds) e)))) (placed_is s (place_from s at))

-- ---- reading may go on behind a definition
record SmallDefinition (p : ℕ) (d : Placed) (e : ℕ) : Type 0 where
  forms : forms_in d.def.body + p ≤ e
  cells : constant_cells d.def.body + p ≤ e

placed_small : (s : List ℕ) (p : ℕ) → Meets (SmallDefinition p) (placed_at s p)
unfolding placed_at body_at form_at
placed_small s p = go (judge_name (word_at s p))
  where
    body : (w : List ℕ) (e : ℕ) → p ≤ e → Meets (SmallDefinition p) (and_then (mark 61 s e (λ a. and_then (form_at s a mark_limit) (λ f e. mark 59 s e (λ a. got f a)))) (λ f e. got (placed p w f) e))
    body w e l =
        let o = place_on s e in
        meets_then {Q = Small (place_from s e + 1)}
        (meets_mark 61 s e (λ a. and_then (form_at s a mark_limit) (λ f e. mark 59 s e (λ a. got f a)))
        (meets_then (form_small (calls s) s (place_from s e + 1) mark_limit) (λ f e₁ q.
        let o₁ = place_on s e₁ in
        meets_mark 59 s e₁ (λ a. got f a) (meets (record { forms = omega (arith, q.forms); cells = omega (arith, q.cells) })))))
        (λ f e₁ q. meets {a = placed p w f} {e = e₁} (record { forms = omega (arith, q.forms); cells = omega (arith, q.cells) }))

    go : (j : Judged (List ℕ)) → Meets (SmallDefinition p) (and_then (as_judged s p j) (λ w e. and_then (mark 61 s e (λ a. and_then (form_at s a mark_limit) (λ f e. mark 59 s e (λ a. got f a)))) (λ f e. got (placed p w f) e)))
    go (is w) = body w (p + size_at s p) (omega arith)
    go (is_not n) = refuses

pub record GotPlaced (n c k : ℕ) (t u d : List ℕ) (x : Upto) (t' u' d' : List ℕ) (g : Got Placed) : Type 0 where
  pub definition : Placed
  pub is : g ≡ got definition x.next
  pub named : IsName definition.def.called
  pub laid : FormLaid definition.def.body n c t u x t' u'
  pub listed : Run (encode_definitions n (definition ∷ [])) k d (k + 1) d'

module _ {n c k : ℕ} {t u d t' u' d' : List ℕ} {r : Result Upto RefusedText} {g : Got Placed} where
  pub placed_got : {x : Upto} → PlacedMet n c k t u d r t' u' d' g → r ≡ Ok x → GotPlaced n c k t u d x t' u' d' g
  placed_got m e = go m e
    where
      go : {x : Upto} {g : Got Placed} → PlacedMet n c k t u d r t' u' d' g → r ≡ Ok x → GotPlaced n c k t u d x t' u' d' g
      go {x} (placed_read {q = q} {x = y} h i v l w) e =
          let z : y ≡ x = cc in
          record { definition = q; is = ap (λ (v : ℕ). got q v) (sym i ∙ ap (λ (w : Upto). w.next) z); named = v; laid = rw z at l; listed = w }
      go (placed_refused h) e = absurd (let z : ◌≡◌ {A = ℕ} 0 1 = cc in omega arith)

  pub placed_no : {e : RefusedText} → PlacedMet n c k t u d r t' u' d' g → r ≡ Err e → Refuses e g
  placed_no m e = go m e
    where
      go : {e : RefusedText} {g : Got Placed} → PlacedMet n c k t u d r t' u' d' g → r ≡ Err e → Refuses e g
      go (placed_read h i v l w) e = absurd (let z : ◌≡◌ {A = ℕ} 0 1 = cc in omega arith)
      go (placed_refused {j} {p} h) e = record { number = j; place = p; is = refl; told = error_of (sym e ∙ h) }

pub definition_after : (s : List ℕ) (at : ℕ) {n c k p : ℕ} {t u d t' u' d' : List ℕ} {r : Result Upto RefusedText} {x : Upto} → Ready s at n c → p ≡ place_from s at → PlacedMet n c k t u d r t' u' d' (placed_at s p) → r ≡ Ok x → After s at x
definition_after s at {n} {c} {p = p} {x = x} b z m e =
    let y = placed_got m e in
    let f = y.definition.def.body in
    let v : placed_at s (place_from s at) ≡ got y.definition x.next = ap (λ (q : ℕ). placed_at s q) (sym z) ∙ y.is in
    let w = (got_meets (first_within (calls s) s at b.inside) (placed_is s (place_from s at) ∙ v)).ends in
    let q = got_meets (placed_small s (place_from s at)) v in
    let o = place_on s at in
    let i = length_form f c in
    let j = length_constants f c in
    let k₁ = y.laid.records.ends in
    let k₂ = y.laid.cells.ends in
    record {
      ready = record { short = b.short; inside = w.inside; forms = omega (arith, b.forms, q.forms); cells = omega (arith, b.cells, q.cells) };
      behind = omega (arith, w.behind);
    }
