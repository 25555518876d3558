-- Definitions in a row, as read_definitions reads them: those read so far, one more, the end; and a law for each way out.
use Prim.Native.Nat.{ℕ, ◌+◌, ◌-◌, ◌≤◌, ◌<◌}
use mathlib.Core.Path.{◌≡◌, refl, ap, sym, ◌∙◌}
use mathlib.Core.List.{List, [], ◌∷◌, ◌++◌, append_assoc, append-nil}
use native.Mathlib.Omega.{arith}
use mir.Syntax.{w64}
use mir.Val.{Fits}
use lib.ListN.{length, length-append}
use borrow.Author.Tests.{eq-eqb, ne_eqb}
use Rattle.language.specs.Forms.{Prog, forms_of, program_cells}
use Rattle.language.specs.Accepted.{IsName}
use Rattle.language.specs.Tokens.{place_from}
use Rattle.language.specs.Reading.{Got, got, no, and_then, Placed, program_of}
use Rattle.lexer.specs.Readings.{Skipped}
use Rattle.formtable.specs.Encoding.{encode_form, constants_from, encode_program, program_constants, encode_definitions}
use Rattle.formtable.proofs.Lengths.{length_program, length_program_constants}
use Rattle.formtable.proofs.Appended.{programs_appended, program_constants_appended, definitions_appended}
use Rattle.std.specs.Prelude.{Result, Ok, Err}
use Rattle.language.specs.declared.refusals.RefusedText.{RefusedText}
use Rattle.objects.proofs.Refused.{refuses_as}
use Rattle.forms.specs.declared.Upto.{Upto}
use Rattle.programs.specs.declared.ProgramRead.{ProgramRead}
use Rattle.programs.specs.Bodies.{placed_at, definitions_at}
use Rattle.forms.specs.Readings.{Ready, Run, Laid}
use Rattle.programs.specs.Definitions.{AllNamed, none_named, more_named, PlacedMet, DefinitionsMet, definitions_read, definitions_refused}
use Rattle.forms.proofs.Laying.{run_none, run_then, run_as}
use Rattle.forms.proofs.Equations.{then_got}
use Rattle.programs.proofs.Bodies.{placed_got, placed_no, definitions_are, definition_after}
use Rattle.forms.proofs.Answers.{After}

-- the definitions read so far, k of them; reading goes on at `at`
pub record Defining (s t₀ u₀ d₀ : List ℕ) (at n c k : ℕ) (t u d : List ℕ) : Type 0 where
  pub ready : Ready s at n c
  pub few : k ≤ at
  pub read : List Placed
  pub is : definitions_at s 0 ≡ and_then (definitions_at s at) (λ ds e. got (read ++ ds) e)
  pub counted : k ≡ length read
  pub named : AllNamed read
  pub laid : Laid (encode_program 0 (program_of read)) (program_constants 0 (program_of read)) 0 0 t₀ u₀ n c t u
  pub listed : Run (encode_definitions 0 read) 0 d₀ k d

none_laid : {t u : List ℕ} → Laid (encode_program 0 []) (program_constants 0 []) 0 0 t u 0 0 t u
unfolding encode_program program_constants
none_laid = record { records = run_none; cells = run_none }

none_listed : {d : List ℕ} → Run (encode_definitions 0 []) 0 d 0 d
unfolding encode_definitions
none_listed = run_none

pub defining_starts : {s t u d : List ℕ} → length s ≤ 8192 → Defining s t u d 0 0 0 0 t u d
defining_starts {s} l = record {
  ready = record { short = l; inside = omega arith; forms = omega arith; cells = omega arith };
  few = omega arith;
  read = [];
  is = sym (then_got (definitions_at s 0));
  counted = refl;
  named = none_named;
  laid = none_laid;
  listed = none_listed;
}

-- one definition more
all_named : (ds : List Placed) (d : Placed) → AllNamed ds → IsName d.def.called → AllNamed (ds ++ (d ∷ []))
all_named [] d none_named h = more_named h none_named
all_named (e ∷ ds) d (more_named i n) h = more_named i (all_named ds d n h)

map-append : (ds es : List Placed) → program_of (ds ++ es) ≡ program_of ds ++ program_of es
map-append [] es = refl
map-append (d ∷ ds) es = ap (λ (x : Prog). d.def ∷ x) (map-append ds es)

more_then : (ds : List Placed) (d : Placed) (g : Got (List Placed)) → and_then (and_then g (λ es e. got (d ∷ es) e)) (λ es e. got (ds ++ es) e) ≡ and_then g (λ es e. got ((ds ++ (d ∷ [])) ++ es) e)
more_then ds d (got es e) = ap (λ (x : List Placed). got x e) (sym (append_assoc ds (d ∷ []) es))
more_then ds d (no n p) = refl

one_program : (d : Placed) (c : ℕ) → encode_program c (program_of (d ∷ [])) ≡ encode_form c d.def.body
unfolding encode_program
one_program d c = append-nil (encode_form c d.def.body)

one_constants : (d : Placed) (c : ℕ) → program_constants c (program_of (d ∷ [])) ≡ constants_from c d.def.body
unfolding program_constants
one_constants d c = append-nil (constants_from c d.def.body)

module _ (ds : List Placed) (d : Placed) {n c : ℕ} {t u t₁ u₁ : List ℕ} (l : Laid (encode_program 0 (program_of ds)) (program_constants 0 (program_of ds)) 0 0 t u n c t₁ u₁) where
  forms_are : n ≡ forms_of (program_of ds)
  forms_are = let i = length_program (program_of ds) 0 in omega (arith, l.records.ends)

  cells_are : c ≡ 0 + program_cells (program_of ds)
  cells_are = let i = length_program_constants (program_of ds) 0 in omega (arith, l.cells.ends)

  more_laid : {e h : ℕ} {t₂ u₂ : List ℕ} → Laid (encode_form c d.def.body) (constants_from c d.def.body) n c t₁ u₁ e h t₂ u₂ → Laid (encode_program 0 (program_of (ds ++ (d ∷ [])))) (program_constants 0 (program_of (ds ++ (d ∷ [])))) 0 0 t u e h t₂ u₂
  more_laid w =
      let P = program_of ds in
      let p : encode_program 0 P ++ encode_form c d.def.body ≡ encode_program 0 (program_of (ds ++ (d ∷ []))) = ap (λ (x : List ℕ). encode_program 0 P ++ x) (sym (one_program d c)) ∙ ap (λ (x : ℕ). encode_program 0 P ++ encode_program x (program_of (d ∷ []))) cells_are ∙ sym (programs_appended P (program_of (d ∷ [])) 0) ∙ ap (λ (Q : Prog). encode_program 0 Q) (sym (map-append ds (d ∷ []))) in
      let q : program_constants 0 P ++ constants_from c d.def.body ≡ program_constants 0 (program_of (ds ++ (d ∷ []))) = ap (λ (x : List ℕ). program_constants 0 P ++ x) (sym (one_constants d c)) ∙ ap (λ (x : ℕ). program_constants 0 P ++ program_constants x (program_of (d ∷ []))) cells_are ∙ sym (program_constants_appended P (program_of (d ∷ [])) 0) ∙ ap (λ (Q : Prog). program_constants 0 Q) (sym (map-append ds (d ∷ []))) in
      record { records = run_as p (run_then l.records w.records); cells = run_as q (run_then l.cells w.cells) }

  more_listed : {k : ℕ} {x x₁ x₂ : List ℕ} → Run (encode_definitions 0 ds) 0 x k x₁ → Run (encode_definitions n (d ∷ [])) k x₁ (k + 1) x₂ → Run (encode_definitions 0 (ds ++ (d ∷ []))) 0 x (k + 1) x₂
  more_listed v w =
      let z : n ≡ 0 + forms_of (program_of ds) = omega (arith, forms_are) in
      run_as (ap (λ (x : ℕ). encode_definitions 0 ds ++ encode_definitions x (d ∷ [])) z ∙ sym (definitions_appended ds (d ∷ []) 0)) (run_then v w)

module _ (s : List ℕ) {t₀ u₀ d₀ : List ℕ} {at n c k : ℕ} {t u d : List ℕ} {p : ℕ} (w : Defining s t₀ u₀ d₀ at n c k t u d) (i : Skipped s at p) where
  -- the text ends
  pub definitions_end : p ≡ length s → DefinitionsMet t₀ u₀ d₀ (Ok (record { definitions = k; forms = n; cells = c })) t u d (definitions_at s 0)
  definitions_end e =
      let z : definitions_at s at ≡ got [] (place_from s at) = definitions_are s at w.ready.inside ∙ rw (eq-eqb (place_from s at) (length s) (sym i.is ∙ e)) in
      let v : definitions_at s 0 ≡ got w.read (place_from s at) = w.is ∙ ap (λ (g : Got (List Placed)). and_then g (λ ds e. got (w.read ++ ds) e)) z ∙ ap (λ (x : List Placed). got x (place_from s at)) (append-nil w.read) in
      rw v (definitions_read refl w.counted w.named w.laid w.listed)

  pub definition_requires : Ready s p n c
  definition_requires = let b = w.ready in record { short = b.short; inside = omega (arith, b.inside, i.high); forms = omega (arith, b.forms, i.low); cells = omega (arith, b.cells, i.low) }

  module _ (o : p ≡ length s → ⊥) where
    next : definitions_at s at ≡ and_then (placed_at s p) (λ d e. and_then (definitions_at s e) (λ ds e. got (d ∷ ds) e))
    next = definitions_are s at w.ready.inside ∙ rw (ne_eqb (place_from s at) (length s) (λ z. o (i.is ∙ z)), ← i.is)

    module _ {t₁ u₁ d₁ : List ℕ} {r : Result Upto RefusedText} (m : PlacedMet n c k t u d r t₁ u₁ d₁ (placed_at s p)) where
      pub definitions_stop : {e : RefusedText} {r₂ : Result ProgramRead RefusedText} {t' u' d' : List ℕ} → r ≡ Err e → r₂ ≡ Err e → DefinitionsMet t₀ u₀ d₀ r₂ t' u' d' (definitions_at s 0)
      definitions_stop e o₂ =
          let y = placed_no m e in
          let z : definitions_at s at ≡ no y.number y.place = next ∙ ap (λ (g : Got Placed). and_then g (λ d e. and_then (definitions_at s e) (λ ds e. got (d ∷ ds) e))) y.is in
          rw (w.is ∙ ap (λ (g : Got (List Placed)). and_then g (λ ds e. got (w.read ++ ds) e)) z) (definitions_refused (refuses_as y o₂))

      module _ {x : Upto} (e : r ≡ Ok x) where
        ahead : After s at x
        ahead = definition_after s at w.ready i.is m e

        pub definitions_less : length s - x.next < length s - at
        definitions_less = let z = ahead in omega (arith, z.behind, z.ready.inside)

        pub definitions_next : Defining s t₀ u₀ d₀ x.next x.forms x.cells (k + 1) t₁ u₁ d₁
        definitions_next =
            let y = placed_got m e in
            let z : definitions_at s at ≡ and_then (definitions_at s x.next) (λ ds e. got (y.definition ∷ ds) e) = next ∙ ap (λ (g : Got Placed). and_then g (λ d e. and_then (definitions_at s e) (λ ds e. got (d ∷ ds) e))) y.is in
            let j = length-append w.read (y.definition ∷ []) in
            record {
              ready = ahead.ready;
              few = omega (arith, w.few, ahead.behind);
              read = w.read ++ (y.definition ∷ []);
              is = w.is ∙ ap (λ (g : Got (List Placed)). and_then g (λ ds e. got (w.read ++ ds) e)) z ∙ more_then w.read y.definition (definitions_at s x.next);
              counted = omega (arith, w.counted);
              named = all_named w.read y.definition w.named y.named;
              laid = more_laid w.read y.definition w.laid y.laid;
              listed = more_listed w.read y.definition w.laid w.listed y.listed;
            }

pub definitions_count_fits : {s t₀ u₀ d₀ : List ℕ} {at n c k : ℕ} {t u d : List ℕ} → Defining s t₀ u₀ d₀ at n c k t u d → Fits w64 (k + 1)
definitions_count_fits w = record { fits = omega (arith, w.few, w.ready.inside, w.ready.short) }
