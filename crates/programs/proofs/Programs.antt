-- A whole program: a law for each way out of read_program.
use Prim.Native.Nat.{ℕ, suc, ◌≤◌, ◌<◌}
use mathlib.Core.Path.{◌≡◌, refl, ap, sym, subst, ◌∙◌}
use mathlib.Core.Bool.{Bool, true, false, ◌||◌}
use mathlib.Core.List.{List, [], ◌∷◌}
use native.Mathlib.Omega.{arith}
use lib.Dec.{ltb}
use lib.ListN.{length}
use borrow.Author.Tests.{lt-ltb, le-ltb}
use Rattle.language.specs.Forms.{forms_of, program_cells}
use Rattle.language.specs.Reading.{Got, got, and_then, Placed, program_of, none_twice, within_limits, read_program}
use Rattle.formtable.specs.Encoding.{encode_program, program_constants, encode_definitions}
use Rattle.formtable.proofs.Lengths.{length_program, length_program_constants}
use Rattle.std.specs.Prelude.{Option, Some, None, Result, Ok, Err}
use Rattle.language.specs.declared.refusals.RefusedText.{RefusedText}
use Rattle.language.specs.Refusals.{refused_at}
use Rattle.objects.proofs.Refused.{error_of, Refuses, refuses_as}
use Rattle.programs.specs.declared.ProgramRead.{ProgramRead}
use Rattle.programs.specs.Bodies.{definitions_at}
use Rattle.forms.specs.Readings.{Run, Laid}
use Rattle.programs.specs.Definitions.{AllNamed, DefinitionsMet, definitions_read, definitions_refused, Listed, twice_of, TwiceMet, ProgramMet, program_read, program_refused}
use Rattle.programs.proofs.Naming.{listed_of}

record GotDefinitions (t u d : List ℕ) (k n c : ℕ) (t' u' d' : List ℕ) (g : Got (List Placed)) : Type 0 where
  placed : List Placed
  ends : ℕ
  is : g ≡ got placed ends
  counted : k ≡ length placed
  named : AllNamed placed
  laid : Laid (encode_program 0 (program_of placed)) (program_constants 0 (program_of placed)) 0 0 t u n c t' u'
  listed : Run (encode_definitions 0 placed) 0 d k d'

same_program : {x y : ProgramRead} → ◌≡◌ {A = Result ProgramRead RefusedText} (Ok x) (Ok y) → x ≡ y
same_program h = cc

module _ {t u d t' u' d' : List ℕ} {r : Result ProgramRead RefusedText} where
  definitions_got : {g : Got (List Placed)} {w : ProgramRead} → DefinitionsMet t u d r t' u' d' g → r ≡ Ok w → GotDefinitions t u d w.definitions w.forms w.cells t' u' d' g
  definitions_got {w = x} (definitions_read {ds = ds} {e = e} {w = y} h i v l w) q =
      let z : y ≡ x = same_program (sym h ∙ q) in
      subst (λ (o : ProgramRead). GotDefinitions t u d o.definitions o.forms o.cells t' u' d' (got ds e)) z (record { placed = ds; ends = e; is = refl; counted = i; named = v; laid = l; listed = w })
  definitions_got (definitions_refused h) q = absurd (let z : ◌≡◌ {A = ℕ} 0 1 = cc in omega arith)

  definitions_no : {g : Got (List Placed)} {e : RefusedText} → DefinitionsMet t u d r t' u' d' g → r ≡ Err e → Refuses e g
  definitions_no (definitions_read h i v l w) q = absurd (let z : ◌≡◌ {A = ℕ} 0 1 = cc in omega arith)
  definitions_no (definitions_refused {j} {p} h) q = record { number = j; place = p; is = refl; told = error_of (sym q ∙ h) }

length_program_of : (ds : List Placed) → length (program_of ds) ≡ length ds
length_program_of [] = refl
length_program_of (d ∷ ds) = ap suc (length_program_of ds)

or_true : (a : Bool) → (a || true) ≡ true
or_true true = refl
or_true false = refl

module _ (s : List ℕ) {t u d t' u' d' : List ℕ} {r : Result ProgramRead RefusedText} (m : DefinitionsMet t u d r t' u' d' (definitions_at s 0)) where
  pub program_stops : {e : RefusedText} {q : Result ProgramRead RefusedText} {t₂ u₂ d₂ : List ℕ} → r ≡ Err e → q ≡ Err e → ProgramMet s t u d q t₂ u₂ d₂ (read_program s)
  unfolding read_program definitions_at
  program_stops e o = let y = definitions_no m e in rw y.is (program_refused (refuses_as y o))

  module _ {w : ProgramRead} (e : r ≡ Ok w) where
    y : GotDefinitions t u d w.definitions w.forms w.cells t' u' d' (definitions_at s 0)
    y = definitions_got m e

    limits : read_program s ≡ within_limits y.placed y.ends
    unfolding read_program definitions_at
    limits = ap (λ (g : Got (List Placed)). and_then g (λ ds e. within_limits ds e)) y.is

    forms_are : w.forms ≡ forms_of (program_of y.placed)
    forms_are = let i = length_program (program_of y.placed) 0 in omega (arith, y.laid.records.ends)

    cells_are : w.cells ≡ program_cells (program_of y.placed)
    cells_are = let i = length_program_constants (program_of y.placed) 0 in omega (arith, y.laid.cells.ends)

    definitions_are : w.definitions ≡ length (program_of y.placed)
    definitions_are = y.counted ∙ sym (length_program_of y.placed)

    pub program_forms : {t₂ u₂ d₂ : List ℕ} → 2048 < w.forms → ProgramMet s t u d (Err (refused_at 10 0)) t₂ u₂ d₂ (read_program s)
    unfolding within_limits
    program_forms l = rw (limits, ← forms_are, lt-ltb 2048 w.forms l) (program_refused {j = 10} {p = 0} refl)

    pub program_names : {t₂ u₂ d₂ : List ℕ} → 128 < w.definitions → ProgramMet s t u d (Err (refused_at 10 0)) t₂ u₂ d₂ (read_program s)
    unfolding within_limits
    program_names l = rw (limits, ← definitions_are, lt-ltb 128 w.definitions l, or_true (ltb 2048 (forms_of (program_of y.placed)))) (program_refused {j = 10} {p = 0} refl)

    module _ (a : w.forms ≤ 2048) (b : w.definitions ≤ 128) where
      few : within_limits y.placed y.ends ≡ none_twice [] y.placed (got (program_of y.placed) y.ends)
      unfolding within_limits
      few = rw (← forms_are, ← definitions_are, le-ltb 2048 w.forms a, le-ltb 128 w.definitions b)

      module _ {q : Option ℕ} (g : length d ≡ 512) (i : TwiceMet d' w.definitions q) where
        listed : Listed d' y.placed
        listed = listed_of d y.placed y.named (y.listed.is (omega arith))

        tested : read_program s ≡ twice_of q (got (program_of y.placed) y.ends)
        tested = limits ∙ few ∙ i.means y.placed (got (program_of y.placed) y.ends) listed (sym y.counted)

        pub program_twice : {p : ℕ} {t₂ u₂ d₂ : List ℕ} → q ≡ Some p → ProgramMet s t u d (Err (refused_at 11 p)) t₂ u₂ d₂ (read_program s)
        program_twice {p} z = rw (tested ∙ ap (λ (x : Option ℕ). twice_of x (got (program_of y.placed) y.ends)) z) (program_refused {j = 11} {p = p} refl)

        pub program_is : length t ≡ 8192 → q ≡ None → ProgramMet s t u d (Ok w) t' u' d' (read_program s)
        unfolding definitions_at
        program_is f z =
            rw (tested ∙ ap (λ (x : Option ℕ). twice_of x (got (program_of y.placed) y.ends)) z)
            (program_read refl (record {
              placed = y.placed;
              read = y.is;
              program = refl;
              definitions = definitions_are;
              forms = forms_are;
              cells = cells_are;
              table = y.laid.records.is (omega arith);
              names = y.listed.is (omega arith);
              constants = λ room. y.laid.cells.is (omega (arith, cells_are));
              long = y.laid.cells.long;
            }))
