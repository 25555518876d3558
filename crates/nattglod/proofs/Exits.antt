-- Each way out of a run call: 1 to 5; a text refused; 13; the run's end; and the tables, zeroed after all but 1 to 5.
use Prim.Native.Nat.{ℕ, ◌+◌, ◌-◌, ◌*◌, ◌≤◌, ◌<◌}
use mathlib.Core.Path.{◌≡◌, refl, ap, sym, ◌∙◌}
use mathlib.Core.Bool.{Bool, true, false, cond, ◌||◌, not}
use mathlib.Core.List.{List}
use native.Mathlib.Omega.{arith}
use borrow.Author.Tests.{ltb-false, eqb-true, not-false, le-leb, lt-leb}
use lib.Dec.{ltb, eqb}
use lib.ListN.{length, replicate}
use Rattle.language.specs.Objects.{Obj, cells_of}
use Rattle.language.specs.Forms.{Prog, program_cells, main_form}
use Rattle.language.specs.Reading.{Got, got, no, read_object, read_program}
use Rattle.language.specs.Writing.{write_obj, Scan, on, short, deep, scan}
use Rattle.language.specs.Numbers.{one}
use Rattle.language.specs.Evaluation.{apply, RunEnd, done, fell, ran_out, too_few, counted, run}
use Rattle.language.specs.Answers.{Lent, Outcome, bare, at, untouched, room_in, scanned, ended, on_read, run_call}
use Rattle.std.specs.Prelude.{Result, Ok, Err}
use Rattle.language.specs.Refusals.{number_of}
use Rattle.language.specs.declared.refusals.Refusal.{Refusal}
use Rattle.language.specs.declared.refusals.Refusal.TheVariants.{LongProgram, LongObject, StepsOver, NamesOver, CellsOver}
use Rattle.language.specs.declared.Meter.{Meter}
use Rattle.language.specs.declared.Answer.{Answer}
use Rattle.nattglod.specs.Calls.{budgets, lends, RunAnswered, early_refusal, WithinLimits, on_texts, TextsAnswered, EndAnswered}

-- ---- 1 to 5, or none of them
module _ (program object : List ℕ) (b : Meter) (lent : Lent) where
  abbrev early : Result (Unit {0}) Refusal
  early = early_refusal (length program) (length object) b (length lent.forms) (length lent.cells)

  -- what the call is, by what refuses it early
  abbrev By : Outcome → Result (Unit {0}) Refusal → Type 0
  By o (Ok u) = o ≡ on_texts program object b lent
  By o (Err r) = o ≡ untouched (number_of r) lent

  by_cond : (t : Bool) (r : Refusal) (o : Outcome) (k : Result (Unit {0}) Refusal) → By o k → By (cond t (untouched (number_of r) lent) o) (cond t (Err r) k)
  by_cond true r o k h = refl
  by_cond false r o k h = h

  by_early : By (run_call program object b lent) early
  unfolding run_call early_refusal on_texts
  by_early =
      by_cond (ltb 8192 (length program)) LongProgram _ _
      (by_cond (ltb 16384 (length object)) LongObject _ _
      (by_cond (ltb 1000000 b.steps) StepsOver _ _
      (by_cond (ltb 256 b.names) NamesOver _ _
      (by_cond (ltb 4096 b.cells || not (eqb (length lent.forms) 8192) || not (eqb (length lent.cells) (4 * b.cells))) CellsOver _ (Ok tt) refl))))

no_early : (t : Bool) (r : Refusal) (k : Result (Unit {0}) Refusal) → cond t (Err r) k ≡ Ok tt → (t ≡ false) × (k ≡ Ok tt)
no_early true r k e = let z : ◌≡◌ {A = ℕ} 0 1 = cc in absurd (omega arith)
no_early false r k e = (refl, e)

neither : (s t : Bool) → (s || t) ≡ false → (s ≡ false) × (t ≡ false)
neither true t e = let z : ◌≡◌ {A = ℕ} 0 1 = cc in absurd (omega arith)
neither false t e = (refl, e)

sized : (program object : ℕ) (b : Meter) (forms cells : ℕ) → early_refusal program object b forms cells ≡ Ok tt → WithinLimits program object b forms cells
unfolding early_refusal
sized program object b forms cells e =
    let h₁ = no_early (ltb 8192 program) LongProgram _ e in
    let h₂ = no_early (ltb 16384 object) LongObject _ h₁.1 in
    let h₃ = no_early (ltb 1000000 b.steps) StepsOver _ h₂.1 in
    let h₄ = no_early (ltb 256 b.names) NamesOver _ h₃.1 in
    let h₅ = no_early (ltb 4096 b.cells || not (eqb forms 8192) || not (eqb cells (4 * b.cells))) CellsOver (Ok tt) h₄.1 in
    let n₁ = neither (ltb 4096 b.cells || not (eqb forms 8192)) (not (eqb cells (4 * b.cells))) h₅.0 in
    let n₂ = neither (ltb 4096 b.cells) (not (eqb forms 8192)) n₁.0 in
    record {
      short_program = ltb-false 8192 program h₁.0;
      short_object = ltb-false 16384 object h₂.0;
      few_steps = ltb-false 1000000 b.steps h₃.0;
      few_names = ltb-false 256 b.names h₄.0;
      few_cells = ltb-false 4096 b.cells n₂.0;
      form_table = eqb-true forms 8192 (not-false (eqb forms 8192) n₂.1);
      cell_table = eqb-true cells (4 * b.cells) (not-false (eqb cells (4 * b.cells)) n₁.1);
    }

-- ---- the tables are zeroed after all others
record Zeroed (lent : Lent) (o : Outcome) : Type 0 where
  forms : o.lent.forms ≡ replicate (length lent.forms) 0
  cells : o.lent.cells ≡ replicate (length lent.cells) 0

module _ (lent : Lent) where
  zeroed_scan : (s c : ℕ) (x : Obj) (w : Scan) → Zeroed lent (scanned lent s c x w)
  zeroed_scan s c x (on o r) = record { forms = refl; cells = refl }
  zeroed_scan s c x short = record { forms = refl; cells = refl }
  zeroed_scan s c x deep = record { forms = refl; cells = refl }

  zeroed_end : (r : RunEnd) → Zeroed lent (ended lent r)
  zeroed_end (done x s c) = zeroed_scan s c x (scan (write_obj x) 0 (room_in lent))
  zeroed_end (fell s c) = record { forms = refl; cells = refl }
  zeroed_end (ran_out w s c) = record { forms = refl; cells = refl }
  zeroed_end too_few = record { forms = refl; cells = refl }

  zeroed_read : {A : Type 0} (t : ℕ) (g : Got A) (k : A → Outcome) → ((a : A) → Zeroed lent (k a)) → Zeroed lent (on_read lent t g k)
  zeroed_read t (got a e) k h = h a
  zeroed_read t (no n p) k h = record { forms = refl; cells = refl }

  zeroed_texts : (program object : List ℕ) (b : Meter) → Zeroed lent (on_texts program object b lent)
  unfolding on_texts
  zeroed_texts program object b = zeroed_read 1 (read_program program) _ (λ P. zeroed_read 2 (read_object object) _ (λ x. zeroed_end (run one P x b)))

-- ---- the whole call, by its early refusal
module _ (program object : List ℕ) (b : Meter) (forms cells output : List ℕ) {k : Result (Unit {0}) Refusal} (is-early : k ≡ early_refusal (length program) (length object) b (length forms) (length cells)) where
  pub run_refused : {r : Answer} {w : Refusal} → k ≡ Err w → r ≡ bare (number_of w) → RunAnswered program object b (lends forms cells output) r forms cells output
  run_refused n a =
      let o = rw (← is-early, n) at (by_early program object b (lends forms cells output)) in
      record { answer = a ∙ ap (λ (x : Outcome). x.answer) (sym o); forms_after = ap (λ (x : Outcome). x.lent.forms) (sym o); cells_after = ap (λ (x : Outcome). x.lent.cells) (sym o); output_after = ap (λ (x : Outcome). x.lent.output) (sym o) }

  module _ (none : k ≡ Ok tt) where
    pub run_sized : WithinLimits (length program) (length object) b (length forms) (length cells)
    run_sized = sized (length program) (length object) b (length forms) (length cells) (sym is-early ∙ none)

    pub run_texts : {r : Answer} (forms₁ cells₁ : List ℕ) {forms₂ cells₂ output₂ : List ℕ} → TextsAnswered program object b (lends forms cells output) r output₂ → length forms₁ ≡ length forms → length cells₁ ≡ length cells
        → forms₂ ≡ replicate (length forms₁) 0 → cells₂ ≡ replicate (length cells₁) 0 → RunAnswered program object b (lends forms cells output) r forms₂ cells₂ output₂
    run_texts forms₁ cells₁ t lf lc zf zc =
        let o = rw (← is-early, none) at (by_early program object b (lends forms cells output)) in
        let z = zeroed_texts (lends forms cells output) program object b in
        record {
          answer = t.answer ∙ ap (λ (x : Outcome). x.answer) (sym o);
          forms_after = zf ∙ ap (λ (n : ℕ). replicate n 0) lf ∙ sym z.forms ∙ ap (λ (x : Outcome). x.lent.forms) (sym o);
          cells_after = zc ∙ ap (λ (n : ℕ). replicate n 0) lc ∙ sym z.cells ∙ ap (λ (x : Outcome). x.lent.cells) (sym o);
          output_after = t.output_after ∙ ap (λ (x : Outcome). x.lent.output) (sym o);
        }

-- ---- the texts: refused, too few cells, or run
module _ (program object : List ℕ) (b : Meter) (lent : Lent) where
  pub program_refused : {n p : ℕ} → read_program program ≡ no n p → TextsAnswered program object b lent (at n p 1) lent.output
  unfolding on_texts
  program_refused e = record { answer = rw e; output_after = rw e }

  module _ {P : Prog} {e : ℕ} (is-program : read_program program ≡ got P e) where
    pub object_refused : {n p : ℕ} → read_object object ≡ no n p → TextsAnswered program object b lent (at n p 2) lent.output
    unfolding on_texts
    object_refused f = record { answer = rw (is-program, f); output_after = rw (is-program, f) }

    module _ {x : Obj} {e' : ℕ} (is-object : read_object object ≡ got x e') where
      texts_are : on_texts program object b lent ≡ ended lent (run one P x b)
      unfolding on_texts
      texts_are = rw (is-program, is-object)

      pub too_few_lem : b.cells < program_cells P + cells_of x → TextsAnswered program object b lent (bare 13) lent.output
      too_few_lem h =
          let g : run one P x b ≡ too_few = rw (lt-leb (program_cells P + cells_of x) b.cells h, run) in
          let f = texts_are ∙ ap (ended lent) g in
          record { answer = ap (λ (o : Outcome). o.answer) (sym f); output_after = ap (λ (o : Outcome). o.lent.output) (sym f) }

      pub ran : {r : Answer} {output : List ℕ} → program_cells P + cells_of x ≤ b.cells
          → EndAnswered b lent (apply b.steps one P main_form x (budgets b.steps b.names (b.cells - (program_cells P + cells_of x)))) r output → TextsAnswered program object b lent r output
      ran h E =
          let g : run one P x b ≡ counted b (apply b.steps one P main_form x (budgets b.steps b.names (b.cells - (program_cells P + cells_of x)))) = rw (le-leb (program_cells P + cells_of x) b.cells h, run) in
          let f = texts_are ∙ ap (ended lent) g in
          record { answer = E.answer ∙ ap (λ (o : Outcome). o.answer) (sym f); output_after = E.output_after ∙ ap (λ (o : Outcome). o.lent.output) (sym f) }
