-- What was printed is the reply: to a call, to three lines, to an input.
use Prim.Native.Nat.{ℕ, ◌*◌, ◌≤◌, ◌<◌}
use mathlib.Core.Path.{◌≡◌, ap, sym, subst, ◌∙◌}
use mathlib.Core.List.{List, ◌++◌}
use mathlib.Core.Option as maybe
use native.Mathlib.Nat.{zero-add}
use native.Mathlib.Omega.{arith}
use borrow.Author.Tests.{le-leb, lt-leb}
use lib.ListN.{length, take, drop, length-replicate}
use lib.Seq.{length-take-le}
use Rattle.language.specs.Bytes.{bytes}
use Rattle.groundwork.specs.Options.{on_some}
use Rattle.language.specs.Answers.{run_call}
use Rattle.language.specs.Fprun.{split, on_lines, budgets_in, lent_for, line, shown, reply, fprun}
use Rattle.language.specs.declared.Meter.{Meter}
use Rattle.language.specs.declared.Answer.{Answer}
use Rattle.tables.specs.Tables.{put}
use Rattle.tables.proofs.Put.{length_put}
use Rattle.call_lines.specs.Budgets.{budgets_of, BudgetsRead}
use Rattle.call_lines.specs.Cutting.{LinesCut}
use Rattle.call_lines.specs.Printing.{Printed, shown_as}
use Rattle.call_lines.specs.declared.Lines.{Lines}
use Rattle.std.specs.Prelude.{Option, Some, None}
use Rattle.nattglod.specs.Calls.{budgets, lends, RunAnswered}
use Rattle.replies.specs.Replies.{Replied, CellsLent, call_reply, lines_reply}
use Rattle.replies.proofs.Alike.{same_shown, alike_call, same_refused}

-- another text that is the same, with a larger bound
as_text : {t u : List ℕ} {m n : ℕ} {out out' : List ℕ} {at r : ℕ} → t ≡ u → m ≤ n → Printed t m out at r out' → Printed u n out at r out'
as_text {t} {u} {m} {n} {out} {out'} {at} {r} e h p =
    let f = p.few in
    subst (λ (w : List ℕ). Printed w n out at r out') e (record { is = p.is; ends = p.ends; few = omega arith })

-- ---- a call: buffers of other contents show the same
module _ (m : Meter) (forms table output : List ℕ) {n : ℕ} (f : 8192 ≡ length forms) (t : 16384 ≡ length table) (o : 16384 ≡ length output) (l : CellsLent m.cells n) where
  call_shown : (program object : List ℕ) → shown (run_call program object m (lends forms (take n table) output)) ≡ shown (run_call program object m (lent_for m))
  call_shown program object =
      let few = l.fits in
      let lent : length (take n table) ≡ n = length-take-le n table (omega arith) in
      let e = sym f ∙ sym (length-replicate {A = ℕ} 8192 0) in
      let room = sym o ∙ sym (length-replicate {A = ℕ} 16384 0) in
      same_shown (alike_call (lends forms (take n table) output) (lent_for m) room program object m
      (same_refused (lends forms (take n table) output) (lent_for m) room m e (λ h. lent ∙ l.four h ∙ sym (length-replicate {A = ℕ} (4 * m.cells) 0))))

  pub call_printed : (program object : List ℕ) {a : Answer} {forms' cells' output' out out' : List ℕ} {r : ℕ} → RunAnswered program object (budgets m.steps m.names m.cells) (lends forms (take n table) output) a forms' cells' output'
      → Printed (shown_as a output') 16451 out 0 r out' → Printed (call_reply program object m) 16451 out 0 r out'
  unfolding call_reply shown_as shown
  call_printed program object {a} {forms'} {cells'} {output'} w p =
      let c = run_call program object m (lends forms (take n table) output) in
      let same : shown_as a output' ≡ shown c = rw (w.answer, w.output_after) in
      as_text (same ∙ call_shown program object) (omega arith) p

-- ---- three lines
abbrev other : List ℕ
other = line (bytes "99")

module _ (first program object : List ℕ) {b : Option Meter} (known : BudgetsRead first b) {out out' : List ℕ} {r : ℕ} where
  pub no_budgets : b ≡ None → Printed other 3 out 0 r out' → Printed (lines_reply first program object) 16451 out 0 r out'
  unfolding lines_reply
  no_budgets e p =
      let n : budgets_in first ≡ maybe.none = sym known.is ∙ ap budgets_of e in
      as_text (sym (ap (λ (x : maybe.Option Meter). reply (on_some x (λ b. maybe.some (call_reply program object b)))) n)) (omega arith) p

  pub with_budgets : (m : Meter) → b ≡ Some m → Printed (call_reply program object m) 16451 out 0 r out' → Printed (lines_reply first program object) 16451 out 0 r out'
  unfolding lines_reply
  with_budgets m e p =
      let n : budgets_in first ≡ maybe.some m = sym known.is ∙ ap budgets_of e in
      as_text (sym (ap (λ (x : maybe.Option Meter). reply (on_some x (λ b. maybe.some (call_reply program object b)))) n)) (omega arith) p

-- ---- an input
-- what fprun does with the three lines
abbrev answered : List ℕ → List ℕ → List ℕ → maybe.Option (List ℕ)
answered first program object = on_some (budgets_in first) (λ b. maybe.some (call_reply program object b))

fprun_shaped : (s : List ℕ) → length s ≤ 25000 → fprun s ≡ reply (on_lines (split 10 s) answered)
unfolding fprun call_reply
fprun_shaped s h = rw (le-leb (length s) 25000 h)

module _ {s out out' : List ℕ} {r : ℕ} (room : length out ≡ 16451) where
  replied : {t : List ℕ} {n : ℕ} → n ≤ 16451 → t ≡ fprun s → Printed t n out 0 r out' → Replied s out r out'
  unfolding put
  replied {t} h e p =
      let few = p.few in
      let k = ap length p.is ∙ length_put out 0 t (omega arith) in
      let is : out' ≡ t ++ drop r out = p.is ∙ ap (λ (n : ℕ). t ++ drop n out) (sym p.ends) in
      record {
        is = is ∙ ap (λ (u : List ℕ). u ++ drop r out) e;
        ends = p.ends ∙ zero-add (length t) ∙ ap length e;
        fits = omega arith;
        counts = sym (length-take-le r out' (omega arith));
      }

  pub too_long : 25000 < length s → Printed other 3 out 0 r out' → Replied s out r out'
  unfolding fprun
  too_long h p = replied (omega arith) (rw (lt-leb (length s) 25000 h)) p

  module _ (short : length s ≤ 25000) where
    pub other_shaped : {l : Option Lines} → LinesCut s l → l ≡ None → Printed other 3 out 0 r out' → Replied s out r out'
    other_shaped {l} k e p =
        let shape : LinesCut s None = subst (λ (x : Option Lines). LinesCut s x) e k in
        replied (omega arith) (sym (fprun_shaped s short ∙ ap reply (shape answered))) p

    pub three_shaped : {l : Option Lines} {m : Lines} → LinesCut s l → l ≡ Some m → Printed (lines_reply m.budgets.now m.program.now m.object.now) 16451 out 0 r out' → Replied s out r out'
    unfolding lines_reply
    three_shaped {l} {m} k e p =
        let t : LinesCut s (Some m) = subst (λ (x : Option Lines). LinesCut s x) e k in
        replied (omega arith) (sym (fprun_shaped s short ∙ ap (λ (x : List (List ℕ)). reply (on_lines x answered)) t)) p
