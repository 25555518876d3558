-- What is shown of a call does not depend on what stands in the lent buffers, nor, over the limit, on the cell table's length.
use Prim.Native.Nat.{ℕ, ◌*◌, ◌≤◌, min}
use mathlib.Core.Path.{◌≡◌, refl, ap, sym, subst, ◌∙◌}
use mathlib.Core.Bool.{Bool, true, false, cond, ◌||◌, not}
use mathlib.Core.List.{List, [], ◌++◌}
use borrow.Author.Tests.{ltb-false}
use lib.Dec.{ltb, eqb}
use lib.ListN.{length, take, drop}
use lib.Seq.{take-append_seam}
use Rattle.language.specs.Objects.{Obj}
use Rattle.language.specs.Reading.{Got, got, no, read_object, read_program}
use Rattle.language.specs.Writing.{write_obj, Scan, on, short, deep, scan}
use Rattle.language.specs.Numbers.{one}
use Rattle.language.specs.Evaluation.{RunEnd, done, fell, ran_out, too_few, run}
use Rattle.language.specs.Answers.{Lent, Outcome, untouched, room_in, scanned, ended, on_read, run_call}
use Rattle.language.specs.Fprun.{line, numbers, shown}
use Rattle.language.specs.declared.Meter.{Meter}
use Rattle.language.specs.declared.Answer.{Answer}

-- the same answer, and the same text
pub record Alike (o o' : Outcome) : Type 0 where
  pub answer : o.answer ≡ o'.answer
  pub text : take o.answer.length o.lent.output ≡ take o.answer.length o'.lent.output

abbrev shown_text : Answer → List ℕ → List ℕ
shown_text a text = line (numbers a) ++ cond (eqb a.number 20) (line text) []

pub same_shown : {o o' : Outcome} → Alike o o' → shown o ≡ shown o'
unfolding shown
same_shown {o} {o'} s =
    ap (shown_text o.answer) s.text ∙ ap (λ (a : Answer). shown_text a (take a.length o'.lent.output)) s.answer

alike-cond : (t : Bool) {o o' p p' : Outcome} → Alike o o' → Alike p p' → Alike (cond t o p) (cond t o' p')
alike-cond true s r = s
alike-cond false s r = r

module _ (L L' : Lent) (room : length L.output ≡ length L'.output) where
  alike_untouched : (n : ℕ) → Alike (untouched n L) (untouched n L')
  alike_untouched n = record { answer = refl; text = refl }

  alike_scan : (s c : ℕ) (x : Obj) (w : Scan) → Alike (scanned L s c x w) (scanned L' s c x w)
  alike_scan s c x (on o r) =
      let t = write_obj x in
      record { answer = refl; text = take-append_seam t (drop (length t) L.output) ∙ sym (take-append_seam t (drop (length t) L'.output)) }
  alike_scan s c x short = record { answer = refl; text = refl }
  alike_scan s c x deep = record { answer = refl; text = refl }

  alike_end : (r : RunEnd) → Alike (ended L r) (ended L' r)
  alike_end (done x s c) =
      subst (λ (n : ℕ). Alike (ended L (done x s c)) (scanned L' s c x (scan (write_obj x) 0 (min n 16384)))) room (alike_scan s c x (scan (write_obj x) 0 (room_in L)))
  alike_end (fell s c) = record { answer = refl; text = refl }
  alike_end (ran_out w s c) = record { answer = refl; text = refl }
  alike_end too_few = record { answer = refl; text = refl }

  alike_read : {A : Type 0} (t : ℕ) (g : Got A) {k k' : A → Outcome} → ((a : A) → Alike (k a) (k' a)) → Alike (on_read L t g k) (on_read L' t g k')
  alike_read t (got a e) h = h a
  alike_read t (no n p) h = record { answer = refl; text = refl }

  -- whether the tables are refused
  abbrev refused : Meter → Lent → Bool
  refused b l = ltb 4096 b.cells || not (eqb (length l.forms) 8192) || not (eqb (length l.cells) (4 * b.cells))

  pub alike_call : (program object : List ℕ) (b : Meter) → refused b L ≡ refused b L' → Alike (run_call program object b L) (run_call program object b L')
  unfolding run_call
  alike_call program object b e =
      let follows = alike_read 1 (read_program program) (λ P. alike_read 2 (read_object object) (λ x. alike_end (run one P x b))) in
      alike-cond (ltb 8192 (length program)) (alike_untouched 1)
      (alike-cond (ltb 16384 (length object)) (alike_untouched 2)
      (alike-cond (ltb 1000000 b.steps) (alike_untouched 3)
      (alike-cond (ltb 256 b.names) (alike_untouched 4)
      (rw (← e) (alike-cond (refused b L) (alike_untouched 5) follows)))))

  pub same_refused : (b : Meter) → length L.forms ≡ length L'.forms → (b.cells ≤ 4096 → length L.cells ≡ length L'.cells) → refused b L ≡ refused b L'
  same_refused b f h = go (ltb 4096 b.cells) (λ e. h (ltb-false 4096 b.cells e))
    where
      go : (t : Bool) → (t ≡ false → length L.cells ≡ length L'.cells) → (t || not (eqb (length L.forms) 8192) || not (eqb (length L.cells) (4 * b.cells))) ≡ (t || not (eqb (length L'.forms) 8192) || not (eqb (length L'.cells) (4 * b.cells)))
      go true g = refl
      go false g = rw (f, g refl)
