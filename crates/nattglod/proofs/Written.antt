-- The object that a value stands for, written or not: 20, 25 or 26.
use Prim.Native.Nat.{ℕ, ◌<◌}
use mathlib.Core.Path.{◌≡◌, ap, sym, ◌∙◌}
use mathlib.Core.List.{List}
use native.Mathlib.Omega.{arith}
use Rattle.language.specs.Objects.{Obj}
use Rattle.language.specs.Writing.{write_obj, Scan}
use Rattle.language.specs.Answers.{counting, scanned}
use Rattle.language.specs.declared.Answer.{Answer}
use Rattle.language.specs.declared.Val.{Val}
use Rattle.objects.specs.Writings.{Written, number_of, ObjectEnd, object_written, no_room, no_mark, ObjectWritten}
use Rattle.objects.specs.declared.NotWritten.{NotWritten}
use Rattle.std.specs.Prelude.{Ok, Err}
use Rattle.nattglod.specs.Calls.{lends}
use Rattle.nattglod.specs.Stages.{WrittenAnswered}

-- the answer from what became of writing
numbered : (s c : ℕ) → Written → Answer
numbered s c (Ok n) = counting 20 s c n
numbered s c (Err why) = counting (number_of why) s c 0

module _ (forms cells output output' : List ℕ) (s c : ℕ) (x : Obj) {r : Written} where
  is_numbered : {w : Scan} → ObjectEnd (write_obj x) r output output' w → numbered s c r ≡ (scanned (lends forms cells output) s c x w).answer
  unfolding numbered
  is_numbered (object_written e o) = ap (numbered s c) e
  is_numbered (no_room e o) = ap (numbered s c) e
  is_numbered (no_mark e o) = ap (numbered s c) e

  is_output : {w : Scan} → ObjectEnd (write_obj x) r output output' w → output' ≡ (scanned (lends forms cells output) s c x w).lent.output
  is_output (object_written e o) = o
  is_output (no_room e o) = o
  is_output (no_mark e o) = o

module _ {C : List ℕ} {v : Val} {s c : ℕ} {output output' : List ℕ} {w : Written} (O : ObjectWritten C v w output output') where
  numbered_answered : {r : Answer} → r ≡ numbered s c w → WrittenAnswered C v s c output r output'
  numbered_answered e = record {
    answer = λ n x forms cells l R. e ∙ is_numbered forms cells output output' s c x (O.means n x l R);
    output_after = λ n x forms cells l R. is_output forms cells output output' s c x (O.means n x l R);
  }

  pub written_done : {n : ℕ} {r : Answer} → w ≡ Ok n → r ≡ counting 20 s c n → WrittenAnswered C v s c output r output'
  unfolding numbered
  written_done e a = numbered_answered (a ∙ ap (numbered s c) (sym e))

  pub written_err : {why : NotWritten} {k : ℕ} {r : Answer} → w ≡ Err why → k ≡ number_of why → r ≡ counting k s c 0 → WrittenAnswered C v s c output r output'
  unfolding numbered
  written_err e f a = numbered_answered (a ∙ ap (λ (q : ℕ). counting q s c 0) f ∙ ap (numbered s c) (sym e))

-- the bytes that were written are few enough for an answer
pub written_few : {C : List ℕ} {v : Val} {output output' : List ℕ} {w : Written} {n : ℕ} → ObjectWritten C v w output output' → w ≡ Ok n → n < 4294967296
written_few O e = let h = O.within.ends _ e in omega arith
