-- As many of the six numbers as there is room for, before what stands behind them, are what an answer is told.
use Prim.Native.Nat.{ℕ, ◌≤◌, min}
use mathlib.Core.Path.{◌≡◌, refl, sym, ◌∙◌}
use mathlib.Core.Bool.{Bool, true, false}
use mathlib.Core.List.{List, ◌++◌}
use native.Mathlib.Omega.{arith}
use lib.Dec.{leb}
use borrow.Author.Tests.{leb-true, leb-false}
use lib.ListN.{length, take, drop, drop_of_length-le}
use lib.Seq.{take_all}
use Rattle.language.specs.declared.Answer.{Answer}
use Rattle.c_calls.specs.Told.{six, Told}
use Rattle.c_calls.proofs.Determined.{told_first}

-- a list with room for all six, or with room for as many as it has
room : (a : List ℕ) (r : Answer) (n : ℕ) → n ≡ min (length a) 6 → take n (six r) ++ drop n a ≡ take (length a) (six r) ++ drop 6 a
room a r n e = go (leb (length a) 6) refl
  where
    go : (b : Bool) → leb (length a) 6 ≡ b → take n (six r) ++ drop n a ≡ take (length a) (six r) ++ drop 6 a
    go true h =
        let l : length a ≤ 6 = leb-true (length a) 6 h in
        let z : n ≡ length a = omega arith in
        rw (z, drop_of_length-le a {i = length a} (omega arith), drop_of_length-le a {i = 6} l)
    go false h =
        let l = leb-false (length a) 6 h in
        let z : n ≡ 6 = omega arith in
        rw (z, take_all (length a) (six r) (omega arith))

pub told_is : {a part : List ℕ} {r : Answer} {n : ℕ} → n ≡ min (length a) 6 → part ≡ take n (six r) → Told a r (part ++ drop n a)
told_is {a} {r = r} {n} e f = record { is = rw f (room a r n e ∙ sym (told_first a r)) }
