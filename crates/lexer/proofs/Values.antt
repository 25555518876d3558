-- Laws of `value_from`: a turn of the loop, its end, and that the number only grows.
use mathlib.Core.Path.{◌≡◌, refl}
use mathlib.Core.List.{List, [], ◌∷◌}
use Prim.Native.Nat.{ℕ, suc, ◌+◌, ◌-◌, ◌*◌, ◌≤◌, ◌<◌}
use native.Mathlib.Nat.{le_trans, le_refl}
use native.Mathlib.Omega.{arith}
use native.Mathlib.Numerals.{add-one}
use lib.ListN.{length, get_or, drop, drop_of_length-le}
use lib.Seq.{drop-cons}
use Rattle.language.specs.Judging.{value_from}

step : (v b : ℕ) (w : List ℕ) → value_from v (b ∷ w) ≡ value_from (v * 10 + (b - 48)) w
unfolding value_from
step v b w = refl

pub value_turn : (s : List ℕ) (v i : ℕ) → i < length s → value_from v (drop i s) ≡ value_from (v * 10 + (get_or s i 0 - 48)) (drop (i + 1) s)
value_turn s v i h = rw (add-one, drop-cons s i 0 h) (step v (get_or s i 0) (drop (suc i) s))

pub value_end : (s : List ℕ) (v i : ℕ) → length s ≤ i → value_from v (drop i s) ≡ v
unfolding value_from
value_end s v i h = rw (drop_of_length-le s {i = i} h)

pub value_grows : (v : ℕ) (w : List ℕ) → v ≤ value_from v w
unfolding value_from
value_grows v [] = le_refl v
value_grows v (b ∷ w) =
    let h : v ≤ v * 10 + (b - 48) = omega arith in
    le_trans h (value_grows (v * 10 + (b - 48)) w)
