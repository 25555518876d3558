-- Laws of `put`: runs behind, before and over each other; its length; what is read of it, inside and outside of what was put.
use mathlib.Core.Path.{◌≡◌, ap, sym, ◌∙◌}
use mathlib.Core.List.{List, [], ◌∷◌, ◌++◌, append_assoc, append-nil}
use Prim.Native.Nat.{ℕ, ◌+◌, ◌-◌, ◌≤◌, ◌<◌}
use native.Mathlib.Nat.{add-zero}
use native.Mathlib.Omega.{arith}
use lib.ListN.{length, take, drop, set, get_or, length-append, take-append-drop, get_or-append}
use lib.Seq.{sets-eq, take_at, drop_at, drop-append-add, drop-drop, take-append-le, take-take, length-take-le, get_or-take, get_or-drop, get_or-append-add}
use borrow.Rule.Slice.PartMut.{put_mid}
use Rattle.tables.specs.Tables.{put}

pub past : (p q : List ℕ) (n m : ℕ) → length p ≡ n → drop (n + m) (p ++ q) ≡ drop m q
past p q n m e = rw (← e) (drop-append-add p q m)

module _ (t : List ℕ) (i : ℕ) (a b : List ℕ) (room : i + length a + length b ≤ length t) where
  front : length (take i t ++ a) ≡ i + length a
  front = rw (length-append, length-take-le i t (omega arith))

  both : i + length (a ++ b) ≡ i + length a + length b
  both = rw length-append (omega arith)

  pub put_after : put (put t i a) (i + length a) b ≡ put t i (a ++ b)
  unfolding put
  put_after =
      rw (take_at (take i t ++ a) (drop (i + length a) t) (i + length a) front, past (take i t ++ a) (drop (i + length a) t) (i + length a) (length b) front, drop-drop, both)
      (simp append_assoc)

  pub put_before : put (put t (i + length a) b) i a ≡ put t i (a ++ b)
  unfolding put
  put_before =
      let l = length-take-le (i + length a) t (omega arith) in
      rw (
        append_assoc (take (i + length a) t) b,
        take-append-le i (take (i + length a) t) (b ++ drop (i + length a + length b) t) (omega arith),
        take-take i (i + length a) t (omega arith),
        drop_at (take (i + length a) t) (b ++ drop (i + length a + length b) t) (i + length a) l,
        both,
      )
      (simp append_assoc)

pub put_none : (t : List ℕ) (i : ℕ) → put t i [] ≡ t
unfolding put
put_none t i = rw (append-nil, add-zero) (take-append-drop i t)

pub length_put : (t : List ℕ) (i : ℕ) (vs : List ℕ) → i + length vs ≤ length t → length (put t i vs) ≡ length t
unfolding put
length_put t i vs h =
    let a = length-append (take i t ++ vs) (drop (i + length vs) t) in
    let b = length-append (take i t) vs in
    let c = length-take-le i t (omega arith) in
    let d = ap (λ (x : List ℕ). length x) (take-append-drop (i + length vs) t) in
    let e = length-append (take (i + length vs) t) (drop (i + length vs) t) in
    let f = length-take-le (i + length vs) t h in
    omega arith

-- a longer run over a shorter one
pub put_over : (t : List ℕ) (i : ℕ) (a b : List ℕ) → length a ≤ length b → i + length b ≤ length t → put (put t i a) i b ≡ put t i b
unfolding put
put_over t i a b h n =
    let l = length-take-le i t (omega arith) in
    let f : length (take i t ++ a) ≡ i + length a = rw (length-append, l) in
    let e : i + length b ≡ i + length a + (length b - length a) = omega arith in
    let u : take i (take i t ++ a ++ drop (i + length a) t) ≡ take i t = rw append_assoc (take_at (take i t) (a ++ drop (i + length a) t) i l) in
    let w : drop (i + length b) (take i t ++ a ++ drop (i + length a) t) ≡ drop (i + length b) t = rw e (past (take i t ++ a) (drop (i + length a) t) (i + length a) (length b - length a) f ∙ drop-drop (length b - length a) (i + length a) t) in
    rw (u, w)

-- ---- what is read: before, inside and behind what was put
pub put_below : (t : List ℕ) (i j : ℕ) (vs : List ℕ) → j < i → i ≤ length t → get_or (put t i vs) j 0 ≡ get_or t j 0
unfolding put
put_below t i j vs h n =
    let l = length-take-le i t n in
    rw (append_assoc (take i t) vs, get_or-append (take i t) (vs ++ drop (i + length vs) t) 0 j (omega arith), get_or-take i t j 0 h)

pub put_inside : (t : List ℕ) (i j : ℕ) (vs : List ℕ) → j < length vs → i ≤ length t → get_or (put t i vs) (i + j) 0 ≡ get_or vs j 0
unfolding put
put_inside t i j vs h n =
    let l = length-take-le i t n in
    let e : i + j ≡ length (take i t) + j = rw l in
    rw (append_assoc (take i t) vs, e) (get_or-append-add (take i t) (vs ++ drop (i + length vs) t) j 0 ∙ get_or-append vs (drop (i + length vs) t) 0 j h)

pub put_behind : (t : List ℕ) (i j : ℕ) (vs : List ℕ) → i + length vs ≤ j → i ≤ length t → get_or (put t i vs) j 0 ≡ get_or t j 0
unfolding put
put_behind t i j vs h n =
    let l = length-take-le i t n in
    let f : length (take i t ++ vs) ≡ i + length vs = rw (length-append, l) in
    let e : j ≡ length (take i t ++ vs) + (j - (i + length vs)) = omega arith in
    let z : i + length vs + (j - (i + length vs)) ≡ j = omega arith in
    ap (λ (k : ℕ). get_or (take i t ++ vs ++ drop (i + length vs) t) k 0) e
    ∙ get_or-append-add (take i t ++ vs) (drop (i + length vs) t) (j - (i + length vs)) 0
    ∙ get_or-drop (i + length vs) t (j - (i + length vs)) 0
    ∙ ap (λ (k : ℕ). get_or t k 0) z

-- ---- stores
pub set_put : (t : List ℕ) (k a : ℕ) → k + 1 ≤ length t → set t k a ≡ put t k (a ∷ [])
unfolding put
set_put t k a h = sets-eq (a ∷ []) t k h

-- a part of k places written over, as a write to `t[i..i + k]` leaves it
pub put_part : (t : List ℕ) (i k : ℕ) (vs : List ℕ) → k ≡ length vs → put_mid i k t vs ≡ put t i vs
unfolding put
put_part t i k vs e = rw (e, drop-drop) (sym (append_assoc (take i t) vs (drop (i + length vs) t)))
