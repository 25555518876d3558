-- A table that holds an object's cells, one after the other, from cell c on, has the object's value stand for it.
use Prim.Native.Nat.{ℕ, ◌+◌, ◌*◌, ◌≤◌}
use mathlib.Core.Path.{◌≡◌, refl, sym, ap, ◌∙◌}
use mathlib.Core.List.{List, ◌++◌, append_assoc}
use native.Mathlib.Omega.{arith}
use native.Mathlib.Nat.{add-zero}
use borrow.Author.Tests.{ltb-true}
use lib.IntN.{pos, negsuc}
use lib.ListN.{get_or, length, take, drop, length-append}
use lib.Seq.{get_or-drop, drop-drop, drop-append_seam, drop_at, length-take-le}
use Rattle.language.specs.Objects.{Obj, int, symbol, seq, Objs, nil, ◌::◌, cells_of, cells_of_all}
use Rattle.language.specs.Accepted.{IsObj, AreObjs}
use Rattle.language.specs.declared.Val.{Val}
use Rattle.tables.specs.Tables.{put}
use Rattle.cells.specs.Cells.{Rep, rep_pos, rep_neg, rep_symbol, rep_nil, rep_more, val_at, next_at}
use Rattle.cells.specs.Encoding.{link_of, val_of, cell, cells_from, places_from}
use Rattle.cells.proofs.Reps.{val_same}

-- ---- lengths
mutual
  unfolding cells_from places_from

  pub length_cells : (x : Obj) (c : ℕ) → length (cells_from c x) ≡ cells_of x * 4
  length_cells (int z) c = refl
  length_cells (symbol w) c = refl
  length_cells (seq xs) c = length_places xs c

  pub length_places : (xs : Objs) (c : ℕ) → length (places_from c xs) ≡ cells_of_all xs * 4
  length_places nil c = refl
  length_places (x :: xs) c =
      let a = length-append (cells_from (c + 1) x) (places_from (c + 1 + cells_of x) xs) in
      let b = length_cells x (c + 1) in
      let d = length_places xs (c + 1 + cells_of x) in
      omega arith

-- ---- reading from a table that goes on with l from index i
pub at_front : (t : List ℕ) (i k : ℕ) (l : List ℕ) → drop i t ≡ l → get_or t (i + k) 0 ≡ get_or l k 0
at_front t i k l e = sym (get_or-drop i t k 0) ∙ ap (λ (x : List ℕ). get_or x k 0) e

behind : (t : List ℕ) (i : ℕ) (a l : List ℕ) → drop i t ≡ a ++ l → drop (i + length a) t ≡ l
behind t i a l e = rw (← (drop-drop (length a) i t), e) (drop-append_seam a l)

-- the cell at c, where the table goes on with it
module _ (t : List ℕ) (c : ℕ) (v : Val) (next : ℕ) (l : List ℕ) (d : drop (c * 4) t ≡ cell v next ++ l) where
  front_next : next_at t c ≡ next
  front_next = at_front t (c * 4) 1 (cell v next ++ l) d

  front_val : val_at t c ≡ v
  front_val =
      let tag = rw add-zero at (at_front t (c * 4) 0 (cell v next ++ l) d) in
      let lo = at_front t (c * 4) 2 (cell v next ++ l) d in
      let hi = at_front t (c * 4) 3 (cell v next ++ l) d in
      val_same (val_at t c) v tag (omega (arith, lo, hi))

-- ---- the object that the cells hold
mutual
  unfolding cells_from places_from

  pub cells_rep : (x : Obj) (c n : ℕ) (t rest : List ℕ) → IsObj x → c + cells_of x ≤ n → drop (c * 4) t ≡ cells_from c x ++ rest → Rep t n (val_of c x) x
  cells_rep (int (pos k)) c n t rest i h d = rep_pos {k = k} refl refl (ltb-true k 2147483648 i)
  cells_rep (int (negsuc k)) c n t rest i h d = rep_neg {k = k} refl refl (ltb-true k 2147483648 i)
  cells_rep (symbol w) c n t rest i h d = rep_symbol refl i refl
  cells_rep (seq xs) c n t rest i h d = places_rep xs c n t rest i h d

  pub places_rep : (xs : Objs) (c n : ℕ) (t rest : List ℕ) → AreObjs xs → c + cells_of_all xs ≤ n → drop (c * 4) t ≡ places_from c xs ++ rest → Rep t n (val_of c (seq xs)) (seq xs)
  places_rep nil c n t rest i h d = rep_nil refl refl
  places_rep (x :: xs) c n t rest i h d =
      let e = c + 1 + cells_of x in
      let v = val_of (c + 1) x in
      let k = link_of e xs in
      let d₀ : drop (c * 4) t ≡ cell v k ++ (cells_from (c + 1) x ++ (places_from e xs ++ rest)) = rw (← (append_assoc (cells_from (c + 1) x) (places_from e xs) rest)) d in
      let s : c * 4 + 4 ≡ (c + 1) * 4 = omega arith in
      let d₁ : drop ((c + 1) * 4) t ≡ cells_from (c + 1) x ++ (places_from e xs ++ rest) = rw (← s) (behind t (c * 4) (cell v k) (cells_from (c + 1) x ++ (places_from e xs ++ rest)) d₀) in
      let j : (c + 1) * 4 + length (cells_from (c + 1) x) ≡ e * 4 = omega (arith, length_cells x (c + 1)) in
      let d₂ : drop (e * 4) t ≡ places_from e xs ++ rest = rw (← j) (behind t ((c + 1) * 4) (cells_from (c + 1) x) (places_from e xs ++ rest) d₁) in
      let a = cells_rep x (c + 1) n t (places_from e xs ++ rest) i.0 (omega arith) d₁ in
      let b = places_rep xs e n t rest i.1 (omega arith) d₂ in
      rep_more {v = val_of c (seq (x :: xs))} {p = c} {x = x} {xs = xs} refl (omega arith) (omega arith)
      (rw (front_val t c v k (cells_from (c + 1) x ++ (places_from e xs ++ rest)) d₀) a)
      (rw (front_next t c v k (cells_from (c + 1) x ++ (places_from e xs ++ rest)) d₀) b)

-- so the table in which an object's cells were put has the object
module _ (x : Obj) (c : ℕ) (t : List ℕ) (room : (c + cells_of x) * 4 ≤ length t) where
  pub put_rep : IsObj x → Rep (put t (c * 4) (cells_from c x)) (c + cells_of x) (val_of c x) x
  unfolding put
  put_rep i =
      let l = length-take-le (c * 4) t (omega arith) in
      let z = length_cells x c in
      cells_rep x c (c + cells_of x) (take (c * 4) t ++ cells_from c x ++ drop (c * 4 + length (cells_from c x)) t) (drop (c * 4 + length (cells_from c x)) t) i (omega arith)
      (rw append_assoc (drop_at (take (c * 4) t) (cells_from c x ++ drop (c * 4 + length (cells_from c x)) t) (c * 4) l))
