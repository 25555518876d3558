-- Sequences made in new cells: what the functions that make them answer, said of the objects that the values stand for.
use Rattle.std.specs.Prelude.{ℕ, zero, suc, ◌+◌, ◌*◌, ◌≤◌, ◌<◌, ◌≡◌, Bool, true, false, List, length}
use Rattle.language.specs.Objects.{Obj, seq, Objs, nil, ◌::◌, length_of, ◌+++◌}
use Rattle.language.specs.Meanings.{drop_last, pair, are_rows, columns_at}
use Rattle.language.specs.declared.Val.{Val}
use Rattle.cells.specs.Cells.{Rep, Same}

-- the table C has n cells from p on
pub record Space (C : List ℕ) (p n : ℕ) : Type 0 where
  pub far : p + n < 4294967296
  pub long : p * 4 + n * 4 ≤ length C

-- In C' the value r stands for the sequence ys, the cells before p are as they were in C, and n more are made.
pub record NewSequence (C : List ℕ) (p n : ℕ) (ys : Objs) (r : Val) (C' : List ℕ) : Type 0 where
  pub rep : Rep C' (p + n) r (seq ys)
  pub same : Same C C' p

-- an object put before a sequence, in cell p
pub record PutBefore (C : List ℕ) (p : ℕ) (x s r : Val) (C' : List ℕ) : Type 0 where
  pub means : (y : Obj) (ys : Objs) → Space C p 1 → Rep C p x y → Rep C p s (seq ys) → NewSequence C p 1 (y :: ys) r C'

-- the first n objects
unfoldable pub take_objs : ℕ → Objs → Objs
take_objs zero xs = nil
take_objs (suc n) nil = nil
take_objs (suc n) (x :: xs) = x :: take_objs n xs

-- the first n places of v put before a sequence, in cells from p on
pub record Prepended (C : List ℕ) (v : Val) (n p : ℕ) (rest r : Val) (C' : List ℕ) : Type 0 where
  pub means : (xs ys : Objs) → n ≤ length_of xs → Space C p n → Rep C p v (seq xs) → Rep C p rest (seq ys) → NewSequence C p n (take_objs n xs +++ ys) r C'

-- the sequence that f makes of the n places of v, in cells from p on
pub record Rearranged (f : Objs → Objs) (C : List ℕ) (v : Val) (n p : ℕ) (r : Val) (C' : List ℕ) : Type 0 where
  pub means : (xs : Objs) → length_of xs ≡ n → Space C p (length_of (f xs)) → Rep C p v (seq xs) → NewSequence C p (length_of (f xs)) (f xs) r C'

abbrev pub all_but_last : Objs → Objs
all_but_last nil = nil
all_but_last (x :: xs) = drop_last x xs

-- pairs with x in the first place or in the second
abbrev pub side : Bool → Obj → Obj → Obj
side true x y = pair x y
side false x y = pair y x

unfoldable pub sides : Bool → Obj → Objs → Objs
sides b x nil = nil
sides b x (y :: ys) = side b x y :: sides b x ys

-- one pair, in the cells p and p + 1
pub record Joined (C : List ℕ) (p : ℕ) (a b : Val) (first : Bool) (r : Val) (C' : List ℕ) : Type 0 where
  pub means : (x y : Obj) → Space C p 2 → Rep C p a x → Rep C p b y → Rep C' (p + 2) r (side first x y) × Same C C' p

-- a pair for each of the n places of v, three cells for each
pub record Shared (C : List ℕ) (a v : Val) (first : Bool) (n p : ℕ) (r : Val) (C' : List ℕ) : Type 0 where
  pub means : (x : Obj) (ys : Objs) → length_of ys ≡ n → Space C p (3 * n) → Rep C p a x → Rep C p v (seq ys) → NewSequence C p (3 * n) (sides first x ys) r C'

-- ---- rows and columns
-- whether the n places of v are sequences of w places
pub record Rows (C : List ℕ) (v : Val) (n w : ℕ) (r : Bool) : Type 0 where
  pub means : (k : ℕ) (xs : Objs) → k < 4294967296 → length_of xs ≡ n → Rep C k v (seq xs) → r ≡ are_rows w xs

-- the w columns of the n rows of v, in n cells and one for each
pub record Columns (C : List ℕ) (v : Val) (n w p : ℕ) (r : Val) (C' : List ℕ) : Type 0 where
  pub means : (rs : Objs) → length_of rs ≡ n → are_rows w rs ≡ true → Space C p (w + w * n) → Rep C p v (seq rs) → NewSequence C p (w + w * n) (columns_at 0 w rs) r C'
