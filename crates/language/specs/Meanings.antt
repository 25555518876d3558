-- What each word answers: bottom, or an object with the steps it asks for beyond its own and its cells.
use Rattle.std.specs.Prelude.{ℕ, zero, suc, ◌+◌, ◌-◌, Bool, true, false, ◌&&◌, ◌||◌, not as opposite, ℤ, pos, negsuc, ◌+ℤ◌, ◌-ℤ◌, ◌*ℤ◌, eqb, ltb}
use Rattle.std.proofs.Math.Option.{Option, some, none}
use Rattle.std.specs.Int.Signed.{lt_z, quot_z}
use Rattle.language.specs.Bytes.{same_bytes}
use Rattle.language.specs.Numbers.{Edition, one, in_range}
use Rattle.language.specs.Objects.{Obj, int, symbol, seq, Objs, nil, ◌::◌, length_of, ◌+++◌, nth_obj, truth, truth_of, is_T, is_F, neither}
use Rattle.language.specs.Words.{Op, entry, cells_by}
use Rattle.language.specs.Forms.{Word, select, select_right, op}

pub data WordAnswer : Type 0 where
  falls : WordAnswer
  gives : (steps cells : ℕ) → Obj → WordAnswer

-- the object that a word makes, with the cells that the table says for n, and for rows of m
abbrev pub made : Op → (n m : ℕ) → Obj → WordAnswer
made o n m x = gives 0 (cells_by (entry o).rule n m) x

-- the same for a word that makes no cell
abbrev pub plain : Op → Obj → WordAnswer
plain o x = made o 0 0 x

-- A numeric result out of range is bottom.
abbrev pub number : Edition → Op → ℤ → WordAnswer
number e o z = elim (in_range e z) [ true ↦ plain o (int z) | false ↦ falls ]

-- `div` cuts toward zero; a zero divisor is bottom.
abbrev pub quotient : Edition → ℤ → ℤ → ℤ
quotient one a b = quot_z a b

abbrev pub divided : Edition → ℤ → ℤ → WordAnswer
divided e a (pos zero) = falls
divided e a (pos (suc n)) = number e Op.div (quotient e a (pos (suc n)))
divided e a (negsuc n) = number e Op.div (quotient e a (negsuc n))

-- The shapes that an argument is asked to have; bottom if it has another.
abbrev pub on_seq : Obj → (Objs → WordAnswer) → WordAnswer
on_seq (int a) k = falls
on_seq (symbol a) k = falls
on_seq (seq xs) k = k xs

-- a sequence with a first object
abbrev pub on_full : Obj → (Obj → Objs → WordAnswer) → WordAnswer
on_full (int a) k = falls
on_full (symbol a) k = falls
on_full (seq nil) k = falls
on_full (seq (x :: xs)) k = k x xs

abbrev pub on_pair : Obj → (Obj → Obj → WordAnswer) → WordAnswer
on_pair (int a) k = falls
on_pair (symbol a) k = falls
on_pair (seq nil) k = falls
on_pair (seq (a :: nil)) k = falls
on_pair (seq (a :: b :: nil)) k = k a b
on_pair (seq (a :: b :: c :: cs)) k = falls

abbrev pub on_int : Obj → (ℤ → WordAnswer) → WordAnswer
on_int (int a) k = k a
on_int (symbol a) k = falls
on_int (seq a) k = falls

-- T and F only
abbrev pub on_truth : Obj → (Bool → WordAnswer) → WordAnswer
on_truth x k = elim (truth_of x) [ is_T ↦ k true | is_F ↦ k false | neither ↦ falls ]

abbrev pub on_ints : Obj → (ℤ → ℤ → WordAnswer) → WordAnswer
on_ints x k = on_pair x (λ a b. on_int a (λ i. on_int b (λ j. k i j)))

abbrev pub on_truths : Obj → (Bool → Bool → WordAnswer) → WordAnswer
on_truths x k = on_pair x (λ a b. on_truth a (λ i. on_truth b (λ j. k i j)))

-- `<>` is both atom and sequence.
abbrev pub is_atom : Obj → Bool
is_atom (int a) = true
is_atom (symbol a) = true
is_atom (seq nil) = true
is_atom (seq (x :: xs)) = false

abbrev pub is_null : Obj → Bool
is_null (int a) = false
is_null (symbol a) = false
is_null (seq nil) = true
is_null (seq (x :: xs)) = false

-- eq: whether equal, and how many pairs of objects were looked at.
pub record Looked : Type 0 where
  pub same : Bool
  pub pairs : ℕ

abbrev pub same_int : ℤ → ℤ → Bool
same_int (pos m) (pos n) = eqb m n
same_int (pos m) (negsuc n) = false
same_int (negsuc m) (pos n) = false
same_int (negsuc m) (negsuc n) = eqb m n

-- the second only if the first is no difference
abbrev pub onward : Looked → Looked → Looked
onward a b = elim a.same [ true ↦ record { same = b.same; pairs = a.pairs + b.pairs } | false ↦ a ]

-- An atom equals only itself. Two non-empty sequences are looked at element by element until a difference or until either
-- ends; they are equal if no difference came and both ended.
abbrev mutual
  pub look : Obj → Obj → Looked
  look (int m) (int n) = record { same = same_int m n; pairs = 1 }
  look (int m) (symbol t) = record { same = false; pairs = 1 }
  look (int m) (seq ys) = record { same = false; pairs = 1 }
  look (symbol s) (int n) = record { same = false; pairs = 1 }
  look (symbol s) (symbol t) = record { same = same_bytes s t; pairs = 1 }
  look (symbol s) (seq ys) = record { same = false; pairs = 1 }
  look (seq xs) (int n) = record { same = false; pairs = 1 }
  look (seq xs) (symbol t) = record { same = false; pairs = 1 }
  look (seq xs) (seq ys) = let r = look_along xs ys in record { same = r.same; pairs = suc r.pairs }

  pub look_along : Objs → Objs → Looked
  look_along nil nil = record { same = true; pairs = 0 }
  look_along nil (y :: ys) = record { same = false; pairs = 0 }
  look_along (x :: xs) nil = record { same = false; pairs = 0 }
  look_along (x :: xs) (y :: ys) = onward (look x y) (look_along xs ys)

-- one step more for each pair looked at
abbrev pub compared : Looked → WordAnswer
compared l = gives l.pairs (cells_by (entry Op.eq).rule 0 0) (truth l.same)

-- Selectors: how many objects stand before the k-th of n, counted from the left and from the right.
abbrev pub from_left : ℕ → ℕ → Option ℕ
from_left zero n = none
from_left (suc j) n = elim (ltb j n) [ true ↦ some j | false ↦ none ]

abbrev pub from_right : ℕ → ℕ → Option ℕ
from_right zero n = none
from_right (suc j) n = elim (ltb j n) [ true ↦ some (n - suc j) | false ↦ none ]

abbrev pub nth : ℕ → Objs → WordAnswer
nth j nil = falls
nth zero (x :: xs) = gives 0 0 x
nth (suc j) (x :: xs) = nth j xs

abbrev pub pick : Option ℕ → Objs → WordAnswer
pick none xs = falls
pick (some j) xs = nth j xs

abbrev pub turned_onto : Objs → Objs → Objs
turned_onto nil ys = ys
turned_onto (x :: xs) ys = turned_onto xs (x :: ys)

abbrev pub turned : Objs → Objs
turned xs = turned_onto xs nil

-- of a first object and those behind it: all but the last, and the last
abbrev pub drop_last : Obj → Objs → Objs
drop_last x nil = nil
drop_last x (y :: ys) = x :: drop_last y ys

abbrev pub last_of : Obj → Objs → Obj
last_of x nil = x
last_of x (y :: ys) = last_of y ys

abbrev pub to_left : Objs → Objs
to_left nil = nil
to_left (x :: xs) = xs +++ (x :: nil)

abbrev pub to_right : Objs → Objs
to_right nil = nil
to_right (x :: xs) = last_of x xs :: drop_last x xs

abbrev pub pair : Obj → Obj → Obj
pair a b = seq (a :: b :: nil)

abbrev pub with_left : Obj → Objs → Objs
with_left a nil = nil
with_left a (y :: ys) = pair a y :: with_left a ys

abbrev pub with_right : Objs → Obj → Objs
with_right nil b = nil
with_right (x :: xs) b = pair x b :: with_right xs b

-- trans: whether an object is a row of m objects; whether all are
abbrev pub is_row : ℕ → Obj → Bool
is_row m (int a) = false
is_row m (symbol a) = false
is_row m (seq xs) = eqb (length_of xs) m

unfoldable pub are_rows : ℕ → Objs → Bool
are_rows m nil = true
are_rows m (r :: rs) = is_row m r && are_rows m rs

-- the object in place j of a row, and of each row
abbrev pub entry_at : ℕ → Obj → Obj
entry_at j (int a) = seq nil
entry_at j (symbol a) = seq nil
entry_at j (seq xs) = nth_obj xs j

unfoldable pub column_at : ℕ → Objs → Objs
column_at j nil = nil
column_at j (r :: rs) = entry_at j r :: column_at j rs

-- m columns, from column j on
unfoldable pub columns_at : ℕ → ℕ → Objs → Objs
columns_at j zero rs = nil
columns_at j (suc m) rs = seq (column_at j rs) :: columns_at (suc j) m rs

abbrev pub width_of : Obj → ℕ
width_of (int a) = 0
width_of (symbol a) = 0
width_of (seq xs) = length_of xs

-- rows of m objects become m columns; unequal rows, or an atom among them, are bottom
abbrev pub transposed : ℕ → Objs → WordAnswer
transposed m rows = elim (are_rows m rows) [ true ↦ made Op.trans (length_of rows) m (seq (columns_at 0 m rows)) | false ↦ falls ]

abbrev pub meaning : Edition → Word → Obj → WordAnswer
meaning e (select k) x = on_seq x (λ xs. pick (from_left k (length_of xs)) xs)
meaning e (select_right k) x = on_seq x (λ xs. pick (from_right k (length_of xs)) xs)
meaning e (op Op.id) x = plain Op.id x
meaning e (op Op.tl) x = on_full x (λ y ys. plain Op.tl (seq ys))
meaning e (op Op.atom) x = plain Op.atom (truth (is_atom x))
meaning e (op Op.null) x = plain Op.null (truth (is_null x))
meaning e (op Op.eq) x = on_pair x (λ a b. compared (look a b))
meaning e (op Op.lt) x = on_ints x (λ a b. plain Op.lt (truth (lt_z a b)))
meaning e (op Op.length) x = on_seq x (λ xs. number e Op.length (pos (length_of xs)))
meaning e (op Op.add) x = on_ints x (λ a b. number e Op.add (a +ℤ b))
meaning e (op Op.sub) x = on_ints x (λ a b. number e Op.sub (a -ℤ b))
meaning e (op Op.mul) x = on_ints x (λ a b. number e Op.mul (a *ℤ b))
meaning e (op Op.div) x = on_ints x (λ a b. divided e a b)
meaning e (op Op.and) x = on_truths x (λ a b. plain Op.and (truth (a && b)))
meaning e (op Op.or) x = on_truths x (λ a b. plain Op.or (truth (a || b)))
meaning e (op Op.not) x = on_truth x (λ a. plain Op.not (truth (opposite a)))
meaning e (op Op.apndl) x = on_pair x (λ a b. on_seq b (λ ys. made Op.apndl (length_of ys) 0 (seq (a :: ys))))
meaning e (op Op.tlr) x = on_full x (λ y ys. made Op.tlr (suc (length_of ys)) 0 (seq (drop_last y ys)))
meaning e (op Op.reverse) x = on_seq x (λ xs. made Op.reverse (length_of xs) 0 (seq (turned xs)))
meaning e (op Op.rotl) x = on_seq x (λ xs. made Op.rotl (length_of xs) 0 (seq (to_left xs)))
meaning e (op Op.rotr) x = on_seq x (λ xs. made Op.rotr (length_of xs) 0 (seq (to_right xs)))
meaning e (op Op.apndr) x = on_pair x (λ a b. on_seq a (λ xs. made Op.apndr (length_of xs) 0 (seq (xs +++ (b :: nil)))))
meaning e (op Op.distl) x = on_pair x (λ a b. on_seq b (λ ys. made Op.distl (length_of ys) 0 (seq (with_left a ys))))
meaning e (op Op.distr) x = on_pair x (λ a b. on_seq a (λ xs. made Op.distr (length_of xs) 0 (seq (with_right xs b))))
meaning e (op Op.trans) x = on_full x (λ r rs. transposed (width_of r) (r :: rs))
