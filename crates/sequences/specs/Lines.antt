-- Places written into cells from the first to the last, each with its link to the next: what the functions inside this crate answer.
use Rattle.std.specs.Prelude.{ℕ, zero, suc, ◌+◌, ◌*◌, ◌%◌, ◌≤◌, ◌<◌, ◌≡◌, Bool, true, List}
use Rattle.language.specs.Objects.{Obj, seq, Objs, length_of, nth_obj}
use Rattle.language.specs.declared.Val.{Val}
use Rattle.cells.specs.Cells.{Rep, Same, val_at, next_at, sequence_val}
use Rattle.cells.specs.Parts.{drop_objs}
use Rattle.language.specs.Meanings.{are_rows, column_at}
use Rattle.sequences.specs.Making.{Space, NewSequence, side}

-- what leads to the cell d further on than p: its number and one; 0 where d is 0
unfoldable pub link_over : ℕ → ℕ → ℕ
link_over p zero = 0
link_over p (suc d) = (p + suc d + 1) % 4294967296

-- cell p holds a value that stands for x in the first k cells, and leads to `next`
pub record Place (C : List ℕ) (k p : ℕ) (x : Obj) (next : ℕ) : Type 0 where
  pub holds : Rep C k (val_at C p) x
  pub leads : next_at C p ≡ next

-- the first q objects lie in the cells from p on, each leading to the cell d further on
pub record Line (C : List ℕ) (p d : ℕ) (xs : Objs) (q : ℕ) : Type 0 where
  pub place : (j : ℕ) → j < q → Place C p (p + j) (nth_obj xs j) (link_over (p + j) d)

-- the first n objects in a line, and those that follow them
pub record Copies (C : List ℕ) (p d : ℕ) (xs : Objs) (n : ℕ) (r : Val) (C' : List ℕ) : Type 0 where
  pub line : Line C' p d xs n
  pub rest : Rep C' p r (seq (drop_objs xs n))
  pub same : Same C C' p

pub record CopiedLine (C : List ℕ) (v : Val) (n p d : ℕ) (r : Val) (C' : List ℕ) : Type 0 where
  pub means : (xs : Objs) → n ≤ length_of xs → Space C p (n + d) → Rep C p v (seq xs) → Copies C p d xs n r C'

-- the pair of a and b in the cells p and p + 1, and in cell p + 2 a place that holds it and leads to `next`
pub record Coupled (C : List ℕ) (p : ℕ) (a b : Val) (first : Bool) (next : ℕ) (C' : List ℕ) : Type 0 where
  pub means : (x y : Obj) → Space C p 3 → Rep C p a x → Rep C p b y → Place C' (p + 2) (p + 2) (side first x y) next × Same C C' p

-- ---- rows and columns
-- the sequence of n places that begins in cell p
unfoldable pub sequence_from : ℕ → ℕ → Val
sequence_from p zero = sequence_val 0 0
sequence_from p (suc n) = sequence_val ((p + 1) % 4294967296) (suc n)

-- the n rows of w places lie in the cells from p on, up to cell r, and each column of them is a sequence
pub record Spreads (C : List ℕ) (n w p : ℕ) (rs : Objs) (r : ℕ) (C' : List ℕ) : Type 0 where
  pub end : r ≡ p + w * n
  pub column : (j : ℕ) → j < w → Rep C' r (sequence_from (p + j) n) (seq (column_at j rs))
  pub same : Same C C' p

pub record RowsSpread (C : List ℕ) (v : Val) (n w p r : ℕ) (C' : List ℕ) : Type 0 where
  pub means : (rs : Objs) → length_of rs ≡ n → are_rows w rs ≡ true → Space C p (w + w * n) → Rep C p v (seq rs) → Spreads C n w p rs r C'

-- the sequence of the w sequences that begin in the cells from `first` on
pub record ColumnsListed (C : List ℕ) (first n w p : ℕ) (r : Val) (C' : List ℕ) : Type 0 where
  pub means : (xs : Objs) → length_of xs ≡ w → Space C p w → ((j : ℕ) → j < w → Rep C p (sequence_from (first + j) n) (nth_obj xs j)) → NewSequence C p w xs r C'
