-- What the functions on values answer, said of the objects that the values stand for.
use Rattle.std.specs.Prelude.{ℕ, zero, suc, ◌+◌, ◌-◌, ◌*◌, ◌/◌, ◌%◌, ◌≤◌, ◌<◌, ◌≡◌, List, [], ◌∷◌, length}
use Rattle.language.specs.Numbers.{cell_limit}
use Rattle.language.specs.Objects.{Obj, seq, Objs, nil, ◌::◌, length_of, nth_obj}
use Rattle.language.specs.declared.Val.{Val}
use Rattle.cells.specs.Cells.{Rep, Same, val_at, next_at, sequence_val, cell_put}

-- a sequence's length and its first cell, from the word
abbrev pub size_of : Val → ℕ
size_of v = v.word / 4294967296

abbrev pub first_of : Val → ℕ
first_of v = v.word % 4294967296 - 1

-- the value in the first place, and what follows it
abbrev pub head_of : List ℕ → Val → Val
head_of C v = val_at C (first_of v)

abbrev pub tail_of : List ℕ → Val → Val
tail_of C v = sequence_val (next_at C (first_of v)) (size_of v - 1)

pub record Sized (v : Val) (r : ℕ) : Type 0 where
  pub is : r ≡ size_of v
  pub means : (C : List ℕ) (n : ℕ) (xs : Objs) → n < 4294967296 → Rep C n v (seq xs) → r ≡ length_of xs

pub record Headed (C : List ℕ) (v r : Val) : Type 0 where
  pub is : r ≡ head_of C v
  pub means : (n : ℕ) (x : Obj) (xs : Objs) → n < 4294967296 → Rep C n v (seq (x :: xs)) → Rep C n r x

pub record Tailed (C : List ℕ) (v r : Val) : Type 0 where
  pub is : r ≡ tail_of C v
  pub means : (n : ℕ) (x : Obj) (xs : Objs) → n < 4294967296 → Rep C n v (seq (x :: xs)) → Rep C n r (seq xs)

-- the objects that follow the first k
unfoldable pub drop_objs : Objs → ℕ → Objs
drop_objs xs zero = xs
drop_objs nil (suc k) = nil
drop_objs (x :: xs) (suc k) = drop_objs xs k

pub record Nth (C : List ℕ) (v : Val) (k : ℕ) (r : Val) : Type 0 where
  pub means : (n : ℕ) (xs : Objs) → n < 4294967296 → k < length_of xs → Rep C n v (seq xs) → Rep C n r (nth_obj xs k)

-- the pair of two values in the cells p and p + 1, where the table has room for them
pub record Paired (C : List ℕ) (p : ℕ) (a b r : Val) (C' : List ℕ) : Type 0 where
  pub means : (x y : Obj) → p + 2 < 4294967296 → p * 4 + 8 ≤ length C → Rep C p a x → Rep C p b y → Rep C' (p + 2) r (seq (x :: y :: nil)) × Same C C' p

-- The ring of 4,096 waiting values: place i is at i modulo 4,096.
abbrev pub held_at : List ℕ → ℕ → Val
held_at W i = val_at W (i % cell_limit)

abbrev pub hold_at : List ℕ → ℕ → Val → List ℕ
hold_at W i v = cell_put W (i % cell_limit) v 0

-- the objects, last first, before the rest
unfoldable pub onto : List Obj → Objs → Objs
onto [] rest = rest
onto (x ∷ xs) rest = onto xs (x :: rest)

-- the objects, last first, wait from top on
pub data Held (W C : List ℕ) (n top : ℕ) : List Obj → Type 0 where
  no_held : Held W C n top []
  a_held : {x : Obj} {xs : List Obj} → Rep C n (held_at W (top + length xs)) x → Held W C n top xs → Held W C n top (x ∷ xs)

-- the sequence of the n values that wait from top on, in the cells from p up to p + n
pub record Gathered (C W : List ℕ) (top n p : ℕ) (r : Val) (C' : List ℕ) : Type 0 where
  pub means : (xs : List Obj) → length xs ≡ n → Held W C p top xs → p + n < 4294967296 → p * 4 + n * 4 ≤ length C → Rep C' (p + n) r (seq (onto xs nil)) × Same C C' p
