-- Objects: an integer, a symbol, or a sequence of objects.
use Rattle.std.specs.Prelude.{ℕ, zero, suc, ◌+◌, Bool, true, false, List, ℤ}
use Rattle.groundwork.specs.Decisions.{same_integer, same_text}
use Rattle.language.specs.Bytes.{bytes, same_bytes}

mutual
  -- `pos n` is n, `negsuc n` is -(n + 1); a symbol is its bytes
  pub data Obj : Type 0 where
    int : ℤ → Obj
    symbol : List ℕ → Obj
    seq : Objs → Obj
    deriving Discrete as Obj-discrete

  pub data Objs : Type 0 where
    nil : Objs
    ◌::◌ : Obj → Objs → Objs

infixr 50 ◌::◌
abbrev pub length_of : Objs → ℕ
length_of nil = 0
length_of (x :: xs) = suc (length_of xs)

infixr 50 ◌+++◌
abbrev pub ◌+++◌ : Objs → Objs → Objs
nil +++ ys = ys
(x :: xs) +++ ys = x :: (xs +++ ys)

-- the object in place k, counted from 0
unfoldable pub nth_obj : Objs → ℕ → Obj
nth_obj nil k = seq nil
nth_obj (x :: xs) zero = x
nth_obj (x :: xs) (suc k) = nth_obj xs k

-- One cell stands for one place in one sequence; atoms need none.
abbrev mutual
  pub cells_of : Obj → ℕ
  cells_of (int z) = 0
  cells_of (symbol s) = 0
  cells_of (seq xs) = cells_of_all xs

  pub cells_of_all : Objs → ℕ
  cells_of_all nil = 0
  cells_of_all (x :: xs) = suc (cells_of x + cells_of_all xs)

-- The truth values are the symbols T and F.
abbrev pub symbol_T : Obj
symbol_T = symbol (bytes "T")

abbrev pub symbol_F : Obj
symbol_F = symbol (bytes "F")

abbrev pub truth : Bool → Obj
truth true = symbol_T
truth false = symbol_F

-- T, F, or anything else
pub data Truth : Type 0 where
  is_T is_F neither : Truth

abbrev pub truth_of : Obj → Truth
truth_of (int a) = neither
truth_of (symbol s) = elim (same_bytes s (bytes "T")) [ true ↦ is_T | false ↦ elim (same_bytes s (bytes "F")) [ true ↦ is_F | false ↦ neither ] ]
truth_of (seq xs) = neither

-- Whether two objects are the same.
abbrev pub same_object : Discrete Obj
same_object = Obj-discrete same_integer same_text
