-- How an object lies in cells, one after the other: a place's cell, then the cells of the object there, then the next place.
use Rattle.std.specs.Prelude.{ℕ, ◌+◌, ◌/◌, ◌%◌, List, [], ◌∷◌, ◌++◌, pos, negsuc}
use Rattle.language.specs.Objects.{Obj, int, symbol, seq, Objs, nil, ◌::◌, length_of, cells_of}
use Rattle.packing.specs.Packing.{packed}
use Rattle.language.specs.declared.Val.{Val}
use Rattle.cells.specs.Cells.{sequence_val}

-- the number of the first place's cell and one, or 0
abbrev pub link_of : ℕ → Objs → ℕ
link_of c nil = 0
link_of c (x :: xs) = c + 1

-- what stands for the object when its own cells begin at c
abbrev pub val_of : ℕ → Obj → Val
val_of c (int (pos k)) = record { tag = 0; word = k }
val_of c (int (negsuc k)) = record { tag = 1; word = k }
val_of c (symbol w) = record { tag = 2; word = packed w }
val_of c (seq xs) = sequence_val (link_of c xs) (length_of xs)

abbrev pub cell : Val → ℕ → List ℕ
cell v next = v.tag ∷ next ∷ v.word % 4294967296 ∷ v.word / 4294967296 ∷ []

unfoldable mutual
  pub cells_from : ℕ → Obj → List ℕ
  cells_from c (int z) = []
  cells_from c (symbol w) = []
  cells_from c (seq xs) = places_from c xs

  pub places_from : ℕ → Objs → List ℕ
  places_from c nil = []
  places_from c (x :: xs) =
      cell (val_of (c + 1) x) (link_of (c + 1 + cells_of x) xs) ++ (cells_from (c + 1) x ++ places_from (c + 1 + cells_of x) xs)
