-- Where the body of a name begins, by the table of definitions; and a record's link.
use Rattle.std.specs.Prelude.{ℕ, zero, suc, ◌+◌, ◌*◌, ◌/◌, ◌%◌, cond, List, get_or, set, Option, None, Some}
use Rattle.packing.specs.Packing.{packed}
use Rattle.tables.specs.Tables.{field}
use Rattle.formtable.specs.Encoding.{named}

-- the first of the definitions, `left` of them from d on, that has this name: its root and one; 0 for none
unfoldable pub root_from : List ℕ → ℕ → ℕ → ℕ → ℕ → ℕ
root_from D zero lo hi d = 0
root_from D (suc left) lo hi d = cond (named D d lo hi) ((field D d 2 + 1) % 4294967296) (root_from D left lo hi (d + 1))

-- the root of a definition that was found, and one; 0 if none was
abbrev pub root_by : List ℕ → Option ℕ → ℕ
root_by D None = 0
root_by D (Some d) = (field D d 2 + 1) % 4294967296

-- of a name, by how it is packed
abbrev pub root_in : List ℕ → ℕ → List ℕ → ℕ
root_in D count w = root_from D count (packed w % 4294967296) (packed w / 4294967296) 0

-- record i leads to another
abbrev pub link_set : List ℕ → ℕ → ℕ → List ℕ
link_set t i link = set t (i * 4) (get_or t (i * 4) 0 % 32 + 32 * (link % 134217728))
