-- How a value with the cells that it leads to stands for an object.
use Rattle.std.specs.Prelude.{ℕ, suc, ◌+◌, ◌-◌, ◌*◌, ◌/◌, ◌%◌, ◌≤◌, ◌<◌, ◌≡◌, List, pos, negsuc, get_or, length}
use Rattle.language.specs.Numbers.{half, one, cell_limit, cell_table_size}
use Rattle.language.specs.Objects.{Obj, int, symbol, seq, Objs, nil, ◌::◌, length_of}
use Rattle.language.specs.Accepted.{IsSymbol}
use Rattle.packing.specs.Packing.{packed}
use Rattle.language.specs.declared.Val.{Val}
use Rattle.language.specs.declared.Meter.{Meter}
use Rattle.tables.specs.Tables.{field, record_put}

-- A cell is [tag, next, lo, hi]: the tag and the word of the value in its place, and the number of the next place's cell and one, or 0.
abbrev pub val_at : List ℕ → ℕ → Val
val_at C p = record { tag = get_or C (p * 4) 0; word = field C p 2 + 4294967296 * field C p 3 }

abbrev pub next_at : List ℕ → ℕ → ℕ
next_at C p = field C p 1

-- the sequence of n places whose first place's cell is numbered one less than `link`; 0 and 0 for `<>`
abbrev pub sequence_val : ℕ → ℕ → Val
sequence_val link n = record { tag = 3; word = link + 4294967296 * n }

-- In the first n cells of C the value stands for the object.
pub data Rep (C : List ℕ) (n : ℕ) : Val → Obj → Type 0 where
  rep_pos : {v : Val} {k : ℕ} → v.tag ≡ 0 → v.word ≡ k → k < half one → Rep C n v (int (pos k))
  rep_neg : {v : Val} {k : ℕ} → v.tag ≡ 1 → v.word ≡ k → k < half one → Rep C n v (int (negsuc k))
  rep_symbol : {v : Val} {w : List ℕ} → v.tag ≡ 2 → IsSymbol w → v.word ≡ packed w → Rep C n v (symbol w)
  rep_nil : {v : Val} → v.tag ≡ 3 → v.word ≡ 0 → Rep C n v (seq nil)
  rep_more : {v : Val} {p : ℕ} {x : Obj} {xs : Objs} → v.tag ≡ 3 → v.word ≡ suc p + 4294967296 * suc (length_of xs) → p < n → Rep C n (val_at C p) x → Rep C n (sequence_val (next_at C p) (length_of xs)) (seq xs) → Rep C n v (seq (x :: xs))

-- the first n cells are as they were
pub record Same (C C' : List ℕ) (n : ℕ) : Type 0 where
  pub keep : (i : ℕ) → i < n * 4 → get_or C' i 0 ≡ get_or C i 0

-- The number of the next free cell: the meter holds the cells that are left, at the end of the table.
abbrev pub free : List ℕ → Meter → ℕ
free C m = length C / 4 - m.cells

-- the table has the cells that the meter holds
pub record Room (C : List ℕ) (m : Meter) : Type 0 where
  pub fits : m.cells * 4 ≤ length C
  pub small : length C ≤ cell_table_size cell_limit

-- C with cell p made: the value v, and then the place that `next` leads to
abbrev pub cell_put : List ℕ → ℕ → Val → ℕ → List ℕ
cell_put C p v next = record_put C p v.tag next (v.word % 4294967296) (v.word / 4294967296)
