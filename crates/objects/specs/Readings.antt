-- What the object reader's functions answer, from what the definitions read: the value, the place behind it, the cells.
use Rattle.std.specs.Prelude.{◌≡◌, ℕ, suc, ◌+◌, ◌-◌, ◌*◌, ◌<◌, ◌≤◌, List, ◌++◌, length, Result, Ok, Err}
use Rattle.language.specs.Objects.{Obj, Objs, nil, ◌::◌, length_of, cells_of, cells_of_all}
use Rattle.language.specs.Judging.{judge_atom}
use Rattle.language.specs.Reading.{Got, got, no, and_then, word_at, as_judged, read_obj, read_objs, read_object}
use Rattle.language.specs.declared.refusals.RefusedText.{RefusedText}
use Rattle.language.specs.Refusals.{refused_at}
use Rattle.tables.specs.Tables.{put}
use Rattle.cells.specs.Cells.{sequence_val}
use Rattle.cells.specs.Encoding.{val_of, cell, cells_from, places_from}
use Rattle.objects.specs.declared.ObjectRead.{ObjectRead}
use Rattle.objects.specs.declared.PlaceRead.{PlaceRead}
use Rattle.objects.specs.declared.PlaceRead.TheVariants as P

-- The answer, from what is read; and the table C', where it has room for the object's cells.
pub data ReadMeets (C : List ℕ) (used : ℕ) (r : Result ObjectRead RefusedText) (C' : List ℕ) : Got Obj → Type 0 where
  reads : {x : Obj} {e : ℕ} → r ≡ Ok (record { value = val_of used x; next = e; cells = used + cells_of x }) → ((used + cells_of x) * 4 ≤ length C → C' ≡ put C (used * 4) (cells_from used x)) → ReadMeets C used r C' (got x e)
  refuses : {n p : ℕ} → r ≡ Err (refused_at n p) → ReadMeets C used r C' (no n p)

-- what is read from `at` on ends behind it and within the text, and takes at most a cell for each byte passed
pub record Goes (s : List ℕ) (at used e n : ℕ) : Type 0 where
  pub behind : at < e
  pub inside : e ≤ length s
  pub more : used ≤ n
  pub few : n + at ≤ used + e

pub record Ahead (s : List ℕ) (at used : ℕ) (r : Result ObjectRead RefusedText) : Type 0 where
  pub ends : (x : ObjectRead) → r ≡ Ok x → Goes s at used x.next x.cells

pub record AtomReading (s : List ℕ) (p used : ℕ) (r : Result ObjectRead RefusedText) : Type 0 where
  pub ahead : Ahead s p used r
  pub means : (C : List ℕ) → ReadMeets C used r C (as_judged s p (judge_atom (word_at s p)))

-- any number of calls that is enough reads the same
pub record ObjectReading (s : List ℕ) (at room : ℕ) (C : List ℕ) (used : ℕ) (r : Result ObjectRead RefusedText) (C' : List ℕ) : Type 0 where
  pub ahead : Ahead s at used r
  pub means : (k : ℕ) → 2 * (length s - at) + 1 ≤ k → ReadMeets C used r C' (read_obj k s at room)

-- One place: its cell is numbered `at-cell`, and leads to `next`; a refusal; the last place; or one with more behind it.
abbrev pub place_cells : ℕ → Obj → ℕ → List ℕ
place_cells at-cell x next = cell (val_of (at-cell + 1) x) next ++ cells_from (at-cell + 1) x

pub data PlaceMeets (s : List ℕ) (k at room : ℕ) (C : List ℕ) (at-cell : ℕ) (r : Result PlaceRead RefusedText) (C' : List ℕ) : Type 0 where
  no_place : {n p : ℕ} → r ≡ Err (refused_at n p) → read_objs (suc k) s at room ≡ no n p → PlaceMeets s k at room C at-cell r C'
  last_place : (x : Obj) {e : ℕ} → r ≡ Ok (P.Last e (at-cell + 1 + cells_of x)) → read_objs (suc k) s at room ≡ got (x :: nil) e
      → ((at-cell + 1 + cells_of x) * 4 ≤ length C → C' ≡ put C (at-cell * 4) (place_cells at-cell x 0)) → PlaceMeets s k at room C at-cell r C'
  more_places : (x : Obj) {e : ℕ} → r ≡ Ok (P.More e (at-cell + 1 + cells_of x)) → read_objs (suc k) s at room ≡ and_then (read_objs k s e room) (λ xs e. got (x :: xs) e)
      → ((at-cell + 1 + cells_of x) * 4 ≤ length C → C' ≡ put C (at-cell * 4) (place_cells at-cell x (at-cell + 1 + cells_of x + 1))) → PlaceMeets s k at room C at-cell r C'

pub record PlaceReading (s : List ℕ) (at room : ℕ) (C : List ℕ) (at-cell : ℕ) (r : Result PlaceRead RefusedText) (C' : List ℕ) : Type 0 where
  pub last : (e n : ℕ) → r ≡ Ok (P.Last e n) → Goes s at (at-cell + 1) e n × (n + at ≤ at-cell + e)
  pub more : (e n : ℕ) → r ≡ Ok (P.More e n) → Goes s at (at-cell + 1) e n × (n + at ≤ at-cell + e)
  pub means : (k : ℕ) → 2 * (length s - at) + 1 ≤ k → PlaceMeets s k at room C at-cell r C'

-- The places from cell `at-cell` on, behind n others of a sequence whose first cell is `first`.
pub data PlacesMeet (first n at-cell : ℕ) (C : List ℕ) (r : Result ObjectRead RefusedText) (C' : List ℕ) : Got Objs → Type 0 where
  all_read : {x : Obj} {xs : Objs} {e : ℕ} → r ≡ Ok (record { value = sequence_val (first + 1) (n + suc (length_of xs)); next = e; cells = at-cell + cells_of_all (x :: xs) })
      → ((at-cell + cells_of_all (x :: xs)) * 4 ≤ length C → C' ≡ put C (at-cell * 4) (places_from at-cell (x :: xs))) → PlacesMeet first n at-cell C r C' (got (x :: xs) e)
  not_read : {k p : ℕ} → r ≡ Err (refused_at k p) → PlacesMeet first n at-cell C r C' (no k p)

pub record PlacesFrom (s : List ℕ) (at room first n at-cell : ℕ) (C : List ℕ) (r : Result ObjectRead RefusedText) (C' : List ℕ) : Type 0 where
  pub means : (k : ℕ) → 2 * (length s - at) + 2 ≤ k → PlacesMeet first n at-cell C r C' (read_objs k s at room)

pub record PlacesReading (s : List ℕ) (at room : ℕ) (C : List ℕ) (used : ℕ) (r : Result ObjectRead RefusedText) (C' : List ℕ) : Type 0 where
  pub ahead : Ahead s at used r
  pub all : PlacesFrom s at room used 0 used C r C'

-- a whole text
pub record WholeReading (s : List ℕ) (C : List ℕ) (used : ℕ) (r : Result ObjectRead RefusedText) (C' : List ℕ) : Type 0 where
  pub ends : (x : ObjectRead) → r ≡ Ok x → (used ≤ x.cells) × (x.cells ≤ used + length s)
  pub means : ReadMeets C used r C' (read_object s)
