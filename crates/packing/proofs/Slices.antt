-- A part of a list with its first entry.
use Prim.Native.Nat.{ℕ, ◌+◌, ◌≤◌, ◌<◌}
use mathlib.Core.Path.{◌≡◌}
use mathlib.Core.List.{List, ◌∷◌}
use native.Mathlib.Numerals.{add-one}
use lib.ListN.{length, get_or}
use lib.Seq.{slice, slice-cons}

pub slice_first : (s : List ℕ) (from to : ℕ) → from < to → to ≤ length s → slice from to s ≡ get_or s from 0 ∷ slice (from + 1) to s
slice_first s from to h fits = rw (add-one, slice-cons from to s 0 h fits)
