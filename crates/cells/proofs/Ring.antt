-- The ring of waiting values: what is let wait is held, the other places are as they were, and what waits goes on to wait.
use Prim.Native.Nat.{ℕ, ◌%◌}
use mathlib.Core.Path.{◌≡◌}
use mathlib.Core.List.{List}
use native.Mathlib.Omega.{arith}
use lib.ListN.{length}
use Rattle.language.specs.declared.Val.{Val}
use Rattle.cells.specs.Parts.{held_at, hold_at}
use Rattle.cells.proofs.Reps.{length_cell, cell_val, cell_other}

module _ (W : List ℕ) (i : ℕ) (v : Val) where
  pub hold_length : length (hold_at W i v) ≡ length W
  hold_length = length_cell W (i % 4096) v 0

  pub hold_same : length W ≡ 16384 → held_at (hold_at W i v) i ≡ v
  hold_same h = cell_val W (i % 4096) v 0 (omega arith)

  pub hold_other : (j : ℕ) → (j % 4096 ≡ i % 4096 → ⊥) → held_at (hold_at W i v) j ≡ held_at W j
  hold_other j h = cell_other W (i % 4096) v 0 (j % 4096) h
