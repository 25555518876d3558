-- What is written back lies within the output.
use Rattle.std.specs.Prelude.{ℕ, ◌≤◌, ◌≡◌, List, length, Result, Ok}
use Rattle.reread.specs.declared.NotReread.{NotReread}

pub record Inside (r : Result ℕ NotReread) (out : List ℕ) : Type 0 where
  pub ends : (n : ℕ) → r ≡ Ok n → n ≤ length out
