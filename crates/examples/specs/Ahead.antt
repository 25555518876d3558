-- A place that is further on in a text, or at its end.
use Rattle.std.specs.Prelude.{ℕ, ◌≤◌, ◌<◌}

pub record Further (from n r : ℕ) : Type 0 where
  pub low : from ≤ r
  pub high : r ≤ n
  pub further : from < n → from < r
