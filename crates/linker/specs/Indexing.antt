-- The index of the definitions: 256 links by names' low numbers, and then one for each definition. A link is how many definitions
-- there are from the one that it leads to on, 0 for none: of `many` definitions it leads to number many - x.
use Rattle.std.specs.Prelude.{ℕ, ◌+◌, ◌-◌, ◌*◌, ◌%◌, ◌≤◌, ◌<◌, ◌≡◌, List, get_or, length}
use Rattle.language.specs.Numbers.{definition_limit}
use Rattle.linker.specs.Roots.{root_from}

-- the low number of a definition's name, as the index takes it
abbrev pub low_at : List ℕ → ℕ → ℕ
low_at D d = get_or D (d * 4) 0 % 256

-- among the last `left` definitions the name [lo, hi] is looked for from link x on: none before has it
pub record Leads (D : List ℕ) (many lo hi left x : ℕ) : Type 0 where
  pub most : x ≤ left
  pub alike : 0 < x → low_at D (many - x) ≡ lo % 256
  pub found : root_from D left lo hi (many - left) ≡ root_from D x lo hi (many - x)

-- the last `left` definitions are in the index: every name is led to, and every definition leads to the next that is alike
pub record Entered (D : List ℕ) (many left : ℕ) (X : List ℕ) : Type 0 where
  pub long : length X ≡ 384
  pub first : (lo hi : ℕ) → Leads D many lo hi left (get_or X (lo % 256) 0)
  pub behind : (k lo hi : ℕ) → 0 < k → k ≤ left → low_at D (many - k) ≡ lo % 256 → Leads D many lo hi (k - 1) (get_or X (k + 255) 0)

-- the index of the first `many` definitions, where they are at most 128
pub record Indexed (D : List ℕ) (many : ℕ) (X : List ℕ) : Type 0 where
  pub entered : many ≤ definition_limit → Entered D many many X
