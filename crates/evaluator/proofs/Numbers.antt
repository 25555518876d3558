-- The kind of a record by the tests that the code makes, its constant, and the form that a condition chooses.
use Prim.Native.Nat.{ℕ, ◌+◌, ◌*◌, ◌%◌, ◌≤◌, ◌<◌}
use mathlib.Core.Path.{◌≡◌, ap, ◌∙◌}
use mathlib.Core.List.{List}
use lib.ListN.{get_or}
use borrow.Author.Tests.{lt-ltb, le-ltb}
use Rattle.language.specs.declared.Val.{Val}
use Rattle.tables.specs.Tables.{field}
use Rattle.linker.specs.Linked.{grouped, linked_kind_at, link_at, constant_at}
use Rattle.evaluator.specs.Applying.{Branch}

module _ (F : List ℕ) (i n : ℕ) (e : n ≡ get_or F (i * 4) 0) where
  same : grouped (n % 32) ≡ linked_kind_at F i
  same = ap (λ (x : ℕ). grouped (x % 32)) e

  pub group_low : n % 32 < 12 → n % 32 ≡ linked_kind_at F i
  unfolding grouped
  group_low l = rw (lt-ltb (n % 32) 12 l) at same

  pub group_constant : 12 ≤ n % 32 → n % 32 < 16 → 12 ≡ linked_kind_at F i
  unfolding grouped
  group_constant l l₂ = rw (le-ltb (n % 32) 12 l, lt-ltb (n % 32) 16 l₂) at same

  pub group_bu : 12 ≤ n % 32 → 16 ≤ n % 32 → n % 32 < 20 → 16 ≡ linked_kind_at F i
  unfolding grouped
  group_bu l l₂ l₃ = rw (le-ltb (n % 32) 12 l, le-ltb (n % 32) 16 l₂, lt-ltb (n % 32) 20 l₃) at same

  pub group_none : 12 ≤ n % 32 → 16 ≤ n % 32 → 20 ≤ n % 32 → n % 32 ≡ linked_kind_at F i
  unfolding grouped
  group_none l l₂ l₃ = rw (le-ltb (n % 32) 12 l, le-ltb (n % 32) 16 l₂, le-ltb (n % 32) 20 l₃) at same

pub constant_is : (F : List ℕ) (i lo hi n : ℕ) → lo ≡ field F i 2 → hi ≡ field F i 3 → n ≡ get_or F (i * 4) 0 → ◌≡◌ {A = Val} (record { tag = n % 4; word = lo + 4294967296 * hi }) (constant_at F i)
constant_is F i lo hi n e f g = rw (e, f, g)

pub branch_true : {F : List ℕ} {h b j : ℕ} → j ≡ link_at F h → (b ≡ 0 → ⊥) → Branch F h b j
branch_true e z = record { on_true = λ y. e; on_false = λ y. absurd (z y) }

pub branch_false : {F : List ℕ} {h b i j : ℕ} → i ≡ link_at F h → j ≡ link_at F i → b ≡ 0 → Branch F h b j
branch_false {F} e q z = record { on_true = λ y. absurd (y z); on_false = λ y. q ∙ ap (link_at F) e }
