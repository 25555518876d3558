-- Reading's readers, and those with other answers where no call is left.
use Prim.Native.Nat.{ℕ, zero, suc}
use mathlib.Core.Path.{◌≡◌, refl, ap, ◌∙◌}
use mathlib.Core.List.{List}
use Rattle.language.specs.Reading.{read_obj, read_form, definition_at, read_definitions}
use Rattle.theorems.specs.CallsLeft.{readers, readers_by, SameReaders}

one_more : (k : ℕ) (s : List ℕ) → readers_by s (readers k s) ≡ readers (suc k) s
unfolding read_obj read_form definition_at read_definitions
one_more k s = refl

pub same_readers : SameReaders
same_readers zero s = refl
same_readers (suc k) s = ap (readers_by s) (same_readers k s) ∙ one_more k s
