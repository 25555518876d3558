-- The contract of a run that is told allows one result only; and what a list is told, whatever its length.
use mathlib.Core.Path.{refl, ap, sym, ◌∙◌}
use mathlib.Core.List.{[], ◌∷◌}
use Prim.Native.Nat.{ℕ}
use lib.ListN.{length}
use lib.Seq.{take-nil}
use Rattle.nattglod.proofs.Determined.{run_determined}
use Rattle.c_calls.specs.Told.{told, ToldFirst, TellingDetermined}

pub telling_determined : TellingDetermined
telling_determined program object b lent answer forms forms' cells cells' output output' answer₁ answer₂ p q =
    let same = run_determined program object b lent p.result q.result forms forms' cells cells' output output' p.run q.run in
    (same.1, same.2, same.3, p.telling.is ∙ ap (told answer) same.0 ∙ sym q.telling.is)

pub told_first : ToldFirst
told_first [] r = refl
told_first (a ∷ []) r = refl
told_first (a ∷ b ∷ []) r = refl
told_first (a ∷ b ∷ c ∷ []) r = refl
told_first (a ∷ b ∷ c ∷ d ∷ []) r = refl
told_first (a ∷ b ∷ c ∷ d ∷ e ∷ []) r = refl
told_first (a ∷ b ∷ c ∷ d ∷ e ∷ f ∷ rest) r = rw (take-nil {A = ℕ} (length rest))
