-- Raising budgets keeps an answer and its counts, and the bound on calls never decides.
use Prim.Native.Nat.{ℕ, zero, suc}
use mathlib.Core.Path.{◌≡◌, refl, sym, subst}
use native.Mathlib.Omega.{arith}
use Rattle.language.specs.Evaluation.{inside, apply, run}
use Rattle.theorems.specs.Demand3.{reaches}
use Rattle.theorems.specs.Budgets.{Raised, BoundNeverDecides}
use Rattle.theorems.proofs.Reached.{ran_complete, ran_sound}
use Rattle.theorems.proofs.Sound.{sound}
use Rattle.theorems.proofs.Bound.{inside_same, dry, step_same}

pub raised : Raised
raised e P x b b' r s c p q t u =
    let K = ran_sound e P x b r s c u in
    subst (λ (k : ℕ). run e P x b' ≡ reaches r s k) (sym K.total) (ran_complete e P x b' r K.ends (omega (arith, K.names)) (omega (arith, K.steps)) (omega (arith, K.cells, K.total)))

pub bound_never_decides : BoundNeverDecides
bound_never_decides e P f x m zero zero p q = refl
bound_never_decides e P f x m zero (suc n) p q = sym (dry (suc n) e P f x m (omega arith))
bound_never_decides e P f x m (suc k) zero p q = dry (suc k) e P f x m (omega arith)
bound_never_decides e P f x m (suc k) (suc n) p q =
    step_same m (λ m₁. inside (apply k e P) k e P f x m₁) (λ m₁. inside (apply n e P) n e P f x m₁) (λ m₁ t.
    inside_same e P (apply k e P) (apply n e P) (λ f₁ x₁ m₂. sound e P k f₁ x₁ m₂) m₁.steps
    (λ f₁ x₁ m₂ l. bound_never_decides e P f₁ x₁ m₂ k n (omega arith) (omega arith)) (dry k e P) k n f x m₁ (omega arith) (omega arith) (omega arith))
