-- Budgets: what raising them keeps, and that the evaluation's bound on calls never decides.
use Rattle.std.specs.Prelude.{ℕ, ◌≤◌, ◌≡◌}
use Rattle.language.specs.declared.Meter.{Meter}
use Rattle.language.specs.Objects.{Obj}
use Rattle.language.specs.Forms.{Form, Prog}
use Rattle.language.specs.Numbers.{Edition}
use Rattle.language.specs.Evaluation.{apply, run}
use Rattle.theorems.specs.Demand3.{Result, reaches}

-- Raising any budget of a run that ended with an object or bottom keeps the answer and every count.
abbrev pub Raised : Type 0
Raised =
    (e : Edition) (P : Prog) (x : Obj) (b b' : Meter) (r : Result) (s c : ℕ)
    → b.steps ≤ b'.steps → b.names ≤ b'.names → b.cells ≤ b'.cells → run e P x b ≡ reaches r s c → run e P x b' ≡ reaches r s c

-- Any bound that is at least the steps left gives the same outcome.
abbrev pub BoundNeverDecides : Type 0
BoundNeverDecides = (e : Edition) (P : Prog) (f : Form) (x : Obj) (m : Meter) (k n : ℕ) → m.steps ≤ k → m.steps ≤ n → apply k e P f x m ≡ apply n e P f x m
