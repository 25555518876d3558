-- What a run reaches is an object of document 01.
use Rattle.std.specs.Prelude.{ℕ, ◌≡◌}
use Rattle.language.specs.declared.Meter.{Meter}
use Rattle.language.specs.Objects.{Obj}
use Rattle.language.specs.Forms.{Prog}
use Rattle.language.specs.Numbers.{Edition}
use Rattle.language.specs.Evaluation.{done, run}
use Rattle.language.specs.Accepted.{Accepted, IsObj}

-- An accepted program that reaches an object from one of 01's objects reaches one of 01's, whatever the budgets.
abbrev pub ResultsAreObjects : Type 0
ResultsAreObjects =
    (e : Edition) (P : Prog) (x y : Obj) (b : Meter) (s c : ℕ) → Accepted P → IsObj x → run e P x b ≡ done y s c → IsObj y
