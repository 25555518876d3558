-- What may be there or not.
use Rattle.std.specs.Prelude.{Bool, true, false}
use Rattle.std.proofs.Math.Option.{Option, some, none}

-- what follows where something is there
abbrev pub on_some : {A B : Type 0} → Option A → (A → Option B) → Option B
on_some none k = none
on_some (some a) k = k a

-- what is there if a test says so
abbrev pub when : {A : Type 0} → Bool → Option A → Option A
when true a = a
when false a = none
