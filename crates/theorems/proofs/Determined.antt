-- What ends, ends in one way.
use Prim.Native.Nat.{ℕ, ◌+◌}
use mathlib.Core.Path.{◌≡◌, refl, sym, ◌∙◌, ap}
use native.Mathlib.Omega.{arith}
use Rattle.language.specs.declared.Meter.{Meter}
use Rattle.language.specs.Objects.{Obj}
use Rattle.language.specs.Forms.{Form, Prog}
use Rattle.language.specs.Numbers.{Edition}
use Rattle.language.specs.Evaluation.{apply}
use Rattle.theorems.proofs.Ends.{just, Result, object, bottom, Ends}
use Rattle.theorems.proofs.Complete.{out, complete}

out_inj : (r r' : Result) (m m' : Meter) → out r m ≡ out r' m' → r ≡ r'
out_inj (object v) (object v') m m' h = let g : v ≡ v' = cc in ap object g
out_inj (object v) bottom m m' h = cc
out_inj bottom (object v) m m' h = cc
out_inj bottom bottom m m' h = refl

pub det : {e : Edition} {P : Prog} {d d' : ℕ} {f : Form} {x : Obj} {r r' : Result} {s s' c c' : ℕ} → Ends e P d (just f x) r s c
    → Ends e P d' (just f x) r' s' c' → r ≡ r'
det {e} {P} {d} {d'} {f} {x} {r} {r'} {s} {s'} {c} {c'} D D' =
    let m : Meter = record { steps = s + s'; names = d + d'; cells = c + c' } in
    let m₁ : Meter = record { steps = s'; names = d + d'; cells = c' } in
    let m₂ : Meter = record { steps = s; names = d + d'; cells = c } in
    let p : apply (s + s') e P f x m ≡ out r m₁ = complete e P D (s + s') m m₁ (record { steps = refl; cells = refl; names = refl }) (omega arith) (omega arith) in
    let q : apply (s + s') e P f x m ≡ out r' m₂ = complete e P D' (s + s') m m₂ (record { steps = omega arith; cells = omega arith; names = refl }) (omega arith) (omega arith) in
    out_inj r r' m₁ m₂ (sym p ∙ q)
