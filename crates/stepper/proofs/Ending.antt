-- Stepping through a text ends: a word stands at the reader's place or behind it, and before the text's end.
use mathlib.Core.Path.{◌≡◌, refl, sym, subst}
use mathlib.Core.Bool.{Bool, true, false, cond, not}
use Prim.Native.Nat.{ℕ, ◌+◌, ◌-◌, ◌≤◌, ◌<◌}
use native.Mathlib.Omega.{arith}
use lib.Dec.{T, leb, nleb→lt}
use lib.ListN.{length}
use Rattle.language.specs.declared.Token.{Token}
use Rattle.language.specs.Tokens.{place_from, size_at, token_from}
use Rattle.stepper.specs.Steps.{StepsOn}

-- the two ways out of the word reader, for a text of n bytes: its end, or a word of size z at p
abbrev either : Bool → ℕ → ℕ → ℕ → Token
either b n p z = cond b (record { place = n; length = 0 }) (record { place = p; length = z })

farther : (b : Bool) (n at p z : ℕ) → leb n p ≡ b → at ≤ p → 0 < (either b n p z).length → n - ((either b n p z).place + (either b n p z).length) < n - at
farther true n at p z e h some = omega arith
farther false n at p z e h some = let i = nleb→lt n p (subst (λ (b : Bool). T (not b)) (sym e) tt) in omega arith

pub steps_on : StepsOn
unfolding token_from place_from
steps_on r some =
    let s = r.text.now in
    let p = place_from s r.place in
    farther (leb (length s) p) (length s) r.place p (size_at s p) refl (omega arith) some
