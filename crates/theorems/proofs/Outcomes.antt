-- A reader's outcome meets a demand if whatever it got does, and one on refusals if a refusal does; a rule for each step of a reader.
use Prim.Native.Nat.{ℕ, ◌+◌, ◌≤◌}
use mathlib.Core.Path.{◌≡◌, refl, subst}
use mathlib.Core.Bool.{Bool, true, false, cond}
use mathlib.Core.List.{List}
use native.Mathlib.Omega.{arith}
use borrow.Author.Tests.{eqb-false}
use lib.Dec.{eqb}
use lib.ListN.{length, length-take, length-drop}
use Rattle.language.specs.Tokens.{byte_at, place_from, size_at}
use Rattle.language.specs.Judging.{Judged, is, is_not}
use Rattle.language.specs.Reading.{Got, got, no, and_then, word_at, as_judged, refused, mark, opens}

-- Q is demanded of what is got, N of a refusal's number and place.
pub data Outcome {A : Type 0} (N : ℕ → ℕ → Type 0) (Q : A → ℕ → Type 0) : Got A → Type 0 where
  meets : {a : A} {e : ℕ} → Q a e → Outcome N Q (got a e)
  refuses_by : {n p : ℕ} → N n p → Outcome N Q (no n p)

-- nothing is demanded of a refusal
abbrev pub Meets : {A : Type 0} → (A → ℕ → Type 0) → Got A → Type 0
Meets Q r = Outcome (λ n p. Unit {0}) Q r

-- A word is refused with one of three numbers.
pub data MeetsWord {A : Type 0} (Q : A → Type 0) : Judged A → Type 0 where
  meets_word : {a : A} → Q a → MeetsWord Q (is a)
  misspelled : MeetsWord Q (is_not 6)
  out_of_range : MeetsWord Q (is_not 8)
  too_long : MeetsWord Q (is_not 9)

module _ {A : Type 0} {N : ℕ → ℕ → Type 0} {Q : A → ℕ → Type 0} where
  pub met : {a : A} {e : ℕ} → Outcome N Q (got a e) → Q a e
  met (meets q) = q

  pub refused_by : {n p : ℕ} → Outcome N Q (no n p) → N n p
  refused_by (refuses_by h) = h

  -- what is got meets the demand
  pub got_meets : {r : Got A} {a : A} {e : ℕ} → Outcome N Q r → r ≡ got a e → Q a e
  got_meets h q = met (subst (λ (u : Got A). Outcome N Q u) q h)

  -- and so does a refusal
  pub no_meets : {r : Got A} {n p : ℕ} → Outcome N Q r → r ≡ no n p → N n p
  no_meets h q = refused_by (subst (λ (u : Got A). Outcome N Q u) q h)

  pub meets_then : {B : Type 0} {R : B → ℕ → Type 0} {r : Got A} {k : A → ℕ → Got B} → Outcome N Q r → ((a : A) (e : ℕ) → Q a e → Outcome N R (k a e)) → Outcome N R (and_then r k)
  meets_then (meets q) f = f _ _ q
  meets_then (refuses_by h) f = refuses_by h

  pub meets_cond : (t : Bool) {x y : Got A} → (t ≡ true → Outcome N Q x) → (t ≡ false → Outcome N Q y) → Outcome N Q (cond t x y)
  meets_cond true f g = f refl
  meets_cond false f g = g refl

module _ {A : Type 0} {Q : A → ℕ → Type 0} where
  pub refuses : {n p : ℕ} → Meets Q (no n p)
  refuses = refuses_by tt

  pub meets_refused : (s : List ℕ) (p : ℕ) → Meets Q (refused s p)
  unfolding refused
  meets_refused s p = refuses

  pub meets_mark : (b : ℕ) (s : List ℕ) (at : ℕ) (rest : ℕ → Got A) → Meets Q (rest (place_from s at + 1)) → Meets Q (mark b s at rest)
  unfolding mark
  meets_mark b s at rest h = meets_cond (eqb (byte_at s (place_from s at)) b) (λ t. h) (λ t. meets_refused s (place_from s at))

  pub meets_opens : (p room : ℕ) (rest : ℕ → Got A) → (1 ≤ room → Meets Q (rest (p + 1))) → Meets Q (opens p room rest)
  unfolding opens
  meets_opens p room rest h = meets_cond (eqb room 0) (λ t. refuses) (λ t. let n = eqb-false room 0 t in h (omega arith))

  pub meets_judged : {P : A → Type 0} (s : List ℕ) (p : ℕ) {j : Judged A} → MeetsWord P j → ((a : A) → P a → Q a (p + size_at s p)) → Meets Q (as_judged s p j)
  meets_judged s p (meets_word q) f = meets (f _ q)
  meets_judged s p misspelled f = refuses
  meets_judged s p out_of_range f = refuses
  meets_judged s p too_long f = refuses

module _ {A : Type 0} {Q : A → Type 0} where
  pub word-cond : (t : Bool) {x y : Judged A} → (t ≡ true → MeetsWord Q x) → (t ≡ false → MeetsWord Q y) → MeetsWord Q (cond t x y)
  word-cond true f g = f refl
  word-cond false f g = g refl

-- what a reader passes
pub place_on : (s : List ℕ) (at : ℕ) → at ≤ place_from s at
unfolding place_from
place_on s at = omega arith

pub word_long : (s : List ℕ) (p : ℕ) → length (word_at s p) ≤ size_at s p
word_long s p = rw (length-drop, length-take) (omega arith)
