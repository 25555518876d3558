-- The simplifier: a series of uses, each at the least place where a law applies and there of the lowest law; the count is
-- right, and no law applies anywhere afterwards.
use Rattle.std.specs.Prelude.{ℕ, suc, ◌<◌, ◌≡◌, List, [], ◌∷◌, ◌++◌}
use Rattle.std.proofs.Math.Option.{some, none}
use Rattle.language.specs.Forms.{Prog}
use Rattle.language.specs.Laws.{Law}
use Rattle.language.specs.Uses.{apply_law, laws, simplify}
use Rattle.theorems.specs.Demand3.{Uses}

-- no law applies at a place; none of some laws does
abbrev pub NoneAt : ℕ → Prog → Type 0
NoneAt i P = (l : Law) → apply_law l i P ≡ none

abbrev pub NoneOf : List Law → ℕ → Prog → Type 0
NoneOf [] i P = Unit {0}
NoneOf (l ∷ ls) i P = (apply_law l i P ≡ none) × NoneOf ls i P

-- the use that "least place, there the lowest law" gives
pub record First (P Q : Prog) : Type 0 where
  pub law : Law
  pub place : ℕ
  pub gives : apply_law law place P ≡ some Q
  pub least : (i : ℕ) → i < place → NoneAt i P
  pub lower : List Law
  pub higher : List Law
  pub among : laws ≡ lower ++ law ∷ higher
  pub lowest : NoneOf lower place P

-- such uses until no law applies at any place, and how many
pub data FirstUses : Prog → Prog → ℕ → Type 0 where
  none_left : {P : Prog} → ((i : ℕ) → NoneAt i P) → FirstUses P P 0
  first_then : {P P' P'' : Prog} {n : ℕ} → First P P' → FirstUses P' P'' n → FirstUses P P'' (suc n)

abbrev pub Simplifies : Type 0
Simplifies = (P : Prog) → FirstUses P (simplify P).program (simplify P).uses

-- So its result is a series of uses, and Demand 3 speaks of it.
abbrev pub SimplifierUses : Type 0
SimplifierUses = (P : Prog) → Uses P (simplify P).program

abbrev pub NoneAfter : Type 0
NoneAfter = (P : Prog) (i : ℕ) → NoneAt i (simplify P).program
