-- The word `eq` decides whether two objects are equal.
use Rattle.std.specs.Prelude.{◌≡◌, true}
use Rattle.language.specs.Objects.{Obj, symbol_T, symbol_F}
use Rattle.language.specs.Words.{Op}
use Rattle.language.specs.Forms.{op}
use Rattle.language.specs.Numbers.{Edition}
use Rattle.language.specs.Meanings.{gives, meaning, pair, look}

-- Looking at two objects finds no difference exactly if they are equal.
abbrev pub EqDecides : Type 0
EqDecides = (a b : Obj) → ((look a b).same ≡ true → a ≡ b) × (a ≡ b → (look a b).same ≡ true)

-- So `eq` gives T for equal objects and F for all others.
abbrev pub EqAnswers : Type 0
EqAnswers =
    (e : Edition) (a b : Obj)
    → (a ≡ b → meaning e (op Op.eq) (pair a b) ≡ gives (look a b).pairs 0 symbol_T)
    × ((a ≡ b → ⊥) → meaning e (op Op.eq) (pair a b) ≡ gives (look a b).pairs 0 symbol_F)
