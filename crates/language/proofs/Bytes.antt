-- Lists of bytes pass the test exactly if they are equal.
use Prim.Native.Nat.{ℕ}
use mathlib.Core.Path.{◌≡◌, refl, ap₂}
use mathlib.Core.Bool.{Bool, true, false, ◌&&◌}
use mathlib.Core.List.{List, [], ◌∷◌}
use native.Mathlib.Omega.{arith}
use lib.Dec.{eqb}
use borrow.Author.Tests.{eqb-true, eq-eqb}
use Rattle.language.specs.Bytes.{same_bytes}

pub same_bytes_is : (a b : List ℕ) → same_bytes a b ≡ true → a ≡ b
same_bytes_is [] [] e = refl
same_bytes_is [] (y ∷ b) e = absurd (let z : ◌≡◌ {A = ℕ} 0 1 = cc in omega arith)
same_bytes_is (x ∷ a) [] e = absurd (let z : ◌≡◌ {A = ℕ} 0 1 = cc in omega arith)
same_bytes_is (x ∷ a) (y ∷ b) e = go (eqb x y) refl e (same_bytes_is a b)
  where
    go : (t : Bool) → eqb x y ≡ t → (t && same_bytes a b) ≡ true → (same_bytes a b ≡ true → a ≡ b) → Path (List ℕ) (x ∷ a) (y ∷ b)
    go true f g r = ap₂ ◌∷◌ (eqb-true x y f) (r g)
    go false f g r = absurd (let z : ◌≡◌ {A = ℕ} 0 1 = cc in omega arith)

pub same_bytes_refl : (a : List ℕ) → same_bytes a a ≡ true
same_bytes_refl [] = refl
same_bytes_refl (x ∷ a) = rw (eq-eqb x x refl, same_bytes_refl a)
