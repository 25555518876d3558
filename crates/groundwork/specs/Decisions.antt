-- Whether two numbers, integers or texts are the same: decisions that compute.
use Rattle.std.specs.Prelude.{ℕ, ◌≡◌, refl, true, false, ℤ, pos, negsuc, eqb, T}
use Rattle.std.proofs.Common.{sym, ap, ap₂, subst, eqb→eq}
use mathlib.Core.List.{List, [], ◌∷◌, head-eq_of_cons-eq, tail-eq_of_cons-eq, nil≢cons, cons≢nil}
use Rattle.std.proofs.Math.IntN.{pos-ne-negsuc}
use Rattle.std.proofs.Math.Dec.{eqb_refl}

pub eqb_is : (m n : ℕ) → eqb m n ≡ true → m ≡ n
eqb_is m n h = eqb→eq m n (subst T (sym h) tt)

pub eqb_isnt : (m n : ℕ) → eqb m n ≡ false → m ≡ n → ⊥
eqb_isnt m n h e = subst T h (subst (λ (k : ℕ). T (eqb m k)) e (eqb_refl m))

abbrev pub same_number : Discrete ℕ
same_number m n = (elim (eqb m n) as (λ b. eqb m n ≡ b → Dec (m ≡ n)) [ true ↦ λ h. yes (eqb_is m n h) | false ↦ λ h. no (eqb_isnt m n h) ]) refl

abbrev pub on_dec : {A B : Type 0} → Dec A → (A → B) → (B → A) → Dec B
on_dec (yes a) f g = yes (f a)
on_dec (no n) f g = no (λ b. n (g b))

abbrev pub inner : ℤ → ℕ
inner (pos n) = n
inner (negsuc n) = n

pub pos_negsuc : (m n : ℕ) → pos m ≡ negsuc n → ⊥
pos_negsuc m n e = pos-ne-negsuc m n e

pub negsuc_pos : (m n : ℕ) → negsuc m ≡ pos n → ⊥
negsuc_pos m n e = pos-ne-negsuc n m (sym e)

abbrev pub same_integer : Discrete ℤ
same_integer (pos m) (pos n) = on_dec (same_number m n) (ap pos) (ap inner)
same_integer (pos m) (negsuc n) = no (pos_negsuc m n)
same_integer (negsuc m) (pos n) = no (negsuc_pos m n)
same_integer (negsuc m) (negsuc n) = on_dec (same_number m n) (ap negsuc) (ap inner)

pub cons_same : {x y : ℕ} {xs ys : List ℕ} → x ≡ y → xs ≡ ys → Path (List ℕ) (x ∷ xs) (y ∷ ys)
cons_same p q = ap₂ ◌∷◌ p q

abbrev pub same_text : Discrete (List ℕ)
same_text [] [] = yes refl
same_text [] (y ∷ ys) = no nil≢cons
same_text (x ∷ xs) [] = no cons≢nil
same_text (x ∷ xs) (y ∷ ys) =
    elim (same_number x y) [ yes p ↦ elim (same_text xs ys) [ yes q ↦ yes (cons_same p q) | no n ↦ no (λ e. n (tail-eq_of_cons-eq e)) ] | no n ↦ no (λ e. n (head-eq_of_cons-eq e)) ]
