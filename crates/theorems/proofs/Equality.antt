-- Looking at two objects finds no difference exactly if they are equal.
use mathlib.Core.Path.{◌≡◌, refl, sym, ap, ap₂, subst, ◌∙◌}
use mathlib.Core.Bool.{Bool, true, false, false≢true}
use lib.IntN.{ℤ, pos, negsuc}
use borrow.Author.Tests.{eqb-true, eq-eqb}
use Rattle.language.specs.Objects.{Obj, int, symbol, seq, Objs, nil, ◌::◌, truth}
use Rattle.language.specs.Meanings.{Looked, same_int, onward, look, look_along, gives}
use Rattle.language.proofs.Bytes.{same_bytes_is, same_bytes_refl}
use Rattle.theorems.specs.Equality.{EqDecides, EqAnswers}

same_int_is : (m n : ℤ) → same_int m n ≡ true → m ≡ n
same_int_is (pos m) (pos n) h = ap pos (eqb-true m n h)
same_int_is (pos m) (negsuc n) h = absurd (false≢true h)
same_int_is (negsuc m) (pos n) h = absurd (false≢true h)
same_int_is (negsuc m) (negsuc n) h = ap negsuc (eqb-true m n h)

same_int_refl : (m : ℤ) → same_int m m ≡ true
same_int_refl (pos m) = eq-eqb m m refl
same_int_refl (negsuc m) = eq-eqb m m refl

-- no difference in the first nor in the rest
onward_both : (a b : Looked) → (onward a b).same ≡ true → (a.same ≡ true) × (b.same ≡ true)
onward_both a b h = go a.same refl
  where
    go : (t : Bool) → a.same ≡ t → (a.same ≡ true) × (b.same ≡ true)
    go true e = (e, rw (e, onward) at h)
    go false e = absurd (false≢true (sym e ∙ (rw (e, onward) at h)))

onward_is : (a b : Looked) → a.same ≡ true → b.same ≡ true → (onward a b).same ≡ true
onward_is a b h k = rw (h, onward) k

mutual
  look_is : (a b : Obj) → (look a b).same ≡ true → a ≡ b
  look_is (int m) (int n) h = ap int (same_int_is m n h)
  look_is (int m) (symbol t) h = absurd (false≢true h)
  look_is (int m) (seq ys) h = absurd (false≢true h)
  look_is (symbol s) (int n) h = absurd (false≢true h)
  look_is (symbol s) (symbol t) h = ap symbol (same_bytes_is s t h)
  look_is (symbol s) (seq ys) h = absurd (false≢true h)
  look_is (seq xs) (int n) h = absurd (false≢true h)
  look_is (seq xs) (symbol t) h = absurd (false≢true h)
  look_is (seq xs) (seq ys) h = ap seq (along_is xs ys h)

  along_is : (xs ys : Objs) → (look_along xs ys).same ≡ true → xs ≡ ys
  along_is nil nil h = refl
  along_is nil (y :: ys) h = absurd (false≢true h)
  along_is (x :: xs) nil h = absurd (false≢true h)
  along_is (x :: xs) (y :: ys) h =
      let q = onward_both (look x y) (look_along xs ys) h in
      ap₂ ◌::◌ (look_is x y q.0) (along_is xs ys q.1)

mutual
  look_refl : (a : Obj) → (look a a).same ≡ true
  look_refl (int m) = same_int_refl m
  look_refl (symbol s) = same_bytes_refl s
  look_refl (seq xs) = along_refl xs

  along_refl : (xs : Objs) → (look_along xs xs).same ≡ true
  along_refl nil = refl
  along_refl (x :: xs) = onward_is (look x x) (look_along xs xs) (look_refl x) (along_refl xs)

pub eq_decides : EqDecides
eq_decides a b = (look_is a b, λ e. subst (λ (c : Obj). (look a c).same ≡ true) e (look_refl a))

pub eq_answers : EqAnswers
eq_answers e a b = (
  λ h. ap (λ (t : Bool). gives (look a b).pairs 0 (truth t)) ((eq_decides a b).1 h),
  λ n. ap (λ (t : Bool). gives (look a b).pairs 0 (truth t)) (not_same (look a b).same refl n),
)
  where
    not_same : (t : Bool) → (look a b).same ≡ t → (a ≡ b → ⊥) → (look a b).same ≡ false
    not_same true h n = absurd (n ((eq_decides a b).0 h))
    not_same false h n = h
