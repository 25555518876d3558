-- The operations on tags and words are those on the integers, sign by sign.
use Prim.Native.Nat.{ℕ, zero, suc, ◌+◌, ◌-◌, ◌*◌, ◌/◌, ◌≤◌, ◌<◌}
use mathlib.Core.Path.{◌≡◌, refl, sym, ap, subst, ◌∙◌}
use native.Mathlib.Omega.{arith}
use native.Mathlib.Nat.{mul-le-mul}
use lib.IntN.{ℤ, pos, negsuc, neg_ℤ, sub_ℕ, ◌+ℤ◌, ◌*ℤ◌}
use lib.Signed.{quot_z}
use borrow.Author.Tests.{lt-ltb, le-ltb}
use Rattle.language.specs.declared.Val.{Val}
use Rattle.arithmetic.specs.Integers.{HoldsInteger, holds_pos, holds_neg, Computes}

pub pos_is : {v : Val} (k : ℕ) → v.tag ≡ 0 → v.word ≡ k → HoldsInteger v (pos k)
pos_is k t w = holds_pos t w

pub neg_is : {v : Val} (k : ℕ) → v.tag ≡ 1 → v.word ≡ k → HoldsInteger v (negsuc k)
neg_is k t w = holds_neg t w

-- ---- n, -n and x - y
pub negative_zero : {v : Val} (n : ℕ) → n ≡ 0 → v.tag ≡ 0 → v.word ≡ 0 → HoldsInteger v (neg_ℤ (pos n))
negative_zero n e t w = rw e (holds_pos t w)

pub negative_more : {v : Val} (n : ℕ) → (n ≡ 0 → ⊥) → v.tag ≡ 1 → v.word ≡ n - 1 → HoldsInteger v (neg_ℤ (pos n))
negative_more zero e t w = absurd (e refl)
negative_more (suc n) e t w = neg_is n t (omega arith)

pub difference_below : {v : Val} (x y : ℕ) → x < y → v.tag ≡ 1 → v.word ≡ y - x - 1 → HoldsInteger v (sub_ℕ x y)
difference_below x y h t w = rw (lt-ltb x y h) (neg_is (y - suc x) t (omega arith))

pub difference_above : {v : Val} (x y : ℕ) → y ≤ x → v.tag ≡ 0 → v.word ≡ x - y → HoldsInteger v (sub_ℕ x y)
difference_above x y h t w = rw (le-ltb x y h) (pos_is (x - y) t w)

-- ---- sums
pub add_alike : {a b r : Val} → a.tag ≡ b.tag → r.tag ≡ a.tag → r.word ≡ a.word + b.word + a.tag → Computes ◌+ℤ◌ a b r
add_alike {a} {b} {r} e t w = record { means = go }
  where
    go : (i j : ℤ) → HoldsInteger a i → HoldsInteger b j → HoldsInteger r (i +ℤ j)
    go (pos k) (pos l) (holds_pos f g) (holds_pos f₂ g₂) = pos_is (k + l) (t ∙ f) (omega arith)
    go (pos k) (negsuc l) (holds_pos f g) (holds_neg f₂ g₂) = absurd (omega arith)
    go (negsuc k) (pos l) (holds_neg f g) (holds_pos f₂ g₂) = absurd (omega arith)
    go (negsuc k) (negsuc l) (holds_neg f g) (holds_neg f₂ g₂) = neg_is (suc (k + l)) (t ∙ f) (omega arith)

pub add_first : {a b r : Val} → (a.tag ≡ b.tag → ⊥) → a.tag ≡ 0 → HoldsInteger r (sub_ℕ a.word (b.word + 1)) → Computes ◌+ℤ◌ a b r
add_first {a} {b} {r} e z h = record { means = go }
  where
    go : (i j : ℤ) → HoldsInteger a i → HoldsInteger b j → HoldsInteger r (i +ℤ j)
    go (pos k) (pos l) (holds_pos f g) (holds_pos f₂ g₂) = absurd (e (f ∙ sym f₂))
    go (pos k) (negsuc l) (holds_pos f g) (holds_neg f₂ g₂) =
        let u : b.word + 1 ≡ suc l = omega arith in
        rw (g, u) at h
    go (negsuc k) j (holds_neg f g) hj = absurd (omega arith)

pub add_second : {a b r : Val} → (a.tag ≡ b.tag → ⊥) → (a.tag ≡ 0 → ⊥) → HoldsInteger r (sub_ℕ b.word (a.word + 1)) → Computes ◌+ℤ◌ a b r
add_second {a} {b} {r} e z h = record { means = go }
  where
    go : (i j : ℤ) → HoldsInteger a i → HoldsInteger b j → HoldsInteger r (i +ℤ j)
    go (pos k) j (holds_pos f g) hj = absurd (z f)
    go (negsuc k) (pos l) (holds_neg f g) (holds_pos f₂ g₂) =
        let u : a.word + 1 ≡ suc k = omega arith in
        rw (g₂, u) at h
    go (negsuc k) (negsuc l) (holds_neg f g) (holds_neg f₂ g₂) = absurd (e (f ∙ sym f₂))

-- ---- products and quotients
pub product_fits : (x y : ℕ) → x ≤ 2147483649 → y ≤ 2147483649 → x * y < 18446744073709551616
product_fits x y h k = omega (arith, mul-le-mul h k)

pub multiply_alike : {a b r : Val} {x y : ℕ} → x ≡ a.word + a.tag → y ≡ b.word + b.tag → a.tag ≡ b.tag → HoldsInteger r (pos (x * y)) → Computes ◌*ℤ◌ a b r
multiply_alike {a} {b} {r} {x} {y} ex ey e h = record { means = go }
  where
    go : (i j : ℤ) → HoldsInteger a i → HoldsInteger b j → HoldsInteger r (i *ℤ j)
    go (pos k) (pos l) (holds_pos f g) (holds_pos f₂ g₂) =
        let u : x ≡ k = omega arith in
        let w : y ≡ l = omega arith in
        rw (u, w) at h
    go (pos k) (negsuc l) (holds_pos f g) (holds_neg f₂ g₂) = absurd (omega arith)
    go (negsuc k) (pos l) (holds_neg f g) (holds_pos f₂ g₂) = absurd (omega arith)
    go (negsuc k) (negsuc l) (holds_neg f g) (holds_neg f₂ g₂) =
        let u : x ≡ suc k = omega arith in
        let w : y ≡ suc l = omega arith in
        rw (u, w) at h

pub multiply_apart : {a b r : Val} {x y : ℕ} → x ≡ a.word + a.tag → y ≡ b.word + b.tag → (a.tag ≡ b.tag → ⊥) → HoldsInteger r (neg_ℤ (pos (x * y))) → Computes ◌*ℤ◌ a b r
multiply_apart {a} {b} {r} {x} {y} ex ey e h = record { means = go }
  where
    go : (i j : ℤ) → HoldsInteger a i → HoldsInteger b j → HoldsInteger r (i *ℤ j)
    go (pos k) (pos l) (holds_pos f g) (holds_pos f₂ g₂) = absurd (e (f ∙ sym f₂))
    go (pos k) (negsuc l) (holds_pos f g) (holds_neg f₂ g₂) =
        let u : x ≡ k = omega arith in
        let w : y ≡ suc l = omega arith in
        subst (λ (n : ℕ). HoldsInteger r (neg_ℤ (pos n))) (ap (λ (n : ℕ). n * y) u ∙ ap (λ (n : ℕ). k * n) w) h
    go (negsuc k) (pos l) (holds_neg f g) (holds_pos f₂ g₂) =
        let u : x ≡ suc k = omega arith in
        let w : y ≡ l = omega arith in
        subst (λ (n : ℕ). HoldsInteger r (neg_ℤ (pos n))) (ap (λ (n : ℕ). n * y) u ∙ ap (λ (n : ℕ). suc k * n) w) h
    go (negsuc k) (negsuc l) (holds_neg f g) (holds_neg f₂ g₂) = absurd (e (f ∙ sym f₂))

pub divide_alike : {a b r : Val} {x y : ℕ} → x ≡ a.word + a.tag → y ≡ b.word + b.tag → a.tag ≡ b.tag → HoldsInteger r (pos (x / y)) → Computes quot_z a b r
divide_alike {a} {b} {r} {x} {y} ex ey e h = record { means = go }
  where
    go : (i j : ℤ) → HoldsInteger a i → HoldsInteger b j → HoldsInteger r (quot_z i j)
    go (pos k) (pos l) (holds_pos f g) (holds_pos f₂ g₂) =
        let u : x ≡ k = omega arith in
        let w : y ≡ l = omega arith in
        rw (u, w) at h
    go (pos k) (negsuc l) (holds_pos f g) (holds_neg f₂ g₂) = absurd (omega arith)
    go (negsuc k) (pos l) (holds_neg f g) (holds_pos f₂ g₂) = absurd (omega arith)
    go (negsuc k) (negsuc l) (holds_neg f g) (holds_neg f₂ g₂) =
        let u : x ≡ suc k = omega arith in
        let w : y ≡ suc l = omega arith in
        rw (u, w) at h

pub divide_apart : {a b r : Val} {x y : ℕ} → x ≡ a.word + a.tag → y ≡ b.word + b.tag → (a.tag ≡ b.tag → ⊥) → HoldsInteger r (neg_ℤ (pos (x / y))) → Computes quot_z a b r
divide_apart {a} {b} {r} {x} {y} ex ey e h = record { means = go }
  where
    go : (i j : ℤ) → HoldsInteger a i → HoldsInteger b j → HoldsInteger r (quot_z i j)
    go (pos k) (pos l) (holds_pos f g) (holds_pos f₂ g₂) = absurd (e (f ∙ sym f₂))
    go (pos k) (negsuc l) (holds_pos f g) (holds_neg f₂ g₂) =
        let u : x ≡ k = omega arith in
        let w : y ≡ suc l = omega arith in
        subst (λ (n : ℕ). HoldsInteger r (neg_ℤ (pos n))) (ap (λ (n : ℕ). n / y) u ∙ ap (λ (n : ℕ). k / n) w) h
    go (negsuc k) (pos l) (holds_neg f g) (holds_pos f₂ g₂) =
        let u : x ≡ suc k = omega arith in
        let w : y ≡ l = omega arith in
        subst (λ (n : ℕ). HoldsInteger r (neg_ℤ (pos n))) (ap (λ (n : ℕ). n / y) u ∙ ap (λ (n : ℕ). suc k / n) w) h
    go (negsuc k) (negsuc l) (holds_neg f g) (holds_neg f₂ g₂) = absurd (e (f ∙ sym f₂))
