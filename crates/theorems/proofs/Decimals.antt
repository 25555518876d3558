-- What is written of a number: digits, no leading zero, and their value is the number.
use mathlib.Core.Path.{◌≡◌, refl, sym, ◌∙◌}
use mathlib.Core.Bool.{Bool, true, false, cond}
use mathlib.Core.List.{List, [], ◌∷◌, ◌++◌}
use Prim.Native.Nat.{ℕ, zero, suc, ◌+◌, ◌-◌, ◌*◌, ◌/◌, ◌%◌, ◌^◌, ◌≤◌, ◌<◌}
use native.Mathlib.Nat.{pow-suc}
use native.Mathlib.Omega.{arith}
use borrow.Author.Tests.{le-leb, ne_eqb, leb-true, leb-false}
use lib.Dec.{leb}
use lib.ListN.{length, get_or, length-append, get_or-append}
use Rattle.language.specs.Tokens.{is_digit}
use Rattle.language.specs.Judging.{all, value_from, value_of, leading_zero}
use Rattle.language.specs.Writing.{digits, decimal}
use Rattle.theorems.proofs.Texts.{all_append}

pub value-append : (v : ℕ) (a b : List ℕ) → value_from v (a ++ b) ≡ value_from (value_from v a) b
unfolding value_from
value-append v [] b = refl
value-append v (x ∷ a) b = value-append (v * 10 + (x - 48)) a b

digit_byte : (d : ℕ) → d ≤ 9 → is_digit (48 + d) ≡ true
digit_byte d h = rw (le-leb 48 (48 + d) (omega arith), le-leb (48 + d) 57 (omega arith))

digits_all : (k n : ℕ) → all is_digit (digits k n) ≡ true
unfolding digits
digits_all zero n = rw (digit_byte (n % 10) (omega arith))
digits_all (suc k) n = go (leb n 9) refl (digits_all k (n / 10))
  where
    go : (b : Bool) → leb n 9 ≡ b → all is_digit (digits k (n / 10)) ≡ true → all is_digit (cond b ((48 + n) ∷ []) (digits k (n / 10) ++ (48 + n % 10) ∷ [])) ≡ true
    go true e h = rw (digit_byte n (leb-true n 9 e))
    go false e h = all_append is_digit (digits k (n / 10)) ((48 + n % 10) ∷ []) h (rw (digit_byte (n % 10) (omega arith)))

digits_value : (k n : ℕ) → n < 10 ^ suc k → value_of (digits k n) ≡ n
unfolding digits value_from
digits_value zero n h = omega arith
digits_value (suc k) n h = let e = pow-suc 10 (suc k) in go (leb n 9) refl (digits_value k (n / 10) (omega arith))
  where
    go : (b : Bool) → leb n 9 ≡ b → value_of (digits k (n / 10)) ≡ n / 10 → value_of (cond b ((48 + n) ∷ []) (digits k (n / 10) ++ (48 + n % 10) ∷ [])) ≡ n
    go true e h = omega arith
    go false e h = rw (value-append 0 (digits k (n / 10)) ((48 + n % 10) ∷ []), h) (omega arith)

digits_long : (k n : ℕ) → 0 < length (digits k n)
unfolding digits
digits_long zero n = omega arith
digits_long (suc k) n = go (leb n 9)
  where
    go : (b : Bool) → 0 < length (cond b ((48 + n) ∷ []) (digits k (n / 10) ++ (48 + n % 10) ∷ []))
    go true = omega arith
    go false = rw length-append (omega arith)

digits-zero : (k n : ℕ) → n < 10 ^ suc k → get_or (digits k n) 0 0 ≡ 48 → (n ≡ 0) × (length (digits k n) ≡ 1)
unfolding digits
digits-zero zero n h e = omega arith
digits-zero (suc k) n h e = let q = pow-suc 10 (suc k) in go (leb n 9) refl (digits-zero k (n / 10) (omega arith)) (digits_long k (n / 10)) e
  where
    go : (b : Bool) → leb n 9 ≡ b → (get_or (digits k (n / 10)) 0 0 ≡ 48 → (n / 10 ≡ 0) × (length (digits k (n / 10)) ≡ 1)) → 0 < length (digits k (n / 10)) →
        get_or (cond b ((48 + n) ∷ []) (digits k (n / 10) ++ (48 + n % 10) ∷ [])) 0 0 ≡ 48 → (n ≡ 0) × (length (cond b ((48 + n) ∷ []) (digits k (n / 10) ++ (48 + n % 10) ∷ [])) ≡ 1)
    go true e f l h = omega arith
    go false e f l h =
        let g = leb-false n 9 e in
        let z = f (sym (get_or-append (digits k (n / 10)) ((48 + n % 10) ∷ []) 0 0 l) ∙ h) in
        absurd (omega (arith, z.0))

-- a number is less than 10 to more than itself
pub under_power : (n : ℕ) → n < 10 ^ suc n
under_power zero = omega arith
under_power (suc n) = omega (arith, pow-suc 10 (suc n), under_power n)

pub decimal_digits : (n : ℕ) → all is_digit (decimal n) ≡ true
unfolding decimal
decimal_digits n = digits_all n n

pub decimal_value : (n : ℕ) → value_of (decimal n) ≡ n
unfolding decimal
decimal_value n = digits_value n n (under_power n)

pub decimal_long : (n : ℕ) → 0 < length (decimal n)
unfolding decimal
decimal_long n = digits_long n n

-- a zero stands alone
pub decimal-zero : (n : ℕ) → get_or (decimal n) 0 0 ≡ 48 → (n ≡ 0) × (length (decimal n) ≡ 1)
unfolding decimal
decimal-zero n h = digits-zero n n (under_power n) h

no_leading : (ds : List ℕ) → (get_or ds 0 0 ≡ 48 → length ds ≡ 1) → leading_zero ds ≡ false
no_leading [] f = refl
no_leading (b ∷ []) f = refl
no_leading (b ∷ c ∷ ds) f = ne_eqb b 48 (λ e. omega (arith, f e))

pub decimal_plain : (n : ℕ) → leading_zero (decimal n) ≡ false
decimal_plain n = no_leading (decimal n) (λ e. (decimal-zero n e).1)
