-- What is written of an integer or a symbol is judged to be it.
use mathlib.Core.Path.{◌≡◌, refl, ◌∙◌}
use mathlib.Core.Bool.{Bool, true, false, and-eq-true_iff}
use mathlib.Core.List.{List, [], ◌∷◌, ◌++◌}
use Prim.Native.Nat.{ℕ, suc, ◌≤◌, ◌<◌}
use native.Mathlib.Omega.{arith}
use borrow.Author.Tests.{ne_eqb, le-leb}
use lib.IntN.{ℤ, pos, negsuc}
use lib.ListN.{length, get_or, drop}
use Rattle.language.specs.Objects.{int, symbol}
use Rattle.language.specs.Tokens.{is_blank, is_digit, is_word_byte, span, size_at}
use Rattle.language.specs.Judging.{all, is_symbol_byte, is, value_of, judge_word, judge_integer, judge_negative, judge_atom}
use Rattle.language.specs.Writing.{decimal, write_integer}
use Rattle.language.specs.Accepted.{IsInteger, IsSymbol}
use Rattle.theorems.proofs.Texts.{all_cons, all_weaken, digit_range, upper_range, not_blank, upper_no_digit, upper_letter, upper_symbol, digit_word, symbol_word, size_word, size_dash}
use Rattle.theorems.proofs.Decimals.{decimal_digits, decimal_value, decimal_long, decimal-zero, decimal_plain}

digit_atom : (w : List ℕ) → all is_digit w ≡ true → 0 < length w → judge_atom w ≡ judge_integer w
unfolding judge_atom
digit_atom [] h n = absurd (omega arith)
digit_atom (b ∷ a) h n = rw ((and-eq-true_iff (is_digit b) (all is_digit a)).0 h).0

positive_judged : (n : ℕ) → IsInteger (pos n) → judge_integer (decimal n) ≡ is (int (pos n))
unfolding judge_integer
positive_judged n h = rw (decimal_digits n, decimal_plain n, decimal_value n, h)

negative_judged : (n : ℕ) (w : List ℕ) → all is_digit w ≡ true → 0 < length w → (get_or w 0 0 ≡ 48 → ⊥) → value_of w ≡ suc n → IsInteger (negsuc n) →
    judge_negative w ≡ is (int (negsuc n))
unfolding judge_negative
negative_judged n [] d l z v h = absurd (omega arith)
negative_judged n (b ∷ a) d l z v h = rw (d, ne_eqb b 48 z, v, h)

pub integer_judged : (z : ℤ) → IsInteger z → judge_atom (write_integer z) ≡ is (int z)
unfolding write_integer judge_atom
integer_judged (pos n) h = digit_atom (decimal n) (decimal_digits n) (decimal_long n) ∙ positive_judged n h
integer_judged (negsuc n) h =
    negative_judged n (decimal (suc n)) (decimal_digits (suc n)) (decimal_long (suc n)) (λ e. omega (arith, (decimal-zero (suc n) e).0)) (decimal_value (suc n)) h

pub word_judged : (test : ℕ → Bool) (w : List ℕ) → all test w ≡ true → length w ≤ 12 → judge_word test w ≡ is w
unfolding judge_word
word_judged test w h n = rw (le-leb (length w) 12 n, h)

pub symbol_judged : (w : List ℕ) → IsSymbol w → judge_atom w ≡ is (symbol w)
unfolding judge_atom
symbol_judged [] h = absurd h
symbol_judged (b ∷ a) h =
    rw (upper_no_digit b h.0, upper_letter b h.0, word_judged is_symbol_byte (b ∷ a) (all_cons is_symbol_byte b a (upper_symbol b h.0) h.1) h.2)

-- An atom's text begins with no blank and no < or >.
abbrev pub BeginsAtom : List ℕ → Type 0
BeginsAtom w = (b : ℕ) × (a : List ℕ) × (w ≡ b ∷ a) × (is_blank b ≡ false) × (b ≡ 60 → ⊥) × (b ≡ 62 → ⊥)

begins_digits : (w : List ℕ) → all is_digit w ≡ true → 0 < length w → BeginsAtom w
begins_digits [] h n = absurd (omega arith)
begins_digits (b ∷ a) h n =
    let r = digit_range b ((and-eq-true_iff (is_digit b) (all is_digit a)).0 h).0 in
    (b, a, refl, not_blank b r.0, omega arith, omega arith)

pub integer_begins : (z : ℤ) → BeginsAtom (write_integer z)
unfolding write_integer
integer_begins (pos n) = begins_digits (decimal n) (decimal_digits n) (decimal_long n)
integer_begins (negsuc n) = (45, decimal (suc n), refl, refl, omega arith, omega arith)

pub symbol_begins : (w : List ℕ) → IsSymbol w → BeginsAtom w
symbol_begins [] h = absurd h
symbol_begins (b ∷ a) h = let r = upper_range b h.0 in (b, a, refl, not_blank b (omega (arith, r.0)), omega arith, omega arith)

module _ (s : List ℕ) (p : ℕ) (l : List ℕ) (stops : span is_word_byte l ≡ 0) where
  pub integer_size : (z : ℤ) → drop p s ≡ write_integer z ++ l → size_at s p ≡ length (write_integer z)
  unfolding write_integer
  integer_size (pos n) e = size_word s p l stops (decimal n) e (all_weaken is_digit is_word_byte digit_word (decimal n) (decimal_digits n)) (decimal_long n)
  integer_size (negsuc n) e = size_dash s p l stops (decimal (suc n)) e (decimal_digits (suc n)) (decimal_long (suc n))

  pub symbol_size : (w : List ℕ) → IsSymbol w → drop p s ≡ w ++ l → size_at s p ≡ length w
  symbol_size [] h e = absurd h
  symbol_size (b ∷ a) h e =
      size_word s p l stops (b ∷ a) e (all_weaken is_symbol_byte is_word_byte symbol_word (b ∷ a) (all_cons is_symbol_byte b a (upper_symbol b h.0) h.1)) (omega arith)
