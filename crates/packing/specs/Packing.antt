-- A word of at most 12 letters and digits as one number below 2^64, base 37, the first letter lowest; and words back from
-- their numbers, in either case.
use Rattle.std.specs.Prelude.{ℕ, zero, suc, ◌+◌, ◌-◌, ◌*◌, ◌/◌, ◌%◌, ◌≤◌, ◌≡◌, Bool, cond, List, [], ◌∷◌, ◌++◌, leb, eqb, length, drop}
use Rattle.language.specs.Numbers.{word_limit}
use Rattle.language.specs.Judging.{is_symbol_byte, is_name_byte}
use Rattle.packing.specs.declared.Case.{Case}
use Rattle.packing.specs.declared.Case.TheVariants.{Upper, Lower}

-- letters 1 to 26, digits 27 to 36
unfoldable pub letter_of : ℕ → ℕ
letter_of b = cond (leb b 57) (b - 21) (cond (leb b 90) (b - 64) (b - 96)) % 37

unfoldable pub packed : List ℕ → ℕ
packed [] = 0
packed (b ∷ w) = packed w * 37 + letter_of b

-- what stands before a letter of each case
abbrev pub letter_base : Case → ℕ
letter_base Upper = 64
letter_base Lower = 96

abbrev pub byte_of : Case → ℕ → ℕ
byte_of case d = cond (leb d 26) (d + letter_base case) (d + 21)

-- the bytes of the words that are written in a case
abbrev pub in_case : Case → ℕ → Bool
in_case Upper = is_symbol_byte
in_case Lower = is_name_byte

-- a number's word, up to k letters
unfoldable pub unpacked_from : Case → ℕ → ℕ → List ℕ
unpacked_from case zero v = []
unpacked_from case (suc k) v =
    let rest = byte_of case (v % 37) ∷ unpacked_from case k (v / 37) in
    cond (eqb v 0) [] rest

abbrev pub unpacked : Case → ℕ → List ℕ
unpacked case v = unpacked_from case word_limit v

-- The word's bytes are put in front, and the others stay.
pub record Unpacked (case : Case) (v r : ℕ) (old new : List ℕ) : Type 0 where
  pub size : r ≡ length (unpacked case v)
  pub bytes : new ≡ unpacked case v ++ drop r old
  pub high : r ≤ word_limit
