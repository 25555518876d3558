-- The word reader: place and length of the next word, number or mark of a text.
use Rattle.std.specs.Prelude.{ℕ, zero, suc, ◌+◌, Bool, true, false, cond, ◌&&◌, ◌||◌, List, [], ◌∷◌, leb, eqb, length, get_or, drop}
use Prim.Native.Char.{code}
use Rattle.language.specs.declared.Token.{Token}

-- Letters and digits are ASCII.
abbrev pub between : ℕ → ℕ → ℕ → Bool
between a z b = leb a b && leb b z

abbrev pub is_blank : ℕ → Bool
is_blank b = eqb b (code " ") || eqb b (code "\n")

abbrev pub is_digit : ℕ → Bool
is_digit b = between (code "0") (code "9") b

abbrev pub is_lower : ℕ → Bool
is_lower b = between (code "a") (code "z") b

abbrev pub is_upper : ℕ → Bool
is_upper b = between (code "A") (code "Z") b

abbrev pub is_letter : ℕ → Bool
is_letter b = is_lower b || is_upper b

abbrev pub is_word_byte : ℕ → Bool
is_word_byte b = is_digit b || is_letter b

-- the byte at a place, 0 past the end
abbrev pub byte_at : List ℕ → ℕ → ℕ
byte_at s p = get_or s p 0

-- how many bytes at the front of a text pass the test
unfoldable pub span : (ℕ → Bool) → List ℕ → ℕ
span test [] = 0
span test (b ∷ s) = elim (test b) [ true ↦ suc (span test s) | false ↦ zero ]

-- Spaces and line feeds are passed.
unfoldable pub place_from : List ℕ → ℕ → ℕ
place_from s at = at + span is_blank (drop at s)

-- The length of what begins a text: a run of letters and digits, with a `-` directly before a digit; `->`; or one other byte.
unfoldable pub dash_size : List ℕ → ℕ
dash_size [] = 1
dash_size (b ∷ s) = elim (is_digit b) [ true ↦ suc (suc (span is_word_byte s)) | false ↦ elim (eqb b (code ">")) [ true ↦ 2 | false ↦ 1 ] ]

unfoldable pub size : List ℕ → ℕ
size [] = 0
size (b ∷ s) = elim (is_word_byte b) [ true ↦ suc (span is_word_byte s) | false ↦ elim (eqb b (code "-")) [ true ↦ dash_size s | false ↦ 1 ] ]

unfoldable pub size_at : List ℕ → ℕ → ℕ
size_at s p = size (drop p s)

-- One step of the word reader from a place; at the end, and beyond it, the text's length and 0.
unfoldable pub token_from : List ℕ → ℕ → Token
token_from s at =
    let p = place_from s at in
    cond (leb (length s) p) (record { place = length s; length = 0 }) (record { place = p; length = size_at s p })
