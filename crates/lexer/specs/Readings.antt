-- What the word reader's functions give, with the bounds that callers go by. All of it holds beyond the text's end too.
use Rattle.std.specs.Prelude.{ℕ, min, ◌+◌, ◌-◌, ◌≤◌, ◌≡◌, List, length, drop}
use Rattle.language.specs.declared.Token.{Token}
use Rattle.language.specs.Tokens.{span, place_from, size_at, token_from}
use Rattle.lexer.specs.declared.Class.{Class}
use Rattle.lexer.specs.Classes.{test_of}

-- the end of the bytes of a class, from `from` on
pub record Spanned (class : Class) (s : List ℕ) (from r : ℕ) : Type 0 where
  pub is : r ≡ from + span (test_of class) (drop from s)
  pub low : from ≤ r
  pub high : r ≤ from + (length s - from)

-- the place behind the blanks
pub record Skipped (s : List ℕ) (at r : ℕ) : Type 0 where
  pub is : r ≡ place_from s at
  pub low : at ≤ r
  pub high : r ≤ at + (length s - at)

-- the length of what stands at p: some byte if p is within the text, and no byte behind its end
pub record WordSized (s : List ℕ) (p r : ℕ) : Type 0 where
  pub is : r ≡ size_at s p
  pub some : min 1 (length s - p) ≤ r
  pub high : r ≤ length s - p

-- the next word, number or mark
pub record NextWord (s : List ℕ) (at : ℕ) (r : Token) : Type 0 where
  pub is : r ≡ token_from s at
  pub place : at ≤ length s → r.place ≡ place_from s at
  pub size : r.length ≡ size_at s r.place
  pub low : min at (length s) ≤ r.place
  pub some : min 1 (length s - r.place) ≤ r.length
  pub high : r.place + r.length ≤ length s
