-- Texts as lists of bytes.
use Rattle.std.specs.Prelude.{ℕ, zero, suc, ◌+◌, Bool, true, false, ◌&&◌, List, [], ◌∷◌, eqb}
use Prim.Native.Char.{code}
use Prim.Native.String.{String, len, char_at}

-- n bytes of a quoted text, from place i on
abbrev bytes_from : ℕ → ℕ → String → List ℕ
bytes_from zero i s = []
bytes_from (suc n) i s = code (char_at s i) ∷ bytes_from n (i + 1) s

-- A quoted text's bytes. A single byte is written `code "<"`.
abbrev pub bytes : String → List ℕ
bytes s = bytes_from (len s) 0 s

abbrev pub same_bytes : List ℕ → List ℕ → Bool
same_bytes [] [] = true
same_bytes [] (y ∷ ys) = false
same_bytes (x ∷ xs) [] = false
same_bytes (x ∷ xs) (y ∷ ys) = eqb x y && same_bytes xs ys
