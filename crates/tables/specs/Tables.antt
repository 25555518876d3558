-- Tables: lists of numbers, four to a record; past the end every number is 0, and nothing is written.
use Rattle.std.specs.Prelude.{ℕ, ◌+◌, ◌*◌, cond, List, [], ◌∷◌, ◌++◌, leb, length, take, drop, get_or}
use Rattle.std.proofs.Math.Seq.{slice}

-- t with vs from index i on
unfoldable pub put : List ℕ → ℕ → List ℕ → List ℕ
put t i vs = take i t ++ vs ++ drop (i + length vs) t

-- number j of record i
abbrev pub field : List ℕ → ℕ → ℕ → ℕ
field t i j = get_or t (i * 4 + j) 0

-- t with record i written, where it has room for it
unfoldable pub record_put : List ℕ → ℕ → ℕ → ℕ → ℕ → ℕ → List ℕ
record_put t i a b c d = cond (leb (i * 4 + 4) (length t)) (put t (i * 4) (a ∷ b ∷ c ∷ d ∷ [])) t

-- t with the records from `from` up to `to` one record higher, where it has room for them
unfoldable pub shifted : List ℕ → ℕ → ℕ → List ℕ
shifted t from to = cond (leb (to * 4 + 4) (length t)) (put t (from * 4 + 4) (slice (from * 4) (to * 4) t)) t
