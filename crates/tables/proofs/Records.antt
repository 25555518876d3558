-- Laws of records: a record that was put, with room for it and without; its numbers and those of the others; records that move.
use mathlib.Core.Path.{◌≡◌, refl, ap, sym, ◌∙◌}
use mathlib.Core.Bool.{Bool, true, false}
use mathlib.Core.List.{List, [], ◌∷◌}
use Prim.Native.Nat.{ℕ, ◌+◌, ◌-◌, ◌*◌, ◌/◌, ◌≤◌, ◌<◌}
use native.Mathlib.Nat.{add-zero}
use native.Mathlib.Omega.{arith}
use lib.Dec.{leb}
use lib.ListN.{length, get_or, set, take, drop, length-drop, drop_of_length-le}
use lib.Seq.{slice, length-slice, length-take-le}
use borrow.Rule.Slice.PartMut.{put_mid}
use Rattle.std.specs.List.{copy_within}
use Rattle.std.proofs.lemmas.Slice.{between_is}
use borrow.Author.Tests.{le-leb, lt-leb, leb-true, leb-false}
use Rattle.tables.specs.Tables.{put, field, record_put, shifted}
use Rattle.tables.proofs.Put.{put_none, length_put, put_below, put_inside, put_behind, put_part}

-- four numbers stored over four
four_over : (xs : List ℕ) (a b c d : ℕ) → length xs ≡ 4 → set (set (set (set xs 0 a) 1 b) 2 c) 3 d ≡ a ∷ b ∷ c ∷ d ∷ []
four_over [] a b c d e = absurd (omega arith)
four_over (w ∷ []) a b c d e = absurd (omega arith)
four_over (w ∷ x ∷ []) a b c d e = absurd (omega arith)
four_over (w ∷ x ∷ y ∷ []) a b c d e = absurd (omega arith)
four_over (w ∷ x ∷ y ∷ z ∷ []) a b c d e = refl
four_over (w ∷ x ∷ y ∷ z ∷ v ∷ xs) a b c d e = absurd (omega arith)

module _ (t : List ℕ) (i a b c d : ℕ) where
  pub record_fits : i * 4 + 4 ≤ length t → record_put t i a b c d ≡ put t (i * 4) (a ∷ b ∷ c ∷ d ∷ [])
  unfolding record_put
  record_fits h = rw (le-leb (i * 4 + 4) (length t) h)

  pub record_none : length t < i * 4 + 4 → record_put t i a b c d ≡ t
  unfolding record_put
  record_none h = rw (lt-leb (i * 4 + 4) (length t) h)

  pub length_record : length (record_put t i a b c d) ≡ length t
  length_record = go (leb (i * 4 + 4) (length t)) refl
    where
      go : (k : Bool) → leb (i * 4 + 4) (length t) ≡ k → length (record_put t i a b c d) ≡ length t
      go true e = let h = leb-true (i * 4 + 4) (length t) e in rw (record_fits h) (length_put t (i * 4) (a ∷ b ∷ c ∷ d ∷ []) h)
      go false e = rw (record_none (leb-false (i * 4 + 4) (length t) e))

  -- every number outside of the record is as it was, with room for it or not
  pub record_below : (j : ℕ) → j < i * 4 → get_or (record_put t i a b c d) j 0 ≡ get_or t j 0
  record_below j l = go (leb (i * 4 + 4) (length t)) refl
    where
      go : (k : Bool) → leb (i * 4 + 4) (length t) ≡ k → get_or (record_put t i a b c d) j 0 ≡ get_or t j 0
      go true e = let h = leb-true (i * 4 + 4) (length t) e in rw (record_fits h) (put_below t (i * 4) j (a ∷ b ∷ c ∷ d ∷ []) l (omega arith))
      go false e = rw (record_none (leb-false (i * 4 + 4) (length t) e))

  pub record_behind : (j : ℕ) → i * 4 + 4 ≤ j → get_or (record_put t i a b c d) j 0 ≡ get_or t j 0
  record_behind j l = go (leb (i * 4 + 4) (length t)) refl
    where
      go : (k : Bool) → leb (i * 4 + 4) (length t) ≡ k → get_or (record_put t i a b c d) j 0 ≡ get_or t j 0
      go true e = let h = leb-true (i * 4 + 4) (length t) e in rw (record_fits h) (put_behind t (i * 4) j (a ∷ b ∷ c ∷ d ∷ []) l (omega arith))
      go false e = rw (record_none (leb-false (i * 4 + 4) (length t) e))

  -- the record's own numbers, where there is room
  module _ (h : i * 4 + 4 ≤ length t) where
    pub record_first : get_or (record_put t i a b c d) (i * 4) 0 ≡ a
    record_first = rw (record_fits h) (ap (λ (k : ℕ). get_or (put t (i * 4) (a ∷ b ∷ c ∷ d ∷ [])) k 0) (sym (add-zero (i * 4))) ∙ put_inside t (i * 4) 0 (a ∷ b ∷ c ∷ d ∷ []) (omega arith) (omega arith))

    pub record_second : field (record_put t i a b c d) i 1 ≡ b
    record_second = rw (record_fits h) (put_inside t (i * 4) 1 (a ∷ b ∷ c ∷ d ∷ []) (omega arith) (omega arith))

    pub record_third : field (record_put t i a b c d) i 2 ≡ c
    record_third = rw (record_fits h) (put_inside t (i * 4) 2 (a ∷ b ∷ c ∷ d ∷ []) (omega arith) (omega arith))

    pub record_fourth : field (record_put t i a b c d) i 3 ≡ d
    record_fourth = rw (record_fits h) (put_inside t (i * 4) 3 (a ∷ b ∷ c ∷ d ∷ []) (omega arith) (omega arith))

  -- what put_record does, with room and without
  pub four_are : (k : ℕ) → i < length t / 4 → k ≡ 4 → put_mid (i * 4) k t (set (set (set (set (take k (drop (i * 4) t)) 0 a) 1 b) 2 c) 3 d) ≡ record_put t i a b c d
  four_are k h e =
      let n = length-drop (i * 4) t in
      let l = length-take-le k (drop (i * 4) t) (omega arith) in
      rw (four_over (take k (drop (i * 4) t)) a b c d (omega arith)) (put_part t (i * 4) k (a ∷ b ∷ c ∷ d ∷ []) e ∙ sym (record_fits (omega arith)))

-- ---- records that move up
module _ (t : List ℕ) (from to : ℕ) where
  pub shift_fits : to * 4 + 4 ≤ length t → shifted t from to ≡ put t (from * 4 + 4) (slice (from * 4) (to * 4) t)
  unfolding shifted
  shift_fits h = rw (le-leb (to * 4 + 4) (length t) h)

  pub shift_full : length t < to * 4 + 4 → shifted t from to ≡ t
  unfolding shifted
  shift_full h = rw (lt-leb (to * 4 + 4) (length t) h)

  pub shift_none : to ≤ from → shifted t from to ≡ t
  shift_none l = go (leb (to * 4 + 4) (length t)) refl
    where
      empty : to * 4 ≤ length t → slice (from * 4) (to * 4) t ≡ []
      empty h = let z = length-take-le (to * 4) t h in drop_of_length-le (take (to * 4) t) {i = from * 4} (omega arith)

      go : (k : Bool) → leb (to * 4 + 4) (length t) ≡ k → shifted t from to ≡ t
      go true e = shift_fits (leb-true (to * 4 + 4) (length t) e) ∙ ap (λ (x : List ℕ). put t (from * 4 + 4) x) (empty (omega (arith, leb-true (to * 4 + 4) (length t) e))) ∙ put_none t (from * 4 + 4)
      go false e = shift_full (leb-false (to * 4 + 4) (length t) e)

-- what shift_up copies
pub shift_copied : (t : List ℕ) (from to : ℕ) → from < to → to < length t / 4 → copy_within t (from * 4) (to * 4) (from * 4 + 4) ≡ shifted t from to
unfolding put
shift_copied t from to h n =
    let e : length (slice (from * 4) (to * 4) t) ≡ to * 4 - from * 4 = length-slice (from * 4) (to * 4) t (omega arith) in
    rw (shift_fits t from to (omega arith), e, ← between_is t (from * 4) (to * 4))
