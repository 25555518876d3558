-- Laws of `span` over a text: one byte more, its ways out, and `all` and `span` as the library counts.
use mathlib.Core.Path.{◌≡◌, refl, ap}
use mathlib.Core.Bool.{Bool, true, false, cond, not, ◌&&◌}
use mathlib.Core.List.{List, [], ◌∷◌}
use Prim.Native.Nat.{ℕ, zero, suc, ◌+◌, ◌≤◌, ◌<◌}
use native.Mathlib.Omega.{arith}
use borrow.Author.Tests.{ltb-false}
use lib.ListN.{length, get_or, drop, length-drop}
use lib.Seq.{take-length}
use lib.Dec.{ltb}
use Rattle.std.specs.Prelude.{Some, None}
use Rattle.std.specs.Option.{unwrap_or}
use Rattle.std.specs.List.{slice_range, list_all, position, position_or_len}
use Rattle.std.proofs.lemmas.List.Recursion.{is_position_or_len}
use Rattle.language.specs.Tokens.{span}
use Rattle.language.specs.Judging.{all}

module _ (P : ℕ → Bool) where
  pub span_true : (b : ℕ) (w : List ℕ) → P b ≡ true → span P (b ∷ w) ≡ suc (span P w)
  unfolding span
  span_true b w e = rw (e, span)

  pub span_false : (b : ℕ) (w : List ℕ) → P b ≡ false → span P (b ∷ w) ≡ 0
  unfolding span
  span_false b w e = rw (e, span)

  pub span_none : (w : List ℕ) → length w ≤ 0 → span P w ≡ 0
  unfolding span
  span_none [] h = refl
  span_none (b ∷ w) h = absurd (omega arith)

  -- where the bytes of a class end: at i, if all from `at` up to i are of it and the one at i is not
  pub span_until : (s : List ℕ) (at i : ℕ) → at ≤ i → i ≤ length s → ((k : ℕ) → at ≤ k → k < i → P (get_or s k 0) ≡ true) → (i < length s → P (get_or s i 0) ≡ false) → at + span P (drop at s) ≡ i
  unfolding span
  span_until [] zero zero lo hi good bad = refl
  span_until [] zero (suc i) lo hi good bad = absurd (omega arith)
  span_until [] (suc at) i lo hi good bad = absurd (omega arith)
  span_until (b ∷ w) zero zero lo hi good bad =
      let h = span_false b w (bad (omega arith)) in
      omega (arith, h)
  span_until (b ∷ w) zero (suc i) lo hi good bad =
      let h = span_until w zero i (omega arith) (omega arith) (λ k a l. good (suc k) (omega arith) (omega arith)) (λ l. bad (omega arith)) in
      rw (span_true b w (good zero (omega arith) (omega arith))) (omega arith)
  span_until (b ∷ w) (suc at) zero lo hi good bad = absurd (omega arith)
  span_until (b ∷ w) (suc at) (suc i) lo hi good bad =
      let h = span_until w at i (omega arith) (omega arith) (λ k a l. good (suc k) (omega arith) (omega arith)) (λ l. bad (omega arith)) in
      omega arith

-- `all` and `span` as the library counts
pub all_listed : (P : ℕ → Bool) (w : List ℕ) → all P w ≡ list_all P w
all_listed P [] = refl
all_listed P (b ∷ w) = ap (λ (t : Bool). P b && t) (all_listed P w)

pub span_within : (P : ℕ → Bool) (w : List ℕ) → span P w ≤ length w
unfolding span
span_within P [] = omega arith
span_within P (b ∷ w) = go (P b) refl (span_within P w)
  where
    go : (t : Bool) → P b ≡ t → span P w ≤ length w → span P (b ∷ w) ≤ length (b ∷ w)
    go true e h = rw (span_true P b w e) (omega arith)
    go false e h = rw (span_false P b w e) (omega arith)

span_listed : (P : ℕ → Bool) (w : List ℕ) → span P w ≡ position_or_len (λ b. not (P b)) w
unfolding span
span_listed P w = is_position_or_len (span P) (λ b. not (P b)) none some w
  where
    none : span P [] ≡ 0
    none = refl

    some : (b : ℕ) (w : List ℕ) → span P (b ∷ w) ≡ cond (not (P b)) 0 (1 + span P w)
    some b w = go (P b) refl
      where
        go : (t : Bool) → P b ≡ t → span P (b ∷ w) ≡ cond (not (P b)) 0 (1 + span P w)
        go true e = rw (span_true P b w e, e) (omega arith)
        go false e = rw (span_false P b w e, e)

-- the first byte that is not of a class, or the end
pub first_out : (P : ℕ → Bool) (w : List ℕ) → unwrap_or (position (λ b. not (P b)) w) (length w) ≡ span P w
first_out P w = rw (← span_listed P w) (go (span P w) (length w) (span_within P w) (ltb (span P w) (length w)) refl)
  where
    go : (k n : ℕ) → k ≤ n → (t : Bool) → ltb k n ≡ t → unwrap_or (cond t (Some k) None) n ≡ k
    go k n h true e = refl
    go k n h false e = let l = ltb-false k n e in omega arith

-- `&s[at..]` is all from `at` on
pub rest_is : (s : List ℕ) (at : ℕ) → slice_range s at (length s) ≡ drop at s
rest_is s at = rw (← length-drop at s) (take-length (drop at s))
