-- How records and cells come to stand in the tables: nothing, one run behind another, a record, a record before a run, and a
-- record before a run that moved up for it.
use Prim.Native.Nat.{ℕ, ◌+◌, ◌*◌, ◌≤◌}
use mathlib.Core.Path.{◌≡◌, refl, ap, sym, ◌∙◌}
use mathlib.Core.Bool.{Bool, true, false}
use mathlib.Core.List.{List, [], ◌∷◌, ◌++◌}
use native.Mathlib.Nat.{add-zero}
use native.Mathlib.Omega.{arith}
use lib.Dec.{leb}
use lib.ListN.{length, take, drop, length-append}
use lib.Seq.{slice, take_at, drop_at, length-take-le, length-slice}
use borrow.Author.Tests.{leb-true, leb-false}
use Rattle.tables.specs.Tables.{put, record_put, shifted}
use Rattle.tables.proofs.Put.{put_after, put_before, put_over, put_none, length_put}
use Rattle.tables.proofs.Records.{record_fits, length_record, shift_fits, shift_full, shift_none}
use Rattle.forms.specs.Readings.{Run}

pub run_none : {n : ℕ} {t : List ℕ} → Run [] n t n t
run_none {n} {t} = record { ends = add-zero (n * 4); is = λ room. sym (put_none t (n * 4)); long = refl }

pub run_as : {a b : List ℕ} {n m : ℕ} {t t' : List ℕ} → a ≡ b → Run a n t m t' → Run b n t m t'
run_as e x = rw e at x

module _ {a b : List ℕ} {n m e : ℕ} {t t₁ t₂ : List ℕ} where
  pub run_then : Run a n t m t₁ → Run b m t₁ e t₂ → Run (a ++ b) n t e t₂
  run_then x y =
      let l = length-append a b in
      let i = x.ends in
      let j = y.ends in
      let k = x.long in
      record {
        ends = omega arith;
        is = λ room.
            let p = x.is (omega arith) in
            let q = y.is (omega arith) in
            q ∙ ap (λ (v : List ℕ). put v (m * 4) b) p ∙ ap (λ (z : ℕ). put (put t (n * 4) a) z b) (sym i) ∙ put_after t (n * 4) a b (omega arith);
        long = y.long ∙ k;
      }

module _ {n k q lo hi : ℕ} {t t₁ : List ℕ} where
  pub run_record : t₁ ≡ record_put t n k q lo hi → Run (k ∷ q ∷ lo ∷ hi ∷ []) n t (n + 1) t₁
  run_record e = record { ends = omega arith; is = λ room. e ∙ record_fits t n k q lo hi (omega arith); long = ap length e ∙ length_record t n k q lo hi }

  -- a record before a run
  pub run_under : {a t₂ : List ℕ} {m : ℕ} → Run a (n + 1) t m t₁ → t₂ ≡ record_put t₁ n k q lo hi → Run (k ∷ q ∷ lo ∷ hi ∷ a) n t m t₂
  run_under {a} {t₂} {m} x e =
      let i = x.ends in
      let l = x.long in
      let r = k ∷ q ∷ lo ∷ hi ∷ [] in
      let z : (n + 1) * 4 ≡ n * 4 + length r = omega arith in
      record {
        ends = omega arith;
        is = λ room.
            let p = x.is (omega arith) in
            e ∙ record_fits t₁ n k q lo hi (omega arith) ∙ ap (λ (v : List ℕ). put v (n * 4) r) (p ∙ ap (λ (w : ℕ). put t w a) z) ∙ put_before t (n * 4) r a (omega arith);
        long = ap length e ∙ length_record t₁ n k q lo hi ∙ l;
      }

-- ---- runs that move up
pub length_shifted : (t : List ℕ) (from to : ℕ) → length (shifted t from to) ≡ length t
length_shifted t from to = go (leb to from) refl (leb (to * 4 + 4) (length t)) refl
  where
    go : (x : Bool) → leb to from ≡ x → (y : Bool) → leb (to * 4 + 4) (length t) ≡ y → length (shifted t from to) ≡ length t
    go true e y f = ap length (shift_none t from to (leb-true to from e))
    go false e true f =
        let h = leb-true (to * 4 + 4) (length t) f in
        let g = leb-false to from e in
        let l = length-slice (from * 4) (to * 4) t (omega arith) in
        rw (shift_fits t from to h) (length_put t (from * 4 + 4) (slice (from * 4) (to * 4) t) (omega arith))
    go false e false f = ap length (shift_full t from to (leb-false (to * 4 + 4) (length t) f))

slice_put : (t : List ℕ) (i : ℕ) (a : List ℕ) → i + length a ≤ length t → slice i (i + length a) (put t i a) ≡ a
unfolding put
slice_put t i a h =
    let l = length-take-le i t (omega arith) in
    let f : length (take i t ++ a) ≡ i + length a = rw (length-append, l) in
    rw (take_at (take i t ++ a) (drop (i + length a) t) (i + length a) f) (drop_at (take i t) a i l)

module _ {n m e k q lo hi : ℕ} {t t₁ t₂ t₃ t₄ a b : List ℕ} where
  -- a run that moves up by a record, a run behind it, and the record
  pub run_moved : Run a n t m t₁ → t₂ ≡ shifted t₁ n m → Run b (m + 1) t₂ e t₃ → t₄ ≡ record_put t₃ n k q lo hi → Run (k ∷ q ∷ lo ∷ hi ∷ (a ++ b)) n t e t₄
  run_moved x s y w =
      let r = k ∷ q ∷ lo ∷ hi ∷ [] in
      let i = x.ends in
      let j = y.ends in
      let l₁ = x.long in
      let l₂ : length t₂ ≡ length t₁ = ap length s ∙ length_shifted t₁ n m in
      let l₃ = y.long in
      let c = length-append a b in
      record {
        ends = omega arith;
        is = λ room.
            let T = put t (n * 4) a in
            let lT = length_put t (n * 4) a (omega arith) in
            let x₁ : t₁ ≡ T = x.is (omega arith) in
            let z : m * 4 ≡ n * 4 + length a = omega arith in
            let u : slice (n * 4) (m * 4) T ≡ a = rw z (slice_put t (n * 4) a (omega arith)) in
            let x₂ : t₂ ≡ put T (n * 4 + length r) a = s ∙ shift_fits t₁ n m (omega arith) ∙ ap (λ (v : List ℕ). put v (n * 4 + 4) (slice (n * 4) (m * 4) v)) x₁ ∙ ap (λ (v : List ℕ). put T (n * 4 + 4) v) u in
            let z₁ : (m + 1) * 4 ≡ n * 4 + length r + length a = omega arith in
            let x₃ : t₃ ≡ put T (n * 4 + length r) (a ++ b) = y.is (omega arith) ∙ ap (λ (v : List ℕ). put v ((m + 1) * 4) b) x₂ ∙ ap (λ (v : ℕ). put (put T (n * 4 + length r) a) v b) z₁ ∙ put_after T (n * 4 + length r) a b (omega arith) in
            w ∙ record_fits t₃ n k q lo hi (omega arith) ∙ ap (λ (v : List ℕ). put v (n * 4) r) x₃ ∙ put_before T (n * 4) r (a ++ b) (omega arith) ∙ put_over t (n * 4) a (r ++ (a ++ b)) (omega arith) (omega arith);
        long = ap length w ∙ length_record t₃ n k q lo hi ∙ l₃ ∙ l₂ ∙ l₁;
      }
