-- A sequence that stands in n cells has at most n places: no place's cell comes twice, since from it on as many places are left.
use Prim.Native.Nat.{ℕ, zero, suc, ◌+◌, ◌-◌, ◌*◌, ◌≤◌, ◌<◌}
use mathlib.Core.Path.{◌≡◌, refl, sym, ap, ◌∙◌}
use mathlib.Core.Bool.{Bool, true, false, cond}
use mathlib.Core.List.{List}
use native.Mathlib.Omega.{arith}
use lib.Dec.{eqb}
use borrow.Author.Tests.{eqb-true, eqb-false}
use Rattle.language.specs.Objects.{seq, Objs, nil, ◌::◌, length_of}
use Rattle.language.specs.declared.Val.{Val}
use Rattle.cells.specs.Cells.{Rep, rep_nil, rep_more, next_at, sequence_val}

-- ---- l different numbers below n are at most n
record Different (f : ℕ → ℕ) (l n : ℕ) : Type 0 where
  below : (k : ℕ) → k < l → f k < n
  apart : (j k : ℕ) → j < k → k < l → f j ≡ f k → ⊥

-- where f has the number n, that of the last place instead
moved : (ℕ → ℕ) → ℕ → ℕ → ℕ → ℕ
moved f l n k = cond (eqb (f k) n) (f l) (f k)

-- what `moved` is, by whether f has n there
data Moved (f : ℕ → ℕ) (l n k : ℕ) : Type 0 where
  was : f k ≡ n → moved f l n k ≡ f l → Moved f l n k
  other : (f k ≡ n → ⊥) → moved f l n k ≡ f k → Moved f l n k

moved_is : (f : ℕ → ℕ) (l n k : ℕ) → Moved f l n k
unfolding moved
moved_is f l n k = go (eqb (f k) n) refl
  where
    go : (b : Bool) → eqb (f k) n ≡ b → Moved f l n k
    go true e = was (eqb-true (f k) n e) (rw e)
    go false e = other (eqb-false (f k) n e) (rw e)

less : (f : ℕ → ℕ) (l n : ℕ) → Different f (suc l) (suc n) → Different (moved f l n) l n
less f l n d = record { below = λ k h. low k h (moved_is f l n k); apart = λ j k h u e. split j k h u e (moved_is f l n j) (moved_is f l n k) }
  where
    low : (k : ℕ) → k < l → Moved f l n k → moved f l n k < n
    low k h (was e m) =
        let b = d.below l (omega arith) in
        let a : f l ≡ n → ⊥ = λ z. d.apart k l h (omega arith) (e ∙ sym z) in
        rw m (omega (arith, a))
    low k h (other a m) = let b = d.below k (omega arith) in rw m (omega (arith, a))

    split : (j k : ℕ) → j < k → k < l → moved f l n j ≡ moved f l n k → Moved f l n j → Moved f l n k → ⊥
    split j k h u e (was ej mj) (was ek mk) = d.apart j k h (omega arith) (ej ∙ sym ek)
    split j k h u e (was ej mj) (other ak mk) = d.apart k l u (omega arith) (sym mk ∙ sym e ∙ mj)
    split j k h u e (other aj mj) (was ek mk) = d.apart j l (omega arith) (omega arith) (sym mj ∙ e ∙ mk)
    split j k h u e (other aj mj) (other ak mk) = d.apart j k h (omega arith) (sym mj ∙ e ∙ mk)

different_few : (n l : ℕ) (f : ℕ → ℕ) → Different f l n → l ≤ n
different_few n zero f d = omega arith
different_few zero (suc l) f d = absurd (let b = d.below 0 (omega arith) in omega arith)
different_few (suc n) (suc l) f d = let b = different_few n l (moved f l n) (less f l n d) in omega arith

-- ---- the cells of a sequence's places, one more than their numbers
link : List ℕ → ℕ → ℕ → ℕ
link C a zero = a
link C a (suc k) = link C (next_at C (a - 1)) k

link_add : (C : List ℕ) (a i d : ℕ) → link C a (i + d) ≡ link C (link C a i) d
unfolding link
link_add C a zero d = let z : 0 + d ≡ d = omega arith in rw z
link_add C a (suc i) d = let z : suc i + d ≡ suc (i + d) = omega arith in rw z (link_add C (next_at C (a - 1)) i d)

-- l places from a on, and then none
record Chain (C : List ℕ) (n a l : ℕ) : Type 0 where
  inside : (k : ℕ) → k < l → (0 < link C a k) × (link C a k ≤ n)
  ends : link C a l ≡ 0

chain_more : (C : List ℕ) (n p l : ℕ) → p < n → Chain C n (next_at C p) l → Chain C n (suc p) (suc l)
unfolding link
chain_more C n p l h c = record { inside = go; ends = rw z c.ends }
  where
    z : suc p - 1 ≡ p
    z = omega arith

    go : (k : ℕ) → k < suc l → (0 < link C (suc p) k) × (link C (suc p) k ≤ n)
    go zero u = (omega arith, omega arith)
    go (suc k) u = rw z (c.inside k (omega arith))

chain_of : {C : List ℕ} {n : ℕ} {v : Val} (xs : Objs) (a : ℕ) → v.word ≡ a + 4294967296 * length_of xs → Rep C n v (seq xs) → Chain C n a (length_of xs)
unfolding link
chain_of nil a e (rep_nil t w) = record { inside = λ k z. absurd (omega arith); ends = omega arith }
chain_of {C} {n} (x :: xs) a e (rep_more {p = p} t w l ra rb) =
    let q : a ≡ suc p = omega arith in
    rw q (chain_more C n p (length_of xs) l (chain_of {v = sequence_val (next_at C p) (length_of xs)} xs (next_at C p) refl rb))

chain_apart : (C : List ℕ) (n a l : ℕ) → Chain C n a l → Different (λ k. link C a k - 1) l n
chain_apart C n a l c = record { below = λ k h. let i = c.inside k h in omega arith; apart = apart }
  where
    apart : (j k : ℕ) → j < k → k < l → link C a j - 1 ≡ link C a k - 1 → ⊥
    apart j k h u e =
        let ij = c.inside j (omega arith) in
        let ik = c.inside k u in
        let same : link C a j ≡ link C a k = omega arith in
        let end : k + (l - k) ≡ l = omega arith in
        let z : link C a (j + (l - k)) ≡ 0 = link_add C a j (l - k) ∙ ap (λ (b : ℕ). link C b (l - k)) same ∙ sym (link_add C a k (l - k)) ∙ ap (λ (b : ℕ). link C a b) end ∙ c.ends in
        let i = c.inside (j + (l - k)) (omega arith) in
        omega arith

pub rep_length : {C : List ℕ} {n : ℕ} {v : Val} (xs : Objs) → Rep C n v (seq xs) → length_of xs ≤ n
rep_length nil r = omega arith
rep_length {C} {n} (x :: xs) (rep_more {p = p} t w l ra rb) =
    let c = chain_more C n p (length_of xs) l (chain_of xs (next_at C p) refl rb) in
    different_few n (suc (length_of xs)) (λ k. link C (suc p) k - 1) (chain_apart C n (suc p) (suc (length_of xs)) c)
