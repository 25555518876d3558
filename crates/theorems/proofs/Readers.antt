-- What it means that a reader reads a text, whatever stands before and behind it; and readers one after the other.
use mathlib.Core.Path.{◌≡◌, refl}
use mathlib.Core.Bool.{false}
use mathlib.Core.List.{List, [], ◌∷◌, ◌++◌, append_assoc}
use Prim.Native.Nat.{ℕ, zero, suc, max, ◌+◌, ◌*◌, ◌≤◌, ◌<◌}
use native.Mathlib.Omega.{arith}
use lib.Dec.{eqb}
use lib.ListN.{length, drop, length-append}
use Rattle.language.specs.Tokens.{is_blank, is_word_byte, span}
use Rattle.language.specs.Reading.{Got, got, and_then}
use Rattle.theorems.proofs.Texts.{drop_past, drop_one, span_none}

-- by calls, text, place and marks that may still open
abbrev pub Reader : Type 0 → Type 0
Reader A = ℕ → List ℕ → ℕ → ℕ → Got A

-- what follows a word: no letter or digit
abbrev pub EndsWord : List ℕ → Type 0
EndsWord l = span is_word_byte l ≡ 0

-- what follows a form: a byte that is no letter or digit, no blank and no dot
abbrev pub EndsForm : List ℕ → Type 0
EndsForm [] = ⊥
EndsForm (c ∷ l) = (is_word_byte c ≡ false) × (is_blank c ≡ false) × (eqb c 46 ≡ false)

pub ends_word : (l : List ℕ) → EndsForm l → EndsWord l
ends_word [] h = absurd h
ends_word (c ∷ l) h = span_none is_word_byte c l h.0

-- w reads as a, with m marks open at once, in 3 calls for each byte and n besides
abbrev pub Reads : {A : Type 0} → Reader A → (List ℕ → Type 0) → (n : ℕ) → (w : List ℕ) → (m : ℕ) → A → Type 0
Reads read follows n w m a =
    (s : List ℕ) (at room k : ℕ) (l : List ℕ) → drop at s ≡ w ++ l → follows l → m ≤ room → 3 * length w + n < k → read k s at room ≡ got a (at + length w)

pub suc_of : (k : ℕ) → 0 < k → (i : ℕ) × (k ≡ suc i)
suc_of zero h = absurd (omega arith)
suc_of (suc i) h = (i, refl)

-- what is read, and a mark that ends it
pub closed : {A C : Type 0} (c : ℕ) (first : Reader A) (read : Reader C) (build : A → C) (ends follows : List ℕ → Type 0) (n : ℕ) (w : List ℕ) (m : ℕ) (a : A) →
    ((l : List ℕ) → ends (c ∷ l)) →
    ((s : List ℕ) (at room k e : ℕ) (l : List ℕ) → first k s at room ≡ got a e → drop e s ≡ c ∷ l → read (suc k) s at room ≡ got (build a) (e + 1)) →
    Reads first ends n w m a → Reads read follows (suc n) (w ++ c ∷ []) (max m 0) (build a)
closed c first read build ends follows n w m a z step r s at room k l d f h b =
    let i = suc_of k (omega arith) in
    let t = length-append w (c ∷ []) in
    let d₀ : drop at s ≡ w ++ c ∷ l = simp append_assoc at d in
    let y : at + length w + 1 ≡ at + length (w ++ c ∷ []) = omega arith in
    rw (i.1, ← y) (step s at room i.0 (at + length w) l (r s at room i.0 (c ∷ l) d₀ (z l) (omega arith) (omega (arith, i.1))) (drop_past s at w (c ∷ l) d₀))

-- what is read, a mark that joins, and more
pub joined : {A B C : Type 0} (c : ℕ) (first : Reader A) (rest : Reader B) (read : Reader C) (build : A → B → C) (ends follows : List ℕ → Type 0) (n : ℕ)
    (w : List ℕ) (m : ℕ) (a : A) (w' : List ℕ) (m' : ℕ) (b : B) →
    ((l : List ℕ) → ends (c ∷ l)) →
    ((s : List ℕ) (at room k e : ℕ) (l : List ℕ) → first k s at room ≡ got a e → drop e s ≡ c ∷ l →
    read (suc k) s at room ≡ and_then (rest k s (e + 1) room) (λ b e. got (build a b) e)) →
    Reads first ends n w m a → Reads rest follows (suc n) w' m' b → Reads read follows (suc n) (w ++ c ∷ w') (max m m') (build a b)
joined c first rest read build ends follows n w m a w' m' b z step r r' s at room k l d f h u =
    let i = suc_of k (omega arith) in
    let t = length-append w (c ∷ w') in
    let d₀ : drop at s ≡ w ++ c ∷ (w' ++ l) = simp append_assoc at d in
    let e = at + length w in
    let d₁ = drop_past s at w (c ∷ (w' ++ l)) d₀ in
    let g = r s at room i.0 (c ∷ (w' ++ l)) d₀ (z (w' ++ l)) (omega arith) (omega (arith, i.1)) in
    let g' = r' s (e + 1) room i.0 l (drop_one s e c (w' ++ l) d₁) f (omega arith) (omega (arith, i.1)) in
    let y : e + 1 + length w' ≡ at + length (w ++ c ∷ w') = omega arith in
    rw (i.1, step s at room i.0 e (w' ++ l) g d₁, g', y)
