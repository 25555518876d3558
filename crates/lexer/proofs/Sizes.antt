-- Laws of `place_from`, `size_at` and `token_from`, one for each way out of the word reader.
use mathlib.Core.Path.{◌≡◌, refl, sym, ◌∙◌}
use mathlib.Core.Bool.{Bool, true, false, true≢false}
use mathlib.Core.List.{List, [], ◌∷◌}
use Prim.Native.Nat.{ℕ, zero, suc, max, ◌+◌, ◌-◌, ◌≤◌, ◌<◌}
use native.Mathlib.Numerals.{add-one}
use native.Mathlib.Omega.{arith}
use borrow.Author.Tests.{eq-eqb, ne_eqb, le-leb, lt-leb, ltb-true, ltb-false}
use Rattle.std.specs.Option.{MatchOption, unwrap_or}
use Rattle.std.specs.Prelude.{Option, Some, None}
use lib.Dec.{eqb, ltb}
use lib.ListN.{length, get_or, drop, drop_of_length-le}
use lib.Seq.{drop-cons}
use Rattle.language.specs.declared.Token.{Token}
use Rattle.language.specs.Tokens.{span, place_from, size, size_at, dash_size, token_from, is_word_byte, is_digit}
use Rattle.lexer.specs.declared.Class.{Class}
use Rattle.lexer.specs.declared.Class.TheVariants.{Blank, Word}
use Rattle.lexer.specs.Classes.{test_of}
use Rattle.lexer.specs.Readings.{Spanned, Skipped, WordSized, NextWord}
use Rattle.lexer.proofs.Spans.{span_none, span_until}

-- A byte that passes a test which 0 does not pass is within the text.
pub within : (P : ℕ → Bool) → P 0 ≡ false → (s : List ℕ) (p : ℕ) → P (get_or s p 0) ≡ true → p < length s
within P z [] p h = absurd (true≢false (sym h ∙ z))
within P z (b ∷ s) zero h = omega arith
within P z (b ∷ s) (suc p) h = let i = within P z s p h in omega arith

-- ---- where the bytes of a class end
spanned : (class : Class) (s : List ℕ) (from i : ℕ) → from ≤ i → i ≤ length s → ((k : ℕ) → from ≤ k → k < i → test_of class (get_or s k 0) ≡ true) → (i < length s → test_of class (get_or s i 0) ≡ false) → Spanned class s from i
spanned class s from i lo hi good bad = record { is = sym (span_until (test_of class) s from i lo hi good bad); low = lo; high = omega arith }

spanned_none : (class : Class) (s : List ℕ) (from : ℕ) → length s < from → Spanned class s from from
spanned_none class s from h = record { is = rw (drop_of_length-le s {i = from} (omega arith), span_none (test_of class) [] (omega arith)) (omega arith); low = omega arith; high = omega arith }

-- the first byte from `from` on that is not of the class, as the library finds it; or the end
pub spanned_to : (class : Class) (s : List ℕ) (from e : ℕ) (r : Option ℕ) → e ≡ max from (length s) → MatchOption r ((k : ℕ) → from ≤ k → k < length s → test_of class (get_or s k 0) ≡ true) (λ i. (from ≤ i) × (i < length s) × (test_of class (get_or s i 0) ≡ false) × ((k : ℕ) → from ≤ k → k < i → test_of class (get_or s k 0) ≡ true)) → Spanned class s from (unwrap_or r e)
spanned_to class s from e (Some i) m f = spanned class s from i f.0 (omega (arith, f.1)) f.3 (λ l. f.2)
spanned_to class s from e None m f = go (ltb (length s) from) refl
  where
    go : (t : Bool) → ltb (length s) from ≡ t → Spanned class s from e
    go true h =
        let l = ltb-true (length s) from h in
        let q : e ≡ from = omega arith in
        rw q (spanned_none class s from l)
    go false h =
        let l = ltb-false (length s) from h in
        let q : e ≡ length s = omega arith in
        rw q (spanned class s from (length s) l (omega arith) f (λ i. absurd (omega arith)))

pub skipped : (s : List ℕ) (at r : ℕ) → Spanned Blank s at r → Skipped s at r
unfolding place_from
skipped s at r h = record { is = h.is; low = h.low; high = h.high }

-- by the first byte
size_word : (b : ℕ) (w : List ℕ) → is_word_byte b ≡ true → size (b ∷ w) ≡ suc (span is_word_byte w)
unfolding size
size_word b w e = rw (e, size)

size_other : (b : ℕ) (w : List ℕ) → is_word_byte b ≡ false → eqb b 45 ≡ false → size (b ∷ w) ≡ 1
unfolding size
size_other b w e n = rw (e, n, size)

size_dash : (b : ℕ) (w : List ℕ) → b ≡ 45 → size (b ∷ w) ≡ dash_size w
unfolding size
size_dash b w e = rw e

dash_digits : (b : ℕ) (w : List ℕ) → is_digit b ≡ true → dash_size (b ∷ w) ≡ suc (suc (span is_word_byte w))
unfolding dash_size
dash_digits b w e = rw (e, dash_size)

dash_mark : (b : ℕ) (w : List ℕ) (t : Bool) → is_digit b ≡ false → eqb b 62 ≡ t → dash_size (b ∷ w) ≡ elim t [ true ↦ 2 | false ↦ 1 ]
unfolding dash_size
dash_mark b w t e n = rw (e, n, dash_size)

dash_other : (s : List ℕ) (q : ℕ) → is_digit (get_or s q 0) ≡ false → (get_or s q 0 ≡ 62 → ⊥) → dash_size (drop q s) ≡ 1
unfolding dash_size
dash_other [] zero d n = refl
dash_other [] (suc q) d n = refl
dash_other (b ∷ s) zero d n = dash_mark b s false d (ne_eqb b 62 n)
dash_other (b ∷ s) (suc q) d n = dash_other s q d n

module _ (s : List ℕ) (p : ℕ) where
  pub size_past : length s ≤ p → size_at s p ≡ 0
  unfolding size_at size
  size_past h = rw (drop_of_length-le s {i = p} h)

  at_dash : p < length s → get_or s p 0 ≡ 45 → size_at s p ≡ dash_size (drop (p + 1) s)
  unfolding size_at
  at_dash h e = rw (add-one, drop-cons s p 0) (size_dash (get_or s p 0) (drop (suc p) s) e)

  pub sized_past : length s ≤ p → WordSized s p 0
  sized_past h = record { is = sym (size_past h); some = omega arith; high = omega arith }

  pub sized_word : {t : Bool} {e : ℕ} → p < length s → t ≡ is_word_byte (get_or s p 0) → t ≡ true → Spanned Word s (p + 1) e → WordSized s p (e - p)
  unfolding size_at
  sized_word {t} {e} h is y r =
      let k = r.is in
      let z : size_at s p ≡ suc (span is_word_byte (drop (p + 1) s)) = rw (add-one, drop-cons s p 0) (size_word (get_or s p 0) (drop (suc p) s) (sym is ∙ y)) in
      record { is = omega (arith, k, z); some = omega (arith, r.low); high = omega (arith, r.low, r.high) }

  pub sized_other : {t : Bool} → p < length s → t ≡ is_word_byte (get_or s p 0) → t ≡ false → (get_or s p 0 ≡ 45 → ⊥) → WordSized s p 1
  unfolding size_at
  sized_other {t} h is n d = record { is = rw (drop-cons s p 0, size_other (get_or s p 0) (drop (suc p) s) (sym is ∙ n) (ne_eqb (get_or s p 0) 45 d)); some = omega arith; high = omega arith }

  module _ {t : Bool} {c : ℕ} (h : p < length s) (dash : get_or s p 0 ≡ 45) (at : c ≡ get_or s (p + 1) 0) (is : t ≡ is_digit c) where
    pub sized_number : {e : ℕ} → t ≡ true → Spanned Word s (p + 2) e → WordSized s p (e - p)
    sized_number {e} y r =
        let d : is_digit (get_or s (p + 1) 0) ≡ true = rw (← at) (sym is ∙ y) in
        let i = within is_digit refl s (p + 1) d in
        let k = r.is in
        let z : size_at s p ≡ suc (suc (span is_word_byte (drop (suc (p + 1)) s))) = at_dash h dash ∙ rw (drop-cons s (p + 1) 0 i) (dash_digits (get_or s (p + 1) 0) (drop (suc (p + 1)) s) d) in
        let m : suc (p + 1) ≡ p + 2 = omega arith in
        let z' = rw m at z in
        record { is = omega (arith, k, z'); some = omega (arith, r.low); high = omega (arith, r.low, r.high) }

    pub sized_arrow : t ≡ false → c ≡ 62 → WordSized s p 2
    sized_arrow n a =
        let i = within (λ (b : ℕ). eqb b 62) refl s (p + 1) (rw (← at) (eq-eqb c 62 a)) in
        let z : size_at s p ≡ 2 = at_dash h dash ∙ rw (drop-cons s (p + 1) 0 i) (dash_mark (get_or s (p + 1) 0) (drop (suc (p + 1)) s) true (rw (← at) (sym is ∙ n)) (rw (← at) (eq-eqb c 62 a))) in
        record { is = sym z; some = omega arith; high = omega arith }

    pub sized_dash : t ≡ false → (c ≡ 62 → ⊥) → WordSized s p 1
    sized_dash n a =
        record { is = sym (at_dash h dash ∙ dash_other s (p + 1) (rw (← at) (sym is ∙ n)) (λ z. a (at ∙ z))); some = omega arith; high = omega arith }

-- the next word, number or mark
module _ (s : List ℕ) (at p : ℕ) where
  token_none : length s ≤ place_from s at → Path Token (record { place = length s; length = 0 }) (token_from s at)
  unfolding token_from
  token_none h = rw (le-leb (length s) (place_from s at) h)

  token_some : place_from s at < length s → Path Token (record { place = place_from s at; length = size_at s (place_from s at) }) (token_from s at)
  unfolding token_from
  token_some h = rw (lt-leb (length s) (place_from s at) h)

  pub next_none : Skipped s at p → length s ≤ p → NextWord s at (record { place = length s; length = 0 })
  next_none k h =
      let e = k.is in
      let hi = k.high in
      record { is = token_none (rw (← e) h); place = λ i. omega arith; size = sym (size_past s (length s) (omega arith)); low = omega arith; some = omega arith; high = omega arith }

  pub next_some : {n : ℕ} → Skipped s at p → p < length s → WordSized s p n → NextWord s at (record { place = p; length = n })
  next_some {n} k h z =
      let e = k.is in
      let f = z.is in
      let lo = k.low in
      let hi = z.high in
      record { is = rw (f, e) (token_some (rw (← e) h)); place = λ i. e; size = f; low = omega arith; some = z.some; high = omega arith }
