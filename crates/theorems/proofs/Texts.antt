-- A text from a place on: the byte, the mark and the word that stand there; runs of bytes that pass a test.
use mathlib.Core.Path.{◌≡◌, refl, ap, sym, ◌∙◌}
use mathlib.Core.Bool.{Bool, true, false, ◌||◌, and-eq-true_iff}
use mathlib.Core.List.{List, [], ◌∷◌, ◌++◌}
use Prim.Native.Nat.{ℕ, zero, suc, ◌+◌, ◌≤◌, ◌<◌}
use native.Mathlib.Nat.{add-zero, zero-add, suc-add}
use native.Mathlib.Omega.{arith}
use borrow.Author.Tests.{eq-eqb, ne_eqb, le-leb, lt-leb, leb-true}
use lib.Dec.{leb}
use lib.ListN.{length, get_or, drop, take}
use lib.Seq.{slice, drop-drop, get_or-drop, drop-append_seam, take-append_seam, take-nil, drop-length}
use Rattle.language.specs.Tokens.{is_blank, is_digit, is_lower, is_upper, is_letter, is_word_byte, span, place_from, size, size_at, dash_size}
use Rattle.language.specs.Judging.{all, is_symbol_byte, is_name_byte, Judged, is}
use Rattle.language.specs.Reading.{Got, got, word_at, as_judged, mark}

-- ---- places

pub drop-take : (p n : ℕ) (s : List ℕ) → drop p (take (p + n) s) ≡ take n (drop p s)
drop-take zero n s = rw zero-add
drop-take (suc p) n [] = rw (suc-add, take-nil)
drop-take (suc p) n (b ∷ s) = rw suc-add (drop-take p n s)

module _ (s : List ℕ) (p : ℕ) where
  pub byte_here : (b : ℕ) (l : List ℕ) → drop p s ≡ b ∷ l → get_or s p 0 ≡ b
  byte_here b l e = rw add-zero at (sym (get_or-drop p s 0 0)) ∙ ap (λ (x : List ℕ). get_or x 0 0) e

  pub place_here : (b : ℕ) (l : List ℕ) → drop p s ≡ b ∷ l → is_blank b ≡ false → place_from s p ≡ p
  unfolding place_from span
  place_here b l e n = rw (e, n, span) (add-zero p)

  pub drop_past : (a l : List ℕ) → drop p s ≡ a ++ l → drop (p + length a) s ≡ l
  drop_past a l e = rw (← (drop-drop (length a) p s), e) (drop-append_seam a l)

  pub drop_one : (b : ℕ) (l : List ℕ) → drop p s ≡ b ∷ l → drop (p + 1) s ≡ l
  drop_one b l e = rw (← (drop-drop 1 p s), e)

  pub slice_here : (a l : List ℕ) → drop p s ≡ a ++ l → slice p (p + length a) s ≡ a
  slice_here a l e = drop-take p (length a) s ∙ rw e (take-append_seam a l)

pub place_end : (s : List ℕ) → place_from s (length s) ≡ length s
unfolding place_from span
place_end s = rw drop-length (add-zero (length s))

-- ---- runs

pub span_all : (test : ℕ → Bool) (a l : List ℕ) → all test a ≡ true → span test (a ++ l) ≡ length a + span test l
unfolding span
span_all test [] l h = omega arith
span_all test (b ∷ a) l h =
    let x = (and-eq-true_iff (test b) (all test a)).0 h in
    let i = span_all test a l x.1 in
    rw (x.0, span) (omega arith)

pub span-nil : (test : ℕ → Bool) → span test [] ≡ 0
unfolding span
span-nil test = refl

pub span_none : (test : ℕ → Bool) (b : ℕ) (l : List ℕ) → test b ≡ false → span test (b ∷ l) ≡ 0
unfolding span
span_none test b l h = rw (h, span)

pub all_weaken : (P Q : ℕ → Bool) → ((b : ℕ) → P b ≡ true → Q b ≡ true) → (a : List ℕ) → all P a ≡ true → all Q a ≡ true
all_weaken P Q f [] h = refl
all_weaken P Q f (b ∷ a) h = let x = (and-eq-true_iff (P b) (all P a)).0 h in rw (f b x.0) (all_weaken P Q f a x.1)

pub all_append : (P : ℕ → Bool) (a b : List ℕ) → all P a ≡ true → all P b ≡ true → all P (a ++ b) ≡ true
all_append P [] b h k = k
all_append P (x ∷ a) b h k = let y = (and-eq-true_iff (P x) (all P a)).0 h in rw y.0 (all_append P a b y.1 k)

pub all_cons : (P : ℕ → Bool) (b : ℕ) (a : List ℕ) → P b ≡ true → all P a ≡ true → all P (b ∷ a) ≡ true
all_cons P b a h k = rw h k

-- ---- letters and digits

pub digit_range : (b : ℕ) → is_digit b ≡ true → (48 ≤ b) × (b ≤ 57)
digit_range b h = let x = (and-eq-true_iff (leb 48 b) (leb b 57)).0 h in (leb-true 48 b x.0, leb-true b 57 x.1)

pub upper_range : (b : ℕ) → is_upper b ≡ true → (65 ≤ b) × (b ≤ 90)
upper_range b h = let x = (and-eq-true_iff (leb 65 b) (leb b 90)).0 h in (leb-true 65 b x.0, leb-true b 90 x.1)

pub lower_range : (b : ℕ) → is_lower b ≡ true → (97 ≤ b) × (b ≤ 122)
lower_range b h = let x = (and-eq-true_iff (leb 97 b) (leb b 122)).0 h in (leb-true 97 b x.0, leb-true b 122 x.1)

pub not_blank : (b : ℕ) → 48 ≤ b → is_blank b ≡ false
not_blank b h = rw (ne_eqb b 32 (omega arith), ne_eqb b 10 (omega arith))

pub above_no_digit : (b : ℕ) → 58 ≤ b → is_digit b ≡ false
above_no_digit b h = rw (le-leb 48 b (omega arith), lt-leb b 57 (omega arith))

pub upper_no_digit : (b : ℕ) → is_upper b ≡ true → is_digit b ≡ false
upper_no_digit b h = above_no_digit b (omega (arith, (upper_range b h).0))

pub lower_no_digit : (b : ℕ) → is_lower b ≡ true → is_digit b ≡ false
lower_no_digit b h = above_no_digit b (omega (arith, (lower_range b h).0))

pub or_left : (a b : Bool) → a ≡ true → (a || b) ≡ true
or_left a b h = rw h

pub or_right : (a b : Bool) → b ≡ true → (a || b) ≡ true
or_right true b h = refl
or_right false b h = h

pub or_cases : (a b c : Bool) → (a ≡ true → c ≡ true) → (b ≡ true → c ≡ true) → (a || b) ≡ true → c ≡ true
or_cases true b c f g h = f refl
or_cases false b c f g h = g h

pub lower_letter : (b : ℕ) → is_lower b ≡ true → is_letter b ≡ true
lower_letter b h = or_left (is_lower b) (is_upper b) h

pub upper_letter : (b : ℕ) → is_upper b ≡ true → is_letter b ≡ true
upper_letter b h = or_right (is_lower b) (is_upper b) h

pub digit_word : (b : ℕ) → is_digit b ≡ true → is_word_byte b ≡ true
digit_word b h = or_left (is_digit b) (is_letter b) h

pub letter_word : (b : ℕ) → is_letter b ≡ true → is_word_byte b ≡ true
letter_word b h = or_right (is_digit b) (is_letter b) h

pub symbol_word : (b : ℕ) → is_symbol_byte b ≡ true → is_word_byte b ≡ true
symbol_word b h = or_cases (is_upper b) (is_digit b) (is_word_byte b) (λ u. letter_word b (upper_letter b u)) (digit_word b) h

pub name_word : (b : ℕ) → is_name_byte b ≡ true → is_word_byte b ≡ true
name_word b h = or_cases (is_lower b) (is_digit b) (is_word_byte b) (λ u. letter_word b (lower_letter b u)) (digit_word b) h

pub upper_symbol : (b : ℕ) → is_upper b ≡ true → is_symbol_byte b ≡ true
upper_symbol b h = or_left (is_upper b) (is_digit b) h

pub lower_name : (b : ℕ) → is_lower b ≡ true → is_name_byte b ≡ true
lower_name b h = or_left (is_lower b) (is_digit b) h

-- ---- a word and what follows it

module _ (s : List ℕ) (p : ℕ) (l : List ℕ) (stops : span is_word_byte l ≡ 0) where
  pub size_word : (w : List ℕ) → drop p s ≡ w ++ l → all is_word_byte w ≡ true → 0 < length w → size_at s p ≡ length w
  unfolding size_at size
  size_word [] e h n = absurd (omega arith)
  size_word (b ∷ a) e h n =
      let x = (and-eq-true_iff (is_word_byte b) (all is_word_byte a)).0 h in
      rw (e, x.0, size, span_all is_word_byte a l x.1, stops) (omega arith)

  -- a minus and digits
  pub size_dash : (w : List ℕ) → drop p s ≡ 45 ∷ (w ++ l) → all is_digit w ≡ true → 0 < length w → size_at s p ≡ suc (length w)
  unfolding size_at size dash_size
  size_dash [] e h n = absurd (omega arith)
  size_dash (b ∷ a) e h n =
      let x = (and-eq-true_iff (is_digit b) (all is_digit a)).0 h in
      rw (e, x.0, dash_size, span_all is_word_byte a l (all_weaken is_digit is_word_byte digit_word a x.1), stops) (omega arith)

-- the word at a place is what is judged
pub judged_here : {A : Type 0} (judge : List ℕ → Judged A) (a : A) (s : List ℕ) (p : ℕ) (w l : List ℕ) →
    drop p s ≡ w ++ l → size_at s p ≡ length w → judge w ≡ is a → as_judged s p (judge (word_at s p)) ≡ got a (p + length w)
judged_here judge a s p w l e n j = rw (n, slice_here s p w l e, j, as_judged, n)

-- ---- marks

pub mark_here : {A : Type 0} (c : ℕ) (s : List ℕ) (e : ℕ) (rest : ℕ → Got A) (l : List ℕ) → drop e s ≡ c ∷ l → is_blank c ≡ false → mark c s e rest ≡ rest (e + 1)
unfolding mark
mark_here c s e rest l d n = rw (place_here s e c l d n, byte_here s e c l d, eq-eqb c c refl)
