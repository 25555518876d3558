-- What is written of a selector, a primitive word or a name is judged to be it.
use mathlib.Core.Path.{◌≡◌, refl, ap, sym, ◌∙◌}
use mathlib.Core.Bool.{true, false, and-eq-true_iff, true≢false}
use mathlib.Core.List.{List, [], ◌∷◌, ◌++◌, append-nil}
use mathlib.Core.Option.{Option, some, none}
use Prim.Native.Nat.{ℕ, ◌≤◌, ◌<◌}
use native.Mathlib.Omega.{arith}
use borrow.Author.Tests.{ne_eqb, le-leb}
use lib.Dec.{eqb, lit≤}
use lib.ListN.{length, get_or, drop, length-append}
use lib.Seq.{take-append_seam, drop-append_seam}
use Rattle.language.specs.Words.{Op, entry, ops, id, tl, atom, null, eq, lt, add, sub, mul, div, and, or, not, apndl, tlr, reverse, rotl, rotr, apndr, distl, distr, trans}
use Rattle.language.specs.Words as words
use Rattle.language.specs.Forms.{Form, word, name, Word, select, select_right, op}
use Rattle.language.specs.Tokens.{is_blank, is_digit, is_lower, is_word_byte, span, size_at}
use Rattle.language.specs.Judging.{all, is_name_byte, is, value_of, is_selector, find_op, judge_selector, word_form, judge_part, judge_name, on_judged}
use Rattle.language.specs.Writing.{decimal, write_word}
use Rattle.language.specs.Accepted.{IsName, IsWord}
use Rattle.theorems.proofs.Texts.{all_cons, all_append, all_weaken, span_all, span_none, span-nil, lower_no_digit, lower_letter, lower_name, name_word, or_right, size_word}
use Rattle.theorems.proofs.Decimals.{decimal_digits, decimal_value, decimal_long, decimal-zero}
use Rattle.theorems.proofs.Atoms.{word_judged}

-- ---- words of letters

-- a word as names are spelled, and what the table has for it
abbrev Spelled : List ℕ → Option Op → Type 0
Spelled [] r = ⊥
Spelled (b ∷ w) r = (is_lower b ≡ true) × (all is_name_byte w ≡ true) × (length (b ∷ w) ≤ 12) × (find_op ops (b ∷ w) ≡ r)

-- computed at each word of the table
op_spelled : (o : Op) → Spelled (entry o).spelled (some o)
op_spelled id = (refl, refl, lit≤ tt, refl)
op_spelled tl = (refl, refl, lit≤ tt, refl)
op_spelled atom = (refl, refl, lit≤ tt, refl)
op_spelled null = (refl, refl, lit≤ tt, refl)
op_spelled eq = (refl, refl, lit≤ tt, refl)
op_spelled lt = (refl, refl, lit≤ tt, refl)
op_spelled words.length = (refl, refl, lit≤ tt, refl)
op_spelled add = (refl, refl, lit≤ tt, refl)
op_spelled sub = (refl, refl, lit≤ tt, refl)
op_spelled mul = (refl, refl, lit≤ tt, refl)
op_spelled div = (refl, refl, lit≤ tt, refl)
op_spelled and = (refl, refl, lit≤ tt, refl)
op_spelled or = (refl, refl, lit≤ tt, refl)
op_spelled not = (refl, refl, lit≤ tt, refl)
op_spelled apndl = (refl, refl, lit≤ tt, refl)
op_spelled tlr = (refl, refl, lit≤ tt, refl)
op_spelled reverse = (refl, refl, lit≤ tt, refl)
op_spelled rotl = (refl, refl, lit≤ tt, refl)
op_spelled rotr = (refl, refl, lit≤ tt, refl)
op_spelled apndr = (refl, refl, lit≤ tt, refl)
op_spelled distl = (refl, refl, lit≤ tt, refl)
op_spelled distr = (refl, refl, lit≤ tt, refl)
op_spelled trans = (refl, refl, lit≤ tt, refl)

name_spelled : (w : List ℕ) → IsName w → Spelled w none
name_spelled [] h = absurd h
name_spelled (b ∷ w) h = h

spelled_bytes : (w : List ℕ) (r : Option Op) → Spelled w r → all is_name_byte w ≡ true
spelled_bytes [] r h = absurd h
spelled_bytes (b ∷ w) r h = all_cons is_name_byte b w (lower_name b h.0) h.1

spelled_part : (w : List ℕ) (r : Option Op) → Spelled w r → judge_part w ≡ is (word_form w)
unfolding judge_part
spelled_part [] r h = absurd h
spelled_part (b ∷ w) r h = rw (lower_no_digit b h.0, lower_letter b h.0, word_judged is_name_byte (b ∷ w) (spelled_bytes (b ∷ w) r h) h.2)

spelled_op : (w : List ℕ) (o : Op) → Spelled w (some o) → word_form w ≡ word (op o)
unfolding word_form
spelled_op [] o h = absurd h
spelled_op (b ∷ w) o h = rw (h.3, word_form)

spelled_name : (w : List ℕ) → Spelled w none → word_form w ≡ name w
unfolding word_form
spelled_name [] h = absurd h
spelled_name (b ∷ w) h = rw (h.3, word_form)

pub name_defined : (w : List ℕ) → IsName w → judge_name w ≡ is w
unfolding judge_name
name_defined [] h = absurd h
name_defined (b ∷ w) h = rw (lower_letter b h.0, word_judged is_name_byte (b ∷ w) (spelled_bytes (b ∷ w) none h) h.2, on_judged, h.3)

-- ---- selectors

selects : (ds : List ℕ) → 0 < length ds → (get_or ds 0 0 ≡ 48 → ⊥) → value_of ds ≤ 255 → is_selector ds ≡ true
selects [] l z h = absurd (omega arith)
selects (b ∷ ds) l z h = rw (ne_eqb b 48 z) (le-leb (value_of (b ∷ ds)) 255 h)

decimal_selects : (k : ℕ) → 1 ≤ k → k ≤ 255 → is_selector (decimal k) ≡ true
decimal_selects k l h = selects (decimal k) (decimal_long k) (λ e. omega (arith, (decimal-zero k e).0)) (omega (arith, decimal_value k))

module _ (ds : List ℕ) (digits : all is_digit ds ≡ true) (selected : is_selector ds ≡ true) where
  span_digits : (r : List ℕ) → span is_digit r ≡ 0 → span is_digit (ds ++ r) ≡ length ds
  span_digits r h = omega (arith, span_all is_digit ds r digits)

  left_judged : judge_selector (ds ++ []) ≡ is (word (select (value_of ds)))
  unfolding judge_selector
  left_judged = rw (span_digits [] (span-nil is_digit), take-append_seam ds [], drop-append_seam ds [], selected)

  right_judged : judge_selector (ds ++ 114 ∷ []) ≡ is (word (select_right (value_of ds)))
  unfolding judge_selector
  right_judged = rw (span_digits (114 ∷ []) (span_none is_digit 114 [] refl), take-append_seam ds (114 ∷ []), drop-append_seam ds (114 ∷ []), selected)

digit_part : (ds r : List ℕ) → all is_digit ds ≡ true → 0 < length ds → judge_part (ds ++ r) ≡ judge_selector (ds ++ r)
unfolding judge_part
digit_part [] r h n = absurd (omega arith)
digit_part (b ∷ ds) r h n = rw ((and-eq-true_iff (is_digit b) (all is_digit ds)).0 h).0

-- ---- what is written

-- A word or name: its bytes, how it begins, and what it is judged to be.
pub record Plain (w : List ℕ) (f : Form) : Type 0 where
  pub bytes : all is_name_byte w ≡ true
  pub long : 0 < length w
  pub judged : judge_part w ≡ is f

-- digits and lower case letters are no blank and no mark
pub name_byte_no : (b c : ℕ) → is_name_byte b ≡ true → is_name_byte c ≡ false → eqb b c ≡ false
name_byte_no b c h n = ne_eqb b c (λ e. true≢false (sym h ∙ ap is_name_byte e ∙ n))

pub name_byte_no_blank : (b : ℕ) → is_name_byte b ≡ true → is_blank b ≡ false
name_byte_no_blank b h = rw (name_byte_no b 32 h refl, name_byte_no b 10 h refl)

pub plain_begins : (w : List ℕ) (f : Form) → Plain w f → (b : ℕ) × (a : List ℕ) × (w ≡ b ∷ a) × (is_name_byte b ≡ true)
plain_begins [] f g = absurd (omega (arith, g.long))
plain_begins (b ∷ a) f g = (b, a, refl, ((and-eq-true_iff (is_name_byte b) (all is_name_byte a)).0 g.bytes).0)

pub plain_size : (s : List ℕ) (p : ℕ) (l w : List ℕ) (f : Form) → span is_word_byte l ≡ 0 → Plain w f → drop p s ≡ w ++ l → size_at s p ≡ length w
plain_size s p l w f e g d = size_word s p l e w d (all_weaken is_name_byte is_word_byte name_word w g.bytes) g.long

spelled_long : (w : List ℕ) (r : Option Op) → Spelled w r → 0 < length w
spelled_long [] r h = absurd h
spelled_long (b ∷ w) r h = omega arith

digit_name : (b : ℕ) → is_digit b ≡ true → is_name_byte b ≡ true
digit_name b h = or_right (is_lower b) (is_digit b) h

pub word_plain : (w : Word) → IsWord w → Plain (write_word w) (word w)
unfolding write_word
word_plain (select k) h =
    let ds = decimal k in
    let a = decimal_digits k in
    let j = digit_part ds [] a (decimal_long k) ∙ left_judged ds a (decimal_selects k h.0 h.1) in
    record { bytes = all_weaken is_digit is_name_byte digit_name ds a; long = decimal_long k; judged = rw (append-nil ds, decimal_value k) at j }
word_plain (select_right k) h =
    let ds = decimal k in
    let a = decimal_digits k in
    let j = digit_part ds (114 ∷ []) a (decimal_long k) ∙ right_judged ds a (decimal_selects k h.0 h.1) in
    record {
      bytes = all_append is_name_byte ds (114 ∷ []) (all_weaken is_digit is_name_byte digit_name ds a) refl;
      long = omega (arith, length-append ds (114 ∷ []));
      judged = rw (decimal_value k) at j;
    }
word_plain (op o) h =
    let w = (entry o).spelled in
    let g = op_spelled o in
    record { bytes = spelled_bytes w (some o) g; long = spelled_long w (some o) g; judged = spelled_part w (some o) g ∙ ap is (spelled_op w o g) }

pub name_plain : (w : List ℕ) → IsName w → Plain w (name w)
name_plain w h =
    let g = name_spelled w h in
    record { bytes = spelled_bytes w none g; long = spelled_long w none g; judged = spelled_part w none g ∙ ap is (spelled_name w g) }
