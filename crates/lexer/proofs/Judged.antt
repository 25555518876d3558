-- Laws of the judgements, one for each way out of the code.
use mathlib.Core.Path.{◌≡◌, refl, ap, sym, ◌∙◌}
use mathlib.Core.Bool.{Bool, true, false, cond, and-eq-true_iff}
use mathlib.Core.List.{List, [], ◌∷◌}
use mathlib.Core.Option.{Option, some, none}
use Prim.Native.Nat.{ℕ, zero, suc, min, ◌+◌, ◌-◌, ◌*◌, ◌≤◌, ◌<◌}
use native.Mathlib.Nat.{le_trans}
use native.Mathlib.Omega.{arith}
use borrow.Author.Tests.{le-leb, lt-leb, le-ltb, lt-ltb, eq-eqb, ne_eqb, leb-true}
use Rattle.std.proofs.lemmas.Bool.{eqb-true}
use lib.Dec.{leb, eqb}
use lib.IntN.{pos, neg_ℤ}
use lib.ListN.{length, get_or, take, drop, length-drop}
use lib.Seq.{slice, length-slice, take-length}
use Rattle.std.specs.Prelude.{Some, None, Result, Ok, Err, ◌==◌}
use Rattle.language.specs.Bytes.{bytes, same_bytes}
use Rattle.language.specs.Objects.{Obj, symbol}
use Rattle.language.specs.Words.{Op, ops}
use Rattle.language.specs.Forms.{Form, word, name, select, select_right, op}
use Rattle.language.specs.Tokens.{span, is_digit, is_letter, size_at}
use Rattle.language.specs.Reading.{word_at}
use Rattle.language.specs.Judging.{Judged, is, is_not, on_judged, all, judge_word, value_from, value_of, leading_zero, ranged, judge_integer, judge_negative, judge_atom, find_op, is_selector, judge_selector, word_form, judge_part, judge_name, refusal_of}
use Rattle.language.specs.declared.Val.{Val}
use Rattle.language.specs.declared.refusals.Refusal.{Refusal}
use Rattle.language.specs.declared.refusals.Refusal.TheVariants.{NotInGrammar, BadNumber, LongWord}
use Rattle.language.specs.Refusals.{refusal}
use Rattle.lexer.specs.declared.Class.{Class}
use Rattle.lexer.specs.declared.Class.TheVariants.{Symbol, Name}
use Rattle.lexer.specs.declared.Part.{Part}
use Rattle.lexer.specs.declared.Part.TheVariants as P
use Rattle.lexer.specs.Classes.{test_of}
use Rattle.lexer.specs.Readings.{WordSized}
use Rattle.packing.specs.Packing.{packed}
use Rattle.lexer.specs.declared.vocabulary.Primitive.{Primitive}
use Rattle.lexer.specs.Vocabulary.{primitive_of, found}
use Rattle.lexer.specs.Judgements.{atom_judged, form_judged, selector_judged, part_judged, name_judged, judge_symbol, judge_plain, WordJudged}
use Rattle.packing.proofs.Slices.{slice_first}
use Rattle.lexer.proofs.Sizes.{within}
use Rattle.lexer.proofs.Values.{value_grows}
use Rattle.lexer.proofs.Words.{same_not}

-- a word by its length and its class
module _ (class : Class) (w : List ℕ) where
  pub word_long : 12 < length w → WordJudged (judge_word (test_of class) w) w (Err LongWord)
  unfolding judge_word
  word_long h = rw (lt-leb (length w) 12 h)

  module _ {t : Bool} (short : length w ≤ 12) (t-is : t ≡ all (test_of class) w) where
    pub word_mixed : t ≡ false → WordJudged (judge_word (test_of class) w) w (Err NotInGrammar)
    unfolding judge_word
    word_mixed h = rw (le-leb (length w) 12 short, sym t-is ∙ h)

    pub word_good : t ≡ true → WordJudged (judge_word (test_of class) w) w (Ok tt)
    unfolding judge_word
    word_good h = rw (le-leb (length w) 12 short, sym t-is ∙ h) (refl, refl, short)

-- numbers without a sign
module _ (w : List ℕ) {t : Bool} (t-is : t ≡ all is_digit w) where
  pub integer_mixed : t ≡ false → Err NotInGrammar ≡ atom_judged (judge_integer w)
  unfolding judge_integer
  integer_mixed h = rw (sym t-is ∙ h)

  module _ {z : Bool} (digits : t ≡ true) (zero_is : z ≡ leading_zero w) where
    pub integer_zero : z ≡ true → Err BadNumber ≡ atom_judged (judge_integer w)
    unfolding judge_integer
    integer_zero h = rw (sym t-is ∙ digits, sym zero_is ∙ h)

    pub integer_large : {v : ℕ} → z ≡ false → v ≡ min (value_of w) 2147483649 → 2147483647 < v → Err BadNumber ≡ atom_judged (judge_integer w)
    unfolding judge_integer
    integer_large h v-is l = rw (sym t-is ∙ digits, sym zero_is ∙ h, le-ltb (value_of w) 2147483648 (omega arith))

    pub integer_good : {v : ℕ} → z ≡ false → v ≡ min (value_of w) 2147483649 → v ≤ 2147483647 → Ok (record { tag = 0; word = v }) ≡ atom_judged (judge_integer w)
    unfolding judge_integer
    integer_good {v} h v-is l =
        let same : v ≡ value_of w = omega arith in
        rw (sym t-is ∙ digits, sym zero_is ∙ h, lt-ltb (value_of w) 2147483648 (omega arith), same)

-- the first byte of a word that has one
pub first_is : (w : List ℕ) → 1 ≤ length w → w ≡ get_or w 0 0 ∷ drop 1 w
first_is [] h = absurd (omega arith)
first_is (b ∷ w) h = refl

-- numbers behind a minus
negative_is : (w : List ℕ) (b : ℕ) (ds : List ℕ) → w ≡ b ∷ ds → judge_negative w ≡ cond (all is_digit w) (cond (eqb b 48) (is_not 8) (ranged (neg_ℤ (pos (value_of w))))) (is_not 6)
unfolding judge_negative
negative_is w b ds e = rw e

all_first : (P : ℕ → Bool) (w : List ℕ) (b : ℕ) (ds : List ℕ) → w ≡ b ∷ ds → all P w ≡ true → P b ≡ true
all_first P w b ds e h = ((and-eq-true_iff (P b) (all P ds)).0 (rw e at h)).0

value_some : (w : List ℕ) (b : ℕ) (ds : List ℕ) → w ≡ b ∷ ds → all is_digit w ≡ true → (b ≡ 48 → ⊥) → 1 ≤ value_of w
unfolding value_from
value_some w b ds e h n =
    let d = ((and-eq-true_iff (leb 48 b) (leb b 57)).0 (all_first is_digit w b ds e h)).0 in
    let l = leb-true 48 b d in
    let m : 48 < b = le_not_eq b l n in
    let g = value_grows (0 * 10 + (b - 48)) ds in
    rw e (le_trans (omega arith) g)
  where
    le_not_eq : (b : ℕ) → 48 ≤ b → (b ≡ 48 → ⊥) → 48 < b
    le_not_eq b l n = omega arith

negative_val : (v : ℕ) → 1 ≤ v → v ≤ 2147483648 → Ok (record { tag = 1; word = v - 1 }) ≡ atom_judged (ranged (neg_ℤ (pos v)))
negative_val zero h l = absurd (omega arith)
negative_val (suc n) h l = let e : suc n - 1 ≡ n = omega arith in rw (e, lt-ltb n 2147483648 (omega arith))

negative_over : (v : ℕ) → 2147483648 < v → Err BadNumber ≡ atom_judged (ranged (neg_ℤ (pos v)))
negative_over zero h = absurd (omega arith)
negative_over (suc n) h = rw (le-ltb n 2147483648 (omega arith))

-- an `r` and nothing more
pub r_long : (w : List ℕ) → (length w ≡ 1 → ⊥) → false ≡ same_bytes w (bytes "r")
r_long w h = sym (same_not w (bytes "r") h)

pub negative_none : (w : List ℕ) → length w < 1 → Err NotInGrammar ≡ atom_judged (judge_negative w)
unfolding judge_negative
negative_none [] h = refl
negative_none (b ∷ w) h = absurd (omega arith)

module _ (w : List ℕ) (some : 1 ≤ length w) {t : Bool} (t-is : t ≡ all is_digit w) where
  judged_is : judge_negative w ≡ cond (all is_digit w) (cond (eqb (get_or w 0 0) 48) (is_not 8) (ranged (neg_ℤ (pos (value_of w))))) (is_not 6)
  judged_is = negative_is w (get_or w 0 0) (drop 1 w) (first_is w some)

  pub negative_mixed : t ≡ false → Err NotInGrammar ≡ atom_judged (judge_negative w)
  negative_mixed h = rw (judged_is, sym t-is ∙ h)

  module _ (digits : t ≡ true) where
    pub negative_zero : get_or w 0 0 ≡ 48 → Err BadNumber ≡ atom_judged (judge_negative w)
    negative_zero h = rw (judged_is, sym t-is ∙ digits, eq-eqb (get_or w 0 0) 48 h)

    module _ {v : ℕ} (zero-not : get_or w 0 0 ≡ 48 → ⊥) (v-is : v ≡ min (value_of w) 2147483649) where
      positive : 1 ≤ value_of w
      positive = value_some w (get_or w 0 0) (drop 1 w) (first_is w some) (sym t-is ∙ digits) zero-not

      pub negative_large : 2147483648 < v → Err BadNumber ≡ atom_judged (judge_negative w)
      negative_large l = rw (judged_is, sym t-is ∙ digits, ne_eqb (get_or w 0 0) 48 zero-not) (negative_over (value_of w) (omega arith))

      pub negative_some : v ≤ 2147483648 → 1 ≤ v
      negative_some l = let p = positive in omega arith

      pub negative_good : v ≤ 2147483648 → Ok (record { tag = 1; word = v - 1 }) ≡ atom_judged (judge_negative w)
      negative_good l =
          let p = positive in
          let same : v ≡ value_of w = omega arith in
          rw (judged_is, sym t-is ∙ digits, ne_eqb (get_or w 0 0) 48 zero-not, same) (negative_val (value_of w) p (omega arith))

-- a word that is refused, and one that stands
refused : {B C : Type 0} (told : Judged B → Result C Refusal) → ((n : ℕ) → told (is_not n) ≡ Err (refusal n)) → (J : Judged (List ℕ)) (w : List ℕ) (e : Refusal) (k : List ℕ → Judged B) → WordJudged J w (Err e) → Err e ≡ told (on_judged J k)
refused told refuses (is v) w e k h = let z = h.0 in cc
refused told refuses (is_not n) w e k h = let q : e ≡ refusal n = cc in rw q (sym (refuses n))

stands : {B : Type 0} (J : Judged (List ℕ)) (w : List ℕ) (k : List ℕ → Judged B) → WordJudged J w (Ok tt) → on_judged J k ≡ k w
stands (is v) w k h = ap k h.1
stands (is_not m) w k h = cc

module _ (w : List ℕ) where
  pub symbol_refused : {e : Refusal} → WordJudged (judge_word (test_of Symbol) w) w (Err e) → Err e ≡ atom_judged (judge_symbol w)
  unfolding judge_symbol
  symbol_refused {e} h = refused atom_judged (λ n. refl) (judge_word (test_of Symbol) w) w e (λ v. is (symbol v)) h

  pub symbol_good : {v : ℕ} → WordJudged (judge_word (test_of Symbol) w) w (Ok tt) → v ≡ packed w → Ok (record { tag = 2; word = v }) ≡ atom_judged (judge_symbol w)
  unfolding judge_symbol
  symbol_good {v} h e = rw e (ap atom_judged (sym (stands (judge_word (test_of Symbol) w) w (λ v. is (symbol v)) h)))

  pub plain_refused : {e : Refusal} → WordJudged (judge_word (test_of Name) w) w (Err e) → Err e ≡ part_judged (judge_plain w)
  unfolding judge_plain
  plain_refused {e} h = refused part_judged (λ n. refl) (judge_word (test_of Name) w) w e (λ v. is (word_form v)) h

-- a word of the table, or a name
form_found : (f : Option Op) (w : List ℕ) (p : Primitive) → Some p ≡ found f → Ok (P.Primitive p) ≡ form_judged (elim f as (λ (u : Option Op). Form) [ some o ↦ word (op o) | none ↦ name w ])
form_found (some o) w p e = let q : p ≡ primitive_of o = cc in rw q
form_found none w p e = cc

form_name : (f : Option Op) (w : List ℕ) {v : ℕ} → None ≡ found f → v ≡ packed w → Ok (P.Name v) ≡ form_judged (elim f as (λ (u : Option Op). Form) [ some o ↦ word (op o) | none ↦ name w ])
form_name (some o) w e p = cc
form_name none w e p = rw p

module _ (w : List ℕ) (judged : WordJudged (judge_word (test_of Name) w) w (Ok tt)) where
  pub plain_primitive : {p : Primitive} → Some p ≡ found (find_op ops w) → Ok (P.Primitive p) ≡ part_judged (judge_plain w)
  unfolding judge_plain word_form
  plain_primitive {p} h = form_found (find_op ops w) w p h ∙ ap part_judged (sym (stands (judge_word (test_of Name) w) w (λ v. is (word_form v)) judged))

  pub plain_name : {v : ℕ} → None ≡ found (find_op ops w) → v ≡ packed w → Ok (P.Name v) ≡ part_judged (judge_plain w)
  unfolding judge_plain word_form
  plain_name h e = form_name (find_op ops w) w h e ∙ ap part_judged (sym (stands (judge_word (test_of Name) w) w (λ v. is (word_form v)) judged))

-- a defined name
name_or : Option Op → List ℕ → Judged (List ℕ)
name_or f v = elim f as (λ (u : Option Op). Judged (List ℕ)) [ some o ↦ is_not 6 | none ↦ is v ]

name_found : (f : Option Op) (w : List ℕ) (p : Primitive) → Some p ≡ found f → Err NotInGrammar ≡ name_judged (name_or f w)
unfolding name_or
name_found (some o) w p e = refl
name_found none w p e = cc

name_new : (f : Option Op) (w : List ℕ) {v : ℕ} → None ≡ found f → v ≡ packed w → Ok v ≡ name_judged (name_or f w)
unfolding name_or
name_new (some o) w e p = cc
name_new none w e p = rw p

name_is : (w : List ℕ) (b : ℕ) (ds : List ℕ) → w ≡ b ∷ ds → judge_name w ≡ cond (is_letter b) (on_judged (judge_word (test_of Name) w) (λ v. name_or (find_op ops v) v)) (is_not 6)
unfolding judge_name name_or
name_is w b ds e = rw e

pub name_none : (w : List ℕ) → length w < 1 → Err NotInGrammar ≡ name_judged (judge_name w)
unfolding judge_name
name_none [] h = refl
name_none (b ∷ w) h = absurd (omega arith)

module _ (w : List ℕ) {t : Bool} (some : 1 ≤ length w) (letter : t ≡ is_letter (get_or w 0 0)) where
  pub name_other : t ≡ false → Err NotInGrammar ≡ name_judged (judge_name w)
  name_other h = rw (name_is w (get_or w 0 0) (drop 1 w) (first_is w some), sym letter ∙ h)

  name_word : t ≡ true → judge_name w ≡ on_judged (judge_word (test_of Name) w) (λ v. name_or (find_op ops v) v)
  name_word h = rw (name_is w (get_or w 0 0) (drop 1 w) (first_is w some), sym letter ∙ h)

  module _ (is-letter : t ≡ true) where
    pub name_refused : {e : Refusal} → WordJudged (judge_word (test_of Name) w) w (Err e) → Err e ≡ name_judged (judge_name w)
    name_refused {e} h = rw (name_word is-letter) (refused name_judged (λ n. refl) (judge_word (test_of Name) w) w e (λ v. name_or (find_op ops v) v) h)

    module _ (judged : WordJudged (judge_word (test_of Name) w) w (Ok tt)) where
      pub name_primitive : {p : Primitive} → Some p ≡ found (find_op ops w) → Err NotInGrammar ≡ name_judged (judge_name w)
      name_primitive {p} h = name_found (find_op ops w) w p h ∙ ap name_judged (sym (name_word is-letter ∙ stands (judge_word (test_of Name) w) w (λ v. name_or (find_op ops v) v) judged))

      pub name_good : {v : ℕ} → None ≡ found (find_op ops w) → v ≡ packed w → Ok v ≡ name_judged (judge_name w)
      name_good h e = name_new (find_op ops w) w h e ∙ ap name_judged (sym (name_word is-letter ∙ stands (judge_word (test_of Name) w) w (λ v. name_or (find_op ops v) v) judged))

-- ---- where an object or a part may stand, by the first byte: a number, a word, or all else
pub record ByFirst {B R : Type 0} (told : Judged B → R) (judge number word : List ℕ → Judged B) (other : ℕ → List ℕ → Judged B) : Type 0 where
  none_is : judge [] ≡ is_not 6
  some_is : (w : List ℕ) (b : ℕ) (ds : List ℕ) → w ≡ b ∷ ds → judge w ≡ cond (is_digit b) (number w) (cond (is_letter b) (word w) (other b ds))

abbrev atom_else : ℕ → List ℕ → Judged Obj
atom_else b ds = cond (eqb b 45) (judge_negative ds) (is_not 6)

pub atoms : ByFirst atom_judged judge_atom judge_integer judge_symbol atom_else
unfolding judge_atom judge_symbol
atoms = record { none_is = refl; some_is = λ w b ds e. rw e }

pub parts : ByFirst part_judged judge_part judge_selector judge_plain (λ b ds. is_not 6)
unfolding judge_part judge_plain
parts = record { none_is = refl; some_is = λ w b ds e. rw e }

module _ {B R : Type 0} {told : Judged B → R} {judge number word : List ℕ → Judged B} {other : ℕ → List ℕ → Judged B} (first : ByFirst told judge number word other) (w : List ℕ) where
  pub first_none : {r : R} → length w < 1 → r ≡ told (is_not 6) → r ≡ told (judge w)
  first_none {r} h e = go w h
    where
      go : (w : List ℕ) → length w < 1 → r ≡ told (judge w)
      go [] h = rw first.none_is e
      go (b ∷ w) h = absurd (omega arith)

  module _ {d : Bool} (some : 1 ≤ length w) (digit : d ≡ is_digit (get_or w 0 0)) where
    here : judge w ≡ cond d (number w) (cond (is_letter (get_or w 0 0)) (word w) (other (get_or w 0 0) (drop 1 w)))
    here = rw digit (first.some_is w (get_or w 0 0) (drop 1 w) (first_is w some))

    pub first_number : {r : R} → d ≡ true → r ≡ told (number w) → r ≡ told (judge w)
    first_number h e = rw (here, h) e

    module _ {l : Bool} (no_digit : d ≡ false) (letter : l ≡ is_letter (get_or w 0 0)) where
      pub first_word : {r : R} → l ≡ true → r ≡ told (word w) → r ≡ told (judge w)
      first_word h e = rw (here, no_digit, sym letter ∙ h) e

      pub first_other : {r : R} → l ≡ false → r ≡ told (other (get_or w 0 0) (drop 1 w)) → r ≡ told (judge w)
      first_other h e = rw (here, no_digit, sym letter ∙ h) e

-- what is no digit and no letter, where an object may stand: a minus or nothing that fits
module _ (b : ℕ) (ds : List ℕ) where
  pub other_not : (b ≡ 45 → ⊥) → Err NotInGrammar ≡ atom_judged (atom_else b ds)
  other_not m = rw (ne_eqb b 45 m)

  pub other_minus : {r : Result Val Refusal} {rest : List ℕ} → b ≡ 45 → rest ≡ ds → r ≡ atom_judged (judge_negative rest) → r ≡ atom_judged (atom_else b ds)
  other_minus m i e = rw (eq-eqb b 45 m, ← i) e

-- all behind the first byte
pub behind_first : (w : List ℕ) → take (length w - 1) (drop 1 w) ≡ drop 1 w
behind_first w = rw (← length-drop 1 w) (take-length (drop 1 w))

-- selectors
-- what the digits give as a part
abbrev pub selected : (ℕ → Part) → Result ℕ Refusal → Result Part Refusal
selected part (Ok k) = Ok (part k)
selected part (Err e) = Err e

by_rest : (a r s : Bool) (k : ℕ) → part_judged (cond a (cond s (is (word (select k))) (is_not 8)) (cond r (cond s (is (word (select_right k))) (is_not 8)) (is_not 6))) ≡ cond a (selected P.Select (cond s (Ok k) (Err BadNumber))) (cond r (selected P.SelectRight (cond s (Ok k) (Err BadNumber))) (Err NotInGrammar))
by_rest true r true k = refl
by_rest true r false k = refl
by_rest false true true k = refl
by_rest false true false k = refl
by_rest false false s k = refl

module _ (w : List ℕ) {n : ℕ} {ds rest : List ℕ} (n-is : n ≡ span is_digit w) (ds-is : ds ≡ take n w) (rest-is : rest ≡ drop n w) where
  selector_is : part_judged (judge_selector w) ≡ cond (same_bytes rest []) (selected P.Select (selector_judged ds)) (cond (same_bytes rest (bytes "r")) (selected P.SelectRight (selector_judged ds)) (Err NotInGrammar))
  unfolding judge_selector
  selector_is = rw (ds-is, rest-is, n-is) (by_rest (same_bytes (drop (span is_digit w) w) []) (same_bytes (drop (span is_digit w) w) (bytes "r")) (is_selector (take (span is_digit w) w)) (value_of (take (span is_digit w) w)))

  no_rest : {e : Bool} → e ≡ (length rest == 0) → e ≡ true → same_bytes rest [] ≡ true
  no_rest {e} e-is h = go rest (sym e-is ∙ h)
    where
      go : (l : List ℕ) → (length l == 0) ≡ true → same_bytes l [] ≡ true
      go [] h = refl
      go (b ∷ l) h = let e = eqb-true (length (b ∷ l)) 0 h in absurd (omega arith)

  some_rest : {e : Bool} → e ≡ (length rest == 0) → e ≡ false → same_bytes rest [] ≡ false
  some_rest {e} e-is h = go rest (sym e-is ∙ h)
    where
      go : (l : List ℕ) → (length l == 0) ≡ false → same_bytes l [] ≡ false
      go [] h = cc
      go (b ∷ l) h = refl

  pub select_is : {e : Bool} {j : Result ℕ Refusal} → e ≡ (length rest == 0) → e ≡ true → j ≡ selector_judged ds → selected P.Select j ≡ part_judged (judge_selector w)
  select_is e-is h judged = rw (selector_is, no_rest e-is h, ← judged)

  module _ {e r : Bool} (e-is : e ≡ (length rest == 0)) (more : e ≡ false) (r-is : r ≡ same_bytes rest (bytes "r")) where
    pub right_is : {j : Result ℕ Refusal} → r ≡ true → j ≡ selector_judged ds → selected P.SelectRight j ≡ part_judged (judge_selector w)
    right_is h judged = rw (selector_is, some_rest e-is more, sym r-is ∙ h, ← judged)

    pub selector_mixed : r ≡ false → Err NotInGrammar ≡ part_judged (judge_selector w)
    selector_mixed h = rw (selector_is, some_rest e-is more, sym r-is ∙ h)

-- where nothing that stands there fits
refusal_is : (w : List ℕ) (b : ℕ) (ds : List ℕ) → w ≡ b ∷ ds → refusal_of w ≡ cond (is_letter b) (cond (leb (length w) 12) 6 9) 6
unfolding refusal_of
refusal_is w b ds e = rw e

refusal_other : (w : List ℕ) → is_letter (get_or w 0 0) ≡ false → refusal_of w ≡ 6
unfolding refusal_of
refusal_other [] h = refl
refusal_other (b ∷ w) h = rw h

first_byte : (P : ℕ → Bool) → P 0 ≡ false → (s : List ℕ) (p q : ℕ) → P (get_or s p 0) ≡ false → P (get_or (slice p q s) 0 0) ≡ false
first_byte P z [] zero zero h = z
first_byte P z [] zero (suc q) h = z
first_byte P z [] (suc p) zero h = z
first_byte P z [] (suc p) (suc q) h = z
first_byte P z (b ∷ s) zero zero h = z
first_byte P z (b ∷ s) zero (suc q) h = h
first_byte P z (b ∷ s) (suc p) zero h = z
first_byte P z (b ∷ s) (suc p) (suc q) h = first_byte P z s p q h

module _ (s : List ℕ) (p : ℕ) {b : ℕ} {t : Bool} (at : b ≡ get_or s p 0) (letter : t ≡ is_letter b) where
  pub refusal_mark : t ≡ false → NotInGrammar ≡ refusal (refusal_of (word_at s p))
  refusal_mark h = rw (refusal_other (word_at s p) (first_byte is_letter refl s p (p + size_at s p) (rw (← at) (sym letter ∙ h))))

  module _ {n : ℕ} (is-letter : t ≡ true) (sized : WordSized s p n) where
    inside : is_letter (get_or s p 0) ≡ true
    inside = rw (← at) (sym letter ∙ is-letter)

    refusal_word : refusal_of (word_at s p) ≡ cond (leb n 12) 6 9
    refusal_word =
        let i = within is_letter refl s p inside in
        let e = sized.is in
        let lo = sized.some in
        let hi = sized.high in
        let k : length (word_at s p) ≡ n = length-slice p (p + size_at s p) s (omega arith) ∙ omega arith in
        rw (refusal_is (word_at s p) (get_or s p 0) (slice (p + 1) (p + size_at s p) s) (slice_first s p (p + size_at s p) (omega arith) (omega arith)), inside, k)

    pub refusal_long : 12 < n → LongWord ≡ refusal (refusal_of (word_at s p))
    refusal_long h = rw (refusal_word, lt-leb n 12 h)

    pub refusal_short : n ≤ 12 → NotInGrammar ≡ refusal (refusal_of (word_at s p))
    refusal_short h = rw (refusal_word, le-leb n 12 h)
