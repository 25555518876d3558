-- What a word or number is judged to be is an atom, a part or a name of the language, and is written in no more bytes.
use Prim.Native.Nat.{ℕ, zero, suc, ◌+◌, ◌-◌, ◌*◌, ◌/◌, ◌%◌, ◌^◌, ◌≤◌, ◌<◌}
use mathlib.Core.Path.{◌≡◌, refl, sym, ap, ◌∙◌}
use mathlib.Core.Bool.{Bool, true, false, cond, ◌||◌, and-eq-true_iff}
use mathlib.Core.List.{List, [], ◌∷◌, ◌++◌}
use mathlib.Core.Option.{Option, some, none}
use native.Mathlib.Nat.{pow-suc, mul-le-mul_right}
use native.Mathlib.Omega.{arith}
use borrow.Author.Tests.{eqb-false, leb-true, leb-false}
use lib.Dec.{leb, eqb}
use lib.IntN.{ℤ, pos, neg_ℤ}
use lib.ListN.{length, take, drop, length-append, length-take, length-drop}
use Rattle.language.specs.Bytes.{bytes, same_bytes}
use Rattle.language.specs.Numbers.{one, in_range}
use Rattle.language.specs.Objects.{Obj, int, symbol}
use Rattle.language.specs.Words.{Op, entry, ops}
use Rattle.language.specs.Forms.{Form, word, name, op, is_chain}
use Rattle.language.specs.Tokens.{is_digit, is_lower, is_upper, is_letter, span}
use Rattle.language.specs.Judging.{Judged, is, is_not, on_judged, all, is_symbol_byte, is_name_byte, judge_word, value_from, value_of, leading_zero}
use Rattle.language.specs.Judging.{judge_integer, judge_negative, judge_atom, find_op, is_selector, judge_selector, word_form, judge_part, judge_name}
use Rattle.language.specs.Writing.{digits, decimal, write_integer, write_obj, write_word, write_form, marks_of_obj, marks_of}
use Rattle.language.specs.Accepted.{IsInteger, IsObj, IsName, IsForm}
use Rattle.language.proofs.Bytes.{same_bytes_is}
use Rattle.theorems.proofs.Texts.{digit_range, lower_no_digit, upper_no_digit}
use Rattle.theorems.proofs.Outcomes.{MeetsWord, meets_word, misspelled, out_of_range, too_long, word-cond}

-- ---- numbers

-- n digits write a number below 10 ^ n
value_from_lem : (v : ℕ) (ds : List ℕ) → all is_digit ds ≡ true → suc (value_from v ds) ≤ suc v * 10 ^ length ds
unfolding value_from
value_from_lem v [] h = omega arith
value_from_lem v (b ∷ ds) h =
    let x = (and-eq-true_iff (is_digit b) (all is_digit ds)).0 h in
    let r = digit_range b x.0 in
    let i = value_from_lem (v * 10 + (b - 48)) ds x.1 in
    let m : suc (v * 10 + (b - 48)) ≤ suc v * 10 = omega (arith, r.1) in
    let n = mul-le-mul_right (10 ^ length ds) m in
    rw (pow-suc 10 (length ds)) (omega arith)

pub value_bound : (ds : List ℕ) → all is_digit ds ≡ true → value_of ds < 10 ^ length ds
value_bound ds h = let i = value_from_lem 0 ds h in omega arith

-- a number below 10 ^ n has at most n digits
pub digits_few : (k v n : ℕ) → v < 10 ^ suc n → length (digits k v) ≤ suc n
unfolding digits
digits_few zero v n h = omega arith
digits_few (suc k) v n h = go (λ m g. digits_few k (v / 10) m g) n h (leb v 9) refl
  where
    go : ((m : ℕ) → v / 10 < 10 ^ suc m → length (digits k (v / 10)) ≤ suc m) → (n : ℕ) → v < 10 ^ suc n → (t : Bool) → leb v 9 ≡ t
        → length (cond t ((48 + v) ∷ []) (digits k (v / 10) ++ (48 + v % 10) ∷ [])) ≤ suc n
    go ih n h true e = omega arith
    go ih zero h false e = let x = leb-false v 9 e in absurd (omega arith)
    go ih (suc n) h false e = let p = pow-suc 10 (suc n) in let i = ih n (omega arith) in rw length-append (omega arith)

pub decimal_short : (b : ℕ) (ds : List ℕ) → all is_digit (b ∷ ds) ≡ true → length (decimal (value_of (b ∷ ds))) ≤ suc (length ds)
unfolding decimal
decimal_short b ds h = digits_few (value_of (b ∷ ds)) (value_of (b ∷ ds)) (length ds) (value_bound (b ∷ ds) h)

-- ---- where an object may stand

-- an atom that n bytes hold
pub record IsAtomIn (n : ℕ) (x : Obj) : Type 0 where
  pub is_obj : IsObj x
  pub marks : marks_of_obj x ≤ 0
  pub short : length (write_obj x) ≤ n

-- a word is taken as it stands
word_then : {A : Type 0} {R : A → Type 0} (test : ℕ → Bool) (w : List ℕ) (k : List ℕ → Judged A)
    → (all test w ≡ true → length w ≤ 12 → MeetsWord R (k w)) → MeetsWord R (on_judged (judge_word test w) k)
unfolding judge_word
word_then {A} {R} test w k f = go (leb (length w) 12) refl (all test w) refl
  where
    go : (t : Bool) → leb (length w) 12 ≡ t → (u : Bool) → all test w ≡ u → MeetsWord R (on_judged (cond t (cond u (is w) (is_not 6)) (is_not 9)) k)
    go true e true h = f h (leb-true (length w) 12 e)
    go true e false h = misspelled
    go false e u h = too_long

integer_atom : (z : ℤ) (n : ℕ) → IsInteger z → length (write_integer z) ≤ n → IsAtomIn n (int z)
unfolding write_obj
integer_atom z n h l = record { is_obj = h; marks = omega arith; short = l }

judged_integer : (b : ℕ) (ds : List ℕ) → MeetsWord (IsAtomIn (suc (length ds))) (judge_integer (b ∷ ds))
unfolding judge_integer write_integer write_obj
judged_integer b ds =
    let v = value_of (b ∷ ds) in
    word-cond (all is_digit (b ∷ ds))
    (λ d. word-cond (leading_zero (b ∷ ds)) (λ t. out_of_range)
    (λ t. word-cond (in_range one (pos v)) (λ u. meets_word (integer_atom (pos v) (suc (length ds)) u (decimal_short b ds d))) (λ u. out_of_range)))
    (λ d. misspelled)

negative_atom : (v n : ℕ) → IsInteger (neg_ℤ (pos v)) → length (decimal v) ≤ n → IsAtomIn (suc n) (int (neg_ℤ (pos v)))
unfolding write_integer write_obj
negative_atom zero n h l = record { is_obj = h; marks = omega arith; short = omega arith }
negative_atom (suc v) n h l = record { is_obj = h; marks = omega arith; short = omega arith }

judged_negative : (ds : List ℕ) → MeetsWord (IsAtomIn (suc (length ds))) (judge_negative ds)
unfolding judge_negative
judged_negative [] = misspelled
judged_negative (b ∷ ds) =
    let v = value_of (b ∷ ds) in
    word-cond (all is_digit (b ∷ ds))
    (λ d. word-cond (eqb b 48) (λ t. out_of_range)
    (λ t. word-cond (in_range one (neg_ℤ (pos v))) (λ u. meets_word (negative_atom v (suc (length ds)) u (decimal_short b ds d))) (λ u. out_of_range)))
    (λ d. misspelled)

-- a letter that is upper case or a digit is upper case
first_of : (u d : Bool) → d ≡ false → (u || d) ≡ true → u ≡ true
first_of true d e h = refl
first_of false d e h = sym e ∙ h

symbol_of : (b : ℕ) (w : List ℕ) → is_digit b ≡ false → all is_symbol_byte (b ∷ w) ≡ true → length (b ∷ w) ≤ 12 → IsAtomIn (suc (length w)) (symbol (b ∷ w))
unfolding write_obj
symbol_of b w d h l =
    let x = (and-eq-true_iff (is_symbol_byte b) (all is_symbol_byte w)).0 h in
    record { is_obj = (first_of (is_upper b) (is_digit b) d x.0, x.1, l); marks = omega arith; short = omega arith }

pub judged_atom : (w : List ℕ) → MeetsWord (IsAtomIn (length w)) (judge_atom w)
unfolding judge_atom
judged_atom [] = misspelled
judged_atom (b ∷ w) =
    word-cond (is_digit b) (λ d. judged_integer b w)
    (λ d. word-cond (is_letter b) (λ l. word_then is_symbol_byte (b ∷ w) (λ v. is (symbol v)) (λ h n. meets_word (symbol_of b w d h n)))
    (λ l. word-cond (eqb b 45) (λ t. judged_negative w) (λ t. misspelled)))

-- ---- where a part may stand

pub record IsPartIn (n : ℕ) (f : Form) : Type 0 where
  pub is_form : IsForm f
  pub marks : marks_of f ≤ 0
  pub no_chain : is_chain f ≡ false
  pub short : length (write_form f) ≤ n

-- a word that is found is spelled so
found_spelled : (os : List Op) (w : List ℕ) (o : Op) → find_op os w ≡ some o → (entry o).spelled ≡ w
found_spelled [] w o h = let z : ◌≡◌ {A = ℕ} 0 1 = cc in absurd (omega arith)
found_spelled (p ∷ os) w o h = go (λ g. found_spelled os w o g) (same_bytes (entry p).spelled w) refl h
  where
    go : (find_op os w ≡ some o → (entry o).spelled ≡ w) → (t : Bool) → same_bytes (entry p).spelled w ≡ t → elim t [ true ↦ some p | false ↦ find_op os w ] ≡ some o → (entry o).spelled ≡ w
    go ih true e g = let q : p ≡ o = cc in rw (← q) (same_bytes_is (entry p).spelled w e)
    go ih false e g = ih g

is_name_lem : (b : ℕ) (w : List ℕ) → is_digit b ≡ false → all is_name_byte (b ∷ w) ≡ true → length (b ∷ w) ≤ 12 → find_op ops (b ∷ w) ≡ none → IsName (b ∷ w)
is_name_lem b w d h l n = let x = (and-eq-true_iff (is_name_byte b) (all is_name_byte w)).0 h in (first_of (is_lower b) (is_digit b) d x.0, x.1, l, n)

word_form_lem : (b : ℕ) (w : List ℕ) → is_digit b ≡ false → all is_name_byte (b ∷ w) ≡ true → length (b ∷ w) ≤ 12 → IsPartIn (suc (length w)) (word_form (b ∷ w))
unfolding word_form write_form write_word
word_form_lem b w d h l = go (find_op ops (b ∷ w)) refl
  where
    go : (r : Option Op) → find_op ops (b ∷ w) ≡ r → IsPartIn (suc (length w)) (elim r [ some o ↦ word (op o) | none ↦ name (b ∷ w) ])
    go (some o) e = record { is_form = tt; marks = omega arith; no_chain = refl; short = rw (found_spelled ops (b ∷ w) o e) (omega arith) }
    go none e = record { is_form = is_name_lem b w d h l e; marks = omega arith; no_chain = refl; short = omega arith }

span_passes : (test : ℕ → Bool) (w : List ℕ) → all test (take (span test w) w) ≡ true
unfolding span
span_passes test [] = refl
span_passes test (b ∷ w) = go (span_passes test w) (test b) refl
  where
    go : all test (take (span test w) w) ≡ true → (t : Bool) → test b ≡ t → all test (take (elim t [ true ↦ suc (span test w) | false ↦ zero ]) (b ∷ w)) ≡ true
    go ih true e = rw e ih
    go ih false e = refl

value_grows : (v : ℕ) (ds : List ℕ) → v ≤ value_from v ds
unfolding value_from
value_grows v [] = omega arith
value_grows v (b ∷ ds) = let i = value_grows (v * 10 + (b - 48)) ds in omega arith

value_first : (b : ℕ) (ds : List ℕ) → b - 48 ≤ value_of (b ∷ ds)
unfolding value_from
value_first b ds = let i = value_grows (0 * 10 + (b - 48)) ds in omega arith

selector_of : (ds : List ℕ) → all is_digit ds ≡ true → is_selector ds ≡ true → (1 ≤ value_of ds) × (value_of ds ≤ 255) × (length (decimal (value_of ds)) ≤ length ds)
selector_of [] d h = let z : ◌≡◌ {A = ℕ} 0 1 = cc in absurd (omega arith)
selector_of (b ∷ ds) d h = go (eqb b 48) refl h
  where
    r : (48 ≤ b) × (b ≤ 57)
    r = digit_range b ((and-eq-true_iff (is_digit b) (all is_digit ds)).0 d).0

    go : (t : Bool) → eqb b 48 ≡ t → cond t false (leb (value_of (b ∷ ds)) 255) ≡ true → (1 ≤ value_of (b ∷ ds)) × (value_of (b ∷ ds) ≤ 255) × (length (decimal (value_of (b ∷ ds))) ≤ suc (length ds))
    go true e g = let z : ◌≡◌ {A = ℕ} 0 1 = cc in absurd (omega arith)
    go false e g =
        let n = eqb-false b 48 e in
        let i = value_first b ds in
        let o : 1 ≤ b - 48 = omega (arith, r.0) in
        (omega arith, leb-true (value_of (b ∷ ds)) 255 g, decimal_short b ds d)

pub judged_selector : (w : List ℕ) → MeetsWord (IsPartIn (length w)) (judge_selector w)
unfolding judge_selector write_form write_word
judged_selector w =
    let n = span is_digit w in
    let d = span_passes is_digit w in
    let lt = length-take n w in
    let ld = length-drop n w in
    word-cond (same_bytes (drop n w) [])
    (λ t. word-cond (is_selector (take n w))
    (λ h. let k = selector_of (take n w) d h in meets_word (record { is_form = (k.0, k.1); marks = omega arith; no_chain = refl; short = omega arith }))
    (λ h. out_of_range))
    (λ t. word-cond (same_bytes (drop n w) (bytes "r"))
    (λ u. word-cond (is_selector (take n w))
    (λ h.
    let k = selector_of (take n w) d h in
    let q = ap (λ (l : List ℕ). length l) (same_bytes_is (drop n w) (bytes "r") u) in
    meets_word (record { is_form = (k.0, k.1); marks = omega arith; no_chain = refl; short = rw length-append (omega arith) }))
    (λ h. out_of_range))
    (λ u. misspelled))

pub judged_part : (w : List ℕ) → MeetsWord (IsPartIn (length w)) (judge_part w)
unfolding judge_part
judged_part [] = misspelled
judged_part (b ∷ w) =
    word-cond (is_digit b) (λ d. judged_selector (b ∷ w))
    (λ d. word-cond (is_letter b) (λ l. word_then is_name_byte (b ∷ w) (λ v. is (word_form v)) (λ h n. meets_word (word_form_lem b w d h n))) (λ l. misspelled))

-- ---- where a defined name may stand

pub record IsNameIn (n : ℕ) (w : List ℕ) : Type 0 where
  pub is_name : IsName w
  pub short : length w ≤ n

letter_no_digit : (b : ℕ) → is_letter b ≡ true → is_digit b ≡ false
letter_no_digit b h = go (is_lower b) (is_upper b) refl refl h
  where
    go : (l u : Bool) → is_lower b ≡ l → is_upper b ≡ u → (l || u) ≡ true → is_digit b ≡ false
    go true u el eu h = lower_no_digit b el
    go false true el eu h = upper_no_digit b eu
    go false false el eu h = let z : ◌≡◌ {A = ℕ} 0 1 = cc in absurd (omega arith)

abbrev new_name : List ℕ → Judged (List ℕ)
new_name v = elim (find_op ops v) [ some o ↦ is_not 6 | none ↦ is v ]

name_of : (b : ℕ) (w : List ℕ) → is_digit b ≡ false → all is_name_byte (b ∷ w) ≡ true → length (b ∷ w) ≤ 12 → MeetsWord (IsNameIn (suc (length w))) (new_name (b ∷ w))
name_of b w d h l = go (find_op ops (b ∷ w)) refl
  where
    go : (r : Option Op) → find_op ops (b ∷ w) ≡ r → MeetsWord (IsNameIn (suc (length w))) (elim r [ some o ↦ is_not 6 | none ↦ is (b ∷ w) ])
    go (some o) e = misspelled
    go none e = meets_word {a = b ∷ w} (record { is_name = is_name_lem b w d h l e; short = omega arith })

pub judged_name : (w : List ℕ) → MeetsWord (IsNameIn (length w)) (judge_name w)
unfolding judge_name
judged_name [] = misspelled
judged_name (b ∷ w) =
    word-cond (is_letter b) (λ l. word_then is_name_byte (b ∷ w) new_name (λ h n. name_of b w (letter_no_digit b l) h n)) (λ l. misspelled)
