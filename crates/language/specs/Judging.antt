-- What a word or number is where an object, a part or a defined name may stand; or the refusal. The order is 9, 6, 8.
use Rattle.std.specs.Prelude.{ℕ, ◌+◌, ◌-◌, ◌*◌, Bool, true, false, cond, ◌&&◌, ◌||◌, List, [], ◌∷◌, leb, eqb, ℤ, pos, neg_ℤ, length, take, drop}
use Prim.Native.Char.{code}
use Rattle.std.proofs.Math.Option.{Option, some, none}
use Rattle.language.specs.Bytes.{bytes, same_bytes}
use Rattle.language.specs.Numbers.{word_limit, selector_limit, one, in_range}
use Rattle.language.specs.Objects.{Obj, int, symbol}
use Rattle.language.specs.Words.{Op, entry, ops}
use Rattle.language.specs.Forms.{Form, word, name, select, select_right, op}
use Rattle.language.specs.Tokens.{is_digit, is_lower, is_upper, is_letter, span}

-- what it is, or the number of the answer that refuses it
pub data Judged (A : Type 0) : Type 0 where
  is : A → Judged A
  is_not : ℕ → Judged A

abbrev pub on_judged : {A B : Type 0} → Judged A → (A → Judged B) → Judged B
on_judged (is a) k = k a
on_judged (is_not n) k = is_not n

abbrev pub all : (ℕ → Bool) → List ℕ → Bool
all test [] = true
all test (b ∷ w) = test b && all test w

abbrev pub is_symbol_byte : ℕ → Bool
is_symbol_byte b = is_upper b || is_digit b

abbrev pub is_name_byte : ℕ → Bool
is_name_byte b = is_lower b || is_digit b

-- A word: at most 12 characters, all lower case or all upper case (digits allowed).
unfoldable pub judge_word : (ℕ → Bool) → List ℕ → Judged (List ℕ)
judge_word test w = cond (leb (length w) word_limit) (cond (all test w) (is w) (is_not 6)) (is_not 9)

-- the number that digits write, with v before them
unfoldable pub value_from : ℕ → List ℕ → ℕ
value_from v [] = v
value_from v (b ∷ ds) = value_from (v * 10 + (b - code "0")) ds

abbrev pub value_of : List ℕ → ℕ
value_of ds = value_from 0 ds

-- whether a number has a leading zero: digits after a first 0
abbrev pub leading_zero : List ℕ → Bool
leading_zero [] = false
leading_zero (b ∷ []) = false
leading_zero (b ∷ c ∷ ds) = eqb b (code "0")

-- a number that is in range
abbrev pub ranged : ℤ → Judged Obj
ranged z = cond (in_range one z) (is (int z)) (is_not 8)

-- An integer without leading zeros and without -0, by its digits.
unfoldable pub judge_integer : List ℕ → Judged Obj
judge_integer ds = cond (all is_digit ds) (cond (leading_zero ds) (is_not 8) (ranged (pos (value_of ds)))) (is_not 6)

-- the same behind a minus
unfoldable pub judge_negative : List ℕ → Judged Obj
judge_negative [] = is_not 6
judge_negative (b ∷ ds) =
    cond (all is_digit (b ∷ ds))
    (cond (eqb b (code "0")) (is_not 8) (ranged (neg_ℤ (pos (value_of (b ∷ ds))))))
    (is_not 6)

-- where an object may stand
unfoldable pub judge_atom : List ℕ → Judged Obj
judge_atom [] = is_not 6
judge_atom (b ∷ w) =
    cond (is_digit b) (judge_integer (b ∷ w))
    (cond (is_letter b) (on_judged (judge_word is_symbol_byte (b ∷ w)) (λ v. is (symbol v)))
    (cond (eqb b (code "-")) (judge_negative w) (is_not 6)))

-- the word of the table that is spelled so
abbrev pub find_op : List Op → List ℕ → Option Op
find_op [] w = none
find_op (o ∷ os) w = elim (same_bytes (entry o).spelled w) [ true ↦ some o | false ↦ find_op os w ]

-- A selector's k is from 1 to 255, without leading zeros.
abbrev pub is_selector : List ℕ → Bool
is_selector [] = false
is_selector (b ∷ ds) = cond (eqb b (code "0")) false (leb (value_of (b ∷ ds)) selector_limit)

-- `k`, or `kr` if digits and then `r` are all there is
unfoldable pub judge_selector : List ℕ → Judged Form
judge_selector w =
    let ds = take (span is_digit w) w in
    let rest = drop (span is_digit w) w in
    cond (same_bytes rest [])
    (cond (is_selector ds) (is (word (select (value_of ds)))) (is_not 8))
    (cond (same_bytes rest (bytes "r")) (cond (is_selector ds) (is (word (select_right (value_of ds)))) (is_not 8)) (is_not 6))

-- a primitive or a name
unfoldable pub word_form : List ℕ → Form
word_form w = elim (find_op ops w) [ some o ↦ word (op o) | none ↦ name w ]

-- where a part may stand
unfoldable pub judge_part : List ℕ → Judged Form
judge_part [] = is_not 6
judge_part (b ∷ w) =
    cond (is_digit b) (judge_selector (b ∷ w))
    (cond (is_letter b) (on_judged (judge_word is_name_byte (b ∷ w)) (λ v. is (word_form v))) (is_not 6))

-- A defined name is lower case and not a word of the primitive table.
unfoldable pub judge_name : List ℕ → Judged (List ℕ)
judge_name [] = is_not 6
judge_name (b ∷ w) =
    cond (is_letter b)
    (on_judged (judge_word is_name_byte (b ∷ w)) (λ v. elim (find_op ops v) [ some o ↦ is_not 6 | none ↦ is v ]))
    (is_not 6)

-- where none of these may stand: 9 for a word over 12 characters, 6 for all else
unfoldable pub refusal_of : List ℕ → ℕ
refusal_of [] = 6
refusal_of (b ∷ w) = cond (is_letter b) (cond (leb (length (b ∷ w)) word_limit) 6 9) 6
