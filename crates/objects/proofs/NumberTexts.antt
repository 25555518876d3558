-- Laws of decimals and of texts put into an output: the turns of both loops.
use Rattle.std.proofs.Common.{◌≡◌, ℕ, zero, suc, ◌+◌, ◌-◌, ◌/◌, ◌%◌, ◌^◌, ◌<◌, ◌≤◌, Bool, true, false, leb, List, [], ◌∷◌, ◌++◌, length, take, drop, set, sym, refl, ap, ◌∙◌, append_assoc, pow-suc, arith, get_or, length-set, drop-cons, get_or-set_same, drop-set-lt, drop-drop, le-leb, leb-false, leb-true}
use borrow.Author.Tests.{lt-leb}
use borrow.Rule.Slice.PartMut.{put_mid}
use Rattle.language.specs.Writing.{digits, decimal}
use Rattle.tables.specs.Tables.{put}
use Rattle.tables.proofs.Put.{put_none, set_put}
use Rattle.objects.specs.Writings.{DigitsAt, PutText}

-- ---- decimals: the last digit is written behind the others, however many calls are allowed
digits_one : (k n : ℕ) → n ≤ 9 → digits k n ≡ (48 + n) ∷ []
unfolding digits
digits_one zero n h = ap (λ (x : ℕ). (48 + x) ∷ []) (omega arith)
digits_one (suc k) n h = rw (le-leb n 9 h)

digits_more : (k n : ℕ) → 9 < n → digits (suc k) n ≡ digits k (n / 10) ++ (48 + n % 10) ∷ []
unfolding digits
digits_more k n h = rw (lt-leb n 9 h)

digits_enough : (k j n : ℕ) → n ≤ k → n ≤ j → digits k n ≡ digits j n
digits_enough zero j n h g = digits_one zero n (omega arith) ∙ sym (digits_one j n (omega arith))
digits_enough (suc k) zero n h g = digits_one (suc k) n (omega arith) ∙ sym (digits_one zero n (omega arith))
digits_enough (suc k) (suc j) n h g = go (leb n 9) refl (λ a b. digits_enough k j (n / 10) a b)
  where
    go : (t : Bool) → leb n 9 ≡ t → (n / 10 ≤ k → n / 10 ≤ j → digits k (n / 10) ≡ digits j (n / 10)) → digits (suc k) n ≡ digits (suc j) n
    go true e f = let l = leb-true n 9 e in digits_one (suc k) n l ∙ sym (digits_one (suc j) n l)
    go false e f =
        let l = leb-false n 9 e in
        digits_more k n l ∙ ap (λ (x : List ℕ). x ++ (48 + n % 10) ∷ []) (f (omega arith) (omega arith)) ∙ sym (digits_more j n l)

pub one_digit : (n : ℕ) → n ≤ 9 → decimal n ≡ (48 + n) ∷ []
unfolding decimal
one_digit n h = digits_one n n h

more_of : (m n : ℕ) → n ≡ suc m → 9 < n → digits n n ≡ digits (n / 10) (n / 10) ++ (48 + n % 10) ∷ []
more_of m n e h =
    ap (λ (k : ℕ). digits k n) e ∙ digits_more m n h ∙ ap (λ (x : List ℕ). x ++ (48 + n % 10) ∷ []) (digits_enough m (n / 10) (n / 10) (omega arith) (omega arith))

pub more_digits : (n : ℕ) → 9 < n → decimal n ≡ decimal (n / 10) ++ (48 + n % 10) ∷ []
unfolding decimal
more_digits n h = more_of (n - 1) n (omega arith) h

-- ---- digits from the last one: what is left, and behind it what stands from i on
pub record Spelling (n : ℕ) (a : List ℕ) (left i : ℕ) : Type 0 where
  pub low : 1 ≤ i
  pub high : i ≤ 20
  pub len : length a ≡ 20
  pub under : left < 10 ^ i
  pub is : decimal n ≡ decimal left ++ drop i a

stored : (a : List ℕ) (j i v : ℕ) → i ≡ suc j → j < length a → drop j (set a j v) ≡ v ∷ drop i a
stored a j i v e h =
    let l = length-set a j v in
    drop-cons (set a j v) j 0 (omega arith) ∙ rw (get_or-set_same a j v 0 h, drop-set-lt (suc j) a j v (omega arith), e)

spell_on : (n : ℕ) (a : List ℕ) (left j i v : ℕ) → i ≡ suc j → v ≡ 48 + left % 10 → 9 < left → Spelling n a left i → Spelling n (set a j v) (left / 10) j
spell_on n a left j i v e f h g =
    let p = ap (λ (k : ℕ). 10 ^ k) e ∙ pow-suc 10 j in
    let u = g.under in
    let l = g.len in
    record {
      low = some j e (omega arith);
      high = omega (arith, g.high);
      len = length-set a j v ∙ l;
      under = omega arith;
      is = g.is ∙ rw (more_digits left h, append_assoc (decimal (left / 10)), stored a j i v e (omega (arith, g.high)), f);
    }
  where
    some : (j : ℕ) → i ≡ suc j → left < 10 ^ i → 1 ≤ j
    some zero e u = let q : left < 10 ^ 1 = rw e at u in absurd (omega arith)
    some (suc j) e u = omega arith

pub spell_turn : {n : ℕ} {a : List ℕ} {left i : ℕ} → 10 ≤ left → Spelling n a left i → Spelling n (set a (i - 1) (left % 10 + 48)) (left / 10) (i - 1)
spell_turn {n} {a} {left} {i} h g = spell_on n a left (i - 1) i (left % 10 + 48) (omega (arith, g.low)) (omega arith) (omega arith) g

pub spell_end : {n : ℕ} {a : List ℕ} {left i : ℕ} → left < 10 → Spelling n a left i → DigitsAt n (i - 1) (set a (i - 1) (left % 10 + 48))
spell_end {n} {a} {left} {i} h g =
    let l = g.len in
    let lo = g.low in
    let hi = g.high in
    let e : left % 10 + 48 ≡ 48 + left = omega arith in
    record { high = omega arith; is = stored a (i - 1) i (left % 10 + 48) (omega arith) (omega arith) ∙ rw e (ap (λ (x : List ℕ). x ++ drop i a) (sym (one_digit left (omega arith)))) ∙ sym g.is }

-- ---- a text is put
-- a text of no byte, and one of one
pub put_empty : {out : List ℕ} {at : ℕ} {text : List ℕ} → length text < 1 → at + length text ≤ length out → PutText out at text out
put_empty {out} {at} {text = []} h fits = record { is = λ room. sym (put_none out at); stays = λ short. refl }
put_empty {out} {at} {text = b ∷ bs} h fits = absurd (omega arith)

pub put_one : {out : List ℕ} {at : ℕ} {text : List ℕ} → 1 ≤ length text → length text < 2 → at + length text ≤ length out → PutText out at text (set out at (get_or text 0 0))
put_one {out} {at} {text = []} h g fits = absurd (omega arith)
put_one {out} {at} {text = b ∷ []} h g fits = record { is = λ room. set_put out at b (omega arith); stays = λ short. absurd (omega arith) }
put_one {out} {at} {text = b ∷ (d ∷ bs)} h g fits = absurd (omega arith)

-- the output has room for all of it
pub put_part : {out : List ℕ} {at : ℕ} {text part : List ℕ} → part ≡ text → at + length text ≤ length out → PutText out at text (put_mid at (at + length text - at) out part)
unfolding put
put_part {out} {at} {text} {part} e fits = record {
  is = λ room. let k : at + (at + length text - at) ≡ at + length text = omega arith in rw (e, drop-drop, k) (sym (append_assoc (take at out) text (drop (at + length text) out)));
  stays = λ short. absurd (omega arith);
}
