-- The scan of an object's text: where it goes on to the end, the text fits and at most 32 marks are open at once.
use Prim.Native.Nat.{ℕ, suc, max, ◌+◌, ◌-◌, ◌≤◌}
use Prim.Native.Char.{code}
use mathlib.Core.Path.{◌≡◌, refl, sym, ap, ◌∙◌}
use mathlib.Core.Bool.{Bool, true, false, cond, ◌&&◌, and-eq-true_iff}
use mathlib.Core.List.{List, [], ◌∷◌, ◌++◌, append-nil, append_assoc}
use native.Mathlib.Nat.{sub-zero}
use native.Mathlib.Omega.{arith}
use lib.Dec.{leb, eqb}
use lib.IntN.{ℤ, pos, negsuc}
use lib.ListN.{length, length-append}
use borrow.Author.Tests.{ne_eqb, eq-eqb, eqb-true, eqb-false, leb-false}
use Rattle.language.specs.Objects.{Obj, int, symbol, seq, Objs, nil, ◌::◌}
use Rattle.language.specs.Tokens.{is_digit, is_upper}
use Rattle.language.specs.Judging.{all, is_symbol_byte}
use Rattle.language.specs.Writing.{decimal, write_integer, write_obj, write_objs, write_more_objs, marks_of_obj, marks_of_objs, on, short, deep, open_behind, scan}
use Rattle.language.specs.Accepted.{IsSymbol, IsObj, AreObjs}
use Rattle.theorems.proofs.Texts.{all_cons, digit_range, upper_range, upper_symbol, or_cases}
use Rattle.theorems.proofs.Decimals.{decimal_digits}

-- ---- one byte

deep_on : {X : Type 0} {o r : ℕ} → deep ≡ on o r → X
deep_on h = let z : ◌≡◌ {A = ℕ} 0 1 = cc in absurd (omega arith)

short_on : {X : Type 0} {o r : ℕ} → short ≡ on o r → X
short_on h = let z : ◌≡◌ {A = ℕ} 0 1 = cc in absurd (omega arith)

-- a scan that goes on past its first byte: the byte had room and opened no 33rd mark
record Goes (b : ℕ) (s : List ℕ) (opened room o r : ℕ) : Type 0 where
  fits : 1 ≤ room
  opens : (eqb b (code "<") && leb 32 opened) ≡ false
  rest : scan s (open_behind b opened) (room - 1) ≡ on o r

goes : (b : ℕ) (s : List ℕ) (opened room o r : ℕ) → scan (b ∷ s) opened room ≡ on o r → Goes b s opened room o r
unfolding scan
goes b s opened room o r h = go (eqb b (code "<") && leb 32 opened) refl (eqb room 0) refl h
  where
    go : (t : Bool) → (eqb b (code "<") && leb 32 opened) ≡ t → (u : Bool) → eqb room 0 ≡ u
        → cond t deep (cond u short (scan s (open_behind b opened) (room - 1))) ≡ on o r → Goes b s opened room o r
    go true e u f g = deep_on g
    go false e true f g = short_on g
    go false e false f g = let n = eqb-false room 0 f in record { fits = omega (arith, n); opens = e; rest = g }

-- the whole text fits
pub scan-length : (s : List ℕ) (opened room o r : ℕ) → scan s opened room ≡ on o r → length s ≤ room
scan-length [] opened room o r h = omega arith
scan-length (b ∷ s) opened room o r h =
    let g = goes b s opened room o r h in
    let i = scan-length s (open_behind b opened) (room - 1) o r g.rest in
    omega (arith, g.fits)

-- and with any other room that the text fits into, the scan goes on to the end too
pub scan_fits : (s : List ℕ) (opened room room' o r : ℕ) → scan s opened room ≡ on o r → length s ≤ room' → scan s opened room' ≡ on o (room' - length s)
unfolding scan
scan_fits [] opened room room' o r h l =
    let e : opened ≡ o = cc in
    let f : room' ≡ room' - 0 = omega arith in
    λ i. on (e i) (f i)
scan_fits (b ∷ s) opened room room' o r h l =
    let g = goes b s opened room o r h in
    let f : room' - 1 - length s ≡ room' - suc (length s) = omega arith in
    rw (g.opens, ne_eqb room' 0 (omega arith)) (scan_fits s (open_behind b opened) (room - 1) (room' - 1) o r g.rest (omega arith) ∙ ap (λ (k : ℕ). on o k) f)

-- ---- bytes that open and close nothing

plain_behind : (b d : ℕ) → (b ≡ 60 → ⊥) → (b ≡ 62 → ⊥) → open_behind b d ≡ d
plain_behind b d h g = rw (ne_eqb b 60 h, ne_eqb b 62 g)

digit_behind : (b d : ℕ) → is_digit b ≡ true → open_behind b d ≡ d
digit_behind b d h = let r = (digit_range b h).1 in plain_behind b d (λ e. omega arith) (λ e. omega arith)

upper_behind : (b d : ℕ) → is_upper b ≡ true → open_behind b d ≡ d
upper_behind b d h = let r = (upper_range b h).0 in plain_behind b d (λ e. omega arith) (λ e. omega arith)

symbol_behind : (b d : ℕ) → is_symbol_byte b ≡ true → open_behind b d ≡ d
symbol_behind b d h =
    let o = open_behind b d in
    eqb-true o d (or_cases (is_upper b) (is_digit b) (eqb o d) (λ u. eq-eqb o d (upper_behind b d u)) (λ t. eq-eqb o d (digit_behind b d t)) h)

-- ---- the marks that an object's text opens

-- past n bytes, in which at most m marks more were open
record Past (n m : ℕ) (s : List ℕ) (opened behind room o r : ℕ) : Type 0 where
  few : m + opened ≤ 32
  rest : scan s behind (room - n) ≡ on o r

-- bytes of a class that opens and closes nothing
class_past : (test : ℕ → Bool) → ((b d : ℕ) → test b ≡ true → open_behind b d ≡ d) → (a s : List ℕ) (opened room o r : ℕ) → all test a ≡ true → opened ≤ 32 → scan (a ++ s) opened room ≡ on o r → Past (length a) 0 s opened opened room o r
class_past test f [] s opened room o r t l h = record { few = omega arith; rest = rw sub-zero h }
class_past test f (b ∷ a) s opened room o r t l h =
    let x = (and-eq-true_iff (test b) (all test a)).0 t in
    let g = goes b (a ++ s) opened room o r h in
    let i = class_past test f a s opened (room - 1) o r x.1 l (rw (f b opened x.0) at g.rest) in
    let e : room - 1 - length a ≡ room - suc (length a) = omega arith in
    record { few = omega arith; rest = rw e at i.rest }

integer_past : (z : ℤ) (s : List ℕ) (opened room o r : ℕ) → opened ≤ 32 → scan (write_integer z ++ s) opened room ≡ on o r → Past (length (write_integer z)) 0 s opened opened room o r
unfolding write_integer
integer_past (pos n) s opened room o r l h = class_past is_digit digit_behind (decimal n) s opened room o r (decimal_digits n) l h
integer_past (negsuc n) s opened room o r l h =
    let w = decimal (suc n) in
    let g = goes 45 (w ++ s) opened room o r h in
    let i = class_past is_digit digit_behind w s opened (room - 1) o r (decimal_digits (suc n)) l g.rest in
    let e : room - 1 - length w ≡ room - suc (length w) = omega arith in
    record { few = omega arith; rest = rw e at i.rest }

symbol_past : (w : List ℕ) → IsSymbol w → (s : List ℕ) (opened room o r : ℕ) → opened ≤ 32 → scan (w ++ s) opened room ≡ on o r → Past (length w) 0 s opened opened room o r
symbol_past [] i s opened room o r l h = absurd i
symbol_past (b ∷ a) i s opened room o r l h = class_past is_symbol_byte symbol_behind (b ∷ a) s opened room o r (all_cons is_symbol_byte b a (upper_symbol b i.0) i.1) l h

-- an object, and what is written behind it
next_past : (x : Obj) (xs : Objs) (s : List ℕ) (opened room o r : ℕ)
    → ((t : List ℕ) (a : ℕ) → scan (write_obj x ++ t) opened a ≡ on o r → Past (length (write_obj x)) (marks_of_obj x) t opened opened a o r)
    → ((a : ℕ) → scan (write_more_objs xs ++ s) opened a ≡ on o r → Past (length (write_more_objs xs)) (marks_of_objs xs) s opened (opened - 1) a o r)
    → scan ((write_obj x ++ write_more_objs xs) ++ s) opened room ≡ on o r
    → Past (length (write_obj x ++ write_more_objs xs)) (max (marks_of_obj x) (marks_of_objs xs)) s opened (opened - 1) room o r
next_past x xs s opened room o r f g h =
    let p = f (write_more_objs xs ++ s) room (ap (λ (t : List ℕ). scan t opened room) (sym (append_assoc (write_obj x) (write_more_objs xs) s)) ∙ h) in
    let q = g (room - length (write_obj x)) p.rest in
    let e : room - length (write_obj x) - length (write_more_objs xs) ≡ room - length (write_obj x ++ write_more_objs xs) = rw length-append (omega arith) in
    record { few = omega (arith, p.few, q.few); rest = rw e at q.rest }

mutual
  unfolding write_obj

  obj_past : (x : Obj) → IsObj x → (s : List ℕ) (opened room o r : ℕ) → opened ≤ 32 → scan (write_obj x ++ s) opened room ≡ on o r → Past (length (write_obj x)) (marks_of_obj x) s opened opened room o r
  obj_past (int z) h s opened room o r l g = integer_past z s opened room o r l g
  obj_past (symbol w) h s opened room o r l g = symbol_past w h s opened room o r l g
  obj_past (seq xs) h s opened room o r l g =
      let q = goes 60 (write_objs xs ++ s) opened room o r g in
      let k = leb-false 32 opened q.opens in
      let i = objs_past xs h s (opened + 1) (room - 1) o r (omega arith) (omega arith) q.rest in
      let e : room - 1 - length (write_objs xs) ≡ room - suc (length (write_objs xs)) = omega arith in
      let f : opened + 1 - 1 ≡ opened = omega arith in
      record { few = omega (arith, i.few); rest = rw (e, f) at i.rest }

  objs_past : (xs : Objs) → AreObjs xs → (s : List ℕ) (opened room o r : ℕ) → 1 ≤ opened → opened ≤ 32 → scan (write_objs xs ++ s) opened room ≡ on o r → Past (length (write_objs xs)) (marks_of_objs xs) s opened (opened - 1) room o r
  objs_past nil h s opened room o r n l g = record { few = omega arith; rest = (goes 62 s opened room o r g).rest }
  objs_past (x :: xs) h s opened room o r n l g = next_past x xs s opened room o r (λ t a u. obj_past x h.0 t opened a o r l u) (λ a u. more_past xs h.1 s opened a o r n l u) g

  more_past : (xs : Objs) → AreObjs xs → (s : List ℕ) (opened room o r : ℕ) → 1 ≤ opened → opened ≤ 32 → scan (write_more_objs xs ++ s) opened room ≡ on o r → Past (length (write_more_objs xs)) (marks_of_objs xs) s opened (opened - 1) room o r
  more_past nil h s opened room o r n l g = record { few = omega arith; rest = (goes 62 s opened room o r g).rest }
  more_past (x :: xs) h s opened room o r n l g =
      let q = goes 44 ((write_obj x ++ write_more_objs xs) ++ s) opened room o r g in
      let i = next_past x xs s opened (room - 1) o r (λ t a u. obj_past x h.0 t opened a o r l u) (λ a u. more_past xs h.1 s opened a o r n l u) q.rest in
      let e : room - 1 - length (write_obj x ++ write_more_objs xs) ≡ room - suc (length (write_obj x ++ write_more_objs xs)) = omega arith in
      record { few = i.few; rest = rw e at i.rest }

-- A text that is written whole has at most 32 marks open at once.
pub scan_marks : (x : Obj) → IsObj x → (room o r : ℕ) → scan (write_obj x) 0 room ≡ on o r → marks_of_obj x ≤ 32
scan_marks x h room o r g = let q = obj_past x h [] 0 room o r (omega arith) (ap (λ (t : List ℕ). scan t 0 room) (append-nil (write_obj x)) ∙ g) in omega (arith, q.few)
