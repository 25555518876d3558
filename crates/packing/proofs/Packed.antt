-- Laws of `packed` and `unpacked`: the turns of both loops, that twelve letters fit 64 bits, and that each undoes the other.
use mathlib.Core.Path.{◌≡◌, refl, ap, sym, ◌∙◌}
use mathlib.Core.Bool.{Bool, true, false, ◌&&◌, ◌||◌, and-eq-true_iff}
use mathlib.Core.Logic.{◌⊎◌, inl, inr, ⊎_elim}
use mathlib.Core.List.{List, [], ◌∷◌, ◌++◌, append_assoc, append-nil}
use Prim.Native.Nat.{ℕ, zero, suc, ◌+◌, ◌-◌, ◌*◌, ◌/◌, ◌%◌, ◌^◌, ◌≤◌, ◌<◌}
use native.Mathlib.Nat.{pow-suc, pow-le-pow_right}
use native.Mathlib.Numerals.{add-one}
use native.Mathlib.Omega.{arith}
use borrow.Author.Tests.{le-leb, lt-leb, ne_eqb, leb-true}
use lib.Dec.{leb}
use lib.ListN.{length, take, drop, set, take-append-drop, length-append}
use lib.Seq.{length-take-le, take-suc-set, drop-set-lt, drop-drop, drop-length, drop-append_seam}
use Rattle.std.specs.List.{push}
use Rattle.language.specs.Tokens.{is_digit, is_lower, is_upper}
use Rattle.language.specs.Judging.{all, is_symbol_byte}
use Rattle.language.specs.Accepted.{IsSymbol, IsName}
use Rattle.packing.specs.Packing.{letter_of, packed}
use Rattle.packing.specs.declared.Case.{Case}
use Rattle.packing.specs.declared.Case.TheVariants.{Upper, Lower}
use Rattle.packing.specs.Packing.{letter_base, byte_of, in_case, unpacked_from, unpacked, Unpacked}

-- packing
packed_lt : (w : List ℕ) → packed w < 37 ^ length w
unfolding packed letter_of
packed_lt [] = omega arith
packed_lt (b ∷ w) = let h = packed_lt w in rw (pow-suc 37 (length w)) (omega arith)

packed_room : (w : List ℕ) → length w < 12 → packed w * 37 + 37 ≤ 37 ^ 12
packed_room w h =
    let p = pow-le-pow_right {n = 37} (omega arith) {i = suc (length w)} {j = 12} (omega arith) in
    let q = packed_lt w in
    let e = pow-suc 37 (length w) in
    omega arith

step : (b : ℕ) (w : List ℕ) → packed (b ∷ w) ≡ packed w * 37 + letter_of b
unfolding packed
step b w = refl

-- What `pack` has of a word when `rest` is still ahead of it: v is what stands behind `rest` as a number.
pub record PackedBehind (word rest : List ℕ) (v : ℕ) : Type 0 where
  pub whole : word ≡ rest ++ drop (length rest) word
  pub value : v ≡ packed (drop (length rest) word)

pub packed_none : (word rest : List ℕ) → rest ≡ word → PackedBehind word rest 0
unfolding packed
packed_none word rest e = rw e (record { whole = rw (drop-length word) (sym (append-nil word)); value = rw (drop-length word) })

module _ (word rest ahead : List ℕ) (v x : ℕ) (behind : PackedBehind word rest v) (splits : rest ≡ push ahead x) where
  next : word ≡ ahead ++ (x ∷ drop (length rest) word)
  next = behind.whole ∙ ap (λ (t : List ℕ). t ++ drop (length rest) word) splits ∙ append_assoc ahead (x ∷ []) (drop (length rest) word)

  next_drop : drop (length ahead) word ≡ x ∷ drop (length rest) word
  next_drop = ap (drop (length ahead)) next ∙ drop-append_seam ahead (x ∷ drop (length rest) word)

  pub packed_turn : {d : ℕ} → d ≡ letter_of x → PackedBehind word ahead (v * 37 + d)
  packed_turn {d} e = record { whole = rw (← next_drop) at next; value = rw (next_drop, e) (ap (λ (n : ℕ). n * 37 + letter_of x) behind.value ∙ sym (step x (drop (length rest) word))) }

  pub packed_fits : length word ≤ 12 → v * 37 + 37 ≤ 37 ^ 12
  packed_fits h =
      let n : length word ≡ length ahead + suc (length (drop (length rest) word)) = ap length next ∙ length-append ahead (x ∷ drop (length rest) word) in
      rw behind.value (packed_room (drop (length rest) word) (omega arith))

pub packed_done : {word rest : List ℕ} {v : ℕ} → PackedBehind word rest v → length rest ≡ 0 → v ≡ packed word
packed_done {word} {rest} {v} behind h = behind.value ∙ rw h

-- the bytes of a case: letters behind `letter_base`, or digits
either : (x y : Bool) → x || y ≡ true → (x ≡ true) ⊎ (y ≡ true)
either true y h = inl refl
either false y h = inr h

bounds : (a z b : ℕ) → leb a b && leb b z ≡ true → (a ≤ b) × (b ≤ z)
bounds a z b h = let e = (and-eq-true_iff (leb a b) (leb b z)).0 h in (leb-true a b e.0, leb-true b z e.1)

byte_cases : (case : Case) (b : ℕ) → in_case case b ≡ true → ((letter_base case + 1 ≤ b) × (b ≤ letter_base case + 26)) ⊎ ((48 ≤ b) × (b ≤ 57))
byte_cases Upper b h = ⊎_elim (λ e. inl (bounds 65 90 b e)) (λ e. inr (bounds 48 57 b e)) (either (leb 65 b && leb b 90) (leb 48 b && leb b 57) h)
byte_cases Lower b h = ⊎_elim (λ e. inl (bounds 97 122 b e)) (λ e. inr (bounds 48 57 b e)) (either (leb 97 b && leb b 122) (leb 48 b && leb b 57) h)

letter_digit : (b : ℕ) → 48 ≤ b → b ≤ 57 → letter_of b ≡ b - 21
unfolding letter_of
letter_digit b h k = rw (le-leb b 57 k) (omega arith)

letter_letter : (case : Case) (b : ℕ) → letter_base case + 1 ≤ b → b ≤ letter_base case + 26 → letter_of b ≡ b - letter_base case
unfolding letter_of
letter_letter Upper b h k = rw (lt-leb b 57 (omega arith), le-leb b 90 k) (omega arith)
letter_letter Lower b h k = rw (lt-leb b 57 (omega arith), lt-leb b 90 (omega arith)) (omega arith)

pub letter_low : (b : ℕ) → b ≤ 57 → letter_of b ≡ (b - 21) % 37
unfolding letter_of
letter_low b h = rw (le-leb b 57 h)

pub letter_upper : (b : ℕ) → 57 < b → b ≤ 90 → letter_of b ≡ (b - 64) % 37
unfolding letter_of
letter_upper b h k = rw (lt-leb b 57 h, le-leb b 90 k)

pub letter_lower : (b : ℕ) → 90 < b → letter_of b ≡ (b - 96) % 37
unfolding letter_of
letter_lower b h = rw (lt-leb b 57 (omega arith), lt-leb b 90 h)

record Letter (case : Case) (b : ℕ) : Type 0 where
  back : byte_of case (letter_of b) ≡ b
  some : 1 ≤ letter_of b
  few : letter_of b < 37

letter_back : (case : Case) (b : ℕ) → in_case case b ≡ true → Letter case b
letter_back case b h = ⊎_elim (λ k. letters k.0 k.1) (λ k. digits k.0 k.1) (byte_cases case b h)
  where
    letters : letter_base case + 1 ≤ b → b ≤ letter_base case + 26 → Letter case b
    letters h k = let e = letter_letter case b h k in record { back = rw (e, le-leb (b - letter_base case) 26 (omega arith)) (omega arith); some = rw e (omega arith); few = rw e (omega arith) }

    digits : 48 ≤ b → b ≤ 57 → Letter case b
    digits h k = let e = letter_digit b h k in record { back = rw (e, lt-leb (b - 21) 26 (omega arith)) (omega arith); some = rw e (omega arith); few = rw e (omega arith) }

-- unpacking
module _ (case : Case) where
  pub unpacked-zero : (k : ℕ) → unpacked_from case k 0 ≡ []
  unfolding unpacked_from
  unpacked-zero zero = refl
  unpacked-zero (suc k) = refl

  unpacked-suc : (k v : ℕ) → (v ≡ 0 → ⊥) → unpacked_from case (suc k) v ≡ byte_of case (v % 37) ∷ unpacked_from case k (v / 37)
  unfolding unpacked_from
  unpacked-suc k v h = rw (ne_eqb v 0 h)

  back_from : (k : ℕ) (w : List ℕ) → all (in_case case) w ≡ true → length w ≤ k → unpacked_from case k (packed w) ≡ w
  unfolding packed
  back_from k [] h n = unpacked-zero k
  back_from zero (b ∷ w) h n = absurd (omega arith)
  back_from (suc k) (b ∷ w) h n =
      let e = (and-eq-true_iff (in_case case b) (all (in_case case) w)).0 h in
      let l = letter_back case b e.0 in
      let some = l.some in
      let few = l.few in
      let d : (packed w * 37 + letter_of b) / 37 ≡ packed w = omega arith in
      let m : (packed w * 37 + letter_of b) % 37 ≡ letter_of b = omega arith in
      rw (unpacked-suc k (packed w * 37 + letter_of b) (λ z. omega arith), d, m, l.back, back_from k w e.1 (omega arith))

  -- a word of the case's bytes comes back
  pub unpacked_packed : (w : List ℕ) → all (in_case case) w ≡ true → length w ≤ 12 → unpacked case (packed w) ≡ w
  unpacked_packed w h n = back_from 12 w h n

or_left : (x y : Bool) → x ≡ true → x || y ≡ true
or_left x y h = rw h

-- so symbols come back in upper case, and names in lower case
pub symbol_back : (w : List ℕ) → IsSymbol w → unpacked Upper (packed w) ≡ w
symbol_back [] h = absurd h
symbol_back (b ∷ w) h = unpacked_packed Upper (b ∷ w) (rw (or_left (is_upper b) (is_digit b) h.0) h.1) h.2

pub name_back : (w : List ℕ) → IsName w → unpacked Lower (packed w) ≡ w
name_back [] h = absurd h
name_back (b ∷ w) h = unpacked_packed Lower (b ∷ w) (rw (or_left (is_lower b) (is_digit b) h.0) h.1) h.2

pub symbols_same : (v w : List ℕ) → IsSymbol v → IsSymbol w → packed v ≡ packed w → v ≡ w
symbols_same v w i j e = sym (symbol_back v i) ∙ (ap (unpacked Upper) e ∙ symbol_back w j)

pub symbol_bytes : (w : List ℕ) → IsSymbol w → all is_symbol_byte w ≡ true
symbol_bytes [] i = absurd i
symbol_bytes (b ∷ w) i = rw (i.0, i.1)

pub names_equal : (v w : List ℕ) → IsName v → IsName w → packed v ≡ packed w → v ≡ w
names_equal v w i j e = sym (name_back v i) ∙ ap (unpacked Lower) e ∙ name_back w j

-- the loop of `unpack`
module _ (case : Case) (v : ℕ) (old new : List ℕ) (left i : ℕ) where
  pub unpack_on : {b : ℕ} → 12 ≤ length new → i < 12 → (left ≡ 0 → ⊥) → b ≡ byte_of case (left % 37) → unpacked case v ≡ take i new ++ unpacked_from case (12 - i) left → unpacked case v ≡ take (i + 1) (set new i b) ++ unpacked_from case (12 - (i + 1)) (left / 37)
  unpack_on {b} n h z e inv =
      let k : 12 - i ≡ suc (12 - (i + 1)) = omega arith in
      inv ∙ rw (k, unpacked-suc case (12 - (i + 1)) left z, ← e, add-one i, take-suc-set new i b (omega arith)) (sym (append_assoc (take i new) (b ∷ []) (unpacked_from case (12 - suc i) (left / 37))))

  pub unpack_rest : (b : ℕ) → drop i new ≡ drop i old → drop (i + 1) (set new i b) ≡ drop (i + 1) old
  unpack_rest b e = drop-set-lt (i + 1) new i b (omega arith) ∙ sym (drop-drop 1 i new) ∙ ap (drop 1) e ∙ drop-drop 1 i old

  whole : 12 ≤ length new → i ≤ 12 → unpacked case v ≡ take i new → drop i new ≡ drop i old → Unpacked case v i old new
  whole n h e d = record { size = rw e (sym (length-take-le i new (omega arith))); bytes = rw (e, ← d) (sym (take-append-drop i new)); high = h }

  pub unpack_out : 12 ≤ length new → i < 12 → left ≡ 0 → unpacked case v ≡ take i new ++ unpacked_from case (12 - i) left → drop i new ≡ drop i old → Unpacked case v i old new
  unpack_out n h z inv d = whole n (omega arith) (inv ∙ rw (z, unpacked-zero case (12 - i)) (append-nil (take i new))) d

  pub unpack_full : 12 ≤ length new → 12 ≤ i → i ≤ 12 → unpacked case v ≡ take i new ++ unpacked_from case (12 - i) left → drop i new ≡ drop i old → Unpacked case v 12 old new
  unfolding unpacked_from
  unpack_full n g h inv d =
      let k : 12 - i ≡ 0 = omega arith in
      let e : 12 ≡ i = omega arith in
      rw e (whole n h (inv ∙ rw k (append-nil (take i new))) d)
