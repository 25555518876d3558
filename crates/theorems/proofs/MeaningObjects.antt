-- Every word gives an object of document 01 where it is applied to one.
use Prim.Native.Nat.{ℕ, zero, suc}
use mathlib.Core.Path.{◌≡◌, refl}
use mathlib.Core.Bool.{Bool, true, false, ◌&&◌, ◌||◌, not as opposite}
use mathlib.Core.Option.{Option, some, none}
use native.Mathlib.Omega.{arith}
use lib.IntN.{ℤ, pos, negsuc, ◌+ℤ◌, ◌-ℤ◌, ◌*ℤ◌}
use lib.Signed.{lt_z}
use Rattle.language.specs.Objects.{Obj, int, symbol, seq, Objs, nil, ◌::◌, length_of, ◌+++◌, nth_obj, truth, Truth, truth_of, is_T, is_F, neither}
use Rattle.language.specs.Words.{Op}
use Rattle.language.specs.Forms.{Word, select, select_right, op}
use Rattle.language.specs.Numbers.{Edition, one, in_range}
use Rattle.language.specs.Meanings.{WordAnswer, falls, gives, number, quotient, divided, on_seq, on_full, on_pair, on_int, on_truth, nth, pick, from_left, from_right, turned_onto, drop_last, last_of, to_left, to_right, with_left, with_right, are_rows, entry_at, column_at, columns_at, transposed, width_of, is_atom, is_null, look, meaning}
use Rattle.language.specs.Accepted.{IsInteger, IsObj, AreObjs}

-- what a word gives is such an object
pub data Given : WordAnswer → Type 0 where
  nothing : Given falls
  given : {s c : ℕ} {v : Obj} → IsObj v → Given (gives s c v)

pub given_is : {s c : ℕ} {v : Obj} → Given (gives s c v) → IsObj v
given_is (given h) = h

-- ---- the shapes asked for

on_seq_lem : (x : Obj) (k : Objs → WordAnswer) → IsObj x → ((xs : Objs) → AreObjs xs → Given (k xs)) → Given (on_seq x k)
on_seq_lem (int a) k h f = nothing
on_seq_lem (symbol a) k h f = nothing
on_seq_lem (seq xs) k h f = f xs h

on_full_lem : (x : Obj) (k : Obj → Objs → WordAnswer) → IsObj x → ((y : Obj) (ys : Objs) → IsObj y → AreObjs ys → Given (k y ys)) → Given (on_full x k)
on_full_lem (int a) k h f = nothing
on_full_lem (symbol a) k h f = nothing
on_full_lem (seq nil) k h f = nothing
on_full_lem (seq (y :: ys)) k h f = f y ys h.0 h.1

on_pair_lem : (x : Obj) (k : Obj → Obj → WordAnswer) → IsObj x → ((a b : Obj) → IsObj a → IsObj b → Given (k a b)) → Given (on_pair x k)
on_pair_lem (int a) k h f = nothing
on_pair_lem (symbol a) k h f = nothing
on_pair_lem (seq nil) k h f = nothing
on_pair_lem (seq (a :: nil)) k h f = nothing
on_pair_lem (seq (a :: b :: nil)) k h f = f a b h.0 h.1.0
on_pair_lem (seq (a :: b :: c :: cs)) k h f = nothing

on_int_lem : (x : Obj) (k : ℤ → WordAnswer) → ((i : ℤ) → Given (k i)) → Given (on_int x k)
on_int_lem (int a) k f = f a
on_int_lem (symbol a) k f = nothing
on_int_lem (seq xs) k f = nothing

on_ints_lem : (x : Obj) (k : ℤ → ℤ → WordAnswer) → IsObj x → ((i j : ℤ) → Given (k i j)) → Given (on_pair x (λ a b. on_int a (λ i. on_int b (λ j. k i j))))
on_ints_lem x k h f = on_pair_lem x (λ a b. on_int a (λ i. on_int b (λ j. k i j))) h (λ a b p q. on_int_lem a (λ i. on_int b (λ j. k i j)) (λ i. on_int_lem b (λ j. k i j) (λ j. f i j)))

on_truth_lem : (x : Obj) (k : Bool → WordAnswer) → ((t : Bool) → Given (k t)) → Given (on_truth x k)
on_truth_lem x k f = go (truth_of x)
  where
    go : (t : Truth) → Given (elim t as (λ (t : Truth). WordAnswer) [ is_T ↦ k true | is_F ↦ k false | neither ↦ falls ])
    go is_T = f true
    go is_F = f false
    go neither = nothing

on_truths : (x : Obj) (k : Bool → Bool → WordAnswer) → IsObj x → ((i j : Bool) → Given (k i j)) → Given (on_pair x (λ a b. on_truth a (λ i. on_truth b (λ j. k i j))))
on_truths x k h f = on_pair_lem x (λ a b. on_truth a (λ i. on_truth b (λ j. k i j))) h (λ a b p q. on_truth_lem a (λ i. on_truth b (λ j. k i j)) (λ i. on_truth_lem b (λ j. k i j) (λ j. f i j)))

-- ---- truth values and numbers

is_truth : (t : Bool) → IsObj (truth t)
is_truth true = (refl, refl, omega arith)
is_truth false = (refl, refl, omega arith)

truth_given : {s c : ℕ} (t : Bool) → Given (gives s c (truth t))
truth_given t = given (is_truth t)

in_range_lem : (e : Edition) (z : ℤ) → in_range e z ≡ true → IsInteger z
in_range_lem one z h = h

number_given : (e : Edition) (o : Op) (z : ℤ) → Given (number e o z)
number_given e o z = go (in_range e z) refl
  where
    go : (t : Bool) → in_range e z ≡ t → Given (number e o z)
    go true h = rw (h, number) (given (in_range_lem e z h))
    go false h = rw (h, number) nothing

divided_given : (e : Edition) (a b : ℤ) → Given (divided e a b)
divided_given e a (pos zero) = nothing
divided_given e a (pos (suc n)) = number_given e Op.div (quotient e a (pos (suc n)))
divided_given e a (negsuc n) = number_given e Op.div (quotient e a (negsuc n))

-- ---- sequences

nth_given : (j : ℕ) (xs : Objs) → AreObjs xs → Given (nth j xs)
nth_given j nil h = nothing
nth_given zero (x :: xs) h = given h.0
nth_given (suc j) (x :: xs) h = nth_given j xs h.1

pick_given : (o : Option ℕ) (xs : Objs) → AreObjs xs → Given (pick o xs)
pick_given none xs h = nothing
pick_given (some j) xs h = nth_given j xs h

append_objs : (xs ys : Objs) → AreObjs xs → AreObjs ys → AreObjs (xs +++ ys)
append_objs nil ys h k = k
append_objs (x :: xs) ys h k = (h.0, append_objs xs ys h.1 k)

turned_objs : (xs ys : Objs) → AreObjs xs → AreObjs ys → AreObjs (turned_onto xs ys)
turned_objs nil ys h k = k
turned_objs (x :: xs) ys h k = turned_objs xs (x :: ys) h.1 (h.0, k)

but_last_objs : (x : Obj) (xs : Objs) → IsObj x → AreObjs xs → AreObjs (drop_last x xs)
but_last_objs x nil h k = tt
but_last_objs x (y :: ys) h k = (h, but_last_objs y ys k.0 k.1)

last_obj : (x : Obj) (xs : Objs) → IsObj x → AreObjs xs → IsObj (last_of x xs)
last_obj x nil h k = h
last_obj x (y :: ys) h k = last_obj y ys k.0 k.1

left_objs : (xs : Objs) → AreObjs xs → AreObjs (to_left xs)
left_objs nil h = tt
left_objs (x :: xs) h = append_objs xs (x :: nil) h.1 (h.0, tt)

right_objs : (xs : Objs) → AreObjs xs → AreObjs (to_right xs)
right_objs nil h = tt
right_objs (x :: xs) h = (last_obj x xs h.0 h.1, but_last_objs x xs h.0 h.1)

with_left_objs : (a : Obj) (ys : Objs) → IsObj a → AreObjs ys → AreObjs (with_left a ys)
with_left_objs a nil h k = tt
with_left_objs a (y :: ys) h k = ((h, (k.0, tt)), with_left_objs a ys h k.1)

with_right_objs : (xs : Objs) (b : Obj) → AreObjs xs → IsObj b → AreObjs (with_right xs b)
with_right_objs nil b h k = tt
with_right_objs (x :: xs) b h k = ((h.0, (k, tt)), with_right_objs xs b h.1 k)

-- ---- columns

nth_obj_lem : (xs : Objs) (j : ℕ) → AreObjs xs → IsObj (nth_obj xs j)
unfolding nth_obj
nth_obj_lem nil j h = tt
nth_obj_lem (x :: xs) zero h = h.0
nth_obj_lem (x :: xs) (suc j) h = nth_obj_lem xs j h.1

entry_obj : (j : ℕ) (r : Obj) → IsObj r → IsObj (entry_at j r)
entry_obj j (int a) h = tt
entry_obj j (symbol a) h = tt
entry_obj j (seq xs) h = nth_obj_lem xs j h

column_objs : (j : ℕ) (rs : Objs) → AreObjs rs → AreObjs (column_at j rs)
unfolding column_at
column_objs j nil h = tt
column_objs j (r :: rs) h = (entry_obj j r h.0, column_objs j rs h.1)

columns_objs : (j m : ℕ) (rs : Objs) → AreObjs rs → AreObjs (columns_at j m rs)
unfolding columns_at
columns_objs j zero rs h = tt
columns_objs j (suc m) rs h = (column_objs j rs h, columns_objs (suc j) m rs h)

transposed_given : (m : ℕ) (rs : Objs) → AreObjs rs → Given (transposed m rs)
transposed_given m rs h = go (are_rows m rs) refl
  where
    go : (t : Bool) → are_rows m rs ≡ t → Given (transposed m rs)
    go true e = rw (e, transposed) (given (columns_objs 0 m rs h))
    go false e = rw (e, transposed) nothing

-- ---- every word

op_given : (e : Edition) (o : Op) (x : Obj) → IsObj x → Given (meaning e (op o) x)
op_given e Op.id x h = given h
op_given e Op.tl x h = on_full_lem x _ h (λ y ys p q. given q)
op_given e Op.atom x h = truth_given (is_atom x)
op_given e Op.null x h = truth_given (is_null x)
op_given e Op.eq x h = on_pair_lem x _ h (λ a b p q. truth_given (look a b).same)
op_given e Op.lt x h = on_ints_lem x _ h (λ i j. truth_given (lt_z i j))
op_given e Op.length x h = on_seq_lem x _ h (λ xs p. number_given e Op.length (pos (length_of xs)))
op_given e Op.add x h = on_ints_lem x _ h (λ i j. number_given e Op.add (i +ℤ j))
op_given e Op.sub x h = on_ints_lem x _ h (λ i j. number_given e Op.sub (i -ℤ j))
op_given e Op.mul x h = on_ints_lem x _ h (λ i j. number_given e Op.mul (i *ℤ j))
op_given e Op.div x h = on_ints_lem x _ h (λ i j. divided_given e i j)
op_given e Op.and x h = on_truths x (λ i j. gives 0 0 (truth (i && j))) h (λ i j. truth_given (i && j))
op_given e Op.or x h = on_truths x (λ i j. gives 0 0 (truth (i || j))) h (λ i j. truth_given (i || j))
op_given e Op.not x h = on_truth_lem x (λ i. gives 0 0 (truth (opposite i))) (λ i. truth_given (opposite i))
op_given e Op.apndl x h = on_pair_lem x _ h (λ a b p q. on_seq_lem b _ q (λ ys u. given (p, u)))
op_given e Op.tlr x h = on_full_lem x _ h (λ y ys p q. given (but_last_objs y ys p q))
op_given e Op.reverse x h = on_seq_lem x _ h (λ xs p. given (turned_objs xs nil p tt))
op_given e Op.rotl x h = on_seq_lem x _ h (λ xs p. given (left_objs xs p))
op_given e Op.rotr x h = on_seq_lem x _ h (λ xs p. given (right_objs xs p))
op_given e Op.apndr x h = on_pair_lem x _ h (λ a b p q. on_seq_lem a _ p (λ xs u. given (append_objs xs (b :: nil) u (q, tt))))
op_given e Op.distl x h = on_pair_lem x _ h (λ a b p q. on_seq_lem b _ q (λ ys u. given (with_left_objs a ys p u)))
op_given e Op.distr x h = on_pair_lem x _ h (λ a b p q. on_seq_lem a _ p (λ xs u. given (with_right_objs xs b u q)))
op_given e Op.trans x h = on_full_lem x _ h (λ r rs p q. transposed_given (width_of r) (r :: rs) (p, q))

pub word_given : (e : Edition) (w : Word) (x : Obj) → IsObj x → Given (meaning e w x)
word_given e (select k) x h = on_seq_lem x _ h (λ xs p. pick_given (from_left k (length_of xs)) xs p)
word_given e (select_right k) x h = on_seq_lem x _ h (λ xs p. pick_given (from_right k (length_of xs)) xs p)
word_given e (op o) x h = op_given e o x h
