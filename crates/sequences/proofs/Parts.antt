-- The first objects of a sequence, and the object in a place.
use Prim.Native.Nat.{ℕ, zero, suc, ◌+◌, ◌≤◌, ◌<◌}
use mathlib.Core.Path.{◌≡◌, refl, ap}
use native.Mathlib.Omega.{arith}
use Rattle.language.specs.Objects.{Obj, Objs, nil, ◌::◌, length_of, ◌+++◌, nth_obj}
use Rattle.language.specs.Meanings.{drop_last, last_of}
use Rattle.sequences.specs.Making.{take_objs}

pub append-nil : (xs : Objs) → xs +++ nil ≡ xs
append-nil nil = refl
append-nil (x :: xs) = ap (λ (r : Objs). x :: r) (append-nil xs)

pub append_more : (xs : Objs) (y : Obj) (ys : Objs) → (xs +++ (y :: nil)) +++ ys ≡ xs +++ (y :: ys)
append_more nil y ys = refl
append_more (x :: xs) y ys = ap (λ (r : Objs). x :: r) (append_more xs y ys)

pub length_append_one : (xs : Objs) (y : Obj) → length_of (xs +++ (y :: nil)) ≡ suc (length_of xs)
length_append_one nil y = refl
length_append_one (x :: xs) y = ap suc (length_append_one xs y)

pub length-append : (xs ys : Objs) → length_of (xs +++ ys) ≡ length_of xs + length_of ys
length-append nil ys = omega arith
length-append (x :: xs) ys = let e = length-append xs ys in omega arith

pub take_all : (n : ℕ) (xs : Objs) → length_of xs ≤ n → take_objs n xs ≡ xs
unfolding take_objs
take_all zero nil h = refl
take_all zero (x :: xs) h = absurd (omega arith)
take_all (suc n) nil h = refl
take_all (suc n) (x :: xs) h = ap (λ (r : Objs). x :: r) (take_all n xs (omega arith))

pub take-length : (n : ℕ) (xs : Objs) → n ≤ length_of xs → length_of (take_objs n xs) ≡ n
unfolding take_objs
take-length zero xs h = refl
take-length (suc n) nil h = absurd (omega arith)
take-length (suc n) (x :: xs) h = ap suc (take-length n xs (omega arith))

pub take_next : (n : ℕ) (xs : Objs) → n < length_of xs → take_objs (suc n) xs ≡ take_objs n xs +++ (nth_obj xs n :: nil)
unfolding take_objs nth_obj
take_next n nil h = absurd (omega arith)
take_next zero (x :: xs) h = refl
take_next (suc n) (x :: xs) h = ap (λ (r : Objs). x :: r) (take_next n xs (omega arith))

pub nth_last : (x : Obj) (xs : Objs) → nth_obj (x :: xs) (length_of xs) ≡ last_of x xs
unfolding nth_obj
nth_last x nil = refl
nth_last x (y :: ys) = nth_last y ys

pub take_but_last : (x : Obj) (xs : Objs) → take_objs (length_of xs) (x :: xs) ≡ drop_last x xs
unfolding take_objs
take_but_last x nil = refl
take_but_last x (y :: ys) = ap (λ (r : Objs). x :: r) (take_but_last y ys)

pub length_but_last : (x : Obj) (xs : Objs) → length_of (drop_last x xs) ≡ length_of xs
length_but_last x nil = refl
length_but_last x (y :: ys) = ap suc (length_but_last y ys)
