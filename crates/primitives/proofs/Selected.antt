-- Sequences and atoms by their tags; the selectors; the first place taken away; the length.
use Rattle.language.specs.declared.stops.Stop.TheVariants.{Bottom}
use Rattle.language.specs.Charging.{stopped}
use Prim.Native.Nat.{ℕ, zero, suc, ◌-◌, ◌≤◌, ◌<◌}
use mathlib.Core.Path.{◌≡◌, refl, ap, ◌∙◌}
use mathlib.Core.List.{List}
use mathlib.Core.Option.{Option, some, none}
use native.Mathlib.Omega.{arith}
use lib.IntN.{pos}
use borrow.Author.Tests.{lt-ltb, le-ltb}
use Rattle.language.specs.Objects.{Obj, int, seq, Objs, nil, ◌::◌, length_of, nth_obj}
use Rattle.language.specs.Words.{Op}
use Rattle.language.specs.Forms.{select, select_right, op}
use Rattle.language.specs.Numbers.{one}
use Rattle.language.specs.Meanings.{WordAnswer, falls, gives, number, on_seq, on_full, pick, nth, from_left, from_right}
use Rattle.language.specs.declared.Meter.{Meter}
use Rattle.language.specs.declared.Val.{Val}
use Rattle.cells.specs.Cells.{Rep, rep_pos, rep_neg, rep_symbol, rep_nil, rep_more, free}
use Rattle.cells.specs.Parts.{Sized, Tailed, Nth}
use Rattle.cells.proofs.Lengths.{rep_length}
use Rattle.arithmetic.specs.Integers.{HoldsInteger, holds_pos}
use Rattle.primitives.specs.Shapes.{IsSequence, HasPlace, NoPlace, an_atom, no_first, too_far}
use Rattle.primitives.specs.Ends.{reached, Leaf}
use Rattle.primitives.specs.Leaves.{Plain}
use Rattle.primitives.proofs.Ending.{end_plain, leaf_falls, free_low, free_under}

-- ---- no sequence; a sequence
pub no_seq : {C : List ℕ} {n : ℕ} {v : Val} {x : Obj} → (v.tag ≡ 3 → ⊥) → Rep C n v x → (k : Objs → WordAnswer) → on_seq x k ≡ falls
no_seq h (rep_pos t e b) k = refl
no_seq h (rep_neg t e b) k = refl
no_seq h (rep_symbol t i e) k = refl
no_seq h (rep_nil t e) k = absurd (h t)
no_seq h (rep_more t e l a b) k = absurd (h t)

pub no_full : {C : List ℕ} {n : ℕ} {v : Val} {x : Obj} → (v.tag ≡ 3 → ⊥) → Rep C n v x → (k : Obj → Objs → WordAnswer) → on_full x k ≡ falls
no_full h (rep_pos t e b) k = refl
no_full h (rep_neg t e b) k = refl
no_full h (rep_symbol t i e) k = refl
no_full h (rep_nil t e) k = absurd (h t)
no_full h (rep_more t e l a b) k = absurd (h t)

pub record SeqOf (C : List ℕ) (n : ℕ) (v : Val) (x : Obj) : Type 0 where
  pub places : Objs
  pub is : x ≡ seq places
  pub rep : Rep C n v (seq places)

pub seq_of : {C : List ℕ} {n : ℕ} {v : Val} {x : Obj} → v.tag ≡ 3 → Rep C n v x → SeqOf C n v x
seq_of h (rep_pos t e b) = absurd (omega arith)
seq_of h (rep_neg t e b) = absurd (omega arith)
seq_of h (rep_symbol t i e) = absurd (omega arith)
seq_of h (rep_nil t e) = record { places = nil; is = refl; rep = rep_nil t e }
seq_of {v = v} h (rep_more {p = p} {x = x} {xs = xs} t e l a b) = record { places = x :: xs; is = refl; rep = rep_more {v = v} {p = p} {x = x} {xs = xs} t e l a b }

-- ---- the selectors
nth_is : (j : ℕ) (xs : Objs) → j < length_of xs → nth j xs ≡ gives 0 0 (nth_obj xs j)
unfolding nth_obj
nth_is j nil h = absurd (omega arith)
nth_is zero (x :: xs) h = refl
nth_is (suc j) (x :: xs) h = nth_is j xs (omega arith)

left_far : (k n : ℕ) → n < k → from_left k n ≡ none
left_far zero n h = absurd (omega arith)
left_far (suc j) n h = rw (le-ltb j n (omega arith), from_left)

left_in : (k n : ℕ) → (k ≡ 0 → ⊥) → k ≤ n → from_left k n ≡ some (k - 1)
left_in zero n z h = absurd (z refl)
left_in (suc j) n z h =
    let e : suc j - 1 ≡ j = omega arith in
    rw (lt-ltb j n (omega arith), from_left, e)

right_far : (k n : ℕ) → n < k → from_right k n ≡ none
right_far zero n h = absurd (omega arith)
right_far (suc j) n h = rw (le-ltb j n (omega arith), from_right)

right_in : (k n : ℕ) → (k ≡ 0 → ⊥) → k ≤ n → from_right k n ≡ some (n - k)
right_in zero n z h = absurd (z refl)
right_in (suc j) n z h = rw (lt-ltb j n (omega arith), from_right)

select_atom : {C : List ℕ} {v : Val} {m : Meter} {k : ℕ} → (v.tag ≡ 3 → ⊥) → Leaf C v m (select k) (stopped Bottom m) C
select_atom {k = k} h = leaf_falls (λ x o r. no_seq h r (λ xs. pick (from_left k (length_of xs)) xs))

right_atom : {C : List ℕ} {v : Val} {m : Meter} {k : ℕ} → (v.tag ≡ 3 → ⊥) → Leaf C v m (select_right k) (stopped Bottom m) C
right_atom {k = k} h = leaf_falls (λ x o r. no_seq h r (λ xs. pick (from_right k (length_of xs)) xs))

select_zero : {C : List ℕ} {v : Val} {m : Meter} {k : ℕ} → v.tag ≡ 3 → k ≡ 0 → Leaf C v m (select k) (stopped Bottom m) C
select_zero h z = leaf_falls (λ x o r. rw ((seq_of h r).is, z))

right_zero : {C : List ℕ} {v : Val} {m : Meter} {k : ℕ} → v.tag ≡ 3 → k ≡ 0 → Leaf C v m (select_right k) (stopped Bottom m) C
right_zero h z = leaf_falls (λ x o r. rw ((seq_of h r).is, z))

select_far : {C : List ℕ} {v : Val} {m : Meter} {k n : ℕ} → v.tag ≡ 3 → Sized v n → n < k → Leaf C v m (select k) (stopped Bottom m) C
select_far {C} {m = m} {k = k} h s l = leaf_falls (λ x o r.
    let q = seq_of h r in
    let e = s.means C (free C m) q.places (free_under C m o) q.rep in
    rw q.is (ap (λ (t : Option ℕ). pick t q.places) (left_far k (length_of q.places) (omega (arith, e)))))

right_past : {C : List ℕ} {v : Val} {m : Meter} {k n : ℕ} → v.tag ≡ 3 → Sized v n → n < k → Leaf C v m (select_right k) (stopped Bottom m) C
right_past {C} {m = m} {k = k} h s l = leaf_falls (λ x o r.
    let q = seq_of h r in
    let e = s.means C (free C m) q.places (free_under C m o) q.rep in
    rw q.is (ap (λ (t : Option ℕ). pick t q.places) (right_far k (length_of q.places) (omega (arith, e)))))

pub select_none : {C : List ℕ} {v : Val} {m : Meter} {k : ℕ} → NoPlace k v → Leaf C v m (select k) (stopped Bottom m) C
select_none (an_atom h) = select_atom h
select_none (no_first h z) = select_zero h z
select_none (too_far h s l) = select_far h s l

pub right_none : {C : List ℕ} {v : Val} {m : Meter} {k : ℕ} → NoPlace k v → Leaf C v m (select_right k) (stopped Bottom m) C
right_none (an_atom h) = right_atom h
right_none (no_first h z) = right_zero h z
right_none (too_far h s l) = right_past h s l

pub select_is : {C : List ℕ} {v r : Val} {m : Meter} {k n : ℕ} → HasPlace k v n → Nth C v (k - 1) r → Leaf C v m (select k) (reached r m) C
select_is {C} {m = m} {k = k} p t = record {
  sinks = (omega arith, refl);
  means = λ x o r.
      let h = p.sequence.tag in
      let z = p.first in
      let s = p.sequence.size in
      let l = p.last in
      let q = seq_of h r in
      let u = free_under C m o in
      let e = s.means C (free C m) q.places u q.rep in
      let i : k - 1 < length_of q.places = below k (length_of q.places) z (omega (arith, e)) in
      rw q.is (end_plain (nth_obj q.places (k - 1)) o (ap (λ (t : Option ℕ). pick t q.places) (left_in k (length_of q.places) z (omega (arith, e))) ∙ nth_is (k - 1) q.places i) (t.means (free C m) q.places u i q.rep));
}
  where
    below : (k n : ℕ) → (k ≡ 0 → ⊥) → k ≤ n → k - 1 < n
    below k n z l = omega (arith, z)

pub right_is : {C : List ℕ} {v r : Val} {m : Meter} {k n : ℕ} → HasPlace k v n → Nth C v (n - k) r → Leaf C v m (select_right k) (reached r m) C
right_is {C} {v} {r} {m = m} {k = k} {n = n} p t = record {
  sinks = (omega arith, refl);
  means = λ x o w.
      let h = p.sequence.tag in
      let z = p.first in
      let s = p.sequence.size in
      let l = p.last in
      let q = seq_of h w in
      let u = free_under C m o in
      let e = s.means C (free C m) q.places u q.rep in
      let i : n - k < length_of q.places = below k n z l e in
      let j : length_of q.places - k ≡ n - k = omega (arith, e) in
      rw q.is (end_plain (nth_obj q.places (n - k)) o (ap (λ (t : Option ℕ). pick t q.places) (right_in k (length_of q.places) z (omega (arith, e)) ∙ ap some j) ∙ nth_is (n - k) q.places i) (t.means (free C m) q.places u i q.rep));
}
  where
    below : (k n : ℕ) {p : ℕ} → (k ≡ 0 → ⊥) → k ≤ n → n ≡ p → n - k < p
    below k n z l e = omega (arith, z)

-- ---- tl
pub tl_atom : {C : List ℕ} {v : Val} {m : Meter} → (v.tag ≡ 3 → ⊥) → Leaf C v m (op Op.tl) (stopped Bottom m) C
tl_atom h = leaf_falls (λ x o r. no_full h r (λ y ys. gives 0 0 (seq ys)))

pub full_none : {C : List ℕ} {n i : ℕ} {v : Val} {x : Obj} → n < 4294967296 → Sized v i → i ≡ 0 → Rep C n v x → (k : Obj → Objs → WordAnswer) → on_full x k ≡ falls
full_none u s z (rep_pos t e b) k = refl
full_none u s z (rep_neg t e b) k = refl
full_none u s z (rep_symbol t i e) k = refl
full_none u s z (rep_nil t e) k = refl
full_none {C} {n} {v = v} u s z (rep_more {p = p} {x = x} {xs = xs} t e l a b) k = absurd (omega (arith, s.means C n (x :: xs) u (rep_more {v = v} {p = p} {x = x} {xs = xs} t e l a b)))

pub tl_none : {C : List ℕ} {v : Val} {m : Meter} {n : ℕ} → Sized v n → n ≡ 0 → Leaf C v m (op Op.tl) (stopped Bottom m) C
tl_none {C} {m = m} s z = leaf_falls (λ x o r. full_none (free_under C m o) s z r (λ y ys. gives 0 0 (seq ys)))

-- a sequence with a first place
pub record FullOf (C : List ℕ) (n : ℕ) (v : Val) (x : Obj) : Type 0 where
  pub first : Obj
  pub others : Objs
  pub is : x ≡ seq (first :: others)
  pub rep : Rep C n v (seq (first :: others))

full_places : {C : List ℕ} {n i : ℕ} {v : Val} {x : Obj} (xs : Objs) → n < 4294967296 → Sized v i → (i ≡ 0 → ⊥) → x ≡ seq xs → Rep C n v (seq xs) → FullOf C n v x
full_places {C} {n} nil u s z e r = absurd (z (s.means C n nil u r))
full_places (x :: xs) u s z e r = record { first = x; others = xs; is = e; rep = r }

pub full_of : {C : List ℕ} {n i : ℕ} {v : Val} {x : Obj} → n < 4294967296 → v.tag ≡ 3 → Sized v i → (i ≡ 0 → ⊥) → Rep C n v x → FullOf C n v x
full_of u h s z r = let q = seq_of h r in full_places q.places u s z q.is q.rep

pub tl_is : {C : List ℕ} {v r : Val} {m : Meter} {n : ℕ} → v.tag ≡ 3 → Sized v n → (n ≡ 0 → ⊥) → Tailed C v r → Leaf C v m (op Op.tl) (reached r m) C
tl_is {C} {m = m} h s z t = record {
  sinks = (omega arith, refl);
  means = λ x o r.
      let u = free_under C m o in
      let q = full_of u h s z r in
      rw q.is (end_plain (seq q.others) o refl (t.means (free C m) q.first q.others u q.rep));
}

-- ---- length
pub length_atom : {v : Val} {m : Meter} → (v.tag ≡ 3 → ⊥) → Plain v m (op Op.length) (stopped Bottom m)
length_atom h = record { means = λ C. leaf_falls (λ x o r. no_seq h r (λ xs. number one Op.length (pos (length_of xs)))) }

-- a length in range is the number given
length_given : (k : ℕ) → k < 2147483648 → number one Op.length (pos k) ≡ gives 0 0 (int (pos k))
length_given k h = rw (lt-ltb k 2147483648 h, number)

count_rep : (C : List ℕ) (n k : ℕ) {v : Val} → HoldsInteger v (pos k) → k < 2147483648 → Rep C n v (int (pos k))
count_rep C n k (holds_pos t w) h = rep_pos t w h

pub length_is : {v r : Val} {m : Meter} {n k : ℕ} → IsSequence v n → k ≡ n → HoldsInteger r (pos k) → Plain v m (op Op.length) (reached r m)
length_is {v} {r} {m} {n} t a b = record {
  means = λ C. record {
    sinks = (omega arith, refl);
    means = λ x o w.
        let h = t.tag in
        let s = t.size in
        let g : HoldsInteger r (pos n) = rw a at b in
        let q = seq_of h w in
        let u = free_under C m o in
        let e : n ≡ length_of q.places = s.means C (free C m) q.places u q.rep in
        let f : HoldsInteger r (pos (length_of q.places)) = rw e at g in
        let l : length_of q.places < 2147483648 = omega (arith, rep_length q.places q.rep, free_low C m o) in
        rw q.is (end_plain (int (pos (length_of q.places))) o (length_given (length_of q.places) l) (count_rep C (free C m) (length_of q.places) f l));
  };
}
