-- The parts of a sequence: its size, first place, rest and place k; pairs; waiting values gathered.
use Prim.Native.Nat.{ℕ, zero, suc, ◌+◌, ◌-◌, ◌*◌, ◌≤◌, ◌<◌}
use mathlib.Core.Path.{◌≡◌, refl, ◌∙◌}
use mathlib.Core.List.{List, [], ◌∷◌}
use native.Mathlib.Omega.{arith}
use native.Mathlib.Numerals.{add-one}
use lib.ListN.{length}
use Rattle.language.specs.Objects.{Obj, seq, Objs, nil, ◌::◌, length_of, nth_obj}
use Rattle.language.specs.Meanings.{gives, nth}
use Rattle.language.specs.declared.Val.{Val}
use Rattle.cells.specs.Cells.{Rep, rep_nil, rep_more, val_at, next_at, sequence_val, Same, cell_put}
use Rattle.cells.specs.Parts.{first_of, Headed, drop_objs, Nth, Paired, held_at, onto, Held, no_held, a_held, Gathered}
use Rattle.cells.proofs.Reps.{same_refl, same_trans, rep_ext, length_cell, cell_same, rep_new}

-- ---- the first place
pub head_is : {C : List ℕ} {v r : Val} {p : ℕ} → p ≡ first_of v → r ≡ val_at C p → Headed C v r
head_is {C} {v} {r} {p} e f = record { is = rw (f, e); means = λ n x xs u h. go n x xs u h }
  where
    go : (n : ℕ) (x : Obj) (xs : Objs) → n < 4294967296 → Rep C n v (seq (x :: xs)) → Rep C n r x
    go n x xs u (rep_more {p = q} t w l a b) =
        let i : p ≡ q = omega arith in
        rw (f, i) a

-- ---- the place k
pub drop_first : (xs : Objs) (k : ℕ) → k < length_of xs → drop_objs xs k ≡ nth_obj xs k :: drop_objs xs (suc k)
unfolding drop_objs nth_obj
drop_first nil k h = absurd (omega arith)
drop_first (x :: xs) zero h = refl
drop_first (x :: xs) (suc k) h = drop_first xs k (omega arith)

-- what a selector answers
pub nth_gives : (xs : Objs) (k : ℕ) → k < length_of xs → nth k xs ≡ gives 0 0 (nth_obj xs k)
unfolding nth_obj
nth_gives nil k h = absurd (omega arith)
nth_gives (x :: xs) zero h = refl
nth_gives (x :: xs) (suc k) h = nth_gives xs k (omega arith)

-- p is the first cell of the objects
pub record From (C : List ℕ) (n p : ℕ) (xs : Objs) : Type 0 where
  pub val : Val
  pub first : p ≡ first_of val
  pub rep : Rep C n val (seq xs)

pub from_head : {C : List ℕ} {n p : ℕ} {x : Obj} {xs : Objs} → n < 4294967296 → From C n p (x :: xs) → Rep C n (val_at C p) x
from_head {C} {n} {p} {x} {xs} u f = (head_is f.first refl).means n x xs u f.rep

link_small : {C : List ℕ} {n a : ℕ} (xs : Objs) → n < 4294967296 → Rep C n (sequence_val a (length_of xs)) (seq xs) → a < 4294967296
link_small nil u (rep_nil t w) = omega arith
link_small (x :: xs) u (rep_more t w l a b) = omega arith

pub from_next : {C : List ℕ} {n p q : ℕ} {x : Obj} {xs : Objs} → n < 4294967296 → q ≡ next_at C p - 1 → From C n p (x :: xs) → From C n q xs
from_next {C} {n} {p} {q} {x} {xs} u e f = go f.rep
  where
    go : Rep C n f.val (seq (x :: xs)) → From C n q xs
    go (rep_more {p = i} t w l a b) =
        let h : p ≡ i = omega (arith, f.first) in
        let z = link_small xs u b in
        record { val = sequence_val (next_at C i) (length_of xs); first = rw h at e ∙ omega arith; rep = b }

-- p is the first cell of what follows the first q places, where p₀ is that of all
pub record Walking (C : List ℕ) (p₀ k p q : ℕ) : Type 0 where
  pub most : q ≤ k
  pub fits : p < 4294967296
  pub means : (n : ℕ) (xs : Objs) → n < 4294967296 → k < length_of xs → From C n p₀ xs → From C n p (drop_objs xs q)

pub walk_start : {C : List ℕ} {k p : ℕ} → p < 4294967296 → Walking C p k p 0
unfolding drop_objs
walk_start e = record { most = omega arith; fits = e; means = λ n xs u l f. f }

pub walk_next : {C : List ℕ} {p₀ k p p₁ q : ℕ} → q < k → Walking C p₀ k p q → p₁ ≡ next_at C p - 1 → p₁ < 4294967296 → Walking C p₀ k p₁ (q + 1)
walk_next {q = q} h w e f = record { most = omega arith; fits = f; means = λ n xs u l r. rw add-one (from_next u e (rw (drop_first xs q (omega arith)) at (w.means n xs u l r))) }

pub walk_end : {C : List ℕ} {v r : Val} {p₀ k p q : ℕ} → p₀ ≡ first_of v → k ≤ q → Walking C p₀ k p q → r ≡ val_at C p → Nth C v k r
walk_end {v = v} {k = k} {q = q} e h w t =
    let z : q ≡ k = omega (arith, w.most) in
    record { means = λ n xs u l r. rw (← z, t) (from_head u (rw (drop_first xs q (omega arith)) at (w.means n xs u l (record { val = v; first = e; rep = r })))) }

-- ---- a pair
pub pair_is : {C C₁ C₂ : List ℕ} {p q : ℕ} {a b r : Val} → q ≡ p + 2 → C₁ ≡ cell_put C p b 0 → C₂ ≡ cell_put C₁ (p + 1) a (p + 1) → r ≡ sequence_val q 2 → Paired C p a b r C₂
pair_is {C} {C₁} {C₂} {p} {q} {a} {b} {r} k e f g = record { means = λ x y l h ra rb. go x y h ra rb }
  where
    go : (x y : Obj) → p * 4 + 8 ≤ length C → Rep C p a x → Rep C p b y → Rep C₂ (p + 2) r (seq (x :: y :: nil)) × Same C C₂ p
    go x y h ra rb =
        let s₁ : Same C C₁ p = rw e (cell_same C p b 0) in
        let r₁ : Rep C₁ (p + 1) (sequence_val (p + 1) 1) (seq (y :: nil)) = rw e (rep_new 0 nil (omega arith) rb (rep_nil refl refl)) in
        let l₁ : length C₁ ≡ length C = rw e (length_cell C p b 0) in
        let s₂ : Same C₁ C₂ (p + 1) = rw f (cell_same C₁ (p + 1) a (p + 1)) in
        let r₂ : Rep C₂ (p + 1 + 1) (sequence_val (p + 1 + 1) 2) (seq (x :: y :: nil)) = rw f (rep_new (p + 1) (y :: nil) (omega arith) (rep_ext s₁ (omega arith) ra) r₁) in
        let z : p + 1 + 1 ≡ p + 2 = omega arith in
        (rw (g, k) (rw z at r₂), same_trans (omega arith) s₁ s₂)

-- ---- what waits is gathered: `rest` still waits, `done` stands in the new cells
pub record Left (C₀ W : List ℕ) (top n p : ℕ) (xs : List Obj) (C : List ℕ) (left link free : ℕ) : Type 0 where
  pub rest : List Obj
  pub done : Objs
  pub long : length rest ≡ left
  pub size : length_of done + left ≡ n
  pub still : Held W C₀ p top rest
  pub rep : Rep C free (sequence_val link (length_of done)) (seq done)
  pub same : Same C₀ C p
  pub whole : onto rest done ≡ onto xs nil

pub record Gathering (C₀ W : List ℕ) (top n p : ℕ) (C : List ℕ) (left link free : ℕ) : Type 0 where
  pub sum : free + left ≡ p + n
  pub fits : p + n < 4294967296
  pub len : length C ≡ length C₀
  pub means : (xs : List Obj) → length xs ≡ n → Held W C₀ p top xs → p * 4 + n * 4 ≤ length C₀ → Left C₀ W top n p xs C left link free

pub gather_start : {C W : List ℕ} {top n p : ℕ} → n ≤ 4294967295 - p → p < 4294967296 → Gathering C W top n p C n 0 p
gather_start {C} {W} {top} {n} {p} h u = record {
  sum = refl;
  fits = omega arith;
  len = refl;
  means = λ xs e w r. record { rest = xs; done = nil; long = e; size = omega arith; still = w; rep = rep_nil refl refl; same = same_refl C p; whole = refl };
}

left_step : {C₀ W : List ℕ} {top p : ℕ} {C : List ℕ} {free : ℕ} (n : ℕ) (xs : List Obj) (q link : ℕ) {rest : List Obj} (done : Objs) → p ≤ free → free * 4 + 4 ≤ length C → length rest ≡ q + 1 → length_of done + (q + 1) ≡ n → Held W C₀ p top rest → Rep C free (sequence_val link (length_of done)) (seq done) → Same C₀ C p → onto rest done ≡ onto xs nil → Left C₀ W top n p xs (cell_put C free (held_at W (top + q)) link) q (free + 1) (free + 1)
unfolding onto
left_step n xs q link done l h e z no_held r s w = absurd (omega arith)
left_step {W = W} {top = top} {C = C} {free = free} n xs q link done l h e z (a_held {x = x} {xs = rest} v still) r s w =
    let lq : length rest ≡ q = omega arith in
    record {
      rest = rest;
      done = x :: done;
      long = lq;
      size = omega arith;
      still = still;
      rep = rep_new link done h (rep_ext s l (rw lq at v)) r;
      same = same_trans l s (cell_same C free (held_at W (top + q)) link);
      whole = w;
    }

gather_step : {C₀ W : List ℕ} {top n p : ℕ} {C : List ℕ} {left link free : ℕ} (q : ℕ) → left ≡ q + 1 → Gathering C₀ W top n p C left link free → Gathering C₀ W top n p (cell_put C free (held_at W (top + q)) link) q (free + 1) (free + 1)
gather_step {W = W} {top = top} {n = n} {C = C} {link = link} {free = free} q z g = record {
  sum = omega arith;
  fits = g.fits;
  len = length_cell C free (held_at W (top + q)) link ∙ g.len;
  means = λ xs e h r. let l = g.means xs e h r in left_step n xs q link l.done (omega (arith, l.size)) (omega (arith, l.size)) (l.long ∙ z) (omega (arith, l.size)) l.still l.rep l.same l.whole;
}

pub gather_next : {C₀ W : List ℕ} {top n p : ℕ} {C C' : List ℕ} {left link free : ℕ} {v : Val} → 0 < left → Gathering C₀ W top n p C left link free → v ≡ held_at W (top + (left - 1)) → C' ≡ cell_put C free v link → Gathering C₀ W top n p C' (left - 1) (free + 1) (free + 1)
gather_next {left = left} h g e f = rw (f, e) (gather_step (left - 1) (omega arith) g)

gather_last : {C : List ℕ} {free : ℕ} {v : Val} (z : ℕ) (xs rest : List Obj) {done : Objs} → length rest ≡ 0 → free ≡ z → Rep C free v (seq done) → onto rest done ≡ onto xs nil → Rep C z v (seq (onto xs nil))
unfolding onto
gather_last z xs [] e f r w = rw (← w, ← f) r
gather_last z xs (x ∷ rest) e f r w = absurd (omega arith)

pub gather_end : {C₀ W : List ℕ} {top n p : ℕ} {C : List ℕ} {left link free : ℕ} {r : Val} → left ≤ 0 → Gathering C₀ W top n p C left link free → r ≡ sequence_val link n → Gathered C₀ W top n p r C
gather_end {n = n} {p = p} {link = link} z g e = record {
  means = λ xs f h u w.
      let l = g.means xs f h w in
      let s : length_of l.done ≡ n = omega (arith, l.size) in
      (rw e (gather_last (p + n) xs l.rest (omega (arith, l.long)) (omega arith) (rw s at l.rep) l.whole), l.same);
}
