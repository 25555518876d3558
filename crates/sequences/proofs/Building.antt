-- A place put before a sequence, and the places of a sequence in another order.
use Prim.Native.Nat.{ℕ, suc, ◌+◌, ◌-◌, ◌%◌, ◌≤◌, ◌<◌}
use mathlib.Core.Path.{◌≡◌, refl, sym, ap, subst, ◌∙◌}
use mathlib.Core.List.{List}
use native.Mathlib.Omega.{arith}
use lib.ListN.{length}
use Rattle.language.specs.Objects.{Obj, seq, Objs, nil, ◌::◌, length_of, ◌+++◌}
use Rattle.language.specs.Meanings.{drop_last, last_of, turned_onto, turned, to_left, to_right}
use Rattle.language.specs.declared.Val.{Val}
use Rattle.cells.specs.Cells.{Rep, rep_nil, rep_more, Same, sequence_val, cell_put}
use Rattle.cells.specs.Parts.{Sized, Headed, Tailed, Nth}
use Rattle.cells.proofs.Reps.{val_same, same_refl, same_trans, rep_ext, cell_same, rep_new}
use Rattle.sequences.specs.Making.{Space, NewSequence, PutBefore, take_objs, Prepended, Rearranged, all_but_last}
use Rattle.cells.proofs.Lengths.{rep_length}
use Rattle.sequences.proofs.Parts.{append-nil, length_append_one, take_all, nth_last, take_but_last, length_but_last}

-- ---- one place
-- a sequence's value is its first cell's link and its length
pub as_sequence : {C : List ℕ} {n : ℕ} {s : Val} (ys : Objs) → n < 4294967296 → Rep C n s (seq ys) → s ≡ sequence_val (s.word % 4294967296) (length_of ys)
as_sequence {s = s} nil h (rep_nil t w) = val_same s (sequence_val (s.word % 4294967296) 0) t (omega arith)
as_sequence {s = s} (y :: ys) h (rep_more t w l a b) = val_same s (sequence_val (s.word % 4294967296) (suc (length_of ys))) t (omega arith)

pub before_long : {C C' : List ℕ} {p n : ℕ} {x s r : Val} → Sized s n → (n + 1 < 4294967296 → ⊥) → PutBefore C p x s r C'
before_long {C} {p = p} z h = record { means = λ y ys e rx rs. absurd (omega (arith, e.far, rep_length ys rs, z.means C p ys (omega (arith, e.far)) rs)) }

pub before_is : {C C' : List ℕ} {p n l q m : ℕ} {x s r : Val} → Sized s n → l ≡ s.word % 4294967296 → C' ≡ cell_put C p x l → q ≡ p + 1 → m ≡ n + 1 → r ≡ sequence_val q m → PutBefore C p x s r C'
before_is {C} {C'} {p} {n} {l} {q} {m} {x} {s} {r} z f g a b e = record { means = go }
  where
    go : (y : Obj) (ys : Objs) → Space C p 1 → Rep C p x y → Rep C p s (seq ys) → NewSequence C p 1 (y :: ys) r C'
    go y ys h rx rs =
        let u : p < 4294967296 = omega (arith, h.far) in
        let k : n ≡ length_of ys = z.means C p ys u rs in
        let i : s ≡ sequence_val l (length_of ys) = rw f (as_sequence ys u rs) in
        let j : m ≡ suc (length_of ys) = omega arith in
        record {
          rep = rw (e, a, j, g) (rep_new l ys (omega (arith, h.long)) rx (rw i at rs));
          same = rw g (cell_same C p x l);
        }

pub stands_as : {C C' : List ℕ} {p n : ℕ} {xs ys : Objs} {r : Val} → xs ≡ ys → NewSequence C p n xs r C' → NewSequence C p n ys r C'
stands_as {C} {C'} {p} {n} {r = r} e s = subst (λ (t : Objs). NewSequence C p n t r C') e s

pub nil_rep : {C : List ℕ} {n : ℕ} {v : Val} → v ≡ sequence_val 0 0 → Rep C n v (seq nil)
nil_rep {C} {n} e = rw e (rep_nil refl refl)

-- ---- without the last place
pub last_less : {C C' : List ℕ} {v o r : Val} {n p : ℕ} → (n ≡ 0 → ⊥) → o ≡ sequence_val 0 0 → Prepended C v (n - 1) p o r C' → Rearranged all_but_last C v n p r C'
last_less {C} {C'} {v} {o} {r} {n} {p} z f g = record { means = go }
  where
    go : (xs : Objs) → length_of xs ≡ n → Space C p (length_of (all_but_last xs)) → Rep C p v (seq xs) → NewSequence C p (length_of (all_but_last xs)) (all_but_last xs) r C'
    go nil e s rv = absurd (z (sym e))
    go (x :: xs) e s rv =
        let i : n - 1 ≡ length_of xs = omega arith in
        let h : Prepended C v (length_of xs) p o r C' = rw i at g in
        let j = length_but_last x xs in
        rw j (stands_as (append-nil (take_objs (length_of xs) (x :: xs)) ∙ take_but_last x xs) (h.means (x :: xs) nil (omega arith) (rw j at s) rv (nil_rep f)))

-- ---- the first place behind the others
pub left_far : {C C' : List ℕ} {v r : Val} {n p : ℕ} → (n ≡ 0 → ⊥) → 4294967295 ≤ p → Rearranged to_left C v n p r C'
left_far {C} {C'} {v} {r} {n} {p} z h = record { means = go }
  where
    go : (xs : Objs) → length_of xs ≡ n → Space C p (length_of (to_left xs)) → Rep C p v (seq xs) → NewSequence C p (length_of (to_left xs)) (to_left xs) r C'
    go nil e s rv = absurd (z (sym e))
    go (x :: xs) e s rv = absurd (omega (arith, s.far, length_append_one xs x))

pub left_is : {C C₁ C₂ : List ℕ} {v x others o last r : Val} {n p : ℕ} → (n ≡ 0 → ⊥) → Headed C v x → Tailed C v others → o ≡ sequence_val 0 0 → PutBefore C p x o last C₁ → length C₁ ≡ length C → Prepended C₁ others (n - 1) (p + 1) last r C₂ → Rearranged to_left C v n p r C₂
left_is {C} {C₁} {C₂} {v} {x} {others} {o} {last} {r} {n} {p} z h t f b e₁ g = record { means = go }
  where
    go : (xs : Objs) → length_of xs ≡ n → Space C p (length_of (to_left xs)) → Rep C p v (seq xs) → NewSequence C p (length_of (to_left xs)) (to_left xs) r C₂
    go nil e s rv = absurd (z (sym e))
    go (y :: ys) e s rv =
        let j = length_append_one ys y in
        let u : p < 4294967296 = omega (arith, s.far) in
        let i : n - 1 ≡ length_of ys = omega arith in
        let g₁ : Prepended C₁ others (length_of ys) (p + 1) last r C₂ = rw i at g in
        let st = b.means y nil (record { far = omega (arith, s.far, j); long = omega (arith, s.long, j) }) (h.means p y ys u rv) (nil_rep f) in
        let k = g₁.means ys (y :: nil) (omega arith) (record { far = omega (arith, s.far, j); long = omega (arith, s.long, j) }) (rep_ext st.same (omega arith) (t.means p y ys u rv)) st.rep in
        let a : p + 1 + length_of ys ≡ p + length_of (ys +++ (y :: nil)) = omega (arith, j) in
        let w : take_objs (length_of ys) ys ≡ ys = take_all (length_of ys) ys (omega arith) in
        record { rep = rw (← a) (subst (λ (t : Objs). Rep C₂ (p + 1 + length_of ys) r (seq t)) (ap (λ (q : Objs). q +++ (y :: nil)) w) k.rep); same = same_trans (omega arith) st.same k.same }

-- ---- the last place before the others
pub right_far : {C C' : List ℕ} {v r : Val} {n p : ℕ} → (n ≡ 0 → ⊥) → 4294967296 ≤ p + n → Rearranged to_right C v n p r C'
right_far {C} {C'} {v} {r} {n} {p} z h = record { means = go }
  where
    go : (xs : Objs) → length_of xs ≡ n → Space C p (length_of (to_right xs)) → Rep C p v (seq xs) → NewSequence C p (length_of (to_right xs)) (to_right xs) r C'
    go nil e s rv = absurd (z (sym e))
    go (x :: xs) e s rv = absurd (omega (arith, s.far, length_but_last x xs))

pub right_is : {C C₁ C₂ : List ℕ} {v x others o r : Val} {n p : ℕ} → (n ≡ 0 → ⊥) → Nth C v (n - 1) x → o ≡ sequence_val 0 0 → Prepended C v (n - 1) p o others C₁ → length C₁ ≡ length C → PutBefore C₁ (p + (n - 1)) x others r C₂ → Rearranged to_right C v n p r C₂
right_is {C} {C₁} {C₂} {v} {x} {others} {o} {r} {n} {p} z t f g e₁ b = record { means = go }
  where
    go : (xs : Objs) → length_of xs ≡ n → Space C p (length_of (to_right xs)) → Rep C p v (seq xs) → NewSequence C p (length_of (to_right xs)) (to_right xs) r C₂
    go nil e s rv = absurd (z (sym e))
    go (y :: ys) e s rv =
        let j = length_but_last y ys in
        let u : p < 4294967296 = omega (arith, s.far) in
        let i : n - 1 ≡ length_of ys = omega arith in
        let g₁ : Prepended C v (length_of ys) p o others C₁ = rw i at g in
        let t₁ : Nth C v (length_of ys) x = rw i at t in
        let b₁ : PutBefore C₁ (p + length_of ys) x others r C₂ = rw i at b in
        let k = stands_as (append-nil (take_objs (length_of ys) (y :: ys)) ∙ take_but_last y ys) (g₁.means (y :: ys) nil (omega arith) (record { far = omega (arith, s.far, j); long = omega (arith, s.long, j) }) rv (nil_rep f)) in
        let a : p + length_of ys + 1 ≡ p + suc (length_of (drop_last y ys)) = omega arith in
        let l = rw (nth_last y ys) at (t₁.means p (y :: ys) u (omega arith) rv) in
        let st = b₁.means (last_of y ys) (drop_last y ys) (record { far = omega (arith, s.far, j); long = omega (arith, s.long, j, e₁) }) (rep_ext k.same (omega arith) l) k.rep in
        record { rep = rw (← a) st.rep; same = same_trans (omega arith) k.same st.same }

-- ---- from the last place to the first
pub record TurnNow (C₀ : List ℕ) (p : ℕ) (xs : Objs) (C : List ℕ) (left : ℕ) (rest made : Val) (free : ℕ) : Type 0 where
  pub ahead : Objs
  pub done : Objs
  pub long : length_of ahead ≡ left
  pub still : Rep C free rest (seq ahead)
  pub rep : Rep C free made (seq done)
  pub same : Same C₀ C p
  pub whole : turned_onto ahead done ≡ turned xs

pub record Turning (C₀ : List ℕ) (v : Val) (n p : ℕ) (C : List ℕ) (rest made : Val) (left free : ℕ) : Type 0 where
  pub sum : free + left ≡ p + n
  pub most : left ≤ n
  pub fits : p + n < 4294967296
  pub len : length C ≡ length C₀
  pub means : (xs : Objs) → length_of xs ≡ n → Space C₀ p n → Rep C₀ p v (seq xs) → TurnNow C₀ p xs C left rest made free

length_onto : (xs ys : Objs) → length_of (turned_onto xs ys) ≡ length_of xs + length_of ys
length_onto nil ys = omega arith
length_onto (x :: xs) ys = length_onto xs (x :: ys) ∙ (omega arith)

pub length_turned : (xs : Objs) → length_of (turned xs) ≡ length_of xs
length_turned xs = length_onto xs nil ∙ (omega arith)

pub turn_far : {C C' : List ℕ} {v r : Val} {n p : ℕ} → (p + n < 4294967296 → ⊥) → Rearranged turned C v n p r C'
turn_far h = record { means = λ xs e s rv. absurd (omega (arith, s.far, length_turned xs)) }

pub turn_start : {C : List ℕ} {n p end : ℕ} {v made : Val} → p + n < 4294967296 → end ≡ p + n → made ≡ sequence_val 0 0 → Turning C v n p C v made (end - p) p
turn_start {C} {n} {p} {end} h u f = record { sum = omega arith; most = omega arith; fits = h; len = refl; means = λ xs e s rv. record { ahead = xs; done = nil; long = omega arith; still = rv; rep = nil_rep f; same = same_refl C p; whole = refl } }

turn_now : {C₀ C C' : List ℕ} {p free left : ℕ} {rest made x rest₁ r : Val} {xs : Objs} (q : ℕ) (ahead : Objs) → left ≡ suc q → length_of ahead ≡ left → free < 4294967296 → p ≤ free → Space C free 1 → Headed C rest x → Tailed C rest rest₁ → PutBefore C free x made r C' → Rep C free rest (seq ahead) → (done : Objs) → Rep C free made (seq done) → Same C₀ C p → turned_onto ahead done ≡ turned xs → TurnNow C₀ p xs C' q rest₁ r (free + 1)
turn_now q nil z e u l sp h t b ra done rd s w = absurd (omega arith)
turn_now {free = free} q (y :: ys) z e u l sp h t b ra done rd s w =
    let st = b.means y done sp (h.means free y ys u ra) rd in
    record { ahead = ys; done = y :: done; long = omega arith; still = rep_ext st.same (omega arith) (t.means free y ys u ra); rep = st.rep; same = same_trans l s st.same; whole = w }

turn_step : {C₀ C C' : List ℕ} {n p left free : ℕ} {v rest made x rest₁ r : Val} (q : ℕ) → left ≡ suc q → Turning C₀ v n p C rest made left free → Headed C rest x → Tailed C rest rest₁ → PutBefore C free x made r C' → length C' ≡ length C → Turning C₀ v n p C' rest₁ r q (free + 1)
turn_step {C₀} {C} {C'} {n} {p} {left} {free} {v} {rest} {made} {x} {rest₁} {r} q z g h t b e = record { sum = omega (arith, g.sum); most = omega (arith, g.most); fits = g.fits; len = e ∙ g.len; means = go }
  where
    go : (xs : Objs) → length_of xs ≡ n → Space C₀ p n → Rep C₀ p v (seq xs) → TurnNow C₀ p xs C' q rest₁ r (free + 1)
    go xs k sp rv =
        let m = g.means xs k sp rv in
        turn_now q m.ahead z m.long (omega (arith, g.sum, g.fits)) (omega (arith, g.sum, g.most)) (record { far = omega (arith, g.sum, g.fits); long = omega (arith, g.sum, g.len, sp.long) }) h t b m.still m.done m.rep m.same m.whole

pub turn_next : {C₀ C C' : List ℕ} {n p end free : ℕ} {v rest made x rest₁ r : Val} → free < end → Turning C₀ v n p C rest made (end - free) free → Headed C rest x → Tailed C rest rest₁ → PutBefore C free x made r C' → length C' ≡ length C → Turning C₀ v n p C' rest₁ r (end - (free + 1)) (free + 1)
turn_next {end = end} {free = free} k g h t b e = turn_step (end - (free + 1)) (omega arith) g h t b e

turn_done : (xs : Objs) {C : List ℕ} {free : ℕ} {r : Val} (ahead : Objs) {done : Objs} → length_of ahead ≡ 0 → turned_onto ahead done ≡ turned xs → Rep C free r (seq done) → Rep C free r (seq (turned xs))
turn_done xs nil e w r = rw (← w) r
turn_done xs (x :: ahead) e w r = absurd (omega arith)

pub turn_end : {C₀ C : List ℕ} {n p end free : ℕ} {v rest made : Val} → end ≤ free → Turning C₀ v n p C rest made (end - free) free → Rearranged turned C₀ v n p made C
turn_end {C₀} {C} {n} {p} {end} {free} {v} {rest} {made} h g = record { means = go }
  where
    go : (xs : Objs) → length_of xs ≡ n → Space C₀ p (length_of (turned xs)) → Rep C₀ p v (seq xs) → NewSequence C₀ p (length_of (turned xs)) (turned xs) made C
    go xs e s rv =
        let i : length_of (turned xs) ≡ n = length_turned xs ∙ e in
        let m = g.means xs e (rw i at s) rv in
        let j : p + length_of (turned xs) ≡ free = omega (arith, g.sum) in
        record { rep = rw j (turn_done xs m.ahead (omega (arith, m.long)) m.whole m.rep); same = m.same }
