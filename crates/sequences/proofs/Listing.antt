-- The sequence of sequences that begin in cells one after the other, made from its last place to its first.
use Prim.Native.Nat.{ℕ, zero, suc, ◌+◌, ◌-◌, ◌%◌, ◌≤◌, ◌<◌}
use mathlib.Core.Path.{◌≡◌, refl, sym, ap, ◌∙◌}
use mathlib.Core.List.{List}
use native.Mathlib.Omega.{arith}
use lib.ListN.{length}
use Rattle.language.specs.Objects.{seq, Objs, nil, ◌::◌, length_of, ◌+++◌, nth_obj}
use Rattle.language.specs.declared.Val.{Val}
use Rattle.cells.specs.Cells.{Rep, Same, sequence_val}
use Rattle.cells.proofs.Reps.{same_refl, same_trans, rep_ext}
use Rattle.sequences.specs.Making.{Space, NewSequence, PutBefore, take_objs}
use Rattle.sequences.specs.Lines.{sequence_from, ColumnsListed}
use Rattle.sequences.proofs.Parts.{append-nil, append_more, take_all, take_next}
use Rattle.sequences.proofs.Building.{nil_rep}

pub begun_none : (first j n : ℕ) {r : Val} → n ≡ 0 → r ≡ sequence_val 0 0 → r ≡ sequence_from (first + j) n
unfolding sequence_from
begun_none first j n z e = rw (z, e)

pub begun_is : (first j n : ℕ) {r : Val} → (n ≡ 0 → ⊥) → r ≡ sequence_val (((first + j) % 4294967296 + 1) % 4294967296) n → r ≡ sequence_from (first + j) n
unfolding sequence_from
begun_is first j zero h e = absurd (h refl)
begun_is first j (suc n) h e =
    let o : ((first + j) % 4294967296 + 1) % 4294967296 ≡ (first + j + 1) % 4294967296 = omega arith in
    rw o at e

-- the first `left` of xs are still to be made
pub record ListNow (C₀ : List ℕ) (p : ℕ) (xs : Objs) (C : List ℕ) (left : ℕ) (s : Val) (free : ℕ) : Type 0 where
  pub done : Objs
  pub rep : Rep C free s (seq done)
  pub same : Same C₀ C p
  pub whole : take_objs left xs +++ done ≡ xs

list_now : {C₀ C C' : List ℕ} {p free : ℕ} {xs : Objs} {s x r : Val} (q : ℕ) → q < length_of xs → p ≤ free → Rep C free x (nth_obj xs q) → Space C free 1 → PutBefore C free x s r C' → ListNow C₀ p xs C (suc q) s free → ListNow C₀ p xs C' q r (free + 1)
list_now {xs = xs} q h l rx sp b g =
    let d = g.done in
    let st = b.means (nth_obj xs q) d sp rx g.rep in
    record {
      done = nth_obj xs q :: d;
      rep = st.rep;
      same = same_trans l g.same st.same;
      whole = sym (append_more (take_objs q xs) (nth_obj xs q) d) ∙ (ap (λ (t : Objs). t +++ d) (sym (take_next q xs h)) ∙ g.whole);
    }

pub record Listing (C₀ : List ℕ) (first n w p : ℕ) (C : List ℕ) (s : Val) (left free : ℕ) : Type 0 where
  pub sum : free + left ≡ p + w
  pub most : left ≤ w
  pub fits : p + w < 4294967296
  pub len : length C ≡ length C₀
  pub means : (xs : Objs) → length_of xs ≡ w → Space C₀ p w → ((j : ℕ) → j < w → Rep C₀ p (sequence_from (first + j) n) (nth_obj xs j)) → ListNow C₀ p xs C left s free

pub list_start : {C : List ℕ} {first n w p : ℕ} {s : Val} → p + w < 4294967296 → s ≡ sequence_val 0 0 → Listing C first n w p C s w p
list_start {C} {w = w} {p = p} h f = record { sum = refl; most = omega arith; fits = h; len = refl; means = λ xs e sp rs. record { done = nil; rep = nil_rep f; same = same_refl C p; whole = append-nil (take_objs w xs) ∙ take_all w xs (omega arith) } }

list_step : {C₀ C C' : List ℕ} {first n w p left free : ℕ} {s x r : Val} (q : ℕ) → left ≡ suc q → Listing C₀ first n w p C s left free → x ≡ sequence_from (first + q) n → PutBefore C free x s r C' → length C' ≡ length C → Listing C₀ first n w p C' r q (free + 1)
list_step {C₀} {C} {C'} {first} {n} {w} {p} {left} {free} {s} {x} {r} q z g f b e = record { sum = omega (arith, g.sum); most = omega (arith, g.most); fits = g.fits; len = e ∙ g.len; means = go }
  where
    go : (xs : Objs) → length_of xs ≡ w → Space C₀ p w → ((j : ℕ) → j < w → Rep C₀ p (sequence_from (first + j) n) (nth_obj xs j)) → ListNow C₀ p xs C' q r (free + 1)
    go xs k sp rs =
        let m = g.means xs k sp rs in
        let l : p ≤ free = omega (arith, g.sum, g.most) in
        list_now q (omega (arith, g.most)) l (rw f (rep_ext m.same l (rs q (omega (arith, g.most))))) (record { far = omega (arith, g.sum, g.fits); long = omega (arith, g.sum, g.len, sp.long) }) b (rw z at m)

pub list_next : {C₀ C C' : List ℕ} {first n w p left free : ℕ} {s x r : Val} → 0 < left → Listing C₀ first n w p C s left free → x ≡ sequence_from (first + (left - 1)) n → PutBefore C free x s r C' → length C' ≡ length C → Listing C₀ first n w p C' r (left - 1) (free + 1)
list_next {left = left} h g f b e = list_step (left - 1) (omega arith) g f b e

pub list_end : {C₀ C : List ℕ} {first n w p left free : ℕ} {s : Val} → left ≤ 0 → Listing C₀ first n w p C s left free → ColumnsListed C₀ first n w p s C
unfolding take_objs
list_end {C₀} {C} {first} {n} {w} {p} {left} {free} {s} h g = record { means = go }
  where
    go : (xs : Objs) → length_of xs ≡ w → Space C₀ p w → ((j : ℕ) → j < w → Rep C₀ p (sequence_from (first + j) n) (nth_obj xs j)) → NewSequence C₀ p w xs s C
    go xs k sp rs =
        let m = g.means xs k sp rs in
        let z : 0 ≡ left = omega arith in
        let e : free ≡ p + w = omega (arith, g.sum) in
        let f : m.done ≡ xs = ap (λ (i : ℕ). take_objs i xs +++ m.done) z ∙ m.whole in
        record { rep = rw (← e, ← f) m.rep; same = m.same }
