-- The first places of a sequence before another: all but the last of them in a line, and then the last, which leads to the other sequence.
use Prim.Native.Nat.{ℕ, zero, suc, ◌+◌, ◌-◌, ◌%◌, ◌≤◌, ◌<◌}
use mathlib.Core.Path.{◌≡◌, refl, sym, ap, ◌∙◌}
use mathlib.Core.List.{List}
use native.Mathlib.Omega.{arith}
use lib.ListN.{length}
use Rattle.language.specs.Objects.{seq, Objs, ◌::◌, length_of, ◌+++◌, nth_obj}
use Rattle.language.specs.declared.Val.{Val}
use Rattle.cells.specs.Cells.{Rep, sequence_val, cell_put}
use Rattle.cells.specs.Parts.{drop_objs, Sized, Headed}
use Rattle.cells.proofs.Reps.{same_refl, same_trans, rep_ext, cell_same, rep_new}
use Rattle.sequences.specs.Making.{Space, NewSequence, take_objs, Prepended}
use Rattle.sequences.specs.Lines.{CopiedLine}
use Rattle.cells.proofs.Lengths.{rep_length}
use Rattle.cells.proofs.Places.{drop_first}
use Rattle.sequences.proofs.Parts.{append_more, length-append, take-length, take_next}
use Rattle.sequences.proofs.Segments.{seg_ext, seg_rep, line_segment}
use Rattle.sequences.proofs.Building.{as_sequence}

pub prepend_none : {C : List ℕ} {n p : ℕ} {v rest : Val} → n ≡ 0 → Prepended C v n p rest rest C
unfolding take_objs
prepend_none {C} {n} {p} z = rw z (record { means = λ xs ys l e rv rr. record { rep = rep_ext (same_refl C p) (omega arith) rr; same = same_refl C p } })

pub prepend_long : {C C' : List ℕ} {n p m : ℕ} {v rest r : Val} → Sized rest m → (m + n < 4294967296 → ⊥) → Prepended C v n p rest r C'
prepend_long {C} {p = p} z h = record { means = λ xs ys l e rv rr. absurd (omega (arith, e.far, rep_length ys rr, z.means C p ys (omega (arith, e.far)) rr)) }

-- all places but the last are in the line, the last is put behind them
prepend_as : {C C₁ : List ℕ} {p m l : ℕ} {v rest behind x : Val} (q : ℕ) → Sized rest m → CopiedLine C v q p 1 behind C₁ → length C₁ ≡ length C → Headed C₁ behind x → l ≡ rest.word % 4294967296 → Prepended C v (suc q) p rest (sequence_val (p + 1) (suc q + m)) (cell_put C₁ (p + q) x l)
prepend_as {C} {C₁} {p} {m} {l} {v} {rest} {behind} {x} q z cp e hd f = record { means = go }
  where
    go : (xs ys : Objs) → suc q ≤ length_of xs → Space C p (suc q) → Rep C p v (seq xs) → Rep C p rest (seq ys) → NewSequence C p (suc q) (take_objs (suc q) xs +++ ys) (sequence_val (p + 1) (suc q + m)) (cell_put C₁ (p + q) x l)
    go xs ys h sp rv rr =
        let u : p < 4294967296 = omega (arith, sp.far) in
        let k = cp.means xs (omega arith) (record { far = omega (arith, sp.far); long = omega (arith, sp.long) }) rv in
        let y = nth_obj xs q in
        let rx = hd.means p y (drop_objs xs (suc q)) u (rw (drop_first xs q (omega arith)) at k.rest) in
        let i : rest ≡ sequence_val l (length_of ys) = rw f (as_sequence ys u rr) in
        let s = cell_same C₁ (p + q) x l in
        let lt = rep_new {n = p + q} l ys (omega (arith, sp.long)) (rep_ext (same_refl C₁ p) (omega arith) rx) (rep_ext k.same (omega arith) (rw i at rr)) in
        let sg = seg_ext {k' = p + q + 1} s (omega arith) (line_segment {k = p + q} q (omega arith) (omega arith) (omega (arith, sp.far)) k.line) in
        let w : take_objs q xs +++ (y :: ys) ≡ take_objs (suc q) xs +++ ys = sym (append_more (take_objs q xs) y ys) ∙ ap (λ (t : Objs). t +++ ys) (sym (take_next q xs (omega arith))) in
        let a : p + q + 1 ≡ p + suc q = omega arith in
        let n : length_of (take_objs (suc q) xs +++ ys) ≡ suc q + m = omega (arith, length-append (take_objs (suc q) xs) ys, take-length (suc q) xs h, z.means C p ys u rr) in
        record {
          rep = rw n at (rw (w, a) at (seg_rep (y :: ys) sg lt));
          same = same_trans (omega arith) k.same s;
        }

pub prepend_is : {C C₁ C₂ : List ℕ} {n p m l all : ℕ} {v rest behind x r : Val} → (n ≡ 0 → ⊥) → Sized rest m → CopiedLine C v (n - 1) p 1 behind C₁ → length C₁ ≡ length C → Headed C₁ behind x → l ≡ rest.word % 4294967296 → C₂ ≡ cell_put C₁ (p + (n - 1)) x l → all ≡ m + n → r ≡ sequence_val (p + 1) all → Prepended C v n p rest r C₂
prepend_is {n = zero} h z cp e hd f g a i = absurd (h refl)
prepend_is {n = suc q} {m = m} {all = all} h z cp e hd f g a i =
    let k : suc q - 1 ≡ q = omega arith in
    let o : all ≡ suc q + m = omega arith in
    rw (i, o, g, k) (prepend_as q z (rw k at cp) e hd f)
