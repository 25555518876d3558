-- Rows that lie one after the other in cells: each place leads to the place below it, so that each column is a sequence.
use Prim.Native.Nat.{ℕ, zero, suc, ◌+◌, ◌-◌, ◌*◌, ◌%◌, ◌≤◌, ◌<◌}
use mathlib.Core.Path.{◌≡◌, refl, ap, ◌∙◌}
use mathlib.Core.Bool.{true}
use mathlib.Core.List.{List}
use native.Mathlib.Omega.{arith}
use native.Mathlib.Nat.{mul-suc}
use lib.ListN.{length}
use Rattle.language.specs.Objects.{Obj, seq, Objs, nil, ◌::◌, length_of}
use Rattle.language.specs.declared.Val.{Val}
use Rattle.cells.specs.Cells.{Rep, rep_nil, Same, sequence_val}
use Rattle.cells.specs.Parts.{Headed, Tailed}
use Rattle.cells.proofs.Reps.{same_refl, same_fewer, same_trans, rep_ext}
use Rattle.language.specs.Meanings.{is_row, are_rows, entry_at, column_at}
use Rattle.sequences.specs.Making.{Space}
use Rattle.sequences.specs.Lines.{link_over, Place, CopiedLine, sequence_from, Spreads, RowsSpread}
use Rattle.sequences.proofs.Segments.{place_ext, Begun, begin, begun_next, begun_end}
use Rattle.sequences.proofs.Transposing.{and_first, and_second, row_is}

-- ---- one row
-- the row x lies in the cells from `free` on, each place leading to the cell d further on
record RowLaid (C : List ℕ) (w d free : ℕ) (x : Obj) (C' : List ℕ) : Type 0 where
  place : (j : ℕ) → j < w → Place C' free (free + j) (entry_at j x) (link_over (free + j) d)
  same : Same C C' free

row_laid : {C C' : List ℕ} {row o : Val} {w d free : ℕ} {x : Obj} → is_row w x ≡ true → Space C free (w + d) → Rep C free row x → CopiedLine C row w free d o C' → RowLaid C w d free x C'
row_laid {C} {C'} {row} {o} {w} {d} {free} {x} h sp r cp =
    let a = row_is w x h in
    let z : Rep C free row (seq a.places) = rw a.is at r in
    let m = cp.means a.places (omega (arith, a.long)) sp z in
    rw a.is (record { place = λ j i. m.line.place j i; same = m.same })

-- each column has one place more
laid_next : {C C' : List ℕ} {w d free a : ℕ} {x : Obj} {all todo : Objs} (j : ℕ) → j < w → RowLaid C w d free x C' → Begun C free a all (entry_at j x :: todo) (free + j + 1) → Begun C' (free + w) a all todo (link_over (free + j) d)
laid_next {C' = C'} {w = w} {free = free} j h g b =
    let o = place_ext {k' = free + w} (same_refl C' (free + w)) (omega arith) (omega arith) (omega arith) (g.place j h) in
    begun_next {p = free + j} g.same (omega arith) (omega arith) (omega arith) o b

link_below : (p w : ℕ) → 0 < w → p + w + 1 < 4294967296 → link_over p w ≡ p + w + 1
unfolding link_over
link_below p zero h u = absurd (omega arith)
link_below p (suc w) h u = omega arith

-- ---- all rows: those of `todo` are ahead
pub record SpreadNow (C₀ : List ℕ) (n w p : ℕ) (rs : Objs) (C : List ℕ) (ahead : Val) (left free : ℕ) : Type 0 where
  pub todo : Objs
  pub long : length_of todo ≡ left
  pub rows : are_rows w todo ≡ true
  pub still : Rep C p ahead (seq todo)
  pub same : Same C₀ C p
  pub low : p ≤ free
  pub sum : free + w * left ≡ p + w * n
  pub begun : (j : ℕ) → j < w → Begun C free (p + j + 1) (column_at j rs) (column_at j todo) (free + j + 1)

pub record Spreading (C₀ : List ℕ) (v : Val) (n w p : ℕ) (C : List ℕ) (ahead : Val) (left free : ℕ) : Type 0 where
  pub some : 0 < left
  pub len : length C ≡ length C₀
  pub means : (rs : Objs) → length_of rs ≡ n → are_rows w rs ≡ true → Space C₀ p (w + w * n) → Rep C₀ p v (seq rs) → SpreadNow C₀ n w p rs C ahead left free

pub spread_none : {C : List ℕ} {v : Val} {n w p : ℕ} → n ≡ 0 → RowsSpread C v n w p p C
unfolding column_at sequence_from
spread_none {C} {v} {n} {w} {p} z = rw z (record { means = go })
  where
    go : (rs : Objs) → length_of rs ≡ 0 → are_rows w rs ≡ true → Space C p (w + w * 0) → Rep C p v (seq rs) → Spreads C 0 w p rs p C
    go nil e a sp rv = record { end = omega arith; column = λ j h. rep_nil refl refl; same = same_refl C p }
    go (r :: rs) e a sp rv = absurd (omega arith)

pub spread_start : {C : List ℕ} {v : Val} {n w p left : ℕ} → (n ≡ 0 → ⊥) → left ≡ n → Spreading C v n w p C v left p
spread_start {C} {p = p} z l = record {
  some = omega (arith, z);
  len = refl;
  means = λ rs e a sp rv. record { todo = rs; long = omega arith; rows = a; still = rv; same = same_refl C p; low = omega arith; sum = rw l; begun = λ j h. begin C p (p + j + 1) (column_at j rs) };
}

-- ---- one row more
spread_now : {C₀ C C' : List ℕ} {ahead row rest o : Val} {n w p free f : ℕ} (rs : Objs) (i : ℕ) (todo : Objs) → length_of todo ≡ suc (suc i) → are_rows w todo ≡ true → p ≤ free → free + w * suc (suc i) ≡ p + w * n → length C ≡ length C₀ → Space C₀ p (w + w * n) → Headed C ahead row → Tailed C ahead rest → CopiedLine C row w free w o C' → f ≡ (free + w) % 4294967296 → Rep C p ahead (seq todo) → Same C₀ C p → ((j : ℕ) → j < w → Begun C free (p + j + 1) (column_at j rs) (column_at j todo) (free + j + 1)) → SpreadNow C₀ n w p rs C' rest (suc i) f
unfolding are_rows column_at
spread_now rs i nil e a l k z sp hd tl cp y rt s bg = absurd (omega arith)
spread_now {C₀} {C} {C'} {w = w} {p = p} {free = free} {f = f} rs i (x :: todo) e a l k z sp hd tl cp y rt s bg =
    let u : p < 4294967296 = omega (arith, sp.far) in
    let two = mul-suc w (suc i) in
    let one = mul-suc w i in
    let rx = rep_ext (same_refl C p) l (hd.means p x todo u rt) in
    let g = row_laid (and_first (is_row w x) (are_rows w todo) a) (record { far = omega (arith, sp.far, two, one); long = omega (arith, sp.long, two, one) }) rx cp in
    let q : f ≡ free + w = omega (arith, sp.far, two, one) in
    record {
      todo = todo;
      long = omega arith;
      rows = and_second (is_row w x) (are_rows w todo) a;
      still = rep_ext (same_fewer l g.same) (omega arith) (tl.means p x todo u rt);
      same = same_trans l s g.same;
      low = omega arith;
      sum = omega (arith, two);
      begun = λ j h.
          let far : free + j + w + 1 < 4294967296 = omega (arith, sp.far, two, one) in
          let d : link_over (free + j) w ≡ f + j + 1 = link_below (free + j) w (omega arith) far ∙ (omega arith) in
          rw q (rw (d, q) at (laid_next j h g (bg j h)));
    }

spread_step : {C₀ C C' : List ℕ} {v ahead row rest o : Val} {n w p left free f : ℕ} (i : ℕ) → left ≡ suc (suc i) → Spreading C₀ v n w p C ahead left free → Headed C ahead row → Tailed C ahead rest → CopiedLine C row w free w o C' → length C' ≡ length C → f ≡ (free + w) % 4294967296 → Spreading C₀ v n w p C' rest (suc i) f
spread_step {w = w} i z g hd tl cp e y = record {
  some = omega arith;
  len = e ∙ g.len;
  means = λ rs k a sp rv. let m = g.means rs k a sp rv in spread_now rs i m.todo (m.long ∙ z) m.rows m.low (rw z at m.sum) g.len sp hd tl cp y m.still m.same m.begun;
}

pub spread_next : {C₀ C C' : List ℕ} {v ahead row rest o : Val} {n w p i free f : ℕ} → i < n → Spreading C₀ v n w p C ahead (n + 1 - i) free → Headed C ahead row → Tailed C ahead rest → CopiedLine C row w free w o C' → length C' ≡ length C → f ≡ (free + w) % 4294967296 → Spreading C₀ v n w p C' rest (n + 1 - (i + 1)) f
spread_next {n = n} {i = i} h g hd tl cp e y =
    let z : n + 1 - (i + 1) ≡ suc (n - i - 1) = omega arith in
    rw z (spread_step (n - i - 1) (omega arith) g hd tl cp e y)

-- ---- the last row
length_column : (j : ℕ) (rs : Objs) → length_of (column_at j rs) ≡ length_of rs
unfolding column_at
length_column j nil = refl
length_column j (r :: rs) = ap suc (length_column j rs)

from_is : (p n : ℕ) → 0 < n → p + 1 < 4294967296 → sequence_from p n ≡ sequence_val (p + 1) n
unfolding sequence_from
from_is p zero h u = absurd (omega arith)
from_is p (suc n) h u = let e : (p + 1) % 4294967296 ≡ p + 1 = omega arith in rw e

spread_last : {C₀ C C' : List ℕ} {ahead row o : Val} {n w p free f : ℕ} (rs todo : Objs) → length_of todo ≡ 1 → length_of rs ≡ n → 0 < n → are_rows w todo ≡ true → p ≤ free → free + w ≡ p + w * n → length C ≡ length C₀ → Space C₀ p (w + w * n) → Headed C ahead row → CopiedLine C row w free 0 o C' → f ≡ (free + w) % 4294967296 → Rep C p ahead (seq todo) → Same C₀ C p → ((j : ℕ) → j < w → Begun C free (p + j + 1) (column_at j rs) (column_at j todo) (free + j + 1)) → Spreads C₀ n w p rs f C'
unfolding are_rows column_at link_over
spread_last rs nil e m i a l k z sp hd cp y rt s bg = absurd (omega arith)
spread_last rs (x :: r :: todo) e m i a l k z sp hd cp y rt s bg = absurd (omega arith)
spread_last {C = C} {C' = C'} {n = n} {w = w} {p = p} {free = free} {f = f} rs (x :: nil) e m i a l k z sp hd cp y rt s bg =
    let rx = rep_ext (same_refl C p) l (hd.means p x nil (omega (arith, sp.far)) rt) in
    let g = row_laid (and_first (is_row w x) true a) (record { far = omega (arith, sp.far); long = omega (arith, sp.long) }) rx cp in
    let q : f ≡ free + w = omega (arith, sp.far) in
    record {
      end = omega arith;
      column = λ j h.
          let d = length_column j rs ∙ m in
          let r : Rep C' (free + w) (sequence_val (p + j + 1) (length_of (column_at j rs))) (seq (column_at j rs)) = begun_end (laid_next j h g (bg j h)) in
          rw (from_is (p + j) n i (omega (arith, sp.far)), q) (rw d at r);
      same = same_trans l s g.same;
    }

pub spread_end : {C₀ C C' : List ℕ} {v ahead row o : Val} {n w p i free f : ℕ} → (n ≡ 0 → ⊥) → n ≤ i → Spreading C₀ v n w p C ahead (n + 1 - i) free → Headed C ahead row → CopiedLine C row w free 0 o C' → f ≡ (free + w) % 4294967296 → RowsSpread C₀ v n w p f C'
spread_end {n = n} {w = w} {i = i} h l g hd cp y =
    let z : n + 1 - i ≡ 1 = omega (arith, g.some) in
    record { means = λ rs k a sp rv. let m = g.means rs k a sp rv in spread_last rs m.todo (m.long ∙ z) k (omega (arith, h)) m.rows m.low (omega (arith, rw z at m.sum, mul-suc w 0)) g.len sp hd cp y m.still m.same m.begun }
