-- Rows of equal length, and all columns of them.
use Prim.Native.Nat.{ℕ, zero, suc, ◌+◌, ◌-◌, ◌*◌, ◌≤◌, ◌<◌}
use mathlib.Core.Path.{◌≡◌, refl, sym, ap, ◌∙◌}
use mathlib.Core.Bool.{Bool, true, false, ◌&&◌, not}
use mathlib.Core.List.{List}
use native.Mathlib.Omega.{arith}
use lib.Dec.{eqb}
use lib.ListN.{length}
use borrow.Author.Tests.{eq-eqb, ne_eqb, eqb-true, eqb-false, not-true, not-false}
use Rattle.language.specs.Objects.{Obj, int, symbol, seq, Objs, nil, ◌::◌, length_of, nth_obj}
use Rattle.language.specs.declared.Val.{Val}
use Rattle.cells.specs.Cells.{Rep, rep_pos, rep_neg, rep_symbol, rep_nil, rep_more, val_at, next_at, sequence_val}
use Rattle.cells.specs.Parts.{first_of, Sized}
use Rattle.cells.proofs.Reps.{same_refl, same_trans}
use Rattle.cells.proofs.Places.{From, from_head, from_next}
use Rattle.language.specs.Meanings.{is_row, are_rows, column_at, columns_at}
use Rattle.sequences.specs.Making.{Space, NewSequence, Rows, Columns}
use Rattle.sequences.specs.Lines.{sequence_from, RowsSpread, ColumnsListed}

pub and_first : (a b : Bool) → (a && b) ≡ true → a ≡ true
and_first true b e = refl
and_first false b e = e

pub and_second : (a b : Bool) → (a && b) ≡ true → b ≡ true
and_second true b e = e
and_second false b e = absurd (let z : ◌≡◌ {A = ℕ} 0 1 = cc in omega arith)

-- ---- whether the places are rows
no_row : {C : List ℕ} {k : ℕ} (w : ℕ) {v : Val} {x : Obj} {r : Bool} → r ≡ eqb v.tag 3 → r ≡ false → Rep C k v x → is_row w x ≡ false
no_row i e f (rep_pos t w b) = refl
no_row i e f (rep_neg t w b) = refl
no_row k e f (rep_symbol t i w) = refl
no_row i {v = v} e f (rep_nil t w) = absurd (eqb-false v.tag 3 (sym e ∙ f) t)
no_row i {v = v} e f (rep_more t w l a b) = absurd (eqb-false v.tag 3 (sym e ∙ f) t)

a_row : {C : List ℕ} {k n : ℕ} (w : ℕ) {v : Val} {x : Obj} {r : Bool} → k < 4294967296 → r ≡ eqb v.tag 3 → r ≡ true → Sized v n → Rep C k v x → is_row w x ≡ eqb n w
a_row i {v = v} u e f s (rep_pos t w b) = absurd (omega (arith, eqb-true v.tag 3 (sym e ∙ f)))
a_row i {v = v} u e f s (rep_neg t w b) = absurd (omega (arith, eqb-true v.tag 3 (sym e ∙ f)))
a_row k {v = v} u e f s (rep_symbol t i w) = absurd (omega (arith, eqb-true v.tag 3 (sym e ∙ f)))
a_row {C} {k} w u e f s (rep_nil t q) = ap (λ (m : ℕ). eqb m w) (sym (s.means C k nil u (rep_nil t q)))
a_row {C} {k} w u e f s (rep_more {x = x} {xs = xs} t q l a b) = ap (λ (m : ℕ). eqb m w) (sym (s.means C k (x :: xs) u (rep_more t q l a b)))

pub record RowsNow (C : List ℕ) (k : ℕ) (xs : Objs) (w p left : ℕ) : Type 0 where
  pub ahead : Objs
  pub long : length_of ahead ≡ left
  pub still : From C k p ahead
  pub whole : are_rows w xs ≡ are_rows w ahead

-- the rows from cell p on are all that is left to look at, of those from p₀ on
pub record Checking (C : List ℕ) (p₀ n w p left : ℕ) : Type 0 where
  pub fits : p < 4294967296
  pub means : (k : ℕ) (xs : Objs) → k < 4294967296 → length_of xs ≡ n → From C k p₀ xs → RowsNow C k xs w p left

starts : {C : List ℕ} {k p : ℕ} {v : Val} {xs : Objs} → p ≡ first_of v → Rep C k v (seq xs) → From C k p xs
starts {v = v} e r = record { val = v; first = e; rep = r }

row_here : {C : List ℕ} {k p : ℕ} {row : Val} {y : Obj} {ys : Objs} → k < 4294967296 → row ≡ val_at C p → From C k p (y :: ys) → Rep C k row y
row_here u d f = rw d (from_head u f)

rows_no : {C : List ℕ} {k p left : ℕ} (w : ℕ) {row : Val} {b : Bool} (xs ahead : Objs) → k < 4294967296 → 0 < left → length_of ahead ≡ left → row ≡ val_at C p → b ≡ eqb row.tag 3 → b ≡ false → From C k p ahead → are_rows w xs ≡ are_rows w ahead → false ≡ are_rows w xs
unfolding are_rows
rows_no w xs nil u h e d f g r q = absurd (omega arith)
rows_no w xs (y :: ys) u h e d f g r q = sym (q ∙ ap (λ (t : Bool). t && are_rows w ys) (no_row w f g (row_here u d r)))

pub rows_atom : {C : List ℕ} {v row : Val} {p₀ n w p k : ℕ} {b : Bool} → p₀ ≡ first_of v → Checking C p₀ n w p (n - k) → k < n → row ≡ val_at C p → b ≡ eqb row.tag 3 → not b ≡ true → Rows C v n w false
rows_atom {w = w} {b = b} i g h d f z = record { means = λ o xs u e r. let m = g.means o xs u e (starts i r) in rows_no w xs m.ahead u (omega arith) m.long d f (not-true b z) m.still m.whole }

rows_other : {C : List ℕ} {k p left n : ℕ} (w : ℕ) {row : Val} {b : Bool} (xs ahead : Objs) → k < 4294967296 → 0 < left → length_of ahead ≡ left → row ≡ val_at C p → b ≡ eqb row.tag 3 → b ≡ true → Sized row n → (n ≡ w → ⊥) → From C k p ahead → are_rows w xs ≡ are_rows w ahead → false ≡ are_rows w xs
unfolding are_rows
rows_other w xs nil u h e d f g s z r q = absurd (omega arith)
rows_other {n = n} w xs (y :: ys) u h e d f g s z r q = sym (q ∙ ap (λ (t : Bool). t && are_rows w ys) (a_row w u f g s (row_here u d r) ∙ ne_eqb n w z))

pub rows_uneven : {C : List ℕ} {v row : Val} {p₀ n w p k i : ℕ} {b : Bool} → p₀ ≡ first_of v → Checking C p₀ n w p (n - k) → k < n → row ≡ val_at C p → b ≡ eqb row.tag 3 → not b ≡ false → Sized row i → (i ≡ w → ⊥) → Rows C v n w false
rows_uneven {w = w} {b = b} j g h d f z s o = record { means = λ q xs u e r. let m = g.means q xs u e (starts j r) in rows_other w xs m.ahead u (omega arith) m.long d f (not-false b z) s o m.still m.whole }

rows_more : {C : List ℕ} {k p q left n : ℕ} (w : ℕ) {row : Val} {b : Bool} (xs ahead : Objs) → k < 4294967296 → 0 < left + 1 → length_of ahead ≡ left + 1 → row ≡ val_at C p → b ≡ eqb row.tag 3 → b ≡ true → Sized row n → n ≡ w → q ≡ next_at C p - 1 → From C k p ahead → are_rows w xs ≡ are_rows w ahead → RowsNow C k xs w q left
unfolding are_rows
rows_more w xs nil u h e d f g s z t r q = absurd (omega arith)
rows_more {n = n} w xs (y :: ys) u h e d f g s z t r q =
    record { ahead = ys; long = omega arith; still = from_next u t r; whole = q ∙ ap (λ (b : Bool). b && are_rows w ys) (a_row w u f g s (row_here u d r) ∙ eq-eqb n w z) }

pub rows_next : {C : List ℕ} {row : Val} {p₀ n w p q k i : ℕ} {b : Bool} → Checking C p₀ n w p (n - k) → k < n → row ≡ val_at C p → b ≡ eqb row.tag 3 → not b ≡ false → Sized row i → i ≡ w → q ≡ next_at C p - 1 → q < 4294967296 → Checking C p₀ n w q (n - (k + 1))
rows_next {n = n} {w = w} {k = k} {b = b} g h d f z s o t l = record { fits = l; means = λ i xs u e r. let m = g.means i xs u e r in rows_more w xs m.ahead u (omega arith) (omega (arith, m.long)) d f (not-false b z) s o t m.still m.whole }

rows_done : (w left : ℕ) (xs ahead : Objs) → left ≤ 0 → length_of ahead ≡ left → are_rows w xs ≡ are_rows w ahead → true ≡ are_rows w xs
unfolding are_rows
rows_done w left xs nil h e q = sym q
rows_done w left xs (y :: ys) h e q = absurd (omega arith)

pub rows_end : {C : List ℕ} {v : Val} {p₀ n w p k : ℕ} → p₀ ≡ first_of v → Checking C p₀ n w p (n - k) → n ≤ k → Rows C v n w true
rows_end {n = n} {w = w} {k = k} i g h = record { means = λ o xs u e r. let m = g.means o xs u e (starts i r) in rows_done w (n - k) xs m.ahead (omega arith) m.long m.whole }

-- ---- a row's places
pub record RowAt (w : ℕ) (x : Obj) : Type 0 where
  pub places : Objs
  pub is : x ≡ seq places
  pub long : length_of places ≡ w

pub row_is : (w : ℕ) (x : Obj) → is_row w x ≡ true → RowAt w x
row_is w (int z) e = let q : ◌≡◌ {A = ℕ} 0 1 = cc in absurd (omega arith)
row_is w (symbol s) e = let q : ◌≡◌ {A = ℕ} 0 1 = cc in absurd (omega arith)
row_is w (seq xs) e = record { places = xs; is = refl; long = eqb-true (length_of xs) w e }

-- ---- all columns
pub length_columns : (j w : ℕ) (rs : Objs) → length_of (columns_at j w rs) ≡ w
unfolding columns_at
length_columns j zero rs = refl
length_columns j (suc w) rs = ap suc (length_columns (suc j) w rs)

nth_columns : (j w q : ℕ) (rs : Objs) → q < w → nth_obj (columns_at j w rs) q ≡ seq (column_at (j + q) rs)
unfolding columns_at nth_obj
nth_columns j zero q rs h = absurd (omega arith)
nth_columns j (suc w) zero rs h = ap (λ (i : ℕ). seq (column_at i rs)) (omega arith)
nth_columns j (suc w) (suc q) rs h = nth_columns (suc j) w q rs (omega arith) ∙ ap (λ (i : ℕ). seq (column_at i rs)) (omega arith)

column_at_lem : (w j : ℕ) (rs : Objs) → j < w → nth_obj (columns_at 0 w rs) j ≡ seq (column_at j rs)
column_at_lem w j rs h = nth_columns 0 w j rs h ∙ ap (λ (i : ℕ). seq (column_at i rs)) (omega arith)

-- where the rows are empty there is no column, and no cell is made
pub columns_none : {C : List ℕ} {v r : Val} {n w p : ℕ} → w ≡ 0 → r ≡ sequence_val 0 0 → Columns C v n w p r C
unfolding columns_at
columns_none {C} {n = n} {p = p} z e = record { means = λ rs k a sp rv. record { rep = rw (z, e) (rep_nil refl refl); same = same_refl C p } }

pub columns_is : {C C₁ C₂ : List ℕ} {v r : Val} {n w p free : ℕ} → RowsSpread C v n w p free C₁ → length C₁ ≡ length C → ColumnsListed C₁ p n w free r C₂ → Columns C v n w p r C₂
columns_is {C} {C₁} {C₂} {v} {r} {n} {w} {p} {free} s e t = record { means = go }
  where
    go : (rs : Objs) → length_of rs ≡ n → are_rows w rs ≡ true → Space C p (w + w * n) → Rep C p v (seq rs) → NewSequence C p (w + w * n) (columns_at 0 w rs) r C₂
    go rs k a sp rv =
        let m = s.means rs k a sp rv in
        let z = m.end in
        let column : (j : ℕ) → j < w → Rep C₁ free (sequence_from (p + j) n) (nth_obj (columns_at 0 w rs) j) = λ j h. rw (column_at_lem w j rs h) (m.column j h) in
        let st = t.means (columns_at 0 w rs) (length_columns 0 w rs) (record { far = omega (arith, sp.far); long = omega (arith, sp.long) }) column in
        let o : free + w ≡ p + (w + w * n) = omega arith in
        record { rep = rw o at st.rep; same = same_trans (omega arith) m.same st.same }
