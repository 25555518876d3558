-- The word trans: the columns of rows of equal length, bottom for other rows.
use Rattle.language.specs.declared.stops.Stop.TheVariants.{Bottom}
use Rattle.language.specs.Charging.{stopped}
use Prim.Native.Nat.{ℕ, suc, ◌+◌, ◌*◌, ◌<◌}
use mathlib.Core.Path.{◌≡◌, refl, sym, ap, subst, ◌∙◌}
use mathlib.Core.Bool.{Bool, true, false, not}
use mathlib.Core.List.{List}
use native.Mathlib.Omega.{arith}
use lib.Dec.{eqb}
use lib.ListN.{length}
use borrow.Author.Tests.{eqb-true, not-true, not-false}
use Rattle.language.specs.Objects.{Obj, int, symbol, seq, Objs, ◌::◌, length_of}
use Rattle.language.specs.Words.{Op}
use Rattle.language.specs.Forms.{op}
use Rattle.language.specs.Numbers.{one}
use Rattle.language.specs.Meanings.{WordAnswer, falls, gives, meaning, transposed, width_of, are_rows, columns_at}
use Rattle.language.specs.declared.Meter.{Meter}
use Rattle.language.specs.declared.stops.Stopped.{Stopped}
use Rattle.std.specs.Prelude.{Ok, Err}
use Rattle.primitives.specs.declared.Reserved.{Reserved}
use Rattle.language.specs.declared.Val.{Val}
use Rattle.cells.specs.Cells.{Rep, free}
use Rattle.cells.specs.Parts.{Sized, Headed}
use Rattle.lexer.specs.Vocabulary.{op_code}
use Rattle.sequences.specs.Making.{Rows, Columns}
use Rattle.sequences.proofs.Transposing.{and_first}
use Rattle.primitives.specs.Ends.{reached, Leaf}
use Rattle.primitives.specs.Asking.{Reserving}
use Rattle.primitives.proofs.Ending.{end_short, leaf_falls, free_under}
use Rattle.primitives.proofs.Selected.{no_full, full_none, full_of}
use Rattle.primitives.proofs.Made.{Got, got, short, kept, kept_sinks, space_at, end_stands}

false_true : {A : Type 0} → false ≡ true → A
false_true e = let z : ◌≡◌ {A = ℕ} 0 1 = cc in absurd (omega arith)

-- rows that are not even
rows_fall : {C : List ℕ} {n w : ℕ} {v : Val} (r : Obj) (rs : Objs) → n < 4294967296 → Sized v w → Rep C n v r → are_rows w (r :: rs) ≡ false → transposed (width_of r) (r :: rs) ≡ falls
unfolding are_rows
rows_fall (int z) rs u s g e = refl
rows_fall (symbol z) rs u s g e = refl
rows_fall {C} {n} {w} (seq xs) rs u s g e =
    let i : w ≡ length_of xs = s.means C n xs u g in
    let f : are_rows (length_of xs) (seq xs :: rs) ≡ false = subst (λ (j : ℕ). are_rows j (seq xs :: rs) ≡ false) i e in
    rw (f, transposed)

-- the first row of even rows
row_width : (w : ℕ) (r : Obj) (rs : Objs) → are_rows w (r :: rs) ≡ true → width_of r ≡ w
unfolding are_rows
row_width w (int z) rs e = false_true e
row_width w (symbol s) rs e = false_true e
row_width w (seq xs) rs e = eqb-true (length_of xs) w (and_first (eqb (length_of xs) w) (are_rows w rs) e)

-- ---- trans
to_columns : Obj → Objs → WordAnswer
to_columns r rs = transposed (width_of r) (r :: rs)

pub trans_atom : {C : List ℕ} {v : Val} {m : Meter} → (v.tag ≡ 3 → ⊥) → Leaf C v m (op Op.trans) (stopped Bottom m) C
unfolding to_columns
trans_atom h = leaf_falls (λ x o r. no_full h r to_columns)

pub trans_none : {C : List ℕ} {v : Val} {m : Meter} {n : ℕ} → Sized v n → n ≡ 0 → Leaf C v m (op Op.trans) (stopped Bottom m) C
unfolding to_columns
trans_none {C} {m = m} s z = leaf_falls (λ x o r. full_none (free_under C m o) s z r to_columns)

pub trans_uneven : {C : List ℕ} {v h : Val} {m : Meter} {n w : ℕ} {b : Bool} → v.tag ≡ 3 → Sized v n → (n ≡ 0 → ⊥) → Headed C v h → Sized h w → Rows C v n w b → not b ≡ true → Leaf C v m (op Op.trans) (stopped Bottom m) C
trans_uneven {C} {m = m} {w = w} {b = b} t s z d i g e = leaf_falls (λ x o r.
    let u = free_under C m o in
    let q = full_of u t s z r in
    let f : b ≡ are_rows w (q.first :: q.others) = g.means (free C m) (q.first :: q.others) u (sym (s.means C (free C m) (q.first :: q.others) u q.rep)) q.rep in
    rw q.is (rows_fall q.first q.others u i (d.means (free C m) q.first q.others u q.rep) (sym f ∙ not-true b e)))

-- what trans gives of even rows
trans_gives : (w : ℕ) (r : Obj) (rs : Objs) → are_rows w (r :: rs) ≡ true → meaning one (op Op.trans) (seq (r :: rs)) ≡ gives 0 (w + w * suc (length_of rs)) (seq (columns_at 0 w (r :: rs)))
trans_gives w r rs e =
    ap (λ (j : ℕ). transposed j (r :: rs)) (row_width w r rs e) ∙ rw (e, transposed)

pub trans_short : {C : List ℕ} {v : Val} {m : Meter} {y : Stopped} {n w : ℕ} {b : Bool} → v.tag ≡ 3 → Sized v n → (n ≡ 0 → ⊥) → Rows C v n w b → not b ≡ false → Reserving C (op_code Op.trans) n w m (Err y) → Leaf C v m (op Op.trans) (Err y) C
trans_short {C} {m = m} {n = n} {w = w} {b = b} t s z g e a = record {
  sinks = tt;
  means = λ x o r.
      let u = free_under C m o in
      let q = full_of u t s z r in
      let i : n ≡ suc (length_of q.others) = s.means C (free C m) (q.first :: q.others) u q.rep in
      let f : b ≡ are_rows w (q.first :: q.others) = g.means (free C m) (q.first :: q.others) u (sym i) q.rep in
      let d = rw i at (short Op.trans a refl o) in
      rw q.is (end_short (w + w * suc (length_of q.others)) (seq (columns_at 0 w (q.first :: q.others))) (trans_gives w q.first q.others (sym f ∙ not-false b e)) d.0 d.1);
}

pub trans_is : {C C' : List ℕ} {v c : Val} {m : Meter} {y : Reserved} {n w : ℕ} {b : Bool} → v.tag ≡ 3 → Sized v n → (n ≡ 0 → ⊥) → Rows C v n w b → not b ≡ false → Reserving C (op_code Op.trans) n w m (Ok y) → Columns C v n w y.first c C' → length C' ≡ length C → Leaf C v m (op Op.trans) (reached c y.meter) C'
trans_is {C} {C'} {v} {c} {m} {y} {n} {w} {b} t s z g e a cl l = record {
  sinks = kept_sinks (kept a);
  means = λ x o r.
      let u = free_under C m o in
      let q = full_of u t s z r in
      let rs = q.first :: q.others in
      let i : n ≡ suc (length_of q.others) = s.means C (free C m) rs u q.rep in
      let f : b ≡ are_rows w rs = g.means (free C m) rs u (sym i) q.rep in
      let ev : are_rows w rs ≡ true = sym f ∙ not-false b e in
      let d : Got C (w + w * n) m y.first y.meter = got Op.trans a refl o in
      let rp : Rep C y.first v (seq rs) = subst (λ (j : ℕ). Rep C j v (seq rs)) (sym d.first) q.rep in
      let st = cl.means rs (sym i) ev (space_at o d) rp in
      let gv : meaning one (op Op.trans) (seq rs) ≡ gives 0 (w + w * n) (seq (columns_at 0 w rs)) = trans_gives w q.first q.others ev ∙ ap (λ (j : ℕ). gives 0 (w + w * j) (seq (columns_at 0 w rs))) (sym i) in
      rw q.is (end_stands (w + w * n) (columns_at 0 w rs) o gv d l st);
}
