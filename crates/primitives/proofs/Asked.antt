-- A word's cells are those of the table's rule, asked for at once; they begin at the free cell.
use Prim.Native.Nat.{ℕ, ◌+◌, ◌-◌, ◌*◌, ◌%◌, ◌≤◌, ◌<◌}
use mathlib.Core.Path.{◌≡◌, refl, sym, ap, ◌∙◌}
use mathlib.Core.Bool.{Bool, true, false}
use mathlib.Core.List.{List, [], ◌∷◌}
use native.Mathlib.Omega.{arith}
use native.Mathlib.Nat.{mul-le-mul}
use lib.Dec.{ltb}
use lib.ListN.{get_or}
use borrow.Author.Tests.{ltb-true, ltb-false}
use Rattle.language.specs.Words.{Op, CellRule, no_cell, one_cell, n_less_1, n_cells, n_and_1, three_n, m_and_m_times_n, entry, cells_by}
use Rattle.language.specs.Charging.{stopped, cells_charge, cells_taken}
use Rattle.language.specs.declared.Meter.{Meter}
use Rattle.language.specs.declared.stops.Stopped.{Stopped}
use Rattle.std.specs.Prelude.{Ok, Err}
use Rattle.language.specs.declared.stops.Stop.TheVariants.{CellsSpent}
use Rattle.language.proofs.Charging.{meter_same, cells_granted, cells_spent}
use Rattle.cells.specs.Cells.{Room, free}
use Rattle.cells.proofs.Reps.{free_is}
use Rattle.lexer.specs.declared.vocabulary.Primitive.{Primitive}
use Rattle.lexer.specs.declared.vocabulary.CellRule as L
use Rattle.lexer.specs.declared.vocabulary.CellRule.TheVariants as R
use Rattle.lexer.specs.Vocabulary as V
use Rattle.lexer.specs.Vocabulary.{op_code, op_of, rule_code, rule_number, rule_at}
use Rattle.lexer.proofs.Words.{rule_of_lem, rule_numbers}
use Rattle.primitives.specs.Asking.{CellsAsked, Clipped, Reserves, reserved, too_few, Reserving}
use Rattle.primitives.proofs.Ending.{free_low}

-- ---- the rules by their numbers
rule_of : ℕ → CellRule
rule_of code = get_or (no_cell ∷ one_cell ∷ n_less_1 ∷ n_cells ∷ n_and_1 ∷ three_n ∷ m_and_m_times_n ∷ []) code no_cell

rule_back : (k : CellRule) → rule_of (rule_code k) ≡ k
unfolding rule_of
rule_back no_cell = refl
rule_back one_cell = refl
rule_back n_less_1 = refl
rule_back n_cells = refl
rule_back n_and_1 = refl
rule_back three_n = refl
rule_back m_and_m_times_n = refl

asked_by : {rule n w r : ℕ} (k : CellRule) → rule ≡ rule_code k → r ≡ cells_by k n w → CellsAsked rule n w r
asked_by {rule} {n} {w} k e f = record { means = λ l g. f ∙ ap (λ (q : CellRule). cells_by q n w) (sym (rule_back k) ∙ (ap rule_of (sym e ∙ sym g) ∙ rule_back l)) }

pub asked_no_cell : {rule : L.CellRule} {n w : ℕ} → rule ≡ R.NoCell → CellsAsked (rule_number rule) n w 0
asked_no_cell e = asked_by no_cell (ap rule_number e) refl

pub asked_one : {rule : L.CellRule} {n w : ℕ} → rule ≡ R.One → CellsAsked (rule_number rule) n w 1
asked_one e = asked_by one_cell (ap rule_number e) refl

pub asked_less : {rule : L.CellRule} {n w : ℕ} → rule ≡ R.OneLess → CellsAsked (rule_number rule) n w (n - 1)
asked_less e = asked_by n_less_1 (ap rule_number e) refl

pub asked_n : {rule : L.CellRule} {n w : ℕ} → rule ≡ R.AsMany → CellsAsked (rule_number rule) n w n
asked_n e = asked_by n_cells (ap rule_number e) refl

pub asked_more : {rule : L.CellRule} {n w : ℕ} → rule ≡ R.OneMore → CellsAsked (rule_number rule) n w (n + 1)
asked_more e = asked_by n_and_1 (ap rule_number e) refl

pub asked_three : {rule : L.CellRule} {n w : ℕ} → rule ≡ R.ThreeEach → CellsAsked (rule_number rule) n w (3 * n)
asked_three e = asked_by three_n (ap rule_number e) refl

pub asked_rows : {rule : L.CellRule} {n w : ℕ} → rule ≡ R.Rows → CellsAsked (rule_number rule) n w (w + w * n)
asked_rows e = asked_by m_and_m_times_n (ap rule_number e) refl

pub rows_fit : (w n : ℕ) → w < 4294967296 → n < 4294967296 → w + w * n < 18446744073709551616
rows_fit w n h k =
    let a : w ≤ 4294967295 = omega arith in
    let b : n ≤ 4294967295 = omega arith in
    omega (arith, mul-le-mul a b)

pub product_fits : (w n : ℕ) → w < 4294967296 → n < 4294967296 → w * n < 18446744073709551616
product_fits w n h k = omega (arith, rows_fit w n h k)

-- ---- asking
asked_is : {rule : L.CellRule} (word : Primitive) {n w x : ℕ} (o : Op) → op_code o ≡ op_code (op_of word) → rule ≡ V.rule_of (entry (op_of word)).rule → CellsAsked (rule_number rule) n w x → x ≡ cells_by (entry o).rule n w
asked_is word o e f g = g.means (entry o).rule (sym (rule_of_lem o) ∙ (ap rule_at e ∙ rule_of_lem (op_of word)) ∙ sym (ap rule_number f ∙ rule_numbers (entry (op_of word)).rule))

clipped_below : {x need : ℕ} → Clipped x need → (c y : ℕ) → x ≡ y → c < need → c < y
clipped_below {x} {need} g c y e h = go (ltb x 4294967296) refl
  where
    go : (t : Bool) → ltb x 4294967296 ≡ t → c < y
    go true f = omega (arith, g.below (ltb-true x 4294967296 f))
    go false f = omega (arith, g.above (ltb-false x 4294967296 f), ltb-false x 4294967296 f)

clipped_is : {x need : ℕ} → Clipped x need → (y : ℕ) → x ≡ y → need ≤ 4096 → need ≡ y
clipped_is {x} {need} g y e h = go (ltb x 4294967296) refl
  where
    go : (t : Bool) → ltb x 4294967296 ≡ t → need ≡ y
    go true f = omega (arith, g.below (ltb-true x 4294967296 f))
    go false f = absurd (omega (arith, g.above (ltb-false x 4294967296 f)))

pub reserve_far : {C : List ℕ} {code n w p : ℕ} {m : Meter} → p ≡ free C m % 4294967296 → 4096 < p → Reserving C code n w m (stopped CellsSpent m)
reserve_far {C} {p = p} {m = m} e h = record { keeps = tt; means = λ o f r. absurd (omega (arith, free_is p r e, free_low C m r)) }

pub reserve_short : {C : List ℕ} {rule : L.CellRule} (word : Primitive) {n w x need : ℕ} {m : Meter} {s : Stopped} → rule ≡ V.rule_of (entry (op_of word)).rule → CellsAsked (rule_number rule) n w x → Clipped x need → Err s ≡ cells_charge need m → Reserving C (op_code (op_of word)) n w m (Err s)
reserve_short {C} {rule} word {n} {w} {x} {need} {m} {s} f g c a = record { keeps = tt; means = go }
  where
    go : (o : Op) → op_code o ≡ op_code (op_of word) → Room C m → Reserves C (cells_by (entry o).rule n w) m (Err s)
    go o e r =
        let z = cells_spent need m (sym a) in
        too_few (clipped_below c m.cells (cells_by (entry o).rule n w) (asked_is word o e f g) z.0) (sym z.1)

pub reserve_at : {C : List ℕ} {rule : L.CellRule} (word : Primitive) {n w p x need : ℕ} {m k : Meter} → p ≡ free C m % 4294967296 → p ≤ 4096 → rule ≡ V.rule_of (entry (op_of word)).rule → CellsAsked (rule_number rule) n w x → Clipped x need → Ok k ≡ cells_charge need m → Reserving C (op_code (op_of word)) n w m (Ok (record { first = p; meter = k }))
reserve_at {C} {rule} word {n} {w} {p} {x} {need} {m} {k} i l f g c a =
    let s = cells_granted need m (sym a) in
    record { keeps = record { low = l; steps = omega (arith, s.steps); names = omega (arith, s.names) }; means = go }
  where
    go : (o : Op) → op_code o ≡ op_code (op_of word) → Room C m → Reserves C (cells_by (entry o).rule n w) m (Ok (record { first = p; meter = k }))
    go o e r =
        let s = cells_granted need m (sym a) in
        let y = cells_by (entry o).rule n w in
        let z : need ≡ y = clipped_is c y (asked_is word o e f g) (omega (arith, s.cells, r.fits, r.small)) in
        reserved (free_is p r i) (omega (arith, s.cells)) (meter_same k (cells_taken y m) (omega (arith, s.steps)) (omega (arith, s.names)) (omega (arith, s.cells)))
