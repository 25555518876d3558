-- A value goes on to stand for its object where later cells change; a new cell puts an object before a sequence.
use Prim.Native.Nat.{ℕ, suc, ◌+◌, ◌*◌, ◌/◌, ◌%◌, ◌≤◌, ◌<◌}
use mathlib.Core.Path.{◌≡◌, refl, ap₂, ◌∙◌}
use mathlib.Core.List.{List}
use native.Mathlib.Omega.{arith}
use native.Mathlib.Nat.{add-zero}
use mathlib.Core.Bool.{Bool, true, false}
use lib.Dec.{ltb}
use borrow.Author.Tests.{ltb-true, ltb-false}
use lib.ListN.{get_or, length}
use Rattle.language.specs.Objects.{Obj, seq, Objs, ◌::◌, length_of}
use Rattle.language.specs.declared.Val.{Val}
use Rattle.language.specs.declared.Meter.{Meter}
use Rattle.tables.proofs.Records.{length_record, record_below, record_behind, record_first, record_second, record_third, record_fourth}
use Rattle.cells.specs.Cells.{Rep, rep_pos, rep_neg, rep_symbol, rep_nil, rep_more, val_at, next_at, sequence_val, Same, free, Room, cell_put}

pub val_same : (v u : Val) → v.tag ≡ u.tag → v.word ≡ u.word → v ≡ u
val_same v u e f = ap₂ (λ (a b : ℕ). record { tag = a; word = b }) e f

-- ---- the first cells are as they were
pub same_refl : (C : List ℕ) (n : ℕ) → Same C C n
same_refl C n = record { keep = λ i h. refl }

pub same_trans : {C C₁ C₂ : List ℕ} {n n₁ : ℕ} → n ≤ n₁ → Same C C₁ n → Same C₁ C₂ n₁ → Same C C₂ n
same_trans l a b = record { keep = λ i h. b.keep i (omega arith) ∙ a.keep i h }

pub same_fewer : {C C' : List ℕ} {n n₁ : ℕ} → n ≤ n₁ → Same C C' n₁ → Same C C' n
same_fewer l a = record { keep = λ i h. a.keep i (omega arith) }

pub same_val : {C C' : List ℕ} {n : ℕ} → Same C C' n → (p : ℕ) → p < n → val_at C' p ≡ val_at C p
same_val s p h = rw (s.keep (p * 4) (omega arith), s.keep (p * 4 + 2) (omega arith), s.keep (p * 4 + 3) (omega arith))

pub same_next : {C C' : List ℕ} {n : ℕ} → Same C C' n → (p : ℕ) → p < n → next_at C' p ≡ next_at C p
same_next s p h = s.keep (p * 4 + 1) (omega arith)

pub rep_ext : {C C' : List ℕ} {n n' : ℕ} {v : Val} {x : Obj} → Same C C' n → n ≤ n' → Rep C n v x → Rep C' n' v x
rep_ext s l (rep_pos t e b) = rep_pos t e b
rep_ext s l (rep_neg t e b) = rep_neg t e b
rep_ext s l (rep_symbol t i e) = rep_symbol t i e
rep_ext s l (rep_nil t e) = rep_nil t e
rep_ext {C} {C'} {n} {n'} {v} s l (rep_more {p = p} {x = x} {xs = xs} t e h a b) =
    rep_more {v = v} {p = p} {x = x} {xs = xs} t e (omega arith) (rw (same_val s p h) (rep_ext s l a)) (rw (same_next s p h) (rep_ext s l b))

-- ---- a cell's value and its next
module _ (C : List ℕ) (p : ℕ) (v : Val) (next : ℕ) where
  pub length_cell : length (cell_put C p v next) ≡ length C
  length_cell = length_record C p v.tag next (v.word % 4294967296) (v.word / 4294967296)

  pub cell_same : Same C (cell_put C p v next) p
  cell_same = record { keep = λ i h. record_below C p v.tag next (v.word % 4294967296) (v.word / 4294967296) i h }

  pub cell_next : p * 4 + 4 ≤ length C → next_at (cell_put C p v next) p ≡ next
  cell_next h = record_second C p v.tag next (v.word % 4294967296) (v.word / 4294967296) h

  pub cell_val : p * 4 + 4 ≤ length C → val_at (cell_put C p v next) p ≡ v
  cell_val h =
      let lo = record_third C p v.tag next (v.word % 4294967296) (v.word / 4294967296) h in
      let hi = record_fourth C p v.tag next (v.word % 4294967296) (v.word / 4294967296) h in
      val_same (val_at (cell_put C p v next) p) v (record_first C p v.tag next (v.word % 4294967296) (v.word / 4294967296) h) (omega (arith, lo, hi))

-- every other cell is as it was
module _ (C : List ℕ) (p : ℕ) (v : Val) (next q : ℕ) where
  cell_apart : (j : ℕ) → (q ≡ p → ⊥) → j < 4 → get_or (cell_put C p v next) (q * 4 + j) 0 ≡ get_or C (q * 4 + j) 0
  cell_apart j h l = go (ltb q p) refl
    where
      go : (b : Bool) → ltb q p ≡ b → get_or (cell_put C p v next) (q * 4 + j) 0 ≡ get_or C (q * 4 + j) 0
      go true e = record_below C p v.tag next (v.word % 4294967296) (v.word / 4294967296) (q * 4 + j) (omega (arith, ltb-true q p e))
      go false e = record_behind C p v.tag next (v.word % 4294967296) (v.word / 4294967296) (q * 4 + j) (omega (arith, ltb-false q p e, h))

  pub cell_other : (q ≡ p → ⊥) → val_at (cell_put C p v next) q ≡ val_at C q
  cell_other h =
      let tag = rw add-zero at (cell_apart 0 h (omega arith)) in
      rw (tag, cell_apart 2 h (omega arith), cell_apart 3 h (omega arith))

-- a new cell, at n, puts x before the sequence that `next` leads to
pub rep_new : {C : List ℕ} {n : ℕ} {v : Val} {x : Obj} (next : ℕ) (xs : Objs) → n * 4 + 4 ≤ length C → Rep C n v x → Rep C n (sequence_val next (length_of xs)) (seq xs) → Rep (cell_put C n v next) (n + 1) (sequence_val (n + 1) (suc (length_of xs))) (seq (x :: xs))
rep_new {C} {n} {v} {x} next xs h a b =
    rep_more {v = sequence_val (n + 1) (suc (length_of xs))} {p = n} {x = x} {xs = xs} refl (omega arith) (omega arith)
    (rw (cell_val C n v next h) (rep_ext (cell_same C n v next) (omega arith) a))
    (rw (cell_next C n v next h) (rep_ext (cell_same C n v next) (omega arith) b))

-- ---- the next free cell
pub free_is : {C : List ℕ} {m : Meter} (p : ℕ) → Room C m → p ≡ free C m % 4294967296 → p ≡ free C m
free_is p r e = omega arith

pub free_room : (C : List ℕ) (m : Meter) → Room C m → free C m * 4 + m.cells * 4 ≤ length C
free_room C m r = omega arith
