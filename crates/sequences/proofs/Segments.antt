-- Places that lie in cells from the first to the last: a part of a sequence, from the link that leads to its first place to the link in its last.
use Prim.Native.Nat.{ℕ, zero, suc, ◌+◌, ◌*◌, ◌%◌, ◌≤◌, ◌<◌}
use mathlib.Core.Path.{◌≡◌, refl, subst, ◌∙◌}
use mathlib.Core.List.{List}
use native.Mathlib.Omega.{arith}
use lib.ListN.{length}
use Rattle.language.specs.Objects.{Obj, seq, Objs, nil, ◌::◌, length_of, ◌+++◌}
use Rattle.language.specs.declared.Val.{Val}
use Rattle.cells.specs.Cells.{Rep, rep_nil, rep_more, Same, val_at, next_at, sequence_val, cell_put}
use Rattle.cells.proofs.Reps.{same_refl, same_fewer, same_val, same_next, rep_ext, cell_same, cell_val, cell_next}
use Rattle.sequences.specs.Making.{take_objs}
use Rattle.sequences.specs.Lines.{link_over, Place, Line}
use Rattle.sequences.proofs.Parts.{append_more, take_next}

-- ---- one place
-- a place stays where later cells change
pub place_ext : {C C' : List ℕ} {m k k' p next : ℕ} {x : Obj} → Same C C' m → k ≤ m → p < m → k ≤ k' → Place C k p x next → Place C' k' p x next
place_ext {p = p} s h l i g = record { holds = rw (same_val s p l) (rep_ext (same_fewer h s) i g.holds); leads = same_next s p l ∙ g.leads }

-- a new cell is a place
pub place_new : {C : List ℕ} {k p : ℕ} {v : Val} {x : Obj} (next : ℕ) → k ≤ p → p * 4 + 4 ≤ length C → Rep C k v x → Place (cell_put C p v next) k p x next
place_new {C} {k} {p} {v} next h l r = record { holds = rw (cell_val C p v next l) (rep_ext (same_fewer h (cell_same C p v next)) (omega arith) r); leads = cell_next C p v next l }

-- ---- segments
-- from the link a on the places of xs, the last one leading to l
pub data Segment (C : List ℕ) (k : ℕ) : ℕ → Objs → ℕ → Type 0 where
  seg_none : {a l : ℕ} → a ≡ l → Segment C k a nil l
  seg_more : {a l p : ℕ} {x : Obj} {xs : Objs} → a ≡ suc p → p < k → Rep C k (val_at C p) x → Segment C k (next_at C p) xs l → Segment C k a (x :: xs) l

pub seg_ext : {C C' : List ℕ} {k k' a l : ℕ} {xs : Objs} → Same C C' k → k ≤ k' → Segment C k a xs l → Segment C' k' a xs l
seg_ext s h (seg_none e) = seg_none e
seg_ext {C} {C'} {k} {k'} {a} {l} s h (seg_more {p = p} {x = x} {xs = xs} e i r g) =
    seg_more {a = a} {l = l} {p = p} {x = x} {xs = xs} e (omega arith) (rw (same_val s p i) (rep_ext s h r)) (rw (same_next s p i) (seg_ext s h g))

-- one place more at the end
pub seg_end : {C : List ℕ} {k a b l p : ℕ} {x : Obj} {xs : Objs} → b ≡ suc p → p < k → Place C k p x l → Segment C k a xs b → Segment C k a (xs +++ (x :: nil)) l
seg_end {C} {k} {a} {b} {l} {p} {x} f h g (seg_none e) =
    seg_more {a = a} {l = l} {p = p} {x = x} {xs = nil} (e ∙ f) h g.holds (seg_none g.leads)
seg_end {C} {k} {a} {b} {l} {p} {x} f h g (seg_more {p = q} {x = y} {xs = ys} e i r s) =
    seg_more {a = a} {l = l} {p = q} {x = y} {xs = ys +++ (x :: nil)} e i r (seg_end f h g s)

-- a segment before a sequence is a sequence
pub seg_rep : {C : List ℕ} {k a l : ℕ} {xs : Objs} (ys : Objs) → Segment C k a xs l → Rep C k (sequence_val l (length_of ys)) (seq ys) → Rep C k (sequence_val a (length_of (xs +++ ys))) (seq (xs +++ ys))
seg_rep ys (seg_none e) r = rw e r
seg_rep {C} {k} {a} {l} ys (seg_more {p = p} {x = x} {xs = xs} e i h g) r =
    rep_more {v = sequence_val a (suc (length_of (xs +++ ys)))} {p = p} {x = x} {xs = xs +++ ys} refl (omega arith) i h (seg_rep ys g r)

-- ---- the objects of `all` from the link a on: those of `todo` are still to be made, and l is to lead to them
pub record Begun (C : List ℕ) (k a : ℕ) (all todo : Objs) (l : ℕ) : Type 0 where
  pub made : Objs
  pub segment : Segment C k a made l
  pub whole : made +++ todo ≡ all

pub begin : (C : List ℕ) (k a : ℕ) (all : Objs) → Begun C k a all all a
begin C k a all = record { made = nil; segment = seg_none refl; whole = refl }

pub begun_next : {C C' : List ℕ} {k k' a l next p : ℕ} {x : Obj} {all todo : Objs} → Same C C' k → k ≤ k' → l ≡ suc p → p < k' → Place C' k' p x next → Begun C k a all (x :: todo) l → Begun C' k' a all todo next
begun_next {x = x} {todo = todo} s h e i g b = record {
  made = b.made +++ (x :: nil);
  segment = seg_end e i g (seg_ext s h b.segment);
  whole = append_more b.made x todo ∙ b.whole;
}

pub begun_end : {C : List ℕ} {k a : ℕ} {all : Objs} → Begun C k a all nil 0 → Rep C k (sequence_val a (length_of all)) (seq all)
begun_end {C} {k} {a} b = subst (λ (t : Objs). Rep C k (sequence_val a (length_of t)) (seq t)) b.whole (seg_rep nil b.segment (rep_nil refl refl))

-- a line in which each place leads to the next cell is a segment
pub line_segment : {C : List ℕ} {k p : ℕ} {xs : Objs} (m : ℕ) → m ≤ length_of xs → p + m ≤ k → k < 4294967295 → Line C p 1 xs m → Segment C k (p + 1) (take_objs m xs) (p + m + 1)
unfolding take_objs link_over
line_segment {p = p} zero h i u g = let e : p + 1 ≡ p + 0 + 1 = omega arith in seg_none e
line_segment {C} {k} {p} {xs} (suc m) h i u g =
    let s = line_segment {k = k} m (omega arith) (omega arith) u (record { place = λ j t. g.place j (omega arith) }) in
    let o = place_ext {k' = k} (same_refl C (p + suc m)) (omega arith) (omega arith) (omega arith) (g.place m (omega arith)) in
    let e : (p + m + 1 + 1) % 4294967296 ≡ p + suc m + 1 = omega arith in
    rw (take_next m xs (omega arith)) (rw e at (seg_end {p = p + m} (omega arith) (omega arith) o s))
