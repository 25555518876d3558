-- A pair for each place of a sequence, from the first place to the last.
use Prim.Native.Nat.{ℕ, suc, ◌+◌, ◌-◌, ◌*◌, ◌≤◌, ◌<◌}
use mathlib.Core.Path.{◌≡◌, refl, ap, ◌∙◌}
use mathlib.Core.Bool.{Bool, true, false}
use mathlib.Core.List.{List}
use native.Mathlib.Omega.{arith}
use lib.ListN.{length}
use Rattle.language.specs.Objects.{Obj, seq, Objs, nil, ◌::◌, length_of}
use Rattle.language.specs.declared.Val.{Val}
use Rattle.cells.specs.Cells.{Rep, Same, sequence_val, cell_put}
use Rattle.cells.specs.Parts.{Headed, Tailed, Paired}
use Rattle.cells.proofs.Reps.{same_refl, same_fewer, same_trans, rep_ext, cell_same}
use Rattle.sequences.specs.Making.{Space, NewSequence, side, sides, Joined, Shared}
use Rattle.sequences.specs.Lines.{Place, Coupled}
use Rattle.cells.proofs.Lengths.{rep_length}
use Rattle.sequences.proofs.Segments.{place_ext, place_new, Begun, begin, begun_next, begun_end}

-- ---- one pair
pub joined_first : {C C' : List ℕ} {p : ℕ} {a b r : Val} {first : Bool} → first ≡ true → Paired C p a b r C' → Joined C p a b first r C'
joined_first e g = record { means = λ x y s ra rb. rw e (g.means x y s.far (omega (arith, s.long)) ra rb) }

pub joined_second : {C C' : List ℕ} {p : ℕ} {a b r : Val} {first : Bool} → first ≡ false → Paired C p b a r C' → Joined C p a b first r C'
joined_second e g = record { means = λ x y s ra rb. rw e (g.means y x s.far (omega (arith, s.long)) rb ra) }

pub couple_is : {C C₁ C₂ : List ℕ} {p next : ℕ} {a b r : Val} {first : Bool} → Joined C p a b first r C₁ → length C₁ ≡ length C → C₂ ≡ cell_put C₁ (p + 2) r next → Coupled C p a b first next C₂
couple_is {C} {C₁} {C₂} {p} {next} {a} {b} {r} {first} j e f = record { means = go }
  where
    go : (x y : Obj) → Space C p 3 → Rep C p a x → Rep C p b y → Place C₂ (p + 2) (p + 2) (side first x y) next × Same C C₂ p
    go x y s ra rb =
        let m = j.means x y (record { far = omega (arith, s.far); long = omega (arith, s.long) }) ra rb in
        rw f (place_new next (omega arith) (omega (arith, s.long)) m.0, same_trans (omega arith) m.1 (cell_same C₁ (p + 2) r next))

-- ---- all pairs
length_sides : (b : Bool) (x : Obj) (ys : Objs) → length_of (sides b x ys) ≡ length_of ys
unfolding sides
length_sides b x nil = refl
length_sides b x (y :: ys) = ap suc (length_sides b x ys)

-- the places of `todo` are ahead, the pairs of those before them are made
pub record ShareNow (C₀ : List ℕ) (first : Bool) (p : ℕ) (x : Obj) (ys : Objs) (C : List ℕ) (ahead : Val) (left free next : ℕ) : Type 0 where
  pub todo : Objs
  pub long : length_of todo ≡ left
  pub still : Rep C p ahead (seq todo)
  pub same : Same C₀ C p
  pub begun : Begun C free (p + 3) (sides first x ys) (sides first x todo) next

pub record Sharing (C₀ : List ℕ) (a v : Val) (first : Bool) (n p : ℕ) (C : List ℕ) (ahead : Val) (left free : ℕ) : Type 0 where
  pub some : 0 < left
  pub most : left ≤ n
  pub sum : free + 3 * left ≡ p + 3 * n
  pub fits : p + 3 * n < 4294967296
  pub len : length C ≡ length C₀
  pub means : (x : Obj) (ys : Objs) → length_of ys ≡ n → Space C₀ p (3 * n) → Rep C₀ p a x → Rep C₀ p v (seq ys) → ShareNow C₀ first p x ys C ahead left free (free + 3)

pub share_none : {C : List ℕ} {a v : Val} {first : Bool} {n p : ℕ} → n ≡ 0 → Shared C a v first n p v C
unfolding sides
share_none {C} {a} {v} {first} {n} {p} z = record { means = λ x ys e s ra rv. go x ys (e ∙ z) rv }
  where
    go : (x : Obj) (ys : Objs) → length_of ys ≡ 0 → Rep C p v (seq ys) → NewSequence C p (3 * n) (sides first x ys) v C
    go x nil e rv = record { rep = rep_ext (same_refl C p) (omega arith) rv; same = same_refl C p }
    go x (y :: ys) e rv = absurd (omega arith)

pub share_long : {C C' : List ℕ} {a v r : Val} {first : Bool} {n p : ℕ} → 1073741823 < n → Shared C a v first n p r C'
share_long h = record { means = λ x ys e s ra rv. absurd (omega (arith, s.far, s.long, rep_length ys rv)) }

pub share_far : {C C' : List ℕ} {a v r : Val} {first : Bool} {n p : ℕ} → 4294967295 - p < 3 * n → Shared C a v first n p r C'
share_far h = record { means = λ x ys e s ra rv. absurd (omega (arith, s.far)) }

pub share_start : {C : List ℕ} {a v : Val} {first : Bool} {n p left : ℕ} → (n ≡ 0 → ⊥) → p + 3 * n < 4294967296 → left ≡ n → Sharing C a v first n p C v left p
share_start {C} {first = first} {n = n} {p = p} z h u = record {
  some = omega (arith, z);
  most = omega arith;
  sum = omega arith;
  fits = h;
  len = refl;
  means = λ x ys e s ra rv. record { todo = ys; long = omega arith; still = rv; same = same_refl C p; begun = begin C p (p + 3) (sides first x ys) };
}

-- one pair more
share_pair : {C₀ C C' : List ℕ} {a b : Val} {first : Bool} {p free s next : ℕ} {x y : Obj} {all todo : Objs} → p ≤ free → Space C free 3 → Same C₀ C p → Rep C₀ p a x → Rep C p b y → Coupled C free a b first next C' → Begun C free s all (side first x y :: todo) (free + 3) → Begun C' (free + 3) s all todo next × Same C C' free
share_pair {C = C} {C' = C'} {p = p} {free = free} {x = x} {y = y} h sp s ra rb cp g =
    let m = cp.means x y sp (rep_ext s h ra) (rep_ext (same_refl C p) h rb) in
    let o = place_ext {k' = free + 3} (same_refl C' (free + 3)) (omega arith) (omega arith) (omega arith) m.0 in
    (begun_next {p = free + 2} m.1 (omega arith) (omega arith) (omega arith) o g, m.1)

share_one : {C₀ C C' : List ℕ} {a ahead b rest : Val} {first : Bool} {p free next q : ℕ} {x : Obj} {ys : Objs} (todo : Objs) → length_of todo ≡ suc q → p ≤ free → Space C free 3 → Rep C₀ p a x → Headed C ahead b → Tailed C ahead rest → Coupled C free a b first next C' → Rep C p ahead (seq todo) → Same C₀ C p → Begun C free (p + 3) (sides first x ys) (sides first x todo) (free + 3) → ShareNow C₀ first p x ys C' rest q (free + 3) next
unfolding sides
share_one nil e h sp ra hd tl cp rt s g = absurd (omega arith)
share_one {C = C} {p = p} {free = free} {x = x} (y :: todo) e h sp ra hd tl cp rt s g =
    let u : p < 4294967296 = omega (arith, sp.far) in
    let m = share_pair h sp s ra (hd.means p y todo u rt) cp g in
    record { todo = todo; long = omega arith; still = rep_ext (same_fewer h m.1) (omega arith) (tl.means p y todo u rt); same = same_trans h s m.1; begun = m.0 }

-- the last pair
share_last : {C₀ C C' : List ℕ} {a ahead b : Val} {first : Bool} {p free : ℕ} {x : Obj} {all : Objs} (todo : Objs) → length_of todo ≡ 1 → p ≤ free → Space C free 3 → Rep C₀ p a x → Headed C ahead b → Coupled C free a b first 0 C' → Rep C p ahead (seq todo) → Same C₀ C p → Begun C free (p + 3) all (sides first x todo) (free + 3) → Rep C' (free + 3) (sequence_val (p + 3) (length_of all)) (seq all) × Same C₀ C' p
unfolding sides
share_last nil e h sp ra hd cp rt s g = absurd (omega arith)
share_last {p = p} {x = x} (y :: nil) e h sp ra hd cp rt s g =
    let m = share_pair h sp s ra (hd.means p y nil (omega (arith, sp.far)) rt) cp g in
    (begun_end m.0, same_trans h s m.1)
share_last (y :: z :: todo) e h sp ra hd cp rt s g = absurd (omega arith)

share_step : {C₀ C C' : List ℕ} {a v ahead b rest : Val} {first : Bool} {n p left free : ℕ} (q : ℕ) → 0 < q → left ≡ suc q → Sharing C₀ a v first n p C ahead left free → Headed C ahead b → Tailed C ahead rest → Coupled C free a b first (free + 6) C' → length C' ≡ length C → Sharing C₀ a v first n p C' rest q (free + 3)
share_step {C₀} {C} {C'} {a} {v} {ahead} {b} {rest} {first} {n} {p} {left} {free} q i z g hd tl cp e = record { some = i; most = omega (arith, g.most); sum = omega (arith, g.sum); fits = g.fits; len = e ∙ g.len; means = go }
  where
    go : (x : Obj) (ys : Objs) → length_of ys ≡ n → Space C₀ p (3 * n) → Rep C₀ p a x → Rep C₀ p v (seq ys) → ShareNow C₀ first p x ys C' rest q (free + 3) (free + 3 + 3)
    go x ys k sp ra rv =
        let m = g.means x ys k sp ra rv in
        let j : free + 6 ≡ free + 3 + 3 = omega arith in
        rw j at (share_one m.todo (m.long ∙ z) (omega (arith, g.sum, g.most)) (record { far = omega (arith, g.sum, g.fits); long = omega (arith, g.sum, g.len, sp.long) }) ra hd tl cp m.still m.same m.begun)

pub share_next : {C₀ C C' : List ℕ} {a v ahead b rest : Val} {first : Bool} {n p i free : ℕ} → i < n → Sharing C₀ a v first n p C ahead (n + 1 - i) free → Headed C ahead b → Tailed C ahead rest → Coupled C free a b first (free + 6) C' → length C' ≡ length C → Sharing C₀ a v first n p C' rest (n + 1 - (i + 1)) (free + 3)
share_next {n = n} {i = i} h g hd tl cp e = share_step (n + 1 - (i + 1)) (omega arith) (omega arith) g hd tl cp e

pub share_end : {C₀ C C' : List ℕ} {a v ahead b r : Val} {first : Bool} {n p i free : ℕ} → n ≤ i → Sharing C₀ a v first n p C ahead (n + 1 - i) free → Headed C ahead b → Coupled C free a b first 0 C' → r ≡ sequence_val (p + 3) n → Shared C₀ a v first n p r C'
share_end {C₀} {C} {C'} {a} {v} {ahead} {b} {r} {first} {n} {p} {i} {free} h g hd cp f = record { means = go }
  where
    go : (x : Obj) (ys : Objs) → length_of ys ≡ n → Space C₀ p (3 * n) → Rep C₀ p a x → Rep C₀ p v (seq ys) → NewSequence C₀ p (3 * n) (sides first x ys) r C'
    go x ys e sp ra rv =
        let m = g.means x ys e sp ra rv in
        let one : length_of m.todo ≡ 1 = omega (arith, m.long, g.some) in
        let k = share_last m.todo one (omega (arith, g.sum, g.most)) (record { far = omega (arith, g.sum, g.fits, g.some); long = omega (arith, g.sum, g.len, sp.long, g.some) }) ra hd cp m.still m.same m.begun in
        let l : length_of (sides first x ys) ≡ n = length_sides first x ys ∙ e in
        let j : free + 3 ≡ p + 3 * n = omega (arith, g.sum, g.some) in
        record { rep = rw f (rw (l, j) at k.0); same = k.1 }
