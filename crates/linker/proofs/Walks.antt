-- The link pass: walks over forms that lead to each other, links turned round, one record linked, and all of them.
use Prim.Native.Nat.{ℕ, ◌+◌, ◌-◌, ◌*◌, ◌/◌, ◌%◌, ◌≤◌, ◌<◌}
use native.Mathlib.Omega.{arith}
use mathlib.Core.Path.{◌≡◌, refl, sym, ap, subst, ◌∙◌}
use mathlib.Core.List.{List}
use lib.ListN.{get_or, length, set, length-set}
use lib.Seq.{get_or-set_same, get_or-set_other}
use borrow.Author.Tests.{lt-ltb, le-ltb}
use Rattle.packing.specs.Packing.{packed}
use Rattle.language.specs.Forms.{Form, name, chain, Forms, stop, ◌&◌, ◌+&◌, count}
use Rattle.language.specs.Accepted.{IsForm, AreForms}
use Rattle.tables.specs.Tables.{field}
use Rattle.cells.proofs.Inversions.{tag_low}
use Rattle.lexer.proofs.Words.{code_below}
use Rattle.formtable.specs.Standing as S
use Rattle.formtable.specs.Standing.{parts}
use Rattle.linker.specs.declared.Turned.{Turned}
use Rattle.linker.specs.Linked.{grouped, linked_kind_at, link_at}
use Rattle.linker.specs.Roots.{root_from, root_in, link_set}
use Rattle.linker.specs.Linking.{LinkedRow, row_op, row_select, row-select-right, row_name, row_construct, row_insert, row_all, row_condition, row_while, row_constant, row_bu, Tree, tree, tree_chain, Kids, no_kid, a_kid, Back, no_back, a_back, Walked, Before, Reversed, OneLinked}
use Rattle.linker.proofs.Trees.{Keeps, forms_end, forms_join, tree_up, kids_up, back_up, tree_small, constant_kept, tree_kept, kids_kept, back_kept}
use Rattle.formtable.proofs.Standing.{stands_up, arity_of}
use Rattle.linker.proofs.Records.{parts_formed, both_formed, constant_of, row_same}

-- ---- one link set
link_other : (t : List ℕ) (i link k : ℕ) → (k ≡ i * 4 → ⊥) → get_or (link_set t i link) k 0 ≡ get_or t k 0
link_other t i link k h = get_or-set_other t (i * 4) k (get_or t (i * 4) 0 % 32 + 32 * (link % 134217728)) 0 h

link_here : (t : List ℕ) (i link : ℕ) → i * 4 < length t → get_or (link_set t i link) (i * 4) 0 ≡ get_or t (i * 4) 0 % 32 + 32 * (link % 134217728)
link_here t i link h = get_or-set_same t (i * 4) (get_or t (i * 4) 0 % 32 + 32 * (link % 134217728)) 0 h

link_kind : (t : List ℕ) (i link : ℕ) → i * 4 < length t → get_or (link_set t i link) (i * 4) 0 % 32 ≡ get_or t (i * 4) 0 % 32
link_kind t i link h = omega (arith, link_here t i link h)

link_is : (t : List ℕ) (i link : ℕ) → i * 4 < length t → link < 134217728 → link_at (link_set t i link) i ≡ link
link_is t i link h l = omega (arith, link_here t i link h)

length_link : (t : List ℕ) (i link : ℕ) → length (link_set t i link) ≡ length t
length_link t i link = length-set t (i * 4) (get_or t (i * 4) 0 % 32 + 32 * (link % 134217728))

-- ---- walking
kids_more : {F C : List ℕ} {n : ℕ} {root : List ℕ → ℕ} {j m e : ℕ} {fs : Forms} {f : Form} → Kids F C n root j fs m → Tree F C n root m f e → link_at F m ≡ e → Kids F C n root j (fs +& (f & stop)) e
kids_more no_kid t q = a_kid t q no_kid
kids_more (a_kid t₁ q₁ k) t q = a_kid t₁ q₁ (kids_more k t q)

pub record WalkNow (t C : List ℕ) (n : ℕ) (root : List ℕ → ℕ) (start many : ℕ) (gs fs : Forms) (e j q : ℕ) : Type 0 where
  pub past : Forms
  pub left : Forms
  pub whole : past +& left ≡ gs
  pub size : count left + q ≡ many
  pub behind : Kids t C n root start past j
  pub ahead : Kids t C n root j (left +& fs) e

pub record Walking (t : List ℕ) (start many j q : ℕ) : Type 0 where
  pub most : q ≤ many
  pub fits : j < 4294967296
  pub means : (C : List ℕ) (n : ℕ) (root : List ℕ → ℕ) (gs fs : Forms) (e : ℕ) → count gs ≡ many → Kids t C n root start (gs +& fs) e → WalkNow t C n root start many gs fs e j q

pub walk_start : {t : List ℕ} {start many : ℕ} → start < 4294967296 → Walking t start many start 0
walk_start l = record { most = omega arith; fits = l; means = λ C n root gs fs e c k. record { past = stop; left = gs; whole = refl; size = omega arith; behind = no_kid; ahead = k } }

walk_step : {t C : List ℕ} {n : ℕ} {root : List ℕ → ℕ} {start many : ℕ} {gs fs : Forms} {e j : ℕ} (q : ℕ) (past left : Forms) → q < many → past +& left ≡ gs → count left + q ≡ many → Kids t C n root start past j → Kids t C n root j (left +& fs) e → WalkNow t C n root start many gs fs e (link_at t j) (q + 1)
walk_step q past stop l w s b a = absurd (omega arith)
walk_step {t} {C} {n} {root} {start} {fs = fs} {e} q past (f & left) l w s b (a_kid tr link a) =
    record { past = past +& (f & stop); left = left; whole = forms_join past (f & stop) left ∙ w; size = omega arith; behind = rw link (kids_more b tr link); ahead = rw link a }

pub walk_next : {t : List ℕ} {start many j j₁ q : ℕ} → q < many → Walking t start many j q → j₁ ≡ link_at t j → j₁ < 4294967296 → Walking t start many j₁ (q + 1)
walk_next {q = q} l w e u = record { most = omega arith; fits = u; means = λ C n root gs fs e₁ c k. let h = w.means C n root gs fs e₁ c k in rw e (walk_step q h.past h.left l h.whole h.size h.behind h.ahead) }

none_left : {t C : List ℕ} {n : ℕ} {root : List ℕ → ℕ} {start : ℕ} {gs fs : Forms} {e j : ℕ} (past left : Forms) → count left ≡ 0 → past +& left ≡ gs → Kids t C n root start past j → Kids t C n root j (left +& fs) e → Kids t C n root start gs j × Kids t C n root j fs e
none_left {t} {C} {n} {root} {start} {j = j} past stop z w b a = (subst (λ hs. Kids t C n root start hs j) (sym (forms_end past) ∙ w) b, a)
none_left past (f & left) z w b a = absurd (omega arith)

pub walk_end : {t : List ℕ} {start many j q : ℕ} → many ≤ q → Walking t start many j q → Walked t start many j
walk_end l w = record { means = λ C n root gs fs e c k. let h = w.means C n root gs fs e c k in none_left h.past h.left (omega (arith, h.size)) h.whole h.behind h.ahead }

-- ---- links turned round
back_more : {F C : List ℕ} {n : ℕ} {root : List ℕ → ℕ} {b j m e z : ℕ} {fs : Forms} {f : Form} → Back F C n root b j fs m z → Tree F C n root m f e → link_at F m ≡ z → Back F C n root b j (fs +& (f & stop)) e m
back_more no_back t q = a_back t q no_back
back_more (a_back t₁ q₁ k) t q = a_back t₁ q₁ (back_more k t q)

pub record TurnNow (t₀ t C : List ℕ) (n : ℕ) (root : List ℕ → ℕ) (start many : ℕ) (gs fs : Forms) (e j before q : ℕ) : Type 0 where
  pub past : Forms
  pub left : Forms
  pub whole : past +& left ≡ gs
  pub size : count left + q ≡ many
  pub small : before < 2048
  pub behind : Back t C n root 0 start past j before
  pub ahead : Kids t C n root j (left +& fs) e
  pub below : Before t₀ t (start * 4)

pub record Turning (t₀ : List ℕ) (start many : ℕ) (t : List ℕ) (j before q : ℕ) : Type 0 where
  pub most : q ≤ many
  pub fits : j < 4294967296
  pub fits₂ : before < 4294967296
  pub long : length t ≡ length t₀
  pub means : (C : List ℕ) (n : ℕ) (root : List ℕ → ℕ) (gs fs : Forms) (e : ℕ) → count gs ≡ many → e ≤ 2048 → e * 4 ≤ length t₀ → Kids t₀ C n root start (gs +& fs) e → TurnNow t₀ t C n root start many gs fs e j before q

pub turn_start : {t : List ℕ} {start many : ℕ} → start < 4294967296 → Turning t start many t start 0 0
turn_start l = record { most = omega arith; fits = l; fits₂ = omega arith; long = refl; means = λ C n root gs fs e c u v k. record { past = stop; left = gs; whole = refl; size = omega arith; small = omega arith; behind = no_back; ahead = k; below = record { keep = λ i h. refl } } }

turn_step : {t₀ t C : List ℕ} {n : ℕ} {root : List ℕ → ℕ} {start many : ℕ} {gs fs : Forms} {e j before : ℕ} (q : ℕ) (past left : Forms) → q < many → e ≤ 2048 → e * 4 ≤ length t → past +& left ≡ gs → count left + q ≡ many → before < 2048 → Back t C n root 0 start past j before → Kids t C n root j (left +& fs) e → Before t₀ t (start * 4) → TurnNow t₀ (link_set t j before) C n root start many gs fs e (link_at t j) j (q + 1)
turn_step q past stop l u v w s sm b a bl = absurd (omega arith)
turn_step {t₀} {t} {C} {n} {root} {start} {fs = fs} {e} {j} {before} q past (f & left) l u v w s sm b (a_kid {m = m} tr link a) bl =
    let x = tree_up tr in
    let y = kids_up a in
    let z = back_up b in
    let keep : (lo hi : ℕ) → ((k : ℕ) → lo ≤ k → k < hi → k ≡ j * 4 → ⊥) → Keeps t (link_set t j before) lo hi = λ lo hi h. record { keep = λ k h₁ h₂. link_other t j before k (h k h₁ h₂) } in
    record {
      past = past +& (f & stop);
      left = left;
      whole = forms_join past (f & stop) left ∙ w;
      size = omega arith;
      small = tree_small tr;
      behind = rw link (back_more (back_kept (keep (start * 4) (j * 4) (λ k h₁ h₂ h₃. omega arith)) b) (tree_kept (link_kind t j before (omega arith)) (keep (j * 4 + 1) (m * 4) (λ k h₁ h₂ h₃. omega arith)) tr) (link_is t j before (omega arith) (omega arith)));
      ahead = rw link (kids_kept (keep (m * 4) (e * 4) (λ k h₁ h₂ h₃. omega arith)) a);
      below = record { keep = λ k h. link_other t j before k (λ h₁. omega arith) ∙ bl.keep k h };
    }

pub turn_next : {t₀ t t₁ : List ℕ} {start many j j₁ before q : ℕ} → q < many → Turning t₀ start many t j before q → j₁ ≡ link_at t j → j₁ < 4294967296 → t₁ ≡ link_set t j before → Turning t₀ start many t₁ j₁ j (q + 1)
turn_next {t = t} {j = j} {before = before} {q = q} l w e u z = rw z (record {
  most = omega arith;
  fits = u;
  fits₂ = w.fits;
  long = length_link t j before ∙ w.long;
  means = λ C n root gs fs e₁ c a b k. let h = w.means C n root gs fs e₁ c a b k in rw e (turn_step q h.past h.left l a (omega (arith, w.long)) h.whole h.size h.small h.behind h.ahead h.below);
})

none_left_back : {t C : List ℕ} {n : ℕ} {root : List ℕ → ℕ} {start : ℕ} {gs fs : Forms} {e j z : ℕ} (past left : Forms) → count left ≡ 0 → past +& left ≡ gs → Back t C n root 0 start past j z → Kids t C n root j (left +& fs) e → Back t C n root 0 start gs j z × Kids t C n root j fs e
none_left_back {t} {C} {n} {root} {start} {j = j} {z = y} past stop z w b a = (subst (λ hs. Back t C n root 0 start hs j y) (sym (forms_end past) ∙ w) b, a)
none_left_back past (f & left) z w b a = absurd (omega arith)

pub turn_end : {t₀ t : List ℕ} {start many j before q : ℕ} → many ≤ q → Turning t₀ start many t j before q → Reversed t₀ start many (record { last = before; rest = j }) t
turn_end l w = record { means = λ C n root gs fs e c a b k. let h = w.means C n root gs fs e c a b k in let z = none_left_back h.past h.left (omega (arith, h.size)) h.whole h.behind h.ahead in (z.0, z.1, h.below) }

-- ---- one record linked
kind_of : (k : ℕ) → k < 12 → grouped (k % 32) ≡ k
unfolding grouped
kind_of k l = let z : k % 32 ≡ k = omega arith in rw (z, lt-ltb k 12 l)

kind_12 : (k : ℕ) → 12 ≤ k → k < 16 → grouped (k % 32) ≡ 12
unfolding grouped
kind_12 k a b = let z : k % 32 ≡ k = omega arith in rw (z, le-ltb k 12 a, lt-ltb k 16 b)

kind_16 : (k : ℕ) → 16 ≤ k → k < 20 → grouped (k % 32) ≡ 16
unfolding grouped
kind_16 k a b = let z : k % 32 ≡ k = omega arith in rw (z, le-ltb k 12 (omega arith), le-ltb k 16 a, lt-ltb k 20 b)

-- the same kind in a table whose first number of the record leaves the same
kind_is : (t u : List ℕ) (i κ : ℕ) → κ < 12 → get_or u (i * 4) 0 % 32 ≡ get_or t (i * 4) 0 % 32 → S.kind_at t i ≡ κ → linked_kind_at u i ≡ κ
kind_is t u i κ l h e = ap grouped (h ∙ ap (λ (x : ℕ). x % 32) e) ∙ kind_of κ l

-- a record that is no chain and no name says in a linked table what it said
row_of : {C : List ℕ} {n : ℕ} {root : List ℕ → ℕ} (t u : List ℕ) (i : ℕ) {f : Form} → get_or u (i * 4) 0 % 32 ≡ get_or t (i * 4) 0 % 32 → Keeps t u (i * 4 + 1) (i * 4 + 4) → (S.kind_at t i % 32 ≡ 5 → ⊥) → (S.kind_at t i % 32 ≡ 4 → ⊥) → IsForm f → S.Row t C n i f → LinkedRow u C n root i f
row_of t u i h s x y g (S.row_op {o = o} a b c) = let z = code_below o in row_op {o = o} (kind_is t u i 1 (omega arith) h a) (omega (arith, s.keep (i * 4 + 2) (omega arith) (omega arith)))
row_of t u i h s x y g (S.row_select {k = k} a b c) = row_select {k = k} (kind_is t u i 2 (omega arith) h a) (omega (arith, g.1, s.keep (i * 4 + 2) (omega arith) (omega arith)))
row_of t u i h s x y g (S.row_select_right {k = k} a b c) = row-select-right {k = k} (kind_is t u i 3 (omega arith) h a) (omega (arith, g.1, s.keep (i * 4 + 2) (omega arith) (omega arith)))
row_of t u i h s x y g (S.row_name a b c) = absurd (y (ap (λ (z : ℕ). z % 32) a))
row_of t u i h s x y g (S.row_chain a b c) = absurd (x (ap (λ (z : ℕ). z % 32) a))
row_of t u i h s x y g (S.row_construct a b c) = row_construct (kind_is t u i 6 (omega arith) h a) (s.keep (i * 4 + 1) (omega arith) (omega arith) ∙ b)
row_of t u i h s x y g (S.row_insert a b c) = row_insert (kind_is t u i 7 (omega arith) h a)
row_of t u i h s x y g (S.row_apply_all a b c) = row_all (kind_is t u i 8 (omega arith) h a)
row_of t u i h s x y g (S.row_condition a b c) = row_condition (kind_is t u i 9 (omega arith) h a)
row_of t u i h s x y g (S.row_while a b c) = row_while (kind_is t u i 10 (omega arith) h a)
row_of t u i h s x y g (S.row_constant {x = o} {v = v} a b c r) = let l = tag_low r in row_constant {x = o} (ap grouped h ∙ kind_12 (S.kind_at t i) (omega arith) (omega arith)) (rw (constant_kept t u i h s) (constant_of t i 12 v refl a c r))
row_of t u i h s x y g (S.row_bu {f = q} {x = o} {v = v} a b c r) = let l = tag_low r in row_bu {f = q} {x = o} (ap grouped h ∙ kind_16 (S.kind_at t i) (omega arith) (omega arith)) (rw (constant_kept t u i h s) (constant_of t i 16 v refl a c r))

pub one_plain : {t u D : List ℕ} {i many k arity rest : ℕ} → k ≡ get_or t (i * 4) 0 → arity ≡ field t i 1 → (k % 32 ≡ 5 → ⊥) → (k % 32 ≡ 4 → ⊥) → Walked t (i + 1) arity rest → u ≡ link_set t i rest → OneLinked t i D many u
one_plain {t} {i = i} {rest = rest} ke ae x y w z = rw z (record {
  means = λ C n f fs e l a b g r k.
      let p = w.means C n _ (parts f) fs e (sym (arity_of r) ∙ sym ae) k in
      let up = kids_up p.0 in
      let up₂ = kids_up p.1 in
      let h = link_kind t i rest (omega arith) in
      let keep : (lo hi : ℕ) → i * 4 < lo → Keeps t (link_set t i rest) lo hi = λ lo hi m. record { keep = λ j h₁ h₂. link_other t i rest j (λ h₃. omega arith) } in (
        a_kid {m = rest} {f = f} {fs = fs} (tree {i = i} {f = f} (omega arith) (row_of t (link_set t i rest) i h (keep (i * 4 + 1) (i * 4 + 4) (omega arith)) (λ q. x (ap (λ (v : ℕ). v % 32) ke ∙ q)) (λ q. y (ap (λ (v : ℕ). v % 32) ke ∙ q)) g r) (kids_kept (keep ((i + 1) * 4) (rest * 4) (omega arith)) p.0))
            (link_is t i rest (omega arith) (omega arith)) (kids_kept (keep (rest * 4) (e * 4) (omega arith)) p.1),
        record { keep = λ j h₁. link_other t i rest j (λ h₃. omega arith) },
      );
})

-- a chain: its parts turned round, its last part, and then its own link
chain_of : {C : List ℕ} {n : ℕ} {root : List ℕ → ℕ} (t t₁ : List ℕ) (i : ℕ) (r : Turned) {f : Form} (fs : Forms) (e : ℕ) → i < e → e ≤ 2048 → e * 4 ≤ length t₁ → S.kind_at t i % 32 ≡ 5 → S.Row t C n i f → Back t₁ C n root 0 (i + 1) (parts f) r.rest r.last → Kids t₁ C n root r.rest fs e → Before t t₁ ((i + 1) * 4) → Kids (link_set (set t₁ (i * 4 + 2) r.last) i r.rest) C n root i (f & fs) e × Before t (link_set (set t₁ (i * 4 + 2) r.last) i r.rest) (i * 4)
chain_of t t₁ i r fs e l a b k (S.row_op q q₂ q₃) bk ks bl = absurd (omega arith)
chain_of t t₁ i r fs e l a b k (S.row_select q q₂ q₃) bk ks bl = absurd (omega arith)
chain_of t t₁ i r fs e l a b k (S.row_select_right q q₂ q₃) bk ks bl = absurd (omega arith)
chain_of t t₁ i r fs e l a b k (S.row_name q q₂ q₃) bk ks bl = absurd (omega arith)
chain_of t t₁ i r fs e l a b k (S.row_construct q q₂ q₃) bk ks bl = absurd (omega arith)
chain_of t t₁ i r fs e l a b k (S.row_insert q q₂ q₃) bk ks bl = absurd (omega arith)
chain_of t t₁ i r fs e l a b k (S.row_apply_all q q₂ q₃) bk ks bl = absurd (omega arith)
chain_of t t₁ i r fs e l a b k (S.row_condition q q₂ q₃) bk ks bl = absurd (omega arith)
chain_of t t₁ i r fs e l a b k (S.row_while q q₂ q₃) bk ks bl = absurd (omega arith)
chain_of t t₁ i r fs e l a b k (S.row_constant q q₂ q₃ p) bk ks bl = let z = tag_low p in absurd (omega arith)
chain_of t t₁ i r fs e l a b k (S.row_bu q q₂ q₃ p) bk ks bl = let z = tag_low p in absurd (omega arith)
chain_of {C} {n} {root} t t₁ i r fs e l a b k (S.row_chain {fs = gs} q q₂ q₃) bk ks bl =
    let t₂ : List ℕ = set t₁ (i * 4 + 2) r.last in
    let u : List ℕ = link_set t₂ i r.rest in
    let len : length t₂ ≡ length t₁ = length-set t₁ (i * 4 + 2) r.last in
    let up = back_up bk in
    let up₂ = kids_up ks in
    let other : (j : ℕ) → (j ≡ i * 4 → ⊥) → (j ≡ i * 4 + 2 → ⊥) → get_or u j 0 ≡ get_or t₁ j 0 = λ j h₁ h₂. link_other t₂ i r.rest j h₁ ∙ get_or-set_other t₁ (i * 4 + 2) j r.last 0 h₂ in
    let keep : (lo hi : ℕ) → i * 4 + 4 ≤ lo → Keeps t₁ u lo hi = λ lo hi m. record { keep = λ j h₁ h₂. other j (λ h₃. omega arith) (λ h₃. omega arith) } in
    let lo : field u i 2 ≡ r.last = link_other t₂ i r.rest (i * 4 + 2) (λ h₃. omega arith) ∙ get_or-set_same t₁ (i * 4 + 2) r.last 0 (omega arith) in
    let first : get_or t₂ (i * 4) 0 ≡ 5 = get_or-set_other t₁ (i * 4 + 2) (i * 4) r.last 0 (λ h₃. omega arith) ∙ bl.keep (i * 4) (omega arith) ∙ q in
    let kd : get_or u (i * 4) 0 % 32 ≡ 5 % 32 = link_kind t₂ i r.rest (omega arith) ∙ ap (λ (x : ℕ). x % 32) first in (
      a_kid {m = r.rest} {f = chain gs} {fs = fs} (tree_chain {i = i} {e = r.rest} {fs = gs} (omega arith) (ap grouped kd ∙ kind_of 5 (omega arith)) (rw lo (back_kept (keep ((i + 1) * 4) (r.rest * 4) (omega arith)) bk)))
          (link_is t₂ i r.rest (omega arith) (omega arith)) (kids_kept (keep (r.rest * 4) (e * 4) (omega arith)) ks),
      record { keep = λ j h. other j (λ h₃. omega arith) (λ h₃. omega arith) ∙ bl.keep j (omega arith) },
    )

pub one_chain : {t t₁ t₂ u D : List ℕ} {i many k arity : ℕ} {r : Turned} → k ≡ get_or t (i * 4) 0 → arity ≡ field t i 1 → k % 32 ≡ 5 → Reversed t (i + 1) arity r t₁ → length t₁ ≡ length t → t₂ ≡ set t₁ (i * 4 + 2) r.last → u ≡ link_set t₂ i r.rest → OneLinked t i D many u
one_chain {t} {t₁} {i = i} {r = r} ke ae x w ln z₁ z₂ = rw (z₂, z₁) (record {
  means = λ C n f fs e l a b g row k.
      let p = w.means C n _ (parts f) fs e (sym (arity_of row) ∙ sym ae) a b k in
      chain_of t t₁ i r fs e l a (omega arith) (sym (ap (λ (v : ℕ). v % 32) ke) ∙ x) row p.0 p.1 p.2;
})

-- a name: the root of its body
name_of : {C : List ℕ} {n : ℕ} (D : List ℕ) (many : ℕ) (t : List ℕ) (i v : ℕ) {f : Form} (fs : Forms) (e : ℕ) → i < e → e ≤ 2048 → e * 4 ≤ length t → S.kind_at t i % 32 ≡ 4 → field t i 2 < 4294967296 → v ≡ root_from D many (field t i 2) (field t i 3) 0 → IsForm f → S.Row t C n i f → Kids t C n (root_in D many) (i + 1) (parts f +& fs) e → Kids (link_set (set t (i * 4 + 1) v) i (i + 1)) C n (root_in D many) i (f & fs) e × Before t (link_set (set t (i * 4 + 1) v) i (i + 1)) (i * 4)
name_of D many t i v fs e l a b k lw ve g (S.row_op q q₂ q₃) ks = absurd (omega arith)
name_of D many t i v fs e l a b k lw ve g (S.row_select q q₂ q₃) ks = absurd (omega arith)
name_of D many t i v fs e l a b k lw ve g (S.row_select_right q q₂ q₃) ks = absurd (omega arith)
name_of D many t i v fs e l a b k lw ve g (S.row_chain q q₂ q₃) ks = absurd (omega arith)
name_of D many t i v fs e l a b k lw ve g (S.row_construct q q₂ q₃) ks = absurd (omega arith)
name_of D many t i v fs e l a b k lw ve g (S.row_insert q q₂ q₃) ks = absurd (omega arith)
name_of D many t i v fs e l a b k lw ve g (S.row_apply_all q q₂ q₃) ks = absurd (omega arith)
name_of D many t i v fs e l a b k lw ve g (S.row_condition q q₂ q₃) ks = absurd (omega arith)
name_of D many t i v fs e l a b k lw ve g (S.row_while q q₂ q₃) ks = absurd (omega arith)
name_of D many t i v fs e l a b k lw ve g (S.row_constant q q₂ q₃ p) ks = let z = tag_low p in absurd (omega arith)
name_of D many t i v fs e l a b k lw ve g (S.row_bu q q₂ q₃ p) ks = let z = tag_low p in absurd (omega arith)
name_of D many t i v fs e l a b k lw ve g (S.row_name {w = w} q q₂ q₃) ks =
    let t₂ : List ℕ = set t (i * 4 + 1) v in
    let u : List ℕ = link_set t₂ i (i + 1) in
    let len : length t₂ ≡ length t = length-set t (i * 4 + 1) v in
    let up = kids_up ks in
    let low : field t i 2 ≡ packed w % 4294967296 = omega arith in
    let high : field t i 3 ≡ packed w / 4294967296 = omega arith in
    let other : (j : ℕ) → (j ≡ i * 4 → ⊥) → (j ≡ i * 4 + 1 → ⊥) → get_or u j 0 ≡ get_or t j 0 = λ j h₁ h₂. link_other t₂ i (i + 1) j h₁ ∙ get_or-set_other t (i * 4 + 1) j v 0 h₂ in
    let ar : field u i 1 ≡ root_in D many w = link_other t₂ i (i + 1) (i * 4 + 1) (λ h₃. omega arith) ∙ get_or-set_same t (i * 4 + 1) v 0 (omega arith) ∙ ve ∙ ap (λ (x : ℕ). root_from D many x (field t i 3) 0) low ∙ ap (λ (x : ℕ). root_from D many (packed w % 4294967296) x 0) high in
    let first : get_or t₂ (i * 4) 0 ≡ 4 = get_or-set_other t (i * 4 + 1) (i * 4) v 0 (λ h₃. omega arith) ∙ q in
    let kd : get_or u (i * 4) 0 % 32 ≡ 4 % 32 = link_kind t₂ i (i + 1) (omega arith) ∙ ap (λ (x : ℕ). x % 32) first in (
      a_kid {m = i + 1} {f = name w} {fs = fs} (tree {i = i} {f = name w} (omega arith) (row_name {w = w} g (ap grouped kd ∙ kind_of 4 (omega arith)) ar) no_kid)
          (link_is t₂ i (i + 1) (omega arith) (omega arith)) (kids_kept (record { keep = λ j h₁ h₂. other j (λ h₃. omega arith) (λ h₃. omega arith) }) ks),
      record { keep = λ j h. other j (λ h₃. omega arith) (λ h₃. omega arith) },
    )

pub one_name : {t t₁ u D : List ℕ} {i many k lo hi v : ℕ} → k ≡ get_or t (i * 4) 0 → k % 32 ≡ 4 → lo ≡ field t i 2 → lo < 4294967296 → hi ≡ field t i 3 → v ≡ root_from D many lo hi 0 → t₁ ≡ set t (i * 4 + 1) v → u ≡ link_set t₁ i (i + 1) → OneLinked t i D many u
one_name {t} {D = D} {i} {many} {hi = hi} {v = v} ke x a₂ lw a₃ ve z₁ z₂ = rw (z₂, z₁) (record {
  means = λ C n f fs e l a b g row k.
      name_of D many t i v fs e l a b (sym (ap (λ (y : ℕ). y % 32) ke) ∙ x) (omega arith) (ve ∙ ap (λ (y : ℕ). root_from D many y hi 0) a₂ ∙ ap (λ (y : ℕ). root_from D many (field t i 2) y 0) a₃) g row k;
})

-- ---- all records linked
pub record AllNow (t₀ C : List ℕ) (n : ℕ) (root : List ℕ → ℕ) (total : ℕ) (gs : Forms) (t : List ℕ) (i : ℕ) : Type 0 where
  pub linked : Kids t C n root i gs total
  pub raw : Before t₀ t (i * 4)

pub record Linking (t₀ : List ℕ) (total : ℕ) (D : List ℕ) (many : ℕ) (t : List ℕ) (i : ℕ) : Type 0 where
  pub long : length t ≡ length t₀
  pub fits : i ≤ total
  pub means : (C : List ℕ) (n : ℕ) (gs : Forms) → total ≤ 2048 → total * 4 ≤ length t₀ → AreForms gs → S.Stands t₀ C n i gs total → AllNow t₀ C n (root_in D many) total gs t i

start_kids : {t C : List ℕ} {n : ℕ} {root : List ℕ → ℕ} {total i : ℕ} {gs : Forms} → i ≡ total → S.Stands t C n i gs total → Kids t C n root i gs total
start_kids e S.no_form = no_kid
start_kids e (S.a_form r s) = let up = stands_up s in absurd (omega arith)

pub link_start : {t D : List ℕ} {total many : ℕ} → Linking t total D many t total
link_start = record { long = refl; fits = omega arith; means = λ C n gs a b g s. record { linked = start_kids refl s; raw = record { keep = λ j h. refl } } }

step_link : {t₀ t u D C : List ℕ} {n total many i : ℕ} {gs : Forms} → i < total → total ≤ 2048 → total * 4 ≤ length t → ((hs : Forms) → AreForms hs → S.Stands t₀ C n (i + 1) hs total → AllNow t₀ C n (root_in D many) total hs t (i + 1)) → OneLinked t i D many u → AreForms gs → S.Stands t₀ C n i gs total → AllNow t₀ C n (root_in D many) total gs u i
step_link l a b h o g S.no_form = absurd (omega arith)
step_link {t₀} {t} {C = C} {n} {total} {i = i} l a b h o g (S.a_form {f = f} {fs = fs} r s) =
    let p = h (parts f +& fs) (both_formed (parts f) fs (parts_formed f g.0) g.1) s in
    let q = o.means C n f fs total l a b g.0 (row_same t₀ t i (λ j h₁. p.raw.keep j (omega arith)) r) p.linked in
    record { linked = q.0; raw = record { keep = λ j h₁. q.1.keep j h₁ ∙ p.raw.keep j (omega arith) } }

pub link_next : {t₀ t u D : List ℕ} {total many i : ℕ} → 0 < i → Linking t₀ total D many t i → OneLinked t (i - 1) D many u → length u ≡ length t → Linking t₀ total D many u (i - 1)
link_next {t₀} {t} {D = D} {total} {many} {i} z w o ln =
    let y : i - 1 + 1 ≡ i = omega arith in
    record {
      long = ln ∙ w.long;
      fits = omega (arith, w.fits);
      means = λ C n gs a b g s. step_link (omega (arith, w.fits)) a (omega (arith, w.long)) (λ hs k st. subst (λ (j : ℕ). AllNow t₀ C n (root_in D many) total hs t j) (sym y) (w.means C n hs a b k (subst (λ (j : ℕ). S.Stands t₀ C n j hs total) y st))) o g s;
    }
