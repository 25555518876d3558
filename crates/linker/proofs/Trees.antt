-- Linked forms by the records that they take up: what of the table they depend on, and that they are forms as the evaluator reads them.
use Prim.Native.Nat.{ℕ, ◌+◌, ◌*◌, ◌/◌, ◌%◌, ◌≤◌, ◌<◌}
use native.Mathlib.Omega.{arith}
use mathlib.Core.Path.{◌≡◌, refl, sym, ap, subst, ◌∙◌}
use mathlib.Core.List.{List}
use lib.ListN.{get_or}
use Rattle.language.specs.Forms.{Form, Forms, stop, ◌&◌, ◌+&◌}
use Rattle.cells.proofs.Reps.{val_same}
use Rattle.linker.specs.Linked.{grouped, linked_kind_at, link_at, constant_at, is_op, is_select, is_select_right, is_name, is_chain, is_construct, is_insert, is_all, is_condition, is_while, is_constant, is_bu, FormAt, form_at, PartsAt, no_part, a_part, UpTo, none_yet, one_more}
use Rattle.linker.specs.Linking.{LinkedRow, row_op, row_select, row-select-right, row_name, row_construct, row_insert, row_all, row_condition, row_while, row_constant, row_bu, Tree, tree, tree_chain, Kids, no_kid, a_kid, Back, no_back, a_back}

-- the numbers from lo up to hi are as they were
pub record Keeps (F G : List ℕ) (lo hi : ℕ) : Type 0 where
  pub keep : (k : ℕ) → lo ≤ k → k < hi → get_or G k 0 ≡ get_or F k 0

pub narrow : {F G : List ℕ} {lo hi : ℕ} (lo₁ hi₁ : ℕ) → lo ≤ lo₁ → hi₁ ≤ hi → Keeps F G lo hi → Keeps F G lo₁ hi₁
narrow lo₁ hi₁ a b s = record { keep = λ k l h. s.keep k (omega arith) (omega arith) }

-- ---- lists of forms
pub forms_end : (fs : Forms) → fs +& stop ≡ fs
forms_end stop = refl
forms_end (f & fs) = ap (λ gs. f & gs) (forms_end fs)

pub forms_join : (fs gs hs : Forms) → (fs +& gs) +& hs ≡ fs +& (gs +& hs)
forms_join stop gs hs = refl
forms_join (f & fs) gs hs = ap (λ ks. f & ks) (forms_join fs gs hs)

-- ---- how far they go
mutual
  pub tree_up : {F C : List ℕ} {n : ℕ} {root : List ℕ → ℕ} {i e : ℕ} {f : Form} → Tree F C n root i f e → i < e
  tree_up (tree l r k) = let h = kids_up k in omega arith
  tree_up (tree_chain l q b) = let h = back_up b in omega arith

  pub kids_up : {F C : List ℕ} {n : ℕ} {root : List ℕ → ℕ} {j e : ℕ} {fs : Forms} → Kids F C n root j fs e → j ≤ e
  kids_up no_kid = omega arith
  kids_up (a_kid t q k) = let h = tree_up t in let g = kids_up k in omega arith

  pub back_up : {F C : List ℕ} {n : ℕ} {root : List ℕ → ℕ} {b j e z : ℕ} {fs : Forms} → Back F C n root b j fs e z → j ≤ e
  back_up no_back = omega arith
  back_up (a_back t q k) = let h = tree_up t in let g = back_up k in omega arith

pub tree_small : {F C : List ℕ} {n : ℕ} {root : List ℕ → ℕ} {i e : ℕ} {f : Form} → Tree F C n root i f e → i < 2048
tree_small (tree l r k) = l
tree_small (tree_chain l q b) = l

-- ---- what they depend on
module _ (F G : List ℕ) (i : ℕ) (h : get_or G (i * 4) 0 % 32 ≡ get_or F (i * 4) 0 % 32) (s : Keeps F G (i * 4 + 1) (i * 4 + 4)) where
  pub kind_kept : linked_kind_at G i ≡ linked_kind_at F i
  kind_kept = ap grouped h

  pub constant_kept : constant_at G i ≡ constant_at F i
  constant_kept =
      let a = s.keep (i * 4 + 2) (omega arith) (omega arith) in
      let b = s.keep (i * 4 + 3) (omega arith) (omega arith) in
      val_same (constant_at G i) (constant_at F i) (omega (arith, h)) (omega (arith, a, b))

  pub row_kept : {C : List ℕ} {n : ℕ} {root : List ℕ → ℕ} {f : Form} → LinkedRow F C n root i f → LinkedRow G C n root i f
  row_kept (row_op a b) = row_op (kind_kept ∙ a) (s.keep (i * 4 + 2) (omega arith) (omega arith) ∙ b)
  row_kept (row_select a b) = row_select (kind_kept ∙ a) (s.keep (i * 4 + 2) (omega arith) (omega arith) ∙ b)
  row_kept (row-select-right a b) = row-select-right (kind_kept ∙ a) (s.keep (i * 4 + 2) (omega arith) (omega arith) ∙ b)
  row_kept (row_name {w = w} g a b) = row_name {w = w} g (kind_kept ∙ a) (s.keep (i * 4 + 1) (omega arith) (omega arith) ∙ b)
  row_kept (row_construct a b) = row_construct (kind_kept ∙ a) (s.keep (i * 4 + 1) (omega arith) (omega arith) ∙ b)
  row_kept (row_insert a) = row_insert (kind_kept ∙ a)
  row_kept (row_all a) = row_all (kind_kept ∙ a)
  row_kept (row_condition a) = row_condition (kind_kept ∙ a)
  row_kept (row_while a) = row_while (kind_kept ∙ a)
  row_kept (row_constant {x = x} a b) = row_constant {x = x} (kind_kept ∙ a) (rw constant_kept b)
  row_kept (row_bu {f = f} {x = x} a b) = row_bu {f = f} {x = x} (kind_kept ∙ a) (rw constant_kept b)

mutual
  pub tree_kept : {F G C : List ℕ} {n : ℕ} {root : List ℕ → ℕ} {i e : ℕ} {f : Form} → get_or G (i * 4) 0 % 32 ≡ get_or F (i * 4) 0 % 32 → Keeps F G (i * 4 + 1) (e * 4) → Tree F C n root i f e → Tree G C n root i f e
  tree_kept {F} {G} {i = i} {e} h s (tree l r k) =
      let u = kids_up k in
      tree l (row_kept F G i h (narrow (i * 4 + 1) (i * 4 + 4) (omega arith) (omega arith) s) r) (kids_kept (narrow ((i + 1) * 4) (e * 4) (omega arith) (omega arith) s) k)
  tree_kept {F} {G} {C} {n} {root} {i} {e} h s (tree_chain {fs = fs} l q b) =
      let u = back_up b in
      tree_chain l (kind_kept F G i h (narrow (i * 4 + 1) (i * 4 + 4) (omega arith) (omega arith) s) ∙ q)
      (subst (λ (z : ℕ). Back G C n root 0 (i + 1) fs e z) (sym (s.keep (i * 4 + 2) (omega arith) (omega arith))) (back_kept (narrow ((i + 1) * 4) (e * 4) (omega arith) (omega arith) s) b))

  pub kids_kept : {F G C : List ℕ} {n : ℕ} {root : List ℕ → ℕ} {j e : ℕ} {fs : Forms} → Keeps F G (j * 4) (e * 4) → Kids F C n root j fs e → Kids G C n root j fs e
  kids_kept s no_kid = no_kid
  kids_kept {j = j} {e} s (a_kid {m = m} t q k) =
      let u = tree_up t in
      let w = kids_up k in
      let z = s.keep (j * 4) (omega arith) (omega arith) in
      a_kid (tree_kept (ap (λ (x : ℕ). x % 32) z) (narrow (j * 4 + 1) (m * 4) (omega arith) (omega arith) s) t) (ap (λ (x : ℕ). x / 32) z ∙ q) (kids_kept (narrow (m * 4) (e * 4) (omega arith) (omega arith) s) k)

  pub back_kept : {F G C : List ℕ} {n : ℕ} {root : List ℕ → ℕ} {b j e y : ℕ} {fs : Forms} → Keeps F G (j * 4) (e * 4) → Back F C n root b j fs e y → Back G C n root b j fs e y
  back_kept s no_back = no_back
  back_kept {j = j} {e} s (a_back {m = m} t q k) =
      let u = tree_up t in
      let w = back_up k in
      let z = s.keep (j * 4) (omega arith) (omega arith) in
      a_back (tree_kept (ap (λ (x : ℕ). x % 32) z) (narrow (j * 4 + 1) (m * 4) (omega arith) (omega arith) s) t) (ap (λ (x : ℕ). x / 32) z ∙ q) (back_kept (narrow (m * 4) (e * 4) (omega arith) (omega arith) s) k)

-- ---- they are forms as the evaluator reads them
part_first : {F C : List ℕ} {n : ℕ} {root : List ℕ → ℕ} {j : ℕ} {f : Form} {fs : Forms} → PartsAt F C n root j (f & fs) → FormAt F C n root j f
part_first (a_part a p) = a

part_rest : {F C : List ℕ} {n : ℕ} {root : List ℕ → ℕ} {j : ℕ} {f : Form} {fs : Forms} → PartsAt F C n root j (f & fs) → PartsAt F C n root (link_at F j) fs
part_rest (a_part a p) = p

mutual
  pub form_of : {F C : List ℕ} {n : ℕ} {root : List ℕ → ℕ} {i e : ℕ} {f : Form} → Tree F C n root i f e → FormAt F C n root i f
  form_of (tree l (row_op a b) k) = form_at l a (is_op b)
  form_of (tree l (row_select a b) k) = form_at l a (is_select b)
  form_of (tree l (row-select-right a b) k) = form_at l a (is_select_right b)
  form_of (tree l (row_name g a b) k) = form_at l a (is_name g b)
  form_of (tree l (row_construct a b) k) = form_at l a (is_construct (sym b) (parts_of k))
  form_of (tree l (row_insert a) k) = form_at l a (is_insert (part_first (parts_of k)))
  form_of (tree l (row_all a) k) = form_at l a (is_all (part_first (parts_of k)))
  form_of (tree l (row_condition a) k) = let p = parts_of k in form_at l a (is_condition (part_first p) (part_first (part_rest p)) (part_first (part_rest (part_rest p))))
  form_of (tree l (row_while a) k) = let p = parts_of k in form_at l a (is_while (part_first p) (part_first (part_rest p)))
  form_of (tree l (row_constant a b) k) = form_at l a (is_constant b)
  form_of (tree l (row_bu a b) k) = form_at l a (is_bu (part_first (parts_of k)) b)
  form_of {i = i} (tree_chain l a b) = form_at l a (is_chain (up_to stop b (omega arith) (none_yet refl)))

  pub parts_of : {F C : List ℕ} {n : ℕ} {root : List ℕ → ℕ} {j e : ℕ} {fs : Forms} → Kids F C n root j fs e → PartsAt F C n root j fs
  parts_of no_kid = no_part
  parts_of (a_kid {fs = fs} t q k) = a_part {fs = fs} (form_of t) (rw q (parts_of k))

  pub up_to : {F C : List ℕ} {n : ℕ} {root : List ℕ → ℕ} {b j e z : ℕ} {fs : Forms} (done : Forms) → Back F C n root b j fs e z → 0 < j → UpTo F C n root b done → UpTo F C n root z (done +& fs)
  up_to done no_back l u = rw (forms_end done) u
  up_to {F} {C} {n} {root} {z = z} done (a_back {j = j} {f = f} {fs = fs} t q k) l u =
      let h = tree_up t in
      subst (λ gs. UpTo F C n root z gs) (forms_join done (f & stop) fs) (up_to (done +& (f & stop)) k (omega arith) (one_more {f = f} {before = done} l (form_of t) (rw q u) refl))
