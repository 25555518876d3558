-- Forms that stand in a table stand in a copy of its first 8,192 numbers too.
use Prim.Native.Nat.{ℕ, ◌+◌, ◌-◌, ◌*◌, ◌/◌, ◌%◌, ◌≤◌, ◌<◌, min}
use native.Mathlib.Omega.{arith}
use mathlib.Core.Path.{◌≡◌, refl, sym, ap, ◌∙◌}
use mathlib.Core.List.{List, ◌++◌}
use mathlib.Core.Option.{Option}
use borrow.Author.Tests.{leb-true, leb-false}
use mathlib.Core.Bool.{Bool, true, false}
use lib.Dec.{leb}
use lib.ListN.{get_or, length, take, drop, replicate, get_or-append, get_or-eq_default}
use lib.Seq.{get_or-take, get_or-drop, get_or-append-add, length-take-le}
use Rattle.std.proofs.lemmas.List.{get_or-replicate}
use Rattle.language.specs.Objects.{Obj}
use Rattle.language.specs.Forms.{Form, Forms}
use Rattle.tables.specs.Tables.{field}
use Rattle.cells.specs.Cells.{Rep}
use Rattle.linker.specs.Linked.{FormIs, is_op, is_select, is_select_right, is_name, is_chain, is_construct, is_insert, is_all, is_condition, is_while, is_constant, is_bu, FormAt, form_at, PartsAt, no_part, a_part, UpTo, none_yet, one_more, DefAt, no_def, a_def, grouped, linked_kind_at, link_at, constant_at}
use Rattle.evaluator.specs.Applying.{FormsCopied}

module _ {F T : List ℕ} (c : FormsCopied F T) where
  number : (i : ℕ) → i < 2048 → get_or T (i * 4) 0 ≡ get_or F (i * 4) 0
  number i l = c.same (i * 4) (omega arith)

  part : (i d : ℕ) → i < 2048 → d < 4 → field T i d ≡ field F i d
  part i d l h = c.same (i * 4 + d) (omega arith)

  kind : (i : ℕ) → i < 2048 → linked_kind_at T i ≡ linked_kind_at F i
  kind i l = ap (λ (x : ℕ). grouped (x % 32)) (number i l)

  link : (i : ℕ) → i < 2048 → link_at T i ≡ link_at F i
  link i l = ap (λ (x : ℕ). x / 32) (number i l)

  constant_rep : {C : List ℕ} {n : ℕ} {x : Obj} (i : ℕ) → i < 2048 → Rep C n (constant_at F i) x → Rep C n (constant_at T i) x
  constant_rep i l r = rw (number i l, part i 2 l (omega arith), part i 3 l (omega arith)) r

module _ {F T C : List ℕ} {n : ℕ} {root : List ℕ → ℕ} (c : FormsCopied F T) where
  low : {i : ℕ} {f : Form} → FormAt F C n root i f → i < 2048
  low (form_at l q p) = l

  mutual
    is_copied : {κ i : ℕ} {f : Form} → i < 2048 → FormIs F C n root κ i f → FormIs T C n root κ i f
    is_copied {i = i} l (is_op p) = is_op (part c i 2 l (omega arith) ∙ p)
    is_copied {i = i} l (is_select p) = is_select (part c i 2 l (omega arith) ∙ p)
    is_copied {i = i} l (is_select_right p) = is_select_right (part c i 2 l (omega arith) ∙ p)
    is_copied {i = i} l (is_name w p) = is_name w (part c i 1 l (omega arith) ∙ p)
    is_copied {i = i} l (is_chain {fs = fs} u) = is_chain {i = i} {fs = fs} (rw (part c i 2 l (omega arith)) (up_copied u))
    is_copied {i = i} l (is_construct e p) = is_construct (e ∙ sym (part c i 1 l (omega arith))) (parts_copied p)
    is_copied l (is_insert p) = is_insert (form_copied p)
    is_copied l (is_all p) = is_all (form_copied p)
    is_copied {i = i} l (is_condition {p = p} {f = f} {g = g} a a₁ a₂) = is_condition {i = i} {p = p} {f = f} {g = g} (form_copied a) (rw (link c (i + 1) (low a)) (form_copied a₁)) (rw (link c (i + 1) (low a), link c (link_at F (i + 1)) (low a₁)) (form_copied a₂))
    is_copied {i = i} l (is_while {p = p} {f = f} a a₁) = is_while {i = i} {p = p} {f = f} (form_copied a) (rw (link c (i + 1) (low a)) (form_copied a₁))
    is_copied {i = i} l (is_constant r) = is_constant (constant_rep c i l r)
    is_copied {i = i} l (is_bu p r) = is_bu (form_copied p) (constant_rep c i l r)

    pub form_copied : {i : ℕ} {f : Form} → FormAt F C n root i f → FormAt T C n root i f
    form_copied {i = i} (form_at l q p) = form_at l (kind c i l ∙ q) (is_copied l p)

    parts_copied : {j : ℕ} {fs : Forms} → PartsAt F C n root j fs → PartsAt T C n root j fs
    parts_copied no_part = no_part
    parts_copied {j = j} (a_part {f = f} {fs = fs} a p) = a_part {j = j} {f = f} {fs = fs} (form_copied a) (rw (link c j (low a)) (parts_copied p))

    up_copied : {j : ℕ} {fs : Forms} → UpTo F C n root j fs → UpTo T C n root j fs
    up_copied (none_yet e) = none_yet e
    up_copied {j = j} (one_more {f = f} {before = before} l a u e) = one_more {j = j} {f = f} {before = before} l (form_copied a) (rw (link c j (low a)) (up_copied u)) e

  pub def_copied : {d : ℕ} {b : Option Form} → DefAt F C n root d b → DefAt T C n root d b
  def_copied (no_def e) = no_def e
  def_copied (a_def e p) = a_def e (form_copied p)

-- ---- the first n numbers copied before what stands behind them in a table of 0
pub copied_is : {F Z part : List ℕ} {n : ℕ} → n ≡ min (length F) 8192 → Z ≡ replicate 8192 0 → part ≡ take n F → FormsCopied F (part ++ drop n Z)
copied_is {F} {Z} {part} {n} m z e = record { same = λ j h. one j h (leb n j) refl }
  where
    low : n ≤ length F
    low = omega arith

    long : length part ≡ n
    long = ap (λ (l : List ℕ). length l) e ∙ length-take-le n F low

    one : (j : ℕ) → j < 8192 → (b : Bool) → leb n j ≡ b → get_or (part ++ drop n Z) j 0 ≡ get_or F j 0
    one j h true q =
        let l : n ≤ j = leb-true n j q in
        let a : j ≡ length part + (j - n) = omega (arith, long) in
        let b : n + (j - n) ≡ j = omega arith in
        let p : length F ≤ j = omega arith in
        ap (λ (k : ℕ). get_or (part ++ drop n Z) k 0) a
        ∙ get_or-append-add part (drop n Z) (j - n) 0
        ∙ get_or-drop n Z (j - n) 0
        ∙ ap (λ (k : ℕ). get_or Z k 0) b
        ∙ ap (λ (l : List ℕ). get_or l j 0) z
        ∙ get_or-replicate 8192 j 0 0 h
        ∙ sym (get_or-eq_default F 0 p)
    one j h false q =
        let l : j < n = leb-false n j q in
        get_or-append part (drop n Z) 0 j (omega (arith, long))
        ∙ ap (λ (l : List ℕ). get_or l j 0) e
        ∙ get_or-take n F j 0 l
