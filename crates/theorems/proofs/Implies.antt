-- When one form serves for another at no more cost, and the other for the first at some cost; and so inside every form.
use Prim.Native.Nat.{ℕ, suc, ◌≤◌}
use mathlib.Core.Path.{◌≡◌, sym, subst}
use native.Mathlib.Omega.{arith}
use Rattle.language.specs.Objects.{Obj, Truth, is_T, is_F, neither}
use Rattle.language.specs.Forms.{Word, Form, word, chain, construct, insert, apply_all, bu, condition, while, Forms, ◌&◌, Prog}
use Rattle.language.specs.Numbers.{Edition}
use Rattle.language.specs.Meanings.{WordAnswer, falls, gives, meaning}
use Rattle.theorems.proofs.Ends.{Job, just, parts, items, Result, object, bottom, Ends, word_bottom, word_object}
use Rattle.theorems.proofs.Congruence.{Less, Less-closed, Any, Any-closed, Better, Sub, sub_refl, sub_trans, parts_head, parts_tail, chain_sub, items_head, items_tail, construct_sub, insert_sub, apply_all_sub, bu_sub, condition_sub, while_sub}

module _ (e : Edition) (Q : Prog) where
  pub less : {d s c d' s' c' : ℕ} {j : Job} {r : Result} → Ends e Q d' j r s' c' → d' ≤ d → s' ≤ s → c' ≤ c → Better e Q Less d j r s c
  less D n p q = record { d' = _; s' = _; c' = _; ends = D; rel = record { names = n; steps = p; cells = q } }

  pub any : {d s c d' s' c' : ℕ} {j : Job} {r : Result} → Ends e Q d' j r s' c' → Better e Q Any d j r s c
  any D = record { d' = _; s' = _; c' = _; ends = D; rel = tt }

  -- j' for j, at no more cost; and j for j', at some cost
  pub record Imp (j j' : Job) : Type 0 where
    pub fwd : Sub e Q Less j j'
    pub bwd : Sub e Q Any j' j

  abbrev pub ImpF : Form → Form → Type 0
  ImpF f f' = (x : Obj) → Imp (just f x) (just f' x)

  abbrev pub ImpP : Forms → Forms → Type 0
  ImpP fs fs' = (x : Obj) → Imp (parts fs x) (parts fs' x)

  pub imp_refl : (j : Job) → Imp j j
  imp_refl j = record { fwd = sub_refl e Q Less Less-closed j; bwd = sub_refl e Q Any Any-closed j }

  pub imp_trans : {j j' j'' : Job} → Imp j j' → Imp j' j'' → Imp j j''
  imp_trans p q = record { fwd = sub_trans e Q Less Less-closed p.fwd q.fwd; bwd = sub_trans e Q Any Any-closed q.bwd p.bwd }

  -- what a word answers
  pub data WordEnds : WordAnswer → ℕ → Result → ℕ → ℕ → Type 0 where
    w_bottom : WordEnds falls 0 bottom 1 0
    w_object : {s c : ℕ} {v : Obj} → WordEnds (gives s c v) 0 (object v) (suc s) c

  pub word_inv : {d : ℕ} {w : Word} {x : Obj} {r : Result} {s c : ℕ} → Ends e Q d (just (word w) x) r s c → WordEnds (meaning e w x) d r s c
  word_inv (word_bottom h) = subst (λ (a : WordAnswer). WordEnds a 0 bottom 1 0) (sym h) w_bottom
  word_inv (word_object {v = v} {s = s} {c = c} h) = subst (λ (a : WordAnswer). WordEnds a 0 (object v) (suc s) c) (sym h) w_object

  -- An object is not bottom, and T, F and neither are three.
  pub object_bottom : {X : Type 0} {v : Obj} → object v ≡ bottom → X
  object_bottom {v = v} h = let z : ◌≡◌ {A = ℕ} 0 1 = cc in absurd (omega arith)

  pub T_F : {X : Type 0} {t : Truth} → t ≡ is_T → t ≡ is_F → X
  T_F p q = let z : ◌≡◌ {A = ℕ} 0 1 = cc in absurd (omega arith)

  pub T_no : {X : Type 0} {t : Truth} → t ≡ is_T → t ≡ neither → X
  T_no p q = let z : ◌≡◌ {A = ℕ} 0 1 = cc in absurd (omega arith)

  pub F_no : {X : Type 0} {t : Truth} → t ≡ is_F → t ≡ neither → X
  F_no p q = let z : ◌≡◌ {A = ℕ} 0 1 = cc in absurd (omega arith)

  pub same_object : {u v : Obj} → object u ≡ object v → u ≡ v
  same_object h = cc

abbrev pub ImpI : Edition → Prog → Forms → Forms → Type 0
ImpI e Q fs fs' = (x : Obj) → Imp e Q (items fs x) (items fs' x)

-- Inside every form, where its parts imply each other.
pub part_head : {f f' : Form} (fs : Forms) (e : Edition) (Q : Prog) → ImpF e Q f f' → ImpP e Q (f & fs) (f' & fs)
part_head fs e Q p x = record { fwd = parts_head e Q Less Less-closed fs (λ y. (p y).fwd) x; bwd = parts_head e Q Any Any-closed fs (λ y. (p y).bwd) x }

pub part_tail : (f : Form) {fs fs' : Forms} (e : Edition) (Q : Prog) → ImpP e Q fs fs' → ImpP e Q (f & fs) (f & fs')
part_tail f e Q p x = record { fwd = parts_tail e Q Less Less-closed f x (p x).fwd; bwd = parts_tail e Q Any Any-closed f x (p x).bwd }

pub in_chain_lem : {fs fs' : Forms} (e : Edition) (Q : Prog) → ImpP e Q fs fs' → ImpF e Q (chain fs) (chain fs')
in_chain_lem e Q p x = record { fwd = chain_sub e Q Less Less-closed x (p x).fwd; bwd = chain_sub e Q Any Any-closed x (p x).bwd }

pub item_head : {f f' : Form} (fs : Forms) (e : Edition) (Q : Prog) → ImpF e Q f f' → ImpI e Q (f & fs) (f' & fs)
item_head fs e Q p x = record { fwd = items_head e Q Less Less-closed fs (λ y. (p y).fwd) x; bwd = items_head e Q Any Any-closed fs (λ y. (p y).bwd) x }

pub item_tail : (f : Form) {fs fs' : Forms} (e : Edition) (Q : Prog) → ImpI e Q fs fs' → ImpI e Q (f & fs) (f & fs')
item_tail f e Q p x = record { fwd = items_tail e Q Less Less-closed f x (p x).fwd; bwd = items_tail e Q Any Any-closed f x (p x).bwd }

pub in_construct : {fs fs' : Forms} (e : Edition) (Q : Prog) → ImpI e Q fs fs' → ImpF e Q (construct fs) (construct fs')
in_construct e Q p x = record { fwd = construct_sub e Q Less Less-closed x (p x).fwd; bwd = construct_sub e Q Any Any-closed x (p x).bwd }

pub in_insert : {f f' : Form} (e : Edition) (Q : Prog) → ImpF e Q f f' → ImpF e Q (insert f) (insert f')
in_insert e Q p x = record { fwd = insert_sub e Q Less Less-closed (λ y. (p y).fwd) x; bwd = insert_sub e Q Any Any-closed (λ y. (p y).bwd) x }

pub in_apply_all : {f f' : Form} (e : Edition) (Q : Prog) → ImpF e Q f f' → ImpF e Q (apply_all f) (apply_all f')
in_apply_all e Q p x = record { fwd = apply_all_sub e Q Less Less-closed (λ y. (p y).fwd) x; bwd = apply_all_sub e Q Any Any-closed (λ y. (p y).bwd) x }

pub in_bu : {f f' : Form} (y : Obj) (e : Edition) (Q : Prog) → ImpF e Q f f' → ImpF e Q (bu f y) (bu f' y)
in_bu y e Q p x = record { fwd = bu_sub e Q Less Less-closed y (λ z. (p z).fwd) x; bwd = bu_sub e Q Any Any-closed y (λ z. (p z).bwd) x }

pub in_condition : {p p' f f' g g' : Form} (e : Edition) (Q : Prog) → ImpF e Q p p' → ImpF e Q f f' → ImpF e Q g g' → ImpF e Q (condition p f g) (condition p' f' g')
in_condition e Q p f g x =
    record { fwd = condition_sub e Q Less Less-closed (λ y. (p y).fwd) (λ y. (f y).fwd) (λ y. (g y).fwd) x; bwd = condition_sub e Q Any Any-closed (λ y. (p y).bwd) (λ y. (f y).bwd) (λ y. (g y).bwd) x }

pub in_while : {p p' f f' : Form} (e : Edition) (Q : Prog) → ImpF e Q p p' → ImpF e Q f f' → ImpF e Q (while p f) (while p' f')
in_while e Q p f x = record { fwd = while_sub e Q Less Less-closed (λ y. (p y).fwd) (λ y. (f y).fwd) x; bwd = while_sub e Q Any Any-closed (λ y. (p y).bwd) (λ y. (f y).bwd) x }

pub same : {f : Form} (e : Edition) (Q : Prog) → ImpF e Q f f
same e Q x = imp_refl e Q _
