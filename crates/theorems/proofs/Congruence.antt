-- One form may stand for another inside every form, for any relation between the counts before and after that fits together.
use Prim.Native.Nat.{ℕ, suc, ◌+◌, ◌≤◌, max}
use native.Mathlib.Omega.{arith}
use Rattle.language.specs.Objects.{Obj, Objs}
use Rattle.language.specs.Forms.{Form, chain, construct, insert, apply_all, bu, condition, while, Forms, ◌&◌, Prog}
use Rattle.language.specs.Numbers.{Edition}
use Rattle.theorems.proofs.Ends.{Job, just, parts, items, each, fold, loop, Result, Ends, chain_in, construct_object, construct_bottom, insert_fold, insert-nil, insert_int, insert_symbol, apply_all_object, apply_all_bottom, apply_all_int, apply_all_symbol, bu_in, condition_bottom, condition_no, condition_T, condition_F, while_in, parts_bottom, parts_go, items_bottom, items_late, items_go, each_nil, each_bottom, each_late, each_go, fold_one, fold_bottom, fold_go, loop_bottom, loop_no, loop_F, loop_fell, loop_go}

-- names, steps and cells before, and after
abbrev pub Rel : Type 1
Rel = (d s c d' s' c' : ℕ) → Type 0

-- what such a relation must pass through: a step, an open name, cells, and two jobs one after the other
pub record Closed (R : Rel) : Type 0 where
  pub same : (d s c : ℕ) → R d s c d s c
  pub trans : {d s c d' s' c' d'' s'' c'' : ℕ} → R d s c d' s' c' → R d' s' c' d'' s'' c'' → R d s c d'' s'' c''
  pub tick : {d s c d' s' c' : ℕ} → R d s c d' s' c' → R d (suc s) c d' (suc s') c'
  pub opens : {d s c d' s' c' : ℕ} → R d s c d' s' c' → R (suc d) (suc s) c (suc d') (suc s') c'
  pub more : {d s c d' s' c' : ℕ} (n : ℕ) → R d s c d' s' c' → R d s (n + c) d' s' (n + c')
  pub more' : {d s c d' s' c' : ℕ} (n : ℕ) → R d s c d' s' c' → R d s (c + n) d' s' (c' + n)
  pub add : {q a b q' a' b' d s c d' s' c' : ℕ} → R q a b q' a' b' → R d s c d' s' c' → R (max q d) (a + s) (b + c) (max q' d') (a' + s') (b' + c')

-- no more of any
pub record Less (d s c d' s' c' : ℕ) : Type 0 where
  pub names : d' ≤ d
  pub steps : s' ≤ s
  pub cells : c' ≤ c

pub Less-closed : Closed Less
Less-closed = record {
  same = λ d s c. record { names = omega arith; steps = omega arith; cells = omega arith };
  trans = λ p q. record { names = omega arith; steps = omega arith; cells = omega arith };
  tick = λ p. record { names = omega arith; steps = omega arith; cells = omega arith };
  opens = λ p. record { names = omega arith; steps = omega arith; cells = omega arith };
  more = λ n p. record { names = omega arith; steps = omega arith; cells = omega arith };
  more' = λ n p. record { names = omega arith; steps = omega arith; cells = omega arith };
  add = λ p q. record { names = omega arith; steps = omega arith; cells = omega arith };
}

-- at some cost
abbrev pub Any : Rel
Any d s c d' s' c' = Unit {0}

pub Any-closed : Closed Any
Any-closed = record { same = λ d s c. tt; trans = λ p q. tt; tick = λ p. tt; opens = λ p. tt; more = λ n p. tt; more' = λ n p. tt; add = λ p q. tt }

module _ (e : Edition) (Q : Prog) (R : Rel) where
  -- the job ends so, with counts in relation to s and c
  pub record Better (d : ℕ) (j : Job) (r : Result) (s c : ℕ) : Type 0 where
    pub d' : ℕ
    pub s' : ℕ
    pub c' : ℕ
    pub ends : Ends e Q d' j r s' c'
    pub rel : R d s c d' s' c'

  -- j' for j
  abbrev pub Sub : Job → Job → Type 0
  Sub j j' = (d : ℕ) (r : Result) (s c : ℕ) → Ends e Q d j r s c → Better d j' r s c

  abbrev pub SubF : Form → Form → Type 0
  SubF f f' = (x : Obj) → Sub (just f x) (just f' x)

module _ (e : Edition) (Q : Prog) (R : Rel) (k : Closed R) where
  pub sub_refl : (j : Job) → Sub e Q R j j
  sub_refl j d r s c D = record { d' = d; s' = s; c' = c; ends = D; rel = k.same d s c }

  pub sub_trans : {j j' j'' : Job} → Sub e Q R j j' → Sub e Q R j' j'' → Sub e Q R j j''
  sub_trans p q d r s c D =
      let B = p d r s c D in
      let B' = q B.d' r B.s' B.c' B.ends in
      record { d' = B'.d'; s' = B'.s'; c' = B'.c'; ends = B'.ends; rel = k.trans B.rel B'.rel }

  pub parts_head : {f f' : Form} (fs : Forms) → SubF e Q R f f' → (x : Obj) → Sub e Q R (parts (f & fs) x) (parts (f' & fs) x)
  parts_head fs p x d r s c (parts_bottom D) = record { d' = _; s' = _; c' = _; ends = parts_bottom D; rel = k.same _ _ _ }
  parts_head fs p x d r s c (parts_go D E) =
      let B = p _ _ _ _ _ E in
      record { d' = _; s' = _; c' = _; ends = parts_go D B.ends; rel = k.add (k.same _ _ _) B.rel }

  pub parts_tail : (f : Form) {fs fs' : Forms} (x : Obj) → Sub e Q R (parts fs x) (parts fs' x) → Sub e Q R (parts (f & fs) x) (parts (f & fs') x)
  parts_tail f x p d r s c (parts_bottom D) =
      let B = p _ _ _ _ D in
      record { d' = _; s' = _; c' = _; ends = parts_bottom B.ends; rel = B.rel }
  parts_tail f x p d r s c (parts_go D E) =
      let B = p _ _ _ _ D in
      record { d' = _; s' = _; c' = _; ends = parts_go B.ends E; rel = k.add B.rel (k.same _ _ _) }

  pub chain_sub : {fs fs' : Forms} (x : Obj) → Sub e Q R (parts fs x) (parts fs' x) → Sub e Q R (just (chain fs) x) (just (chain fs') x)
  chain_sub x p d r s c (chain_in D) =
      let B = p _ _ _ _ D in
      record { d' = _; s' = _; c' = _; ends = chain_in B.ends; rel = k.tick B.rel }

  pub items_head : {f f' : Form} (fs : Forms) → SubF e Q R f f' → (x : Obj) → Sub e Q R (items (f & fs) x) (items (f' & fs) x)
  items_head fs p x d r s c (items_bottom D) =
      let B = p _ _ _ _ _ D in
      record { d' = _; s' = _; c' = _; ends = items_bottom B.ends; rel = B.rel }
  items_head fs p x d r s c (items_late D E) =
      let B = p _ _ _ _ _ D in
      record { d' = _; s' = _; c' = _; ends = items_late B.ends E; rel = k.add B.rel (k.same _ _ _) }
  items_head fs p x d r s c (items_go D E) =
      let B = p _ _ _ _ _ D in
      record { d' = _; s' = _; c' = _; ends = items_go B.ends E; rel = k.add B.rel (k.same _ _ _) }

  pub items_tail : (f : Form) {fs fs' : Forms} (x : Obj) → Sub e Q R (items fs x) (items fs' x) → Sub e Q R (items (f & fs) x) (items (f & fs') x)
  items_tail f x p d r s c (items_bottom D) = record { d' = _; s' = _; c' = _; ends = items_bottom D; rel = k.same _ _ _ }
  items_tail f x p d r s c (items_late D E) =
      let B = p _ _ _ _ E in
      record { d' = _; s' = _; c' = _; ends = items_late D B.ends; rel = k.add (k.same _ _ _) B.rel }
  items_tail f x p d r s c (items_go D E) =
      let B = p _ _ _ _ E in
      record { d' = _; s' = _; c' = _; ends = items_go D B.ends; rel = k.add (k.same _ _ _) B.rel }

  pub construct_sub : {fs fs' : Forms} (x : Obj) → Sub e Q R (items fs x) (items fs' x) → Sub e Q R (just (construct fs) x) (just (construct fs') x)
  construct_sub x p d r s c (construct_object D) =
      let B = p _ _ _ _ D in
      record { d' = _; s' = _; c' = _; ends = construct_object B.ends; rel = k.tick (k.more' _ B.rel) }
  construct_sub x p d r s c (construct_bottom D) =
      let B = p _ _ _ _ D in
      record { d' = _; s' = _; c' = _; ends = construct_bottom B.ends; rel = k.tick B.rel }

  pub each_sub : {f f' : Form} → SubF e Q R f f' → {xs : Objs} → Sub e Q R (each f xs) (each f' xs)
  each_sub p d r s c each_nil = record { d' = _; s' = _; c' = _; ends = each_nil; rel = k.same _ _ _ }
  each_sub p d r s c (each_bottom D) =
      let B = p _ _ _ _ _ D in
      record { d' = _; s' = _; c' = _; ends = each_bottom B.ends; rel = B.rel }
  each_sub p d r s c (each_late D E) =
      let B = p _ _ _ _ _ D in
      let B' = each_sub p _ _ _ _ E in
      record { d' = _; s' = _; c' = _; ends = each_late B.ends B'.ends; rel = k.add B.rel B'.rel }
  each_sub p d r s c (each_go D E) =
      let B = p _ _ _ _ _ D in
      let B' = each_sub p _ _ _ _ E in
      record { d' = _; s' = _; c' = _; ends = each_go B.ends B'.ends; rel = k.add B.rel B'.rel }

  pub apply_all_sub : {f f' : Form} → SubF e Q R f f' → SubF e Q R (apply_all f) (apply_all f')
  apply_all_sub p x d r s c (apply_all_object D) =
      let B = each_sub p _ _ _ _ D in
      record { d' = _; s' = _; c' = _; ends = apply_all_object B.ends; rel = k.tick (k.more' _ B.rel) }
  apply_all_sub p x d r s c (apply_all_bottom D) =
      let B = each_sub p _ _ _ _ D in
      record { d' = _; s' = _; c' = _; ends = apply_all_bottom B.ends; rel = k.tick B.rel }
  apply_all_sub p x d r s c apply_all_int = record { d' = _; s' = _; c' = _; ends = apply_all_int; rel = k.same _ _ _ }
  apply_all_sub p x d r s c apply_all_symbol = record { d' = _; s' = _; c' = _; ends = apply_all_symbol; rel = k.same _ _ _ }

  pub fold_sub : {f f' : Form} → SubF e Q R f f' → {y : Obj} {ys : Objs} → Sub e Q R (fold f y ys) (fold f' y ys)
  fold_sub p d r s c fold_one = record { d' = _; s' = _; c' = _; ends = fold_one; rel = k.same _ _ _ }
  fold_sub p d r s c (fold_bottom D) =
      let B = fold_sub p _ _ _ _ D in
      record { d' = _; s' = _; c' = _; ends = fold_bottom B.ends; rel = B.rel }
  fold_sub p d r s c (fold_go D E) =
      let B = fold_sub p _ _ _ _ D in
      let B' = p _ _ _ _ _ E in
      record { d' = _; s' = _; c' = _; ends = fold_go B.ends B'.ends; rel = k.add B.rel (k.more 2 B'.rel) }

  pub insert_sub : {f f' : Form} → SubF e Q R f f' → SubF e Q R (insert f) (insert f')
  insert_sub p x d r s c (insert_fold D) =
      let B = fold_sub p _ _ _ _ D in
      record { d' = _; s' = _; c' = _; ends = insert_fold B.ends; rel = k.tick B.rel }
  insert_sub p x d r s c insert-nil = record { d' = _; s' = _; c' = _; ends = insert-nil; rel = k.same _ _ _ }
  insert_sub p x d r s c insert_int = record { d' = _; s' = _; c' = _; ends = insert_int; rel = k.same _ _ _ }
  insert_sub p x d r s c insert_symbol = record { d' = _; s' = _; c' = _; ends = insert_symbol; rel = k.same _ _ _ }

  pub bu_sub : {f f' : Form} (y : Obj) → SubF e Q R f f' → SubF e Q R (bu f y) (bu f' y)
  bu_sub y p x d r s c (bu_in D) =
      let B = p _ _ _ _ _ D in
      record { d' = _; s' = _; c' = _; ends = bu_in B.ends; rel = k.tick (k.more 2 B.rel) }

  pub condition_sub : {p p' f f' g g' : Form} → SubF e Q R p p' → SubF e Q R f f' → SubF e Q R g g' → SubF e Q R (condition p f g) (condition p' f' g')
  condition_sub p f g x d r s c (condition_bottom D) =
      let B = p _ _ _ _ _ D in
      record { d' = _; s' = _; c' = _; ends = condition_bottom B.ends; rel = k.tick B.rel }
  condition_sub p f g x d r s c (condition_no D h) =
      let B = p _ _ _ _ _ D in
      record { d' = _; s' = _; c' = _; ends = condition_no B.ends h; rel = k.tick B.rel }
  condition_sub p f g x d r s c (condition_T D h E) =
      let B = p _ _ _ _ _ D in
      let B' = f _ _ _ _ _ E in
      record { d' = _; s' = _; c' = _; ends = condition_T B.ends h B'.ends; rel = k.tick (k.add B.rel B'.rel) }
  condition_sub p f g x d r s c (condition_F D h E) =
      let B = p _ _ _ _ _ D in
      let B' = g _ _ _ _ _ E in
      record { d' = _; s' = _; c' = _; ends = condition_F B.ends h B'.ends; rel = k.tick (k.add B.rel B'.rel) }

  pub loop_sub : {p p' f f' : Form} → SubF e Q R p p' → SubF e Q R f f' → {x : Obj} → Sub e Q R (loop p f x) (loop p' f' x)
  loop_sub p f d r s c (loop_bottom D) =
      let B = p _ _ _ _ _ D in
      record { d' = _; s' = _; c' = _; ends = loop_bottom B.ends; rel = B.rel }
  loop_sub p f d r s c (loop_no D h) =
      let B = p _ _ _ _ _ D in
      record { d' = _; s' = _; c' = _; ends = loop_no B.ends h; rel = B.rel }
  loop_sub p f d r s c (loop_F D h) =
      let B = p _ _ _ _ _ D in
      record { d' = _; s' = _; c' = _; ends = loop_F B.ends h; rel = B.rel }
  loop_sub p f d r s c (loop_fell D h E) =
      let B = p _ _ _ _ _ D in
      let B' = f _ _ _ _ _ E in
      record { d' = _; s' = _; c' = _; ends = loop_fell B.ends h B'.ends; rel = k.add B.rel B'.rel }
  loop_sub p f d r s c (loop_go D h E F) =
      let B = p _ _ _ _ _ D in
      let B' = f _ _ _ _ _ E in
      let B'' = loop_sub p f _ _ _ _ F in
      record { d' = _; s' = _; c' = _; ends = loop_go B.ends h B'.ends B''.ends; rel = k.add B.rel (k.add B'.rel B''.rel) }

  pub while_sub : {p p' f f' : Form} → SubF e Q R p p' → SubF e Q R f f' → SubF e Q R (while p f) (while p' f')
  while_sub p f x d r s c (while_in D) =
      let B = loop_sub p f _ _ _ _ D in
      record { d' = _; s' = _; c' = _; ends = while_in B.ends; rel = k.tick B.rel }
