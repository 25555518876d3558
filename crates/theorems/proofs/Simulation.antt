-- One program for another: where each body of Q serves for that of P, everything that ends under P ends so under Q.
use Prim.Native.Nat.{ℕ}
use mathlib.Core.Path.{◌≡◌, refl, subst}
use mathlib.Core.List.{List}
use mathlib.Core.Option.{Option, some, none}
use Rattle.language.specs.Forms.{Form, Prog}
use Rattle.language.specs.Numbers.{Edition}
use Rattle.language.specs.Evaluation.{lookup}
use Rattle.theorems.proofs.Ends.{Job, Result, Ends, word_bottom, word_object, name_bottom, name_in, chain_in, construct_object, construct_bottom, constant_in, insert_fold, insert-nil, insert_int, insert_symbol, apply_all_object, apply_all_bottom, apply_all_int, apply_all_symbol, bu_in, condition_bottom, condition_no, condition_T, condition_F, while_in, parts_stop, parts_bottom, parts_go, items_stop, items_bottom, items_late, items_go, each_nil, each_bottom, each_late, each_go, fold_one, fold_bottom, fold_go, loop_bottom, loop_no, loop_F, loop_fell, loop_go}
use Rattle.theorems.proofs.Congruence.{Rel, Closed, Better, SubF}

module _ (e : Edition) (P Q : Prog) (R : Rel) (k : Closed R) where
  -- what a name has in the two programs
  abbrev pub Link : Option Form → Option Form → Type 0
  Link none none = Unit {0}
  Link none (some b) = ⊥
  Link (some a) none = ⊥
  Link (some a) (some b) = SubF e Q R a b

  abbrev pub Linked : Type 0
  Linked = (w : List ℕ) → Link (lookup w P) (lookup w Q)

  still_none : (o : Option Form) → Link none o → o ≡ none
  still_none none l = refl
  still_none (some b) l = absurd l

  link_none : (o o' : Option Form) → Link o o' → o ≡ none → o' ≡ none
  link_none o o' l h = still_none o' (subst (λ (z : Option Form). Link z o') h l)

  -- the body in Q, serving for the body in P
  pub record Served (a : Form) (o : Option Form) : Type 0 where
    pub b : Form
    pub is : o ≡ some b
    pub serves : SubF e Q R a b

  still_some : (a : Form) (o : Option Form) → Link (some a) o → Served a o
  still_some a none l = absurd l
  still_some a (some b) l = record { b = b; is = refl; serves = l }

  link_some : (a : Form) (o o' : Option Form) → Link o o' → o ≡ some a → Served a o'
  link_some a o o' l h = still_some a o' (subst (λ (z : Option Form). Link z o') h l)

  pub sim : Linked → {d : ℕ} {j : Job} {r : Result} {s c : ℕ} → Ends e P d j r s c → Better e Q R d j r s c
  sim l (word_bottom h) = record { d' = _; s' = _; c' = _; ends = word_bottom h; rel = k.same _ _ _ }
  sim l (word_object h) = record { d' = _; s' = _; c' = _; ends = word_object h; rel = k.same _ _ _ }
  sim l (name_bottom {w = w} h) = record { d' = _; s' = _; c' = _; ends = name_bottom (link_none _ _ (l w) h); rel = k.same _ _ _ }
  sim l (name_in {w = w} h D) =
      let S = link_some _ _ _ (l w) h in
      let B = sim l D in
      let B' = S.serves _ _ _ _ _ B.ends in
      record { d' = _; s' = _; c' = _; ends = name_in S.is B'.ends; rel = k.opens (k.trans B.rel B'.rel) }
  sim l (chain_in D) = let B = sim l D in record { d' = _; s' = _; c' = _; ends = chain_in B.ends; rel = k.tick B.rel }
  sim l (construct_object D) = let B = sim l D in record { d' = _; s' = _; c' = _; ends = construct_object B.ends; rel = k.tick (k.more' _ B.rel) }
  sim l (construct_bottom D) = let B = sim l D in record { d' = _; s' = _; c' = _; ends = construct_bottom B.ends; rel = k.tick B.rel }
  sim l constant_in = record { d' = _; s' = _; c' = _; ends = constant_in; rel = k.same _ _ _ }
  sim l (insert_fold D) = let B = sim l D in record { d' = _; s' = _; c' = _; ends = insert_fold B.ends; rel = k.tick B.rel }
  sim l insert-nil = record { d' = _; s' = _; c' = _; ends = insert-nil; rel = k.same _ _ _ }
  sim l insert_int = record { d' = _; s' = _; c' = _; ends = insert_int; rel = k.same _ _ _ }
  sim l insert_symbol = record { d' = _; s' = _; c' = _; ends = insert_symbol; rel = k.same _ _ _ }
  sim l (apply_all_object D) = let B = sim l D in record { d' = _; s' = _; c' = _; ends = apply_all_object B.ends; rel = k.tick (k.more' _ B.rel) }
  sim l (apply_all_bottom D) = let B = sim l D in record { d' = _; s' = _; c' = _; ends = apply_all_bottom B.ends; rel = k.tick B.rel }
  sim l apply_all_int = record { d' = _; s' = _; c' = _; ends = apply_all_int; rel = k.same _ _ _ }
  sim l apply_all_symbol = record { d' = _; s' = _; c' = _; ends = apply_all_symbol; rel = k.same _ _ _ }
  sim l (bu_in D) = let B = sim l D in record { d' = _; s' = _; c' = _; ends = bu_in B.ends; rel = k.tick (k.more 2 B.rel) }
  sim l (condition_bottom D) = let B = sim l D in record { d' = _; s' = _; c' = _; ends = condition_bottom B.ends; rel = k.tick B.rel }
  sim l (condition_no D h) = let B = sim l D in record { d' = _; s' = _; c' = _; ends = condition_no B.ends h; rel = k.tick B.rel }
  sim l (condition_T D h E) = let B = sim l D in let B' = sim l E in record { d' = _; s' = _; c' = _; ends = condition_T B.ends h B'.ends; rel = k.tick (k.add B.rel B'.rel) }
  sim l (condition_F D h E) = let B = sim l D in let B' = sim l E in record { d' = _; s' = _; c' = _; ends = condition_F B.ends h B'.ends; rel = k.tick (k.add B.rel B'.rel) }
  sim l (while_in D) = let B = sim l D in record { d' = _; s' = _; c' = _; ends = while_in B.ends; rel = k.tick B.rel }
  sim l parts_stop = record { d' = _; s' = _; c' = _; ends = parts_stop; rel = k.same _ _ _ }
  sim l (parts_bottom D) = let B = sim l D in record { d' = _; s' = _; c' = _; ends = parts_bottom B.ends; rel = B.rel }
  sim l (parts_go D E) = let B = sim l D in let B' = sim l E in record { d' = _; s' = _; c' = _; ends = parts_go B.ends B'.ends; rel = k.add B.rel B'.rel }
  sim l items_stop = record { d' = _; s' = _; c' = _; ends = items_stop; rel = k.same _ _ _ }
  sim l (items_bottom D) = let B = sim l D in record { d' = _; s' = _; c' = _; ends = items_bottom B.ends; rel = B.rel }
  sim l (items_late D E) = let B = sim l D in let B' = sim l E in record { d' = _; s' = _; c' = _; ends = items_late B.ends B'.ends; rel = k.add B.rel B'.rel }
  sim l (items_go D E) = let B = sim l D in let B' = sim l E in record { d' = _; s' = _; c' = _; ends = items_go B.ends B'.ends; rel = k.add B.rel B'.rel }
  sim l each_nil = record { d' = _; s' = _; c' = _; ends = each_nil; rel = k.same _ _ _ }
  sim l (each_bottom D) = let B = sim l D in record { d' = _; s' = _; c' = _; ends = each_bottom B.ends; rel = B.rel }
  sim l (each_late D E) = let B = sim l D in let B' = sim l E in record { d' = _; s' = _; c' = _; ends = each_late B.ends B'.ends; rel = k.add B.rel B'.rel }
  sim l (each_go D E) = let B = sim l D in let B' = sim l E in record { d' = _; s' = _; c' = _; ends = each_go B.ends B'.ends; rel = k.add B.rel B'.rel }
  sim l fold_one = record { d' = _; s' = _; c' = _; ends = fold_one; rel = k.same _ _ _ }
  sim l (fold_bottom D) = let B = sim l D in record { d' = _; s' = _; c' = _; ends = fold_bottom B.ends; rel = B.rel }
  sim l (fold_go D E) = let B = sim l D in let B' = sim l E in record { d' = _; s' = _; c' = _; ends = fold_go B.ends B'.ends; rel = k.add B.rel (k.more 2 B'.rel) }
  sim l (loop_bottom D) = let B = sim l D in record { d' = _; s' = _; c' = _; ends = loop_bottom B.ends; rel = B.rel }
  sim l (loop_no D h) = let B = sim l D in record { d' = _; s' = _; c' = _; ends = loop_no B.ends h; rel = B.rel }
  sim l (loop_F D h) = let B = sim l D in record { d' = _; s' = _; c' = _; ends = loop_F B.ends h; rel = B.rel }
  sim l (loop_fell D h E) = let B = sim l D in let B' = sim l E in record { d' = _; s' = _; c' = _; ends = loop_fell B.ends h B'.ends; rel = k.add B.rel B'.rel }
  sim l (loop_go D h E F) =
      let B = sim l D in let B' = sim l E in let B'' = sim l F in
      record { d' = _; s' = _; c' = _; ends = loop_go B.ends h B'.ends B''.ends; rel = k.add B.rel (k.add B'.rel B''.rel) }
