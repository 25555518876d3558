-- Laws 3, 4, 9 and 11 at a construction or a condition: both sides imply each other.
use Prim.Native.Nat.{ℕ, suc, ◌+◌, max}
use mathlib.Core.Path.{◌≡◌, sym, subst, ◌∙◌, ap}
use native.Mathlib.Omega.{arith}
use Rattle.language.specs.Objects.{Obj, seq, ◌::◌, length_of, truth_of, is_T, is_F}
use Rattle.language.specs.Forms.{Form, chain, construct, constant, condition, Forms, stop, ◌&◌, Prog}
use Rattle.language.specs.Numbers.{Edition}
use Rattle.theorems.proofs.Inversions.{Ending, none_more, one_more}
use Rattle.theorems.proofs.Ends.{just, items, Result, object, bottom, Ends, recount, chain_in, construct_object, construct_bottom, constant_in, condition_bottom, condition_no, condition_T, condition_F, parts_stop, parts_bottom, parts_go, items_stop, items_bottom, items_late, items_go}
use Rattle.theorems.proofs.Congruence.{Less, Any, Better, Sub}
use Rattle.theorems.proofs.Determined.{det}
use Rattle.theorems.proofs.Implies.{less, any, ImpF, object_bottom, same_object, T_F, T_no, F_no}

module _ (e : Edition) (Q : Prog) where
  -- Law 9: a condition whose test is %T or %F.
  root9_T_fwd : (y : Obj) (f g : Form) → truth_of y ≡ is_T → (x : Obj) → Sub e Q Less (just (condition (constant y) f g) x) (just f x)
  root9_T_fwd y f g h x d _ _ c (condition_bottom E) = elim E [ ]
  root9_T_fwd y f g h x d r s c (condition_no constant_in t) = T_no e Q h t
  root9_T_fwd y f g h x d r s c (condition_T constant_in t E) = less e Q E (omega arith) (omega arith) (omega arith)
  root9_T_fwd y f g h x d r s c (condition_F constant_in t E) = T_F e Q h t

  pub root9_T : (y : Obj) (f g : Form) → truth_of y ≡ is_T → ImpF e Q (condition (constant y) f g) f
  root9_T y f g h x = record { fwd = root9_T_fwd y f g h x; bwd = λ d r s c E. any e Q (condition_T constant_in h E) }

  root9_F_fwd : (y : Obj) (f g : Form) → truth_of y ≡ is_F → (x : Obj) → Sub e Q Less (just (condition (constant y) f g) x) (just g x)
  root9_F_fwd y f g h x d _ _ c (condition_bottom E) = elim E [ ]
  root9_F_fwd y f g h x d r s c (condition_no constant_in t) = F_no e Q h t
  root9_F_fwd y f g h x d r s c (condition_T constant_in t E) = T_F e Q t h
  root9_F_fwd y f g h x d r s c (condition_F constant_in t E) = less e Q E (omega arith) (omega arith) (omega arith)

  pub root9_F : (y : Obj) (f g : Form) → truth_of y ≡ is_F → ImpF e Q (condition (constant y) f g) g
  root9_F y f g h x = record { fwd = root9_F_fwd y f g h x; bwd = λ d r s c E. any e Q (condition_F constant_in h E) }

  -- Law 11: `(p->(p->f;g);h)` and `(p->f;h)`.
  root11_fwd : (p f g h : Form) (x : Obj) → Sub e Q Less (just (condition p (condition p f g) h) x) (just (condition p f h) x)
  root11_fwd p f g h x d r s c (condition_bottom D) = less e Q (condition_bottom D) (omega arith) (omega arith) (omega arith)
  root11_fwd p f g h x d r s c (condition_no D t) = less e Q (condition_no D t) (omega arith) (omega arith) (omega arith)
  root11_fwd p f g h x d r s c (condition_F D t E) = less e Q (condition_F D t E) (omega arith) (omega arith) (omega arith)
  root11_fwd p f g h x d r s c (condition_T D t (condition_bottom D')) = object_bottom e Q (det D D')
  root11_fwd p f g h x d r s c (condition_T D t (condition_no D' t')) = T_no e Q (ap truth_of (sym (same_object e Q (det D D'))) ∙ t) t'
  root11_fwd p f g h x d r s c (condition_T D t (condition_T D' t' E)) = less e Q (condition_T D t E) (omega arith) (omega arith) (omega arith)
  root11_fwd p f g h x d r s c (condition_T D t (condition_F D' t' E)) = T_F e Q (ap truth_of (sym (same_object e Q (det D D'))) ∙ t) t'

  root11_bwd : (p f g h : Form) (x : Obj) → Sub e Q Any (just (condition p f h) x) (just (condition p (condition p f g) h) x)
  root11_bwd p f g h x d r s c (condition_bottom D) = any e Q (condition_bottom D)
  root11_bwd p f g h x d r s c (condition_no D t) = any e Q (condition_no D t)
  root11_bwd p f g h x d r s c (condition_T D t E) = any e Q (condition_T D t (condition_T D t E))
  root11_bwd p f g h x d r s c (condition_F D t E) = any e Q (condition_F D t E)

  pub root11 : (p f g h : Form) → ImpF e Q (condition p (condition p f g) h) (condition p f h)
  root11 p f g h x = record { fwd = root11_fwd p f g h x; bwd = root11_bwd p f g h x }

  -- Laws 3 and 4: a chain of exactly two parts
  data Two (f h : Form) (x : Obj) : ℕ → Result → ℕ → ℕ → Type 0 where
    two_bottom : {d s c d₁ s₁ c₁ : ℕ} → Ends e Q d (just h x) bottom s c → d₁ ≡ d → s₁ ≡ suc s → c₁ ≡ c → Two f h x d₁ bottom s₁ c₁
    two_go : {z : Obj} {r : Result} {d s c d' s' c' d₁ s₁ c₁ : ℕ} → Ends e Q d (just h x) (object z) s c → Ends e Q d' (just f z) r s' c'
        → d₁ ≡ max d d' → s₁ ≡ suc (s + s') → c₁ ≡ c + c' → Two f h x d₁ r s₁ c₁

  two_bottom' : {f h : Form} {x : Obj} {d s c d₁ s₁ c₁ : ℕ} → Ends e Q d (just h x) bottom s c → d₁ ≡ d → s₁ ≡ suc s → c₁ ≡ c → Two f h x d₁ bottom s₁ c₁
  two_bottom' H o p q = two_bottom H o p q

  two_go' : {f h : Form} {x z : Obj} {r : Result} {d s c d' s' c' d₁ s₁ c₁ : ℕ} → Ends e Q d (just h x) (object z) s c
      → Ends e Q d' (just f z) r s' c' → d₁ ≡ max d d' → s₁ ≡ suc (s + s') → c₁ ≡ c + c' → Two f h x d₁ r s₁ c₁
  two_go' H F o p q = two_go H F o p q

  two : {d : ℕ} {f h : Form} {x : Obj} {r : Result} {s c : ℕ} → Ends e Q d (just (chain (f & h & stop)) x) r s c → Two f h x d r s c
  two (chain_in (parts_bottom (parts_bottom H))) = elim H [ ]
  two (chain_in (parts_bottom (parts_go parts_stop H))) = two_bottom' H (omega arith) (omega arith) (omega arith)
  two (chain_in (parts_go (parts_go parts_stop H) F)) = two_go' H F (omega arith) (omega arith) (omega arith)

  two_object : {d d' : ℕ} {f h : Form} {x z : Obj} {r : Result} {s c s' c' : ℕ} → Ends e Q d (just h x) (object z) s c
      → Ends e Q d' (just f z) r s' c' → Ends e Q (max d d') (just (chain (f & h & stop)) x) r (suc (s + s')) (c + c')
  two_object H F = recount e Q (omega arith) (omega arith) (omega arith) (chain_in (parts_go (parts_go parts_stop H) F))

  bottom_two : {d : ℕ} {f h : Form} {x : Obj} {s c : ℕ} → Ends e Q d (just h x) bottom s c → Ends e Q d (just (chain (f & h & stop)) x) bottom (suc s) c
  bottom_two H = recount e Q (omega arith) (omega arith) (omega arith) (chain_in (parts_bottom (parts_go parts_stop H)))

  -- where h came to z, the first part is applied to z
  after : {d d₁ : ℕ} {f h : Form} {x z : Obj} {r : Result} {s c s₁ c₁ : ℕ} → Ends e Q d (just h x) (object z) s c
      → Ends e Q d₁ (just (chain (f & h & stop)) x) r s₁ c₁ → Better e Q Less d₁ (just f z) r s₁ c₁
  after H D = go H (two D)
    where
      go : {d d₁ : ℕ} {f h : Form} {x z : Obj} {r : Result} {s c s₁ c₁ : ℕ} → Ends e Q d (just h x) (object z) s c → Two f h x d₁ r s₁ c₁
          → Better e Q Less d₁ (just f z) r s₁ c₁
      go H (two_bottom H' o p q) = object_bottom e Q (det H H')
      go {f = f} {r = r} H (two_go {d' = d'} {s' = s'} {c' = c'} H' F o p q) =
          less e Q (subst (λ (z : Obj). Ends e Q d' (just f z) r s' c') (same_object e Q (det H' H)) F) (omega arith) (omega arith) (omega arith)

  -- Law 4: `(p.h->f.h;g.h)` and `(p->f;g).h`.
  root4_fwd : (p f g h : Form) (x : Obj)
      → Sub e Q Less (just (condition (chain (p & h & stop)) (chain (f & h & stop)) (chain (g & h & stop))) x) (just (chain (condition p f g & h & stop)) x)
  root4_fwd p f g h x d r s c (condition_bottom D) = go (two D)
    where
      go : {d s c : ℕ} → Two p h x d bottom s c → Better e Q Less d (just (chain (condition p f g & h & stop)) x) bottom (suc s) c
      go (two_bottom H o p q) = less e Q (bottom_two H) (omega arith) (omega arith) (omega arith)
      go (two_go H F o p q) = less e Q (two_object H (condition_bottom F)) (omega arith) (omega arith) (omega arith)
  root4_fwd p f g h x d r s c (condition_no {b = b} D t) = go (two D)
    where
      go : {d s c : ℕ} → Two p h x d (object b) s c → Better e Q Less d (just (chain (condition p f g & h & stop)) x) bottom (suc s) c
      go (two_go H F o p q) = less e Q (two_object H (condition_no F t)) (omega arith) (omega arith) (omega arith)
  root4_fwd p f g h x d r s c (condition_T {b = b} {s' = s'} {c' = c'} D t E) = go (two D) E
    where
      go : {d d₂ s c : ℕ} → Two p h x d (object b) s c → Ends e Q d₂ (just (chain (f & h & stop)) x) r s' c'
          → Better e Q Less (max d d₂) (just (chain (condition p f g & h & stop)) x) r (suc (s + s')) (c + c')
      go (two_go H F o p q) E =
          let B = after H E in less e Q (two_object H (condition_T F t B.ends)) (omega (arith, B.rel.names)) (omega (arith, B.rel.steps)) (omega (arith, B.rel.cells))
  root4_fwd p f g h x d r s c (condition_F {b = b} {s' = s'} {c' = c'} D t E) = go (two D) E
    where
      go : {d d₂ s c : ℕ} → Two p h x d (object b) s c → Ends e Q d₂ (just (chain (g & h & stop)) x) r s' c'
          → Better e Q Less (max d d₂) (just (chain (condition p f g & h & stop)) x) r (suc (s + s')) (c + c')
      go (two_go H F o p q) E =
          let B = after H E in less e Q (two_object H (condition_F F t B.ends)) (omega (arith, B.rel.names)) (omega (arith, B.rel.steps)) (omega (arith, B.rel.cells))

  back4 : {p f g h : Form} {x : Obj} {d s c : ℕ} {r : Result} → Two (condition p f g) h x d r s c
      → Better e Q Any d (just (condition (chain (p & h & stop)) (chain (f & h & stop)) (chain (g & h & stop))) x) r s c
  back4 (two_bottom H _ _ _) = any e Q (condition_bottom (bottom_two H))
  back4 (two_go H (condition_bottom D) _ _ _) = any e Q (condition_bottom (two_object H D))
  back4 (two_go H (condition_no D t) _ _ _) = any e Q (condition_no (two_object H D) t)
  back4 (two_go H (condition_T D t E) _ _ _) = any e Q (condition_T (two_object H D) t (two_object H E))
  back4 (two_go H (condition_F D t E) _ _ _) = any e Q (condition_F (two_object H D) t (two_object H E))

  pub root4 : (p f g h : Form) → ImpF e Q (condition (chain (p & h & stop)) (chain (f & h & stop)) (chain (g & h & stop))) (chain (condition p f g & h & stop))
  root4 p f g h x = record { fwd = root4_fwd p f g h x; bwd = λ d r s c D. back4 (two D) }

  -- Law 3: `[f1.h,..,fn.h]` and `[f1,..,fn].h`.
  firsts_fwd : {h : Form} {d d₂ : ℕ} {x z : Obj} {sh ch : ℕ} {fs bs : Forms} {r : Result} {s c : ℕ} → Ends e Q d (just h x) (object z) sh ch
      → Ending h fs bs → Ends e Q d₂ (items fs x) r s c → Better e Q Less d₂ (items bs z) r s c
  firsts_fwd H none_more items_stop = less e Q items_stop (omega arith) (omega arith) (omega arith)
  firsts_fwd H (one_more a F) (items_bottom D) =
      let B = after H D in less e Q (items_bottom B.ends) (omega (arith, B.rel.names)) (omega (arith, B.rel.steps)) (omega (arith, B.rel.cells))
  firsts_fwd H (one_more a F) (items_late {d = d} {d' = d'} D I) =
      let B = after H D in
      let B' = firsts_fwd {d₂ = d'} H F I in
      less e Q (items_late B.ends B'.ends) (omega (arith, B.rel.names, B'.rel.names)) (omega (arith, B.rel.steps, B'.rel.steps)) (omega (arith, B.rel.cells, B'.rel.cells))
  firsts_fwd H (one_more a F) (items_go {d = d} {d' = d'} D I) =
      let B = after H D in
      let B' = firsts_fwd {d₂ = d'} H F I in
      less e Q (items_go B.ends B'.ends) (omega (arith, B.rel.names, B'.rel.names)) (omega (arith, B.rel.steps, B'.rel.steps)) (omega (arith, B.rel.cells, B'.rel.cells))

  root3_fwd : (h a : Form) {fs bs : Forms} → Ending h fs bs → (x : Obj)
      → Sub e Q Less (just (construct (chain (a & h & stop) & fs)) x) (just (chain (construct (a & bs) & h & stop)) x)
  root3_fwd h a {fs} {bs} F x d r s c (construct_bottom (items_bottom D)) = go (two D)
    where
      go : {d s c : ℕ} → Two a h x d bottom s c → Better e Q Less d (just (chain (construct (a & bs) & h & stop)) x) bottom (suc s) c
      go (two_bottom H o p q) = less e Q (bottom_two H) (omega arith) (omega arith) (omega arith)
      go (two_go H E o p q) = less e Q (two_object H (construct_bottom (items_bottom E))) (omega arith) (omega arith) (omega arith)
  root3_fwd h a {fs} {bs} F x d r s c (construct_bottom (items_late {y = y} {s' = s'} {c' = c'} D I)) = go (two D) I
    where
      go : {d d₂ s c : ℕ} → Two a h x d (object y) s c → Ends e Q d₂ (items fs x) bottom s' c'
          → Better e Q Less (max d d₂) (just (chain (construct (a & bs) & h & stop)) x) bottom (suc (s + s')) (c + c')
      go (two_go H E o p q) I =
          let B = firsts_fwd H F I in less e Q (two_object H (construct_bottom (items_late E B.ends))) (omega (arith, B.rel.names)) (omega (arith, B.rel.steps)) (omega (arith, B.rel.cells))
  root3_fwd h a {fs} {bs} F x d r s c (construct_object (items_go {y = y} {ys = ys} {s' = s'} {c' = c'} D I)) = go (two D) I
    where
      go : {d d₂ s c : ℕ} → Two a h x d (object y) s c → Ends e Q d₂ (items fs x) (object (seq ys)) s' c'
          → Better e Q Less (max d d₂) (just (chain (construct (a & bs) & h & stop)) x) (object (seq (y :: ys))) (suc (s + s')) (c + c' + suc (length_of ys))
      go (two_go H E o p q) I =
          let B = firsts_fwd H F I in less e Q (two_object H (construct_object (items_go E B.ends))) (omega (arith, B.rel.names)) (omega (arith, B.rel.steps)) (omega (arith, B.rel.cells))

  firsts_bwd : {h : Form} {d d₂ : ℕ} {x z : Obj} {sh ch : ℕ} {fs bs : Forms} {r : Result} {s c : ℕ} → Ends e Q d (just h x) (object z) sh ch
      → Ending h fs bs → Ends e Q d₂ (items bs z) r s c → Better e Q Any d₂ (items fs x) r s c
  firsts_bwd H none_more items_stop = any e Q items_stop
  firsts_bwd H (one_more a F) (items_bottom D) = any e Q (items_bottom (two_object H D))
  firsts_bwd H (one_more a F) (items_late {d = d} {d' = d'} D I) = let B = firsts_bwd {d₂ = d'} H F I in any e Q (items_late (two_object H D) B.ends)
  firsts_bwd H (one_more a F) (items_go {d = d} {d' = d'} D I) = let B = firsts_bwd {d₂ = d'} H F I in any e Q (items_go (two_object H D) B.ends)

  back3 : {h a : Form} {fs bs : Forms} {x : Obj} {d s c : ℕ} {r : Result} → Ending h fs bs → Two (construct (a & bs)) h x d r s c
      → Better e Q Any d (just (construct (chain (a & h & stop) & fs)) x) r s c
  back3 F (two_bottom H _ _ _) = any e Q (construct_bottom (items_bottom (bottom_two H)))
  back3 {a = a} F (two_go H (construct_bottom I) _ _ _) = let B = firsts_bwd H (one_more a F) I in any e Q (construct_bottom B.ends)
  back3 {a = a} F (two_go H (construct_object I) _ _ _) = let B = firsts_bwd H (one_more a F) I in any e Q (construct_object B.ends)

  pub root3 : (h a : Form) {fs bs : Forms} → Ending h fs bs → ImpF e Q (construct (chain (a & h & stop) & fs)) (chain (construct (a & bs) & h & stop))
  root3 h a F x = record { fwd = root3_fwd h a F x; bwd = λ d r s c D. back3 F (two D) }
