-- Laws 1, 2, 5, 6, 7, 8 and 10 at the front of what is left of a chain: both sides imply each other.
use Prim.Native.Nat.{ℕ, zero, suc, ◌+◌, ◌≤◌, max}
use mathlib.Core.Path.{◌≡◌, refl, subst, ◌∙◌, ap}
use mathlib.Core.Bool.{true}
use native.Mathlib.Omega.{arith}
use Rattle.language.specs.Objects.{Obj, seq, Objs, ◌::◌, length_of}
use Rattle.language.specs.Words.{Op}
use Rattle.language.specs.Forms.{Word, op, Form, word, chain, construct, constant, bu, Forms, stop, ◌&◌, Prog, ◌+&◌, count}
use Rattle.language.specs.Numbers.{Edition}
use Rattle.language.specs.Meanings.{WordAnswer, gives, meaning, nth}
use Rattle.language.specs.Laws.{harmless, all_harmless}
use Rattle.theorems.proofs.Ends.{just, parts, items, Result, object, bottom, Ends, recount, word_object, chain_in, construct_object, construct_bottom, constant_in, bu_in, parts_stop, parts_bottom, parts_go, items_stop, items_bottom, items_late, items_go}
use Rattle.theorems.proofs.Congruence.{Less, Any, Better, Sub}
use Rattle.theorems.proofs.Implies.{less, any, ImpF, ImpP, WordEnds, w_object, word_inv}
use Rattle.theorems.proofs.Harmless.{calm, calms, no_bottom, no_bottoms}

-- law 6: the one with j before it, all others harmless
pub data Choice (g : Form) : ℕ → Forms → Type 0 where
  here : {fs : Forms} → all_harmless fs ≡ true → Choice g zero (g & fs)
  there : {j : ℕ} {f : Form} {fs : Forms} → harmless f ≡ true → Choice g j fs → Choice g (suc j) (f & fs)

module _ (e : Edition) (Q : Prog) where
  -- Law 1: id goes away.
  id_gone : {d d' : ℕ} {fs : Forms} {x y : Obj} {r : Result} {s c s' c' : ℕ} → Ends e Q d (parts fs x) (object y) s c
      → WordEnds e Q (gives 0 0 y) d' r s' c' → Better e Q Less (max d d') (parts fs x) r (s + s') (c + c')
  id_gone D w_object = less e Q D (omega arith) (omega arith) (omega arith)

  root1_fwd : (fs : Forms) (x : Obj) → Sub e Q Less (parts (word (op Op.id) & fs) x) (parts fs x)
  root1_fwd fs x d r s c (parts_bottom D) = less e Q D (omega arith) (omega arith) (omega arith)
  root1_fwd fs x d r s c (parts_go D E) = id_gone D (word_inv e Q E)

  root1_bwd : (fs : Forms) (x : Obj) → Sub e Q Any (parts fs x) (parts (word (op Op.id) & fs) x)
  root1_bwd fs x d (object y) s c D = any e Q (parts_go D (word_object refl))
  root1_bwd fs x d bottom s c D = any e Q (parts_bottom D)

  pub root1 : (fs : Forms) → ImpP e Q (word (op Op.id) & fs) fs
  root1 fs x = record { fwd = root1_fwd fs x; bwd = root1_bwd fs x }

  -- Law 2: a chain in a chain is joined in.
  join_go : (fs : Forms) {gs : Forms} {d d' : ℕ} {x y : Obj} {r : Result} {s c s' c' : ℕ} → Ends e Q d (parts gs x) (object y) s c
      → Ends e Q d' (parts fs y) r s' c' → Ends e Q (max d d') (parts (fs +& gs) x) r (s + s') (c + c')
  join_go stop D parts_stop = recount e Q (omega arith) (omega arith) (omega arith) D
  join_go (f & fs) D (parts_bottom E) = parts_bottom (join_go fs D E)
  join_go (f & fs) D (parts_go E F) = recount e Q (omega arith) (omega arith) (omega arith) (parts_go (join_go fs D E) F)

  join_bottom : (fs : Forms) {gs : Forms} {d : ℕ} {x : Obj} {s c : ℕ} → Ends e Q d (parts gs x) bottom s c → Ends e Q d (parts (fs +& gs) x) bottom s c
  join_bottom stop D = D
  join_bottom (f & fs) D = parts_bottom (join_bottom fs D)

  data Split (fs gs : Forms) (x : Obj) : Result → Type 0 where
    halts : {d s c : ℕ} → Ends e Q d (parts gs x) bottom s c → Split fs gs x bottom
    goes : {y : Obj} {r : Result} {d s c d' s' c' : ℕ} → Ends e Q d (parts gs x) (object y) s c → Ends e Q d' (parts fs y) r s' c' → Split fs gs x r

  split_bottom : {f : Form} {fs gs : Forms} {x : Obj} → Split fs gs x bottom → Split (f & fs) gs x bottom
  split_bottom (halts D) = halts D
  split_bottom (goes D E) = goes D (parts_bottom E)

  split_go : {d : ℕ} {f : Form} {fs gs : Forms} {x y : Obj} {r : Result} {s c : ℕ} → Split fs gs x (object y) → Ends e Q d (just f y) r s c → Split (f & fs) gs x r
  split_go (goes D E) F = goes D (parts_go E F)

  split : (fs : Forms) {gs : Forms} {d : ℕ} {x : Obj} (r : Result) {s c : ℕ} → Ends e Q d (parts (fs +& gs) x) r s c → Split fs gs x r
  split stop (object y) D = goes D parts_stop
  split stop bottom D = halts D
  split (f & fs) r (parts_bottom D) = split_bottom (split fs bottom D)
  split (f & fs) r (parts_go D E) = split_go (split fs (object _) D) E

  root2_fwd : (gs fs : Forms) (x : Obj) → Sub e Q Less (parts (chain gs & fs) x) (parts (gs +& fs) x)
  root2_fwd gs fs x d r s c (parts_bottom D) = less e Q (join_bottom gs D) (omega arith) (omega arith) (omega arith)
  root2_fwd gs fs x d r s c (parts_go D (chain_in E)) = less e Q (join_go gs D E) (omega arith) (omega arith) (omega arith)

  unsplit : {d s c : ℕ} {gs fs : Forms} {x : Obj} {r : Result} → Split gs fs x r → Better e Q Any d (parts (chain gs & fs) x) r s c
  unsplit (halts D) = any e Q (parts_bottom D)
  unsplit (goes D E) = any e Q (parts_go D (chain_in E))

  root2_bwd : (gs fs : Forms) (x : Obj) → Sub e Q Any (parts (gs +& fs) x) (parts (chain gs & fs) x)
  root2_bwd gs fs x d r s c D = unsplit (split gs r D)

  pub root2 : (gs fs : Forms) → ImpP e Q (chain gs & fs) (gs +& fs)
  root2 gs fs x = record { fwd = root2_fwd gs fs x; bwd = root2_bwd gs fs x }

  -- A chain left with one part is that part.
  pub alone : (f : Form) → ImpF e Q (chain (f & stop)) f
  alone f x = record { fwd = to; bwd = back }
    where
      to : Sub e Q Less (just (chain (f & stop)) x) (just f x)
      to d _ _ c (chain_in (parts_bottom x)) = elim x [ ]
      to d r s c (chain_in (parts_go parts_stop E)) = less e Q E (omega arith) (omega arith) (omega arith)

      back : Sub e Q Any (just f x) (just (chain (f & stop)) x)
      back d r s c E = any e Q (chain_in (parts_go parts_stop E))

  -- Law 5: `f.[%x,g]` and `{f,x}.g`.
  root5_fwd : (f g : Form) (a : Obj) (fs : Forms) (x : Obj) → Sub e Q Less (parts (f & construct (constant a & g & stop) & fs) x) (parts (bu f a & g & fs) x)
  root5_fwd f g a fs x _ _ _ _ (parts_bottom (parts_go D (construct_bottom (items_bottom E)))) = elim E [ ]
  root5_fwd f g a fs x _ _ _ _ (parts_bottom (parts_go D (construct_bottom (items_late constant_in (items_late _ E))))) = elim E [ ]
  root5_fwd f g a fs x d r s c (parts_bottom (parts_bottom D)) = less e Q (parts_bottom (parts_bottom D)) (omega arith) (omega arith) (omega arith)
  root5_fwd f g a fs x d r s c (parts_bottom (parts_go D (construct_bottom (items_late constant_in (items_bottom G))))) =
      less e Q (parts_bottom (parts_go D G)) (omega arith) (omega arith) (omega arith)
  root5_fwd f g a fs x d r s c (parts_go (parts_go D (construct_object (items_go constant_in (items_go G items_stop)))) F) =
      less e Q (parts_go (parts_go D G) (bu_in F)) (omega arith) (omega arith) (omega arith)

  root5_bwd : (f g : Form) (a : Obj) (fs : Forms) (x : Obj) → Sub e Q Any (parts (bu f a & g & fs) x) (parts (f & construct (constant a & g & stop) & fs) x)
  root5_bwd f g a fs x d r s c (parts_bottom (parts_bottom D)) = any e Q (parts_bottom (parts_bottom D))
  root5_bwd f g a fs x d r s c (parts_bottom (parts_go D G)) = any e Q (parts_bottom (parts_go D (construct_bottom (items_late constant_in (items_bottom G)))))
  root5_bwd f g a fs x d r s c (parts_go (parts_go D G) (bu_in F)) = any e Q (parts_go (parts_go D (construct_object (items_go constant_in (items_go G items_stop)))) F)

  pub root5 : (f g : Form) (a : Obj) (fs : Forms) → ImpP e Q (f & construct (constant a & g & stop) & fs) (bu f a & g & fs)
  root5 f g a fs x = record { fwd = root5_fwd f g a fs x; bwd = root5_bwd f g a fs x }

  -- Law 6: a selector of a construction, and the chosen form.
  items_long : {d : ℕ} {gs : Forms} {y : Obj} {vs : Objs} {s c : ℕ} → Ends e Q d (items gs y) (object (seq vs)) s c → length_of vs ≡ count gs
  items_long items_stop = refl
  items_long (items_go D I) = ap suc (items_long I)

  record Got (d : ℕ) (g : Form) (y : Obj) (j : ℕ) (vs : Objs) (s c : ℕ) : Type 0 where
    v : Obj
    d' : ℕ
    s' : ℕ
    c' : ℕ
    ends : Ends e Q d' (just g y) (object v) s' c'
    at : nth j vs ≡ gives 0 0 v
    names : d' ≤ d
    steps : s' ≤ s
    cells : c' ≤ c

  choice_object : {g : Form} {d : ℕ} {j : ℕ} {gs : Forms} {y : Obj} {vs : Objs} {s c : ℕ} → Choice g j gs
      → Ends e Q d (items gs y) (object (seq vs)) s c → Got d g y j vs s c
  choice_object (here h) (items_go D I) = record { v = _; d' = _; s' = _; c' = _; ends = D; at = refl; names = omega arith; steps = omega arith; cells = omega arith }
  choice_object {d = d} (there h k) (items_go {d = d₁} {d' = d₂} D I) =
      let G = choice_object {d = d₂} k I in
      record { v = G.v; d' = G.d'; s' = G.s'; c' = G.c'; ends = G.ends; at = G.at; names = omega (arith, G.names); steps = omega (arith, G.steps); cells = omega (arith, G.cells) }

  choice_bottom : {g : Form} {d : ℕ} {j : ℕ} {gs : Forms} {y : Obj} {s c : ℕ} → Choice g j gs → Ends e Q d (items gs y) bottom s c
      → Better e Q Less d (just g y) bottom s c
  choice_bottom (here h) (items_bottom D) = less e Q D (omega arith) (omega arith) (omega arith)
  choice_bottom (here h) (items_late D I) = no_bottoms e Q _ h I
  choice_bottom (there h k) (items_bottom D) = no_bottom e Q h D
  choice_bottom (there h k) (items_late {d = d} {d' = d'} D I) =
      let B = choice_bottom {d = d'} k I in
      less e Q B.ends (omega (arith, B.rel.names)) (omega (arith, B.rel.steps)) (omega (arith, B.rel.cells))

  record Back (gs : Forms) (y v : Obj) (j : ℕ) : Type 0 where
    vs : Objs
    d : ℕ
    s : ℕ
    c : ℕ
    ends : Ends e Q d (items gs y) (object (seq vs)) s c
    at : nth j vs ≡ gives 0 0 v

  back_object : {d : ℕ} {g : Form} {j : ℕ} {gs : Forms} {y v : Obj} {s c : ℕ} → Choice g j gs → Ends e Q d (just g y) (object v) s c → Back gs y v j
  back_object {y = y} (here {fs = fs} h) D = let C = calms e Q fs y h in record { vs = _ :: C.vs; d = _; s = _; c = _; ends = items_go D C.ends; at = refl }
  back_object {y = y} (there {f = f} h k) D =
      let C = calm e Q f y h in
      let B = back_object k D in
      record { vs = C.v :: B.vs; d = _; s = _; c = _; ends = items_go C.ends B.ends; at = B.at }

  back_bottom : {d : ℕ} {g : Form} {j : ℕ} {gs : Forms} {y : Obj} {s c : ℕ} → Choice g j gs → Ends e Q d (just g y) bottom s c → Better e Q Any d (items gs y) bottom s c
  back_bottom (here h) D = any e Q (items_bottom D)
  back_bottom {y = y} (there {f = f} h k) D =
      let C = calm e Q f y h in
      let B = back_bottom k D in
      any e Q (items_late C.ends B.ends)

  -- the word picks the one with j before it
  abbrev pub Picks : Word → Forms → ℕ → Type 0
  Picks w gs j = (vs : Objs) → length_of vs ≡ count gs → meaning e w (seq vs) ≡ nth j vs

  sel_gone : {d d₁ d₃ : ℕ} {g : Form} {fs : Forms} {x y v : Obj} {r : Result} {s c s₁ c₁ s₃ c₃ : ℕ} (d₂ s₂ c₂ n : ℕ)
      → Ends e Q d (parts fs x) (object y) s c → Ends e Q d₁ (just g y) (object v) s₁ c₁ → d₁ ≤ d₂ → s₁ ≤ s₂ → c₁ ≤ c₂
      → WordEnds e Q (gives 0 0 v) d₃ r s₃ c₃ → Better e Q Less (max (max d d₂) d₃) (parts (g & fs) x) r (s + suc s₂ + s₃) (c + (c₂ + n) + c₃)
  sel_gone d₂ s₂ c₂ n D E o p q w_object = less e Q (parts_go D E) (omega arith) (omega arith) (omega arith)

  word_is : {d : ℕ} {w : Word} {x : Obj} {a : WordAnswer} {r : Result} {s c : ℕ} → meaning e w x ≡ a → Ends e Q d (just (word w) x) r s c → WordEnds e Q a d r s c
  word_is {d = d} {r = r} {s = s} {c = c} h D = subst (λ (a : WordAnswer). WordEnds e Q a d r s c) h (word_inv e Q D)

  module _ (w : Word) (gs : Forms) (j : ℕ) (g : Form) (pk : Picks w gs j) (ch : Choice g j gs) (fs : Forms) where
    root6_fwd : (x : Obj) → Sub e Q Less (parts (word w & construct gs & fs) x) (parts (g & fs) x)
    root6_fwd x d r s c (parts_bottom (parts_bottom D)) = less e Q (parts_bottom D) (omega arith) (omega arith) (omega arith)
    root6_fwd x d r s c (parts_bottom (parts_go D (construct_bottom I))) =
        let B = choice_bottom ch I in
        less e Q (parts_go D B.ends) (omega (arith, B.rel.names)) (omega (arith, B.rel.steps)) (omega (arith, B.rel.cells))
    root6_fwd x d r s c (parts_go (parts_go D (construct_object {ys = vs} I)) T) =
        let G = choice_object ch I in
        sel_gone _ _ _ _ D G.ends G.names G.steps G.cells (word_is (pk vs (items_long I) ∙ G.at) T)

    root6_bwd : (x : Obj) → Sub e Q Any (parts (g & fs) x) (parts (word w & construct gs & fs) x)
    root6_bwd x d r s c (parts_bottom D) = any e Q (parts_bottom (parts_bottom D))
    root6_bwd x d bottom s c (parts_go D E) = let B = back_bottom ch E in any e Q (parts_bottom (parts_go D (construct_bottom B.ends)))
    root6_bwd x d (object v) s c (parts_go D E) =
        let B = back_object ch E in
        any e Q (parts_go (parts_go D (construct_object B.ends)) (word_object (pk B.vs (items_long B.ends) ∙ B.at)))

    pub root6 : ImpP e Q (word w & construct gs & fs) (g & fs)
    root6 x = record { fwd = root6_fwd x; bwd = root6_bwd x }

  -- Law 7: `tl.[f1,..,fn]` and `[f2,..,fn]`.
  tl_gone : {d d₂ d₃ : ℕ} {gs fs : Forms} {x y : Obj} {vs : Objs} {r : Result} {s c s₂ c₂ s₃ c₃ : ℕ} (d₁ s₁ c₁ : ℕ)
      → Ends e Q d (parts fs x) (object y) s c → Ends e Q d₂ (items gs y) (object (seq vs)) s₂ c₂ → WordEnds e Q (gives 0 0 (seq vs)) d₃ r s₃ c₃
      → Better e Q Less (max (max d (max d₁ d₂)) d₃) (parts (construct gs & fs) x) r (s + suc (s₁ + s₂) + s₃) (c + (c₁ + c₂ + suc (length_of vs)) + c₃)
  tl_gone d₁ s₁ c₁ D I w_object = less e Q (parts_go D (construct_object I)) (omega arith) (omega arith) (omega arith)

  root7_fwd : (a : Form) (gs fs : Forms) → harmless a ≡ true → (x : Obj)
      → Sub e Q Less (parts (word (op Op.tl) & construct (a & gs) & fs) x) (parts (construct gs & fs) x)
  root7_fwd a gs fs h x d r s c (parts_bottom (parts_bottom D)) = less e Q (parts_bottom D) (omega arith) (omega arith) (omega arith)
  root7_fwd a gs fs h x d r s c (parts_bottom (parts_go D (construct_bottom (items_bottom E)))) = no_bottom e Q h E
  root7_fwd a gs fs h x d r s c (parts_bottom (parts_go D (construct_bottom (items_late E I)))) = less e Q (parts_go D (construct_bottom I)) (omega arith) (omega arith) (omega arith)
  root7_fwd a gs fs h x d r s c (parts_go (parts_go D (construct_object (items_go E I))) T) = tl_gone _ _ _ D I (word_inv e Q T)

  root7_bwd : (a : Form) (gs fs : Forms) → harmless a ≡ true → (x : Obj) → Sub e Q Any (parts (construct gs & fs) x) (parts (word (op Op.tl) & construct (a & gs) & fs) x)
  root7_bwd a gs fs h x d r s c (parts_bottom D) = any e Q (parts_bottom (parts_bottom D))
  root7_bwd a gs fs h x d r s c (parts_go {y = z} D (construct_bottom I)) = any e Q (parts_bottom (parts_go D (construct_bottom (items_late (calm e Q a z h).ends I))))
  root7_bwd a gs fs h x d r s c (parts_go {y = z} D (construct_object I)) = any e Q (parts_go (parts_go D (construct_object (items_go (calm e Q a z h).ends I))) (word_object refl))

  pub root7 : (a : Form) (gs fs : Forms) → harmless a ≡ true → ImpP e Q (word (op Op.tl) & construct (a & gs) & fs) (construct gs & fs)
  root7 a gs fs h x = record { fwd = root7_fwd a gs fs h x; bwd = root7_bwd a gs fs h x }

  -- Law 8: `%x.f` and `%x`.
  root8_fwd : (y : Obj) (f : Form) (fs : Forms) → harmless f ≡ true → (x : Obj) → Sub e Q Less (parts (constant y & f & fs) x) (parts (constant y & fs) x)
  root8_fwd y f fs h x d r s c (parts_bottom (parts_bottom D)) = less e Q (parts_bottom D) (omega arith) (omega arith) (omega arith)
  root8_fwd y f fs h x d r s c (parts_bottom (parts_go D E)) = no_bottom e Q h E
  root8_fwd y f fs h x d r s c (parts_go (parts_go D E) constant_in) = less e Q (parts_go D constant_in) (omega arith) (omega arith) (omega arith)

  root8_bwd : (y : Obj) (f : Form) (fs : Forms) → harmless f ≡ true → (x : Obj) → Sub e Q Any (parts (constant y & fs) x) (parts (constant y & f & fs) x)
  root8_bwd y f fs h x d r s c (parts_bottom D) = any e Q (parts_bottom (parts_bottom D))
  root8_bwd y f fs h x d r s c (parts_go {y = z} D constant_in) = any e Q (parts_go (parts_go D (calm e Q f z h).ends) constant_in)

  pub root8 : (y : Obj) (f : Form) (fs : Forms) → harmless f ≡ true → ImpP e Q (constant y & f & fs) (constant y & fs)
  root8 y f fs h x = record { fwd = root8_fwd y f fs h x; bwd = root8_bwd y f fs h x }

  -- Law 10: `apndl.[f,[g1,..,gn]]` and `[f,g1,..,gn]`.
  apndl_gone : {d d₁ d₂ d₃ : ℕ} {f : Form} {gs fs : Forms} {x y v : Obj} {vs : Objs} {r : Result} {s c s₁ c₁ s₂ c₂ s₃ c₃ : ℕ}
      → Ends e Q d (parts fs x) (object y) s c → Ends e Q d₁ (just f y) (object v) s₁ c₁ → Ends e Q d₂ (items gs y) (object (seq vs)) s₂ c₂
      → WordEnds e Q (gives 0 1 (seq (v :: vs))) d₃ r s₃ c₃
      → Better e Q Less (max (max d (max d₁ (max d₂ 0))) d₃) (parts (construct (f & gs) & fs) x) r (s + suc (s₁ + (suc s₂ + 0)) + s₃) (c + (c₁ + (c₂ + length_of vs + 0) + 2) + c₃)
  apndl_gone D E I w_object = less e Q (parts_go D (construct_object (items_go E I))) (omega arith) (omega arith) (omega arith)

  root10_fwd : (f : Form) (gs fs : Forms) (x : Obj)
      → Sub e Q Less (parts (word (op Op.apndl) & construct (f & construct gs & stop) & fs) x) (parts (construct (f & gs) & fs) x)
  root10_fwd f gs fs x _ _ _ _ (parts_bottom (parts_go D (construct_bottom (items_late E (items_late _ I))))) = elim I [ ]
  root10_fwd f gs fs x d r s c (parts_bottom (parts_bottom D)) = less e Q (parts_bottom D) (omega arith) (omega arith) (omega arith)
  root10_fwd f gs fs x d r s c (parts_bottom (parts_go D (construct_bottom (items_bottom E)))) =
      less e Q (parts_go D (construct_bottom (items_bottom E))) (omega arith) (omega arith) (omega arith)
  root10_fwd f gs fs x d r s c (parts_bottom (parts_go D (construct_bottom (items_late E (items_bottom (construct_bottom I)))))) =
      less e Q (parts_go D (construct_bottom (items_late E I))) (omega arith) (omega arith) (omega arith)
  root10_fwd f gs fs x d r s c (parts_go (parts_go D (construct_object (items_go E (items_go (construct_object I) items_stop)))) T) = apndl_gone D E I (word_inv e Q T)

  root10_bwd : (f : Form) (gs fs : Forms) (x : Obj)
      → Sub e Q Any (parts (construct (f & gs) & fs) x) (parts (word (op Op.apndl) & construct (f & construct gs & stop) & fs) x)
  root10_bwd f gs fs x d r s c (parts_bottom D) = any e Q (parts_bottom (parts_bottom D))
  root10_bwd f gs fs x d r s c (parts_go D (construct_bottom (items_bottom E))) = any e Q (parts_bottom (parts_go D (construct_bottom (items_bottom E))))
  root10_bwd f gs fs x d r s c (parts_go D (construct_bottom (items_late E I))) = any e Q (parts_bottom (parts_go D (construct_bottom (items_late E (items_bottom (construct_bottom I))))))
  root10_bwd f gs fs x d r s c (parts_go D (construct_object (items_go E I))) =
      any e Q (parts_go (parts_go D (construct_object (items_go E (items_go (construct_object I) items_stop)))) (word_object refl))

  pub root10 : (f : Form) (gs fs : Forms) → ImpP e Q (word (op Op.apndl) & construct (f & construct gs & stop) & fs) (construct (f & gs) & fs)
  root10 f gs fs x = record { fwd = root10_fwd f gs fs x; bwd = root10_bwd f gs fs x }
