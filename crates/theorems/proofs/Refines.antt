-- Every use of a law leaves a form that the old one implies and that implies it; its constants need no more cells, and it
-- has fewer forms.
use Prim.Native.Nat.{ℕ, zero, suc, ◌+◌, ◌≤◌, ◌<◌}
use mathlib.Core.Path.{◌≡◌, refl, sym, subst, subst₂, ◌∙◌, ap}
use mathlib.Core.Option.{Option, some, none}
use native.Mathlib.Omega.{arith}
use Rattle.language.specs.Objects.{Obj, seq, Objs, length_of, Truth, truth_of, is_T, is_F, neither}
use Rattle.language.specs.Words.{Op}
use Rattle.language.specs.Forms.{Word, op, Form, word, chain, construct, constant, bu, condition, Forms, stop, ◌&◌, Prog, ◌+&◌, count, forms_in, forms_in_all, forms_of, constant_cells, constant_cells_all, program_cells}
use Rattle.language.specs.Numbers.{Edition}
use Rattle.language.specs.Meanings.{meaning, pick}
use Rattle.language.specs.Laws.{harmless, all_harmless, join_in, fit1, fit2, fit5, chosen, fit6, fit7, fit8, fit10, ending_in, rewrite3, rewrite4, rewrite9, rewrite11, New, form_of, closed, Law, law1, law2, law3, law4, law5, law6, law7, law8, law9, law10, law11, at_root}
use Rattle.language.specs.Uses.{apply_law}
use Rattle.theorems.proofs.Inversions.{some_inj, none_some, chain_made, construct_made, constant_made, condition_made, selector_made, two, two_or_more, something, when_true, when_same_lem, split, ends_in, Ending, none_more, one_more, ending, PutIn, one_part, its_parts, put_in}
use Rattle.theorems.proofs.FormCounts.{forms_in_all-append, constant_cells_all-append, form_counted}
use Rattle.theorems.proofs.Anywhere.{chain_law, whole_law, Passes, anywhere, OneBody, this, later, each_use}
use Rattle.theorems.proofs.Implies.{ImpF, ImpP, ImpI, imp_refl, imp_trans, part_head, part_tail, in_chain_lem, item_head, item_tail, in_construct, in_insert, in_apply_all, in_bu, in_condition, in_while, same}
use Rattle.theorems.proofs.ChainLaws.{Choice, here, there, Picks, root1, root2, root5, root6, root7, root8, root10, alone}
use Rattle.theorems.proofs.WholeLaws.{root3, root4, root9_T, root9_F, root11}

-- of forms, of the parts of a chain, and of the forms of a construction
pub record RefF (f g : Form) : Type 0 where
  pub imp : (e : Edition) (Q : Prog) → ImpF e Q f g
  pub cells : constant_cells g ≤ constant_cells f
  pub fewer : forms_in g < forms_in f

pub record RefP (fs gs : Forms) : Type 0 where
  pub imp : (e : Edition) (Q : Prog) → ImpP e Q fs gs
  pub cells : constant_cells_all gs ≤ constant_cells_all fs
  pub fewer : forms_in_all gs < forms_in_all fs

pub record RefI (fs gs : Forms) : Type 0 where
  pub imp : (e : Edition) (Q : Prog) → ImpI e Q fs gs
  pub cells : constant_cells_all gs ≤ constant_cells_all fs
  pub fewer : forms_in_all gs < forms_in_all fs

-- ---- a part put among a chain's parts

record Put (f : Form) (fs gs : Forms) : Type 0 where
  imp : (e : Edition) (Q : Prog) → ImpP e Q (f & fs) gs
  cells : constant_cells_all gs ≤ constant_cells f + constant_cells_all fs
  fewer : forms_in_all gs ≤ forms_in f + forms_in_all fs

has_put : {f : Form} {fs gs : Forms} → PutIn f fs gs → Put f fs gs
has_put (one_part f fs) = record { imp = λ e Q x. imp_refl e Q _; cells = omega arith; fewer = omega arith }
has_put (its_parts gs fs) = record { imp = λ e Q. root2 e Q gs fs; cells = omega (arith, constant_cells_all-append gs fs); fewer = omega (arith, forms_in_all-append gs fs) }

put_ref : (f : Form) (fs : Forms) → Put f fs (join_in f fs)
put_ref f fs = has_put (put_in f fs)

-- ---- the laws among a chain's parts

abbrev Fits : (Forms → Option Forms) → Type 0
Fits fit = (fs gs : Forms) → fit fs ≡ some gs → RefP fs gs

fits1 : Fits fit1
fits1 stop gs h = none_some h
fits1 (f & fs) gs h =
    let w = when_same_lem f (word (op Op.id)) (some fs) gs h in
    subst₂ (λ (a : Form) (bs : Forms). RefP (a & fs) bs) (sym w.0) (some_inj w.1) (record { imp = λ e Q. root1 e Q fs; cells = omega arith; fewer = omega arith })

fits2 : Fits fit2
fits2 stop gs h = none_some h
fits2 (f & fs) gs h =
    let M = chain_made f (λ gs. some (gs +& fs)) gs h in
    subst₂ (λ (a : Form) (bs : Forms). RefP (a & fs) bs) (sym M.is) (some_inj M.gives) (record {
      imp = λ e Q. root2 e Q M.of fs;
      cells = omega (arith, constant_cells_all-append M.of fs);
      fewer = omega (arith, forms_in_all-append M.of fs);
    })

ref5 : (f g : Form) (x : Obj) (fs : Forms) → RefP (f & construct (constant x & g & stop) & fs) (bu f x & join_in g fs)
ref5 f g x fs =
    let U = put_ref g fs in
    record {
      imp = λ e Q y. imp_trans e Q (root5 e Q f g x fs y) (part_tail (bu f x) e Q (U.imp e Q) y);
      cells = omega (arith, U.cells);
      fewer = omega (arith, U.fewer);
    }

fits5 : Fits fit5
fits5 fs gs h =
    let T = two_or_more fs _ gs h in
    let M = construct_made T.g _ gs T.gives in
    let W = two M.of _ gs M.gives in
    let K = constant_made W.f _ gs W.gives in
    let q : fs ≡ T.f & construct (constant K.of & W.g & stop) & T.rest = cc in
    subst₂ RefP (sym q) (some_inj K.gives) (ref5 T.f W.g K.of T.rest)

-- the chosen form
record Chose (j : ℕ) (gs : Forms) (g : Form) : Type 0 where
  choice : Choice g j gs
  cells : constant_cells g ≤ constant_cells_all gs
  fewer : forms_in g ≤ forms_in_all gs

chose : (j : ℕ) (gs : Forms) (g : Form) → chosen j gs ≡ some g → Chose j gs g
chose j stop g h = none_some h
chose zero (f & fs) g h =
    let w = when_true (all_harmless fs) (some f) g h in
    subst (λ (a : Form). Chose zero (f & fs) a) (some_inj w.1) (record { choice = here w.0; cells = omega arith; fewer = omega arith })
chose (suc j) (f & fs) g h =
    let w = when_true (harmless f) (chosen j fs) g h in
    let C = chose j fs g w.1 in
    record { choice = there w.0 C.choice; cells = omega (arith, C.cells); fewer = omega (arith, C.fewer) }

-- what a selector picks where the law finds how many are before it
picked : (w : Word) (before : ℕ → Option ℕ) (gs : Forms) (j : ℕ) → ((e : Edition) (vs : Objs) → meaning e w (seq vs) ≡ pick (before (length_of vs)) vs)
    → before (count gs) ≡ some j → (e : Edition) (Q : Prog) → Picks e Q w gs j
picked w before gs j a h e Q vs l = a e vs ∙ ap (λ (k : ℕ). pick (before k) vs) l ∙ ap (λ (o : Option ℕ). pick o vs) h

ref6 : (w : Word) (gs fs : Forms) (j : ℕ) (g : Form) → ((e : Edition) (Q : Prog) → Picks e Q w gs j) → Chose j gs g → RefP (word w & construct gs & fs) (join_in g fs)
ref6 w gs fs j g picks C =
    let U = put_ref g fs in
    record {
      imp = λ e Q x. imp_trans e Q (root6 e Q w gs j g (picks e Q) C.choice fs x) (U.imp e Q x);
      cells = omega (arith, U.cells, C.cells);
      fewer = omega (arith, U.fewer, C.fewer);
    }

fits6 : Fits fit6
fits6 fs gs h =
    let T = two_or_more fs _ gs h in
    let S = selector_made T.f _ gs T.gives in
    let M = construct_made T.g _ gs S.gives in
    let I = something (S.before (count M.of)) _ gs M.gives in
    let J = something (chosen I.of M.of) _ gs I.gives in
    let q : fs ≡ word S.selector & construct M.of & T.rest = cc in
    subst₂ RefP (sym q) (some_inj J.gives)
    (ref6 S.selector M.of T.rest I.of J.of (picked S.selector S.before M.of I.of S.picks I.is) (chose I.of M.of J.of J.is))

fits7 : Fits fit7
fits7 fs gs h =
    let T = two_or_more fs _ gs h in
    let w = when_same_lem T.f (word (op Op.tl)) _ gs T.gives in
    let M = construct_made T.g _ gs w.1 in
    let N = two_or_more M.of _ gs M.gives in
    let v = when_true (harmless N.f) _ gs N.gives in
    let p : T.f ≡ word (op Op.tl) = w.0 in
    let q : fs ≡ word (op Op.tl) & construct (N.f & N.g & N.rest) & T.rest = cc in
    subst₂ RefP (sym q) (some_inj v.1) (record { imp = λ e Q. root7 e Q N.f (N.g & N.rest) T.rest v.0; cells = omega arith; fewer = omega arith })

fits8 : Fits fit8
fits8 fs gs h =
    let T = two_or_more fs _ gs h in
    let K = constant_made T.f _ gs T.gives in
    let v = when_true (harmless T.g) _ gs K.gives in
    let q : fs ≡ constant K.of & T.g & T.rest = cc in
    subst₂ RefP (sym q) (some_inj v.1) (record { imp = λ e Q. root8 e Q K.of T.g T.rest v.0; cells = omega arith; fewer = omega (arith, form_counted T.g) })

fits10 : Fits fit10
fits10 fs gs h =
    let T = two_or_more fs _ gs h in
    let w = when_same_lem T.f (word (op Op.apndl)) _ gs T.gives in
    let M = construct_made T.g _ gs w.1 in
    let W = two M.of _ gs M.gives in
    let N = construct_made W.g _ gs W.gives in
    let p : T.f ≡ word (op Op.apndl) = w.0 in
    let q : fs ≡ word (op Op.apndl) & construct (W.f & construct N.of & stop) & T.rest = cc in
    subst₂ RefP (sym q) (some_inj N.gives) (record { imp = λ e Q. root10 e Q W.f N.of T.rest; cells = omega arith; fewer = omega arith })

-- ---- the laws of a construction or a condition

abbrev Rewrites : (Form → Option Form) → Type 0
Rewrites rewrite = (f g : Form) → rewrite f ≡ some g → RefF f g

ending_cells : {h : Form} {fs bs : Forms} → Ending h fs bs → constant_cells_all bs ≤ constant_cells_all fs
ending_cells none_more = omega arith
ending_cells (one_more a F) = omega (arith, ending_cells F)

ending_forms : {h : Form} {fs bs : Forms} → Ending h fs bs → forms_in_all bs ≤ forms_in_all fs
ending_forms none_more = omega arith
ending_forms (one_more a F) = omega (arith, ending_forms F)

ref3 : (h : Form) {f g : Form} {fs bs : Forms} → Ending h (f & g & fs) bs → RefF (construct (f & g & fs)) (chain (construct bs & join_in h stop))
ref3 h {bs = bs} (one_more a (one_more b F)) =
    let U = put_ref h stop in
    record {
      imp = λ e Q x. imp_trans e Q (root3 e Q h a (one_more b F) x) (in_chain_lem e Q (part_tail (construct bs) e Q (U.imp e Q)) x);
      cells = omega (arith, ending_cells F, U.cells);
      fewer = omega (arith, ending_forms F, U.fewer);
    }

rewrites3 : Rewrites rewrite3
rewrites3 c c' u =
    let M = construct_made c _ c' u in
    let T = two_or_more M.of _ c' M.gives in
    let S = split T.f _ c' T.gives in
    let G = something (ending_in S.h M.of) _ c' S.gives in
    let F : Ending S.h (T.f & T.g & T.rest) G.of = subst (λ (cs : Forms). Ending S.h cs G.of) T.is (ending S.h M.of G.of G.is) in
    let q : c ≡ construct (T.f & T.g & T.rest) = cc in
    subst₂ RefF (sym q) (some_inj G.gives) (ref3 S.h F)

ref4 : (p f g h : Form) → RefF (condition (chain (p & h & stop)) (chain (f & h & stop)) (chain (g & h & stop))) (chain (condition p f g & join_in h stop))
ref4 p f g h =
    let U = put_ref h stop in
    record {
      imp = λ e Q x. imp_trans e Q (root4 e Q p f g h x) (in_chain_lem e Q (part_tail (condition p f g) e Q (U.imp e Q)) x);
      cells = omega (arith, U.cells);
      fewer = omega (arith, U.fewer);
    }

rewrites4 : Rewrites rewrite4
rewrites4 c c' u =
    let C = condition_made c _ c' u in
    let S = split C.p _ c' C.gives in
    let A = ends_in S.h C.f _ c' S.gives in
    let B = ends_in S.h C.g _ c' A.gives in
    let q : c ≡ condition (chain (S.f & S.h & stop)) (chain (A.f & S.h & stop)) (chain (B.f & S.h & stop)) = cc in
    subst₂ RefF (sym q) (some_inj B.gives) (ref4 S.f A.f B.f S.h)

ref9 : (x : Obj) (f g c : Form) (t : Truth) → truth_of x ≡ t
    → elim t as (λ (t : Truth). Option Form) [ is_T ↦ some f | is_F ↦ some g | neither ↦ none ] ≡ some c → RefF (condition (constant x) f g) c
ref9 x f g c is_T h u = subst (RefF (condition (constant x) f g)) (some_inj u) (record { imp = λ e Q. root9_T e Q x f g h; cells = omega arith; fewer = omega arith })
ref9 x f g c is_F h u = subst (RefF (condition (constant x) f g)) (some_inj u) (record { imp = λ e Q. root9_F e Q x f g h; cells = omega arith; fewer = omega arith })
ref9 x f g c neither h u = none_some u

rewrites9 : Rewrites rewrite9
rewrites9 c c' u =
    let C = condition_made c _ c' u in
    let K = constant_made C.p _ c' C.gives in
    let q : c ≡ condition (constant K.of) C.f C.g = cc in
    subst (λ (a : Form). RefF a c') (sym q) (ref9 K.of C.f C.g c' (truth_of K.of) refl K.gives)

rewrites11 : Rewrites rewrite11
rewrites11 c c' u =
    let C = condition_made c _ c' u in
    let D = condition_made C.f _ c' C.gives in
    let w = when_same_lem D.p C.p _ c' D.gives in
    let p : D.p ≡ C.p = w.0 in
    let q : c ≡ condition C.p (condition C.p D.f D.g) C.g = cc in
    subst₂ RefF (sym q) (some_inj w.1) (record { imp = λ e Q. root11 e Q C.p D.f D.g C.g; cells = omega arith; fewer = omega arith })

-- ---- the forms around

passes : Passes RefF RefP RefI
passes = record {
  part = λ fs K. record { imp = λ e Q. part_head fs e Q (K.imp e Q); cells = omega (arith, K.cells); fewer = omega (arith, K.fewer) };
  joined = λ fs K.
      let U = put_ref _ fs in
      record { imp = λ e Q x. imp_trans e Q (part_head fs e Q (K.imp e Q) x) (U.imp e Q x); cells = omega (arith, K.cells, U.cells); fewer = omega (arith, K.fewer, U.fewer) };
  behind_part = λ f K. record { imp = λ e Q. part_tail f e Q (K.imp e Q); cells = omega (arith, K.cells); fewer = omega (arith, K.fewer) };
  in_chain_lem = λ K. record { imp = λ e Q. in_chain_lem e Q (K.imp e Q); cells = K.cells; fewer = omega (arith, K.fewer) };
  item = λ fs K. record { imp = λ e Q. item_head fs e Q (K.imp e Q); cells = omega (arith, K.cells); fewer = omega (arith, K.fewer) };
  behind_item = λ f K. record { imp = λ e Q. item_tail f e Q (K.imp e Q); cells = omega (arith, K.cells); fewer = omega (arith, K.fewer) };
  in_construct = λ K. record { imp = λ e Q. in_construct e Q (K.imp e Q); cells = K.cells; fewer = omega (arith, K.fewer) };
  in_insert = λ K. record { imp = λ e Q. in_insert e Q (K.imp e Q); cells = K.cells; fewer = omega (arith, K.fewer) };
  in_apply_all = λ K. record { imp = λ e Q. in_apply_all e Q (K.imp e Q); cells = K.cells; fewer = omega (arith, K.fewer) };
  in_bu = λ x K. record { imp = λ e Q. in_bu x e Q (K.imp e Q); cells = omega (arith, K.cells); fewer = omega (arith, K.fewer) };
  in_test = λ g h K. record { imp = λ e Q. in_condition e Q (K.imp e Q) (same e Q) (same e Q); cells = omega (arith, K.cells); fewer = omega (arith, K.fewer) };
  in_then = λ p h K. record { imp = λ e Q. in_condition e Q (same e Q) (K.imp e Q) (same e Q); cells = omega (arith, K.cells); fewer = omega (arith, K.fewer) };
  in_else = λ p f K. record { imp = λ e Q. in_condition e Q (same e Q) (same e Q) (K.imp e Q); cells = omega (arith, K.cells); fewer = omega (arith, K.fewer) };
  in_while_test = λ f K. record { imp = λ e Q. in_while e Q (K.imp e Q) (same e Q); cells = omega (arith, K.cells); fewer = omega (arith, K.fewer) };
  in_while_body = λ p K. record { imp = λ e Q. in_while e Q (same e Q) (K.imp e Q); cells = omega (arith, K.cells); fewer = omega (arith, K.fewer) };
}

-- a chain left with one part is that part
closes : (fs gs : Forms) → RefP fs gs → RefF (chain fs) (form_of (closed gs))
closes fs stop K = passes.in_chain_lem K
closes fs (g & stop) K = record { imp = λ e Q x. imp_trans e Q (in_chain_lem e Q (K.imp e Q) x) (alone e Q g x); cells = omega (arith, K.cells); fewer = omega (arith, K.fewer) }
closes fs (g & h & gs) K = passes.in_chain_lem K

at_root_lem : (l : Law) (f : Form) (n : New) → at_root l f ≡ some n → RefF f (form_of n)
at_root_lem law1 f n u = chain_law RefF RefP fit1 fits1 (λ f fs gs. passes.behind_part f) closes f n u
at_root_lem law2 f n u = chain_law RefF RefP fit2 fits2 (λ f fs gs. passes.behind_part f) closes f n u
at_root_lem law3 f n u = whole_law RefF RefP rewrite3 rewrites3 f n u
at_root_lem law4 f n u = whole_law RefF RefP rewrite4 rewrites4 f n u
at_root_lem law5 f n u = chain_law RefF RefP fit5 fits5 (λ f fs gs. passes.behind_part f) closes f n u
at_root_lem law6 f n u = chain_law RefF RefP fit6 fits6 (λ f fs gs. passes.behind_part f) closes f n u
at_root_lem law7 f n u = chain_law RefF RefP fit7 fits7 (λ f fs gs. passes.behind_part f) closes f n u
at_root_lem law8 f n u = chain_law RefF RefP fit8 fits8 (λ f fs gs. passes.behind_part f) closes f n u
at_root_lem law9 f n u = whole_law RefF RefP rewrite9 rewrites9 f n u
at_root_lem law10 f n u = chain_law RefF RefP fit10 fits10 (λ f fs gs. passes.behind_part f) closes f n u
at_root_lem law11 f n u = whole_law RefF RefP rewrite11 rewrites11 f n u

-- ---- every use

pub one_body : (l : Law) (i : ℕ) (P Q : Prog) → apply_law l i P ≡ some Q → OneBody RefF P Q
one_body l i P Q u = (each_use RefF (anywhere RefF RefP RefI passes at_root_lem) l i P Q u).change

body_cells : {P Q : Prog} → OneBody RefF P Q → program_cells Q ≤ program_cells P
body_cells (this d ds f K) = omega (arith, K.cells)
body_cells (later d B) = omega (arith, body_cells B)

pub no_more_cells : (l : Law) (i : ℕ) (P Q : Prog) → apply_law l i P ≡ some Q → program_cells Q ≤ program_cells P
no_more_cells l i P Q u = body_cells (one_body l i P Q u)

body_fewer : {P Q : Prog} → OneBody RefF P Q → forms_of Q < forms_of P
body_fewer (this d ds f K) = omega (arith, K.fewer)
body_fewer (later d B) = omega (arith, body_fewer B)

pub fewer : (l : Law) (i : ℕ) (P Q : Prog) → apply_law l i P ≡ some Q → forms_of Q < forms_of P
fewer l i P Q u = body_fewer (one_body l i P Q u)
