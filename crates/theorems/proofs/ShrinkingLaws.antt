-- Each law, used at its own well-formed form, gives one with fewer forms, no more bytes and no more constants' cells,
-- which is well formed too.
use Prim.Native.Nat.{ℕ, zero, suc, ◌+◌, ◌≤◌, ◌<◌}
use mathlib.Core.Path.{◌≡◌, refl, sym, subst}
use mathlib.Core.Option.{Option, some, none}
use native.Mathlib.Omega.{arith}
use Rattle.language.specs.Objects.{Obj, Truth, truth_of, is_T, is_F, neither}
use Rattle.language.specs.Words.{Op}
use Rattle.language.specs.Forms.{Form, word, chain, construct, constant, bu, condition, Forms, stop, ◌&◌, op, ◌+&◌, count, forms_in, forms_in_all, constant_cells}
use Rattle.language.specs.Forms.{constant_cells_all}
use Rattle.groundwork.specs.Options.{on_some, when}
use Rattle.language.specs.Laws.{harmless, all_harmless, on_construct, on_constant, on_condition, on_selector, on_two, on_two_or_more, when_same, join_in, fit1, fit2, fit5, chosen, fit6, fit7, fit8}
use Rattle.language.specs.Laws.{fit10, on_split, on_ending_in, ending_in, rewrite3, rewrite4, rewrite9, rewrite11, New, form_of, closed, in_chain, Law, law1, law2, law3, law4, law5, law6, law7, law8, law9}
use Rattle.language.specs.Laws.{law10, law11, at_root}
use Rattle.language.specs.Accepted.{OneOrMore, IsForm, AreForms}
use Rattle.theorems.proofs.Inversions.{some_inj, none_some, chain_made, construct_made, constant_made, condition_made, selector_made, two, two_or_more, something, when_true, when_same_lem, split}
use Rattle.theorems.proofs.Inversions.{ends_in, Ending, none_more, one_more, ending, PutIn, one_part, its_parts, put_in}
use Rattle.theorems.proofs.FormCounts.{forms_in_all-append, constant_cells_all-append, count-append, form_counted}
use Rattle.theorems.proofs.Anywhere.{chain_law, whole_law}
use Rattle.theorems.proofs.WrittenLengths.{brackets, form_bytes, dotted_bytes, forms_bytes, comma_bytes, at_most_two, form_written, dotted_put}

-- ---- what a use does

pub record Shrunk (f g : Form) : Type 0 where
  pub forms : forms_in g < forms_in f
  pub cells : constant_cells g ≤ constant_cells f
  pub bytes : form_bytes g ≤ form_bytes f
  pub bracketed : form_bytes g + brackets g ≤ form_bytes f + brackets f
  pub is_form : IsForm g

abbrev pub Shrinks : Form → Form → Type 0
Shrinks f g = IsForm f → Shrunk f g

-- among the parts of a chain, of which at most k go away
pub record ShrunkParts (k : ℕ) (fs gs : Forms) : Type 0 where
  pub parts : count fs ≤ k + count gs
  pub forms : forms_in_all gs < forms_in_all fs
  pub cells : constant_cells_all gs ≤ constant_cells_all fs
  pub bytes : dotted_bytes gs ≤ dotted_bytes fs
  pub are_forms : AreForms gs

abbrev pub PartsShrink : ℕ → Forms → Forms → Type 0
PartsShrink k fs gs = AreForms fs → ShrunkParts k fs gs

pub behind : (k : ℕ) (f : Form) (fs gs : Forms) → PartsShrink k fs gs → PartsShrink k (f & fs) (f & gs)
behind k f fs gs r ok =
    let s = r ok.1 in
    record { parts = omega arith; forms = omega arith; cells = omega arith; bytes = omega arith; are_forms = (ok.0, s.are_forms) }

-- A chain of two parts or more keeps one, which takes its place if it is the only one.
closes : (fs gs : Forms) → PartsShrink 1 fs gs → Shrinks (chain fs) (form_of (closed gs))
closes stop gs r ok = absurd ok.0
closes (f & stop) gs r ok = absurd ok.0
closes (f & g & fs) stop r ok = let s = r ok.1 in absurd (omega arith)
closes (f & g & fs) (a & stop) r ok =
    let s = r ok.1 in
    record { forms = omega arith; cells = omega arith; bytes = omega arith; bracketed = omega arith; is_form = s.are_forms.0 }
closes (f & g & fs) (a & b & gs) r ok =
    let s = r ok.1 in
    record { forms = omega arith; cells = omega arith; bytes = omega arith; bracketed = omega arith; is_form = (tt, s.are_forms) }

-- ---- a form put among a chain's parts

are_forms_append : (fs gs : Forms) → AreForms fs → AreForms gs → AreForms (fs +& gs)
are_forms_append stop gs oks ok = ok
are_forms_append (f & fs) gs oks ok = (oks.0, are_forms_append fs gs oks.1 ok)

pub record HasPut (g : Form) (fs hs : Forms) : Type 0 where
  pub parts : suc (count fs) ≤ count hs
  pub forms : forms_in_all hs ≤ forms_in g + forms_in_all fs
  pub cells : constant_cells_all hs ≡ constant_cells g + constant_cells_all fs
  pub are_forms : AreForms hs

has_put_in : {g : Form} {fs hs : Forms} → PutIn g fs hs → IsForm g → AreForms fs → HasPut g fs hs
has_put_in (one_part g fs) ok oks = record { parts = omega arith; forms = omega arith; cells = omega arith; are_forms = (ok, oks) }
has_put_in (its_parts stop fs) ok oks = absurd ok.0
has_put_in (its_parts (g & gs) fs) ok oks =
    record {
      parts = omega (arith, count-append gs fs);
      forms = omega (arith, forms_in_all-append gs fs);
      cells = omega (arith, constant_cells_all-append gs fs);
      are_forms = are_forms_append (g & gs) fs ok.1 oks;
    }

pub has_put : (g : Form) (fs : Forms) → IsForm g → AreForms fs → HasPut g fs (join_in g fs)
has_put g fs ok oks = has_put_in (put_in g fs) ok oks

-- ---- laws that take parts of a chain

-- a law's parts, known by their shape
of_shape : {fs fs' gs gs' : Forms} → fs ≡ fs' → some gs' ≡ some gs → PartsShrink 1 fs' gs' → PartsShrink 1 fs gs
of_shape {fs} {fs'} {gs} {gs'} e u r = subst (λ (hs : Forms). PartsShrink 1 hs gs) (sym e) (subst (λ (hs : Forms). PartsShrink 1 fs' hs) (some_inj u) r)

-- a part goes away
one_less : (f : Form) (fs : Forms) → PartsShrink 1 (f & fs) fs
one_less f fs ok =
    record { parts = omega arith; forms = omega (arith, form_counted f); cells = omega arith; bytes = omega arith; are_forms = ok.1 }

fits1 : (fs gs : Forms) → fit1 fs ≡ some gs → PartsShrink 1 fs gs
fits1 stop gs u = none_some u
fits1 (f & fs) gs u = of_shape refl (when_same_lem f (word (op Op.id)) (some fs) gs u).1 (one_less f fs)

law2_shrinks : {ps qs : Forms} (hs fs : Forms) → ps ≡ chain hs & fs → some (hs +& fs) ≡ some qs → PartsShrink 1 ps qs
law2_shrinks hs fs e u = of_shape e u λ ok.
    let j = has_put (chain hs) fs ok.0 ok.1 in
    record {
      parts = omega arith;
      forms = omega (arith, forms_in_all-append hs fs);
      cells = omega arith;
      bytes = omega (arith, dotted_put (chain hs) fs ok.0);
      are_forms = j.are_forms;
    }

fits2 : (fs gs : Forms) → fit2 fs ≡ some gs → PartsShrink 1 fs gs
fits2 stop gs u = none_some u
fits2 (f & fs) gs u =
    let M = chain_made f (λ hs. some (hs +& fs)) gs u in
    law2_shrinks M.of fs (cc M.is) M.gives

law5_shrinks : {ps qs : Forms} (f g : Form) (x : Obj) (rest : Forms) →
    ps ≡ f & construct (constant x & g & stop) & rest → some (bu f x & join_in g rest) ≡ some qs → PartsShrink 1 ps qs
law5_shrinks f g x rest e u = of_shape e u λ ok.
    let okg = ok.1.0.1.1.0 in
    let j = has_put g rest okg ok.1.1 in
    record {
      parts = omega arith;
      forms = omega arith;
      cells = omega arith;
      bytes = omega (arith, dotted_put g rest okg);
      are_forms = ((ok.0, ok.1.0.1.0), j.are_forms);
    }

fits5 : (fs gs : Forms) → fit5 fs ≡ some gs → PartsShrink 1 fs gs
fits5 fs gs u =
    let T = two_or_more fs (λ f h rest. on_construct h (λ hs. on_two hs (λ c g. on_constant c (λ x. some (bu f x & join_in g rest))))) gs u in
    let M = construct_made T.g (λ hs. on_two hs (λ c g. on_constant c (λ x. some (bu T.f x & join_in g T.rest)))) gs T.gives in
    let D = two M.of (λ c g. on_constant c (λ x. some (bu T.f x & join_in g T.rest))) gs M.gives in
    let X = constant_made D.f (λ x. some (bu T.f x & join_in D.g T.rest)) gs D.gives in
    law5_shrinks T.f D.g X.of T.rest (cc (T.is, M.is, D.is, X.is)) X.gives

-- one of a construction's forms
record OneOf (g : Form) (gs : Forms) : Type 0 where
  forms : forms_in g ≤ forms_in_all gs
  cells : constant_cells g ≤ constant_cells_all gs
  bytes : suc (form_bytes g) ≤ comma_bytes gs
  is_form : IsForm g

is_chosen : (j : ℕ) (gs : Forms) (g : Form) → chosen j gs ≡ some g → AreForms gs → OneOf g gs
is_chosen j stop g u ok = none_some u
is_chosen zero (f & fs) g u ok =
    let w = when_true (all_harmless fs) (some f) g u in
    subst (λ (h : Form). OneOf h (f & fs)) (some_inj w.1) (record { forms = omega arith; cells = omega arith; bytes = omega arith; is_form = ok.0 })
is_chosen (suc j) (f & fs) g u ok =
    let s = is_chosen j fs g (when_true (harmless f) (chosen j fs) g u).1 ok.1 in
    record { forms = omega arith; cells = omega arith; bytes = omega arith; is_form = s.is_form }

commas : (gs : Forms) → comma_bytes gs ≤ suc (forms_bytes gs)
commas stop = omega arith
commas (g & gs) = omega arith

law6_shrinks : {ps qs : Forms} (f g : Form) (gs rest : Forms) (j : ℕ) →
    ps ≡ f & construct gs & rest → chosen j gs ≡ some g → some (join_in g rest) ≡ some qs → PartsShrink 1 ps qs
law6_shrinks f g gs rest i e v u = of_shape e u λ ok.
    let c = is_chosen i gs g v ok.1.0.1 in
    let j = has_put g rest c.is_form ok.1.1 in
    record {
      parts = omega arith;
      forms = omega arith;
      cells = omega arith;
      bytes = omega (arith, dotted_put g rest c.is_form, commas gs);
      are_forms = j.are_forms;
    }

fits6 : (fs gs : Forms) → fit6 fs ≡ some gs → PartsShrink 1 fs gs
fits6 fs gs u =
    let T = two_or_more fs (λ f h rest. on_selector f (λ before. on_construct h (λ hs. on_some (before (count hs)) (λ j. on_some (chosen j hs) (λ g. some (join_in g rest)))))) gs u in
    let S = selector_made T.f (λ before. on_construct T.g (λ hs. on_some (before (count hs)) (λ j. on_some (chosen j hs) (λ g. some (join_in g T.rest))))) gs T.gives in
    let M = construct_made T.g (λ hs. on_some (S.before (count hs)) (λ j. on_some (chosen j hs) (λ g. some (join_in g T.rest)))) gs S.gives in
    let J = something (S.before (count M.of)) (λ j. on_some (chosen j M.of) (λ g. some (join_in g T.rest))) gs M.gives in
    let G = something (chosen J.of M.of) (λ g. some (join_in g T.rest)) gs J.gives in
    law6_shrinks T.f G.of M.of T.rest J.of (cc (T.is, M.is)) G.is G.gives

law7_shrinks : {ps qs : Forms} (f f1 f2 : Form) (more rest : Forms) →
    ps ≡ f & construct (f1 & f2 & more) & rest → some (construct (f2 & more) & rest) ≡ some qs → PartsShrink 1 ps qs
law7_shrinks f f1 f2 more rest e u = of_shape e u λ ok.
    record {
      parts = omega arith;
      forms = omega (arith, form_counted f);
      cells = omega arith;
      bytes = omega arith;
      are_forms = ((tt, ok.1.0.1.1), ok.1.1);
    }

fits7 : (fs gs : Forms) → fit7 fs ≡ some gs → PartsShrink 1 fs gs
fits7 fs gs u =
    let T = two_or_more fs (λ f h rest. when_same f (word (op Op.tl)) (on_construct h (λ hs. on_two_or_more hs (λ f1 f2 more. when (harmless f1) (some (construct (f2 & more) & rest)))))) gs u in
    let W = when_same_lem T.f (word (op Op.tl)) (on_construct T.g (λ hs. on_two_or_more hs (λ f1 f2 more. when (harmless f1) (some (construct (f2 & more) & T.rest))))) gs T.gives in
    let M = construct_made T.g (λ hs. on_two_or_more hs (λ f1 f2 more. when (harmless f1) (some (construct (f2 & more) & T.rest)))) gs W.1 in
    let D = two_or_more M.of (λ f1 f2 more. when (harmless f1) (some (construct (f2 & more) & T.rest))) gs M.gives in
    let H = when_true (harmless D.f) (some (construct (D.g & D.rest) & T.rest)) gs D.gives in
    law7_shrinks T.f D.f D.g D.rest T.rest (cc (T.is, M.is, D.is)) H.1

law8_shrinks : {ps qs : Forms} (x : Obj) (f : Form) (rest : Forms) →
    ps ≡ constant x & f & rest → some (constant x & rest) ≡ some qs → PartsShrink 1 ps qs
law8_shrinks x f rest e u = of_shape e u (behind 1 (constant x) (f & rest) rest (one_less f rest))

fits8 : (fs gs : Forms) → fit8 fs ≡ some gs → PartsShrink 1 fs gs
fits8 fs gs u =
    let T = two_or_more fs (λ c f rest. on_constant c (λ x. when (harmless f) (some (constant x & rest)))) gs u in
    let X = constant_made T.f (λ x. when (harmless T.g) (some (constant x & T.rest))) gs T.gives in
    let H = when_true (harmless T.g) (some (constant X.of & T.rest)) gs X.gives in
    law8_shrinks X.of T.g T.rest (cc (T.is, X.is)) H.1

law10_shrinks : {ps qs : Forms} (a f : Form) (gs rest : Forms) →
    ps ≡ a & construct (f & construct gs & stop) & rest → some (construct (f & gs) & rest) ≡ some qs → PartsShrink 1 ps qs
law10_shrinks a f gs rest e u = of_shape e u λ ok.
    record {
      parts = omega arith;
      forms = omega (arith, form_counted a);
      cells = omega arith;
      bytes = omega (arith, commas gs);
      are_forms = ((tt, (ok.1.0.1.0, ok.1.0.1.1.0.1)), ok.1.1);
    }

fits10 : (fs gs : Forms) → fit10 fs ≡ some gs → PartsShrink 1 fs gs
fits10 fs gs u =
    let T = two_or_more fs (λ a h rest. when_same a (word (op Op.apndl)) (on_construct h (λ hs. on_two hs (λ f g. on_construct g (λ gs. some (construct (f & gs) & rest)))))) gs u in
    let W = when_same_lem T.f (word (op Op.apndl)) (on_construct T.g (λ hs. on_two hs (λ f g. on_construct g (λ gs. some (construct (f & gs) & T.rest))))) gs T.gives in
    let M = construct_made T.g (λ hs. on_two hs (λ f g. on_construct g (λ gs. some (construct (f & gs) & T.rest)))) gs W.1 in
    let D = two M.of (λ f g. on_construct g (λ gs. some (construct (f & gs) & T.rest))) gs M.gives in
    let G = construct_made D.g (λ gs. some (construct (D.f & gs) & T.rest)) gs D.gives in
    law10_shrinks T.f D.f G.of T.rest (cc (T.is, M.is, D.is, G.is)) G.gives

-- ---- laws that take a construction or a condition

whole_shape : {f f' g g' : Form} → f ≡ f' → some g' ≡ some g → Shrinks f' g' → Shrinks f g
whole_shape {f} {f'} {g} {g'} e u r = subst (λ (a : Form). Shrinks a g) (sym e) (subst (λ (b : Form). Shrinks f' b) (some_inj u) r)

record WithoutEnds (cs fs : Forms) : Type 0 where
  forms : forms_in_all fs ≤ forms_in_all cs
  cells : constant_cells_all fs ≤ constant_cells_all cs
  bytes : comma_bytes fs ≤ comma_bytes cs
  are_forms : AreForms fs

without_ends : {h : Form} {cs fs : Forms} → Ending h cs fs → AreForms cs → WithoutEnds cs fs
without_ends none_more ok = record { forms = omega arith; cells = omega arith; bytes = omega arith; are_forms = tt }
without_ends (one_more f e) ok =
    let s = without_ends e ok.1 in
    record { forms = omega arith; cells = omega arith; bytes = omega arith; are_forms = (ok.0.1.0, s.are_forms) }

one_or_more : (fs : Forms) → 1 ≤ count fs → OneOrMore fs
one_or_more stop h = absurd (omega arith)
one_or_more (f & fs) h = tt

-- A chain of f and h: h is put behind f.
then_put : (f h : Form) → IsForm f → IsForm h → IsForm (chain (f & join_in h stop))
then_put f h okf okh =
    let j = has_put h stop okh tt in
    (one_or_more (join_in h stop) j.parts, (okf, j.are_forms))

end_taken_out : {h : Form} {cs fs : Forms} → Ending h cs fs → 2 ≤ count cs → Shrinks (construct cs) (chain (construct fs & join_in h stop))
end_taken_out none_more many ok = absurd ok.0
end_taken_out (one_more f none_more) many ok = absurd (omega arith)
end_taken_out {h} (one_more f (one_more g {fs = more} e)) many ok =
    let okh = ok.1.0.1.1.0 in
    let s = without_ends e ok.1.1.1 in
    let j = has_put h stop okh tt in
    let d = dotted_put h stop okh in
    let w = form_written h okh in
    record {
      forms = omega arith;
      cells = omega arith;
      bytes = omega arith;
      bracketed = omega arith;
      is_form = then_put (construct (f & g & more)) h (tt, (ok.1.0.1.0, (ok.1.1.0.1.0, s.are_forms))) okh;
    }

law3_shrinks : {c z : Form} (h : Form) (cs fs : Forms) → c ≡ construct cs → 2 ≤ count cs → ending_in h cs ≡ some fs →
    some (chain (construct fs & join_in h stop)) ≡ some z → Shrinks c z
law3_shrinks h cs fs e many v u = whole_shape e u (end_taken_out (ending h cs fs v) many)

rewrites3 : (f g : Form) → rewrite3 f ≡ some g → Shrinks f g
rewrites3 c g u =
    let M = construct_made c (λ cs. on_two_or_more cs (λ c1 c2 more. on_split c1 (λ f1 h. on_some (ending_in h cs) (λ fs. some (chain (construct fs & join_in h stop)))))) g u in
    let T = two_or_more M.of (λ c1 c2 more. on_split c1 (λ f1 h. on_some (ending_in h M.of) (λ fs. some (chain (construct fs & join_in h stop))))) g M.gives in
    let S = split T.f (λ f1 h. on_some (ending_in h M.of) (λ fs. some (chain (construct fs & join_in h stop)))) g T.gives in
    let E = something (ending_in S.h M.of) (λ fs. some (chain (construct fs & join_in S.h stop))) g S.gives in
    let many : 2 ≤ count M.of = subst (λ (cs : Forms). 2 ≤ count cs) (sym T.is) (omega arith) in
    law3_shrinks S.h M.of E.of M.is many E.is E.gives

law4_shrinks : {c z : Form} (p f g h : Form) → c ≡ condition (chain (p & h & stop)) (chain (f & h & stop)) (chain (g & h & stop)) →
    some (chain (condition p f g & join_in h stop)) ≡ some z → Shrinks c z
law4_shrinks p f g h e u = whole_shape e u λ ok.
    let okh = ok.0.1.1.0 in
    let j = has_put h stop okh tt in
    let d = dotted_put h stop okh in
    record {
      forms = omega arith;
      cells = omega arith;
      bytes = omega arith;
      bracketed = omega arith;
      is_form = then_put (condition p f g) h (ok.0.1.0, ok.1.1.0, ok.2.1.0) okh;
    }

rewrites4 : (f g : Form) → rewrite4 f ≡ some g → Shrinks f g
rewrites4 c z u =
    let M = condition_made c (λ ph fh gh. on_split ph (λ p h. on_ending_in h fh (λ f. on_ending_in h gh (λ g. some (chain (condition p f g & join_in h stop)))))) z u in
    let S = split M.p (λ p h. on_ending_in h M.f (λ f. on_ending_in h M.g (λ g. some (chain (condition p f g & join_in h stop))))) z M.gives in
    let E = ends_in S.h M.f (λ f. on_ending_in S.h M.g (λ g. some (chain (condition S.f f g & join_in S.h stop)))) z S.gives in
    let D = ends_in S.h M.g (λ g. some (chain (condition S.f E.f g & join_in S.h stop))) z E.gives in
    law4_shrinks S.f E.f D.f S.h (cc (M.is, S.is, E.is, D.is)) D.gives

-- one of a condition's two forms
law9_then : (p f g : Form) → Shrinks (condition p f g) f
law9_then p f g ok =
    record { forms = omega arith; cells = omega arith; bytes = omega arith; bracketed = omega (arith, at_most_two f); is_form = ok.1 }

law9_else : (p f g : Form) → Shrinks (condition p f g) g
law9_else p f g ok =
    record { forms = omega arith; cells = omega arith; bytes = omega arith; bracketed = omega (arith, at_most_two g); is_form = ok.2 }

rewrites9 : (f g : Form) → rewrite9 f ≡ some g → Shrinks f g
rewrites9 c z u =
    let M = condition_made c (λ p f g. on_constant p (λ x. elim (truth_of x) [ is_T ↦ some f | is_F ↦ some g | neither ↦ none ])) z u in
    let X = constant_made M.p (λ x. elim (truth_of x) [ is_T ↦ some M.f | is_F ↦ some M.g | neither ↦ none ]) z M.gives in
    go M.p M.f M.g (truth_of X.of) M.is X.gives
  where
    go : (p f g : Form) (t : Truth) → c ≡ condition p f g → elim t as (λ (t : Truth). Option Form) [ is_T ↦ some f | is_F ↦ some g | neither ↦ none ] ≡ some z → Shrinks c z
    go p f g is_T e v = whole_shape e v (law9_then p f g)
    go p f g is_F e v = whole_shape e v (law9_else p f g)
    go p f g neither e v = none_some v

law11_shrinks : {c z : Form} (p f g h : Form) → c ≡ condition p (condition p f g) h → some (condition p f h) ≡ some z → Shrinks c z
law11_shrinks p f g h e u = whole_shape e u λ ok.
    record { forms = omega arith; cells = omega arith; bytes = omega arith; bracketed = omega arith; is_form = (ok.0, ok.1.1, ok.2) }

rewrites11 : (f g : Form) → rewrite11 f ≡ some g → Shrinks f g
rewrites11 c z u =
    let M = condition_made c (λ p i h. on_condition i (λ q f g. when_same q p (some (condition p f h)))) z u in
    let N = condition_made M.f (λ q f g. when_same q M.p (some (condition M.p f M.g))) z M.gives in
    let W = when_same_lem N.p M.p (some (condition M.p N.f M.g)) z N.gives in
    law11_shrinks M.p N.f N.g M.g (cc (M.is, N.is, W.0)) W.1

-- ---- every law at its own form

in_chain_law : (fit : Forms → Option Forms) → ((fs gs : Forms) → fit fs ≡ some gs → PartsShrink 1 fs gs) → (f : Form) (n : New) → in_chain fit f ≡ some n → Shrinks f (form_of n)
in_chain_law fit fits f n u = chain_law Shrinks (PartsShrink 1) fit fits (behind 1) closes f n u

pub law_shrinks : (l : Law) (f : Form) (n : New) → at_root l f ≡ some n → Shrinks f (form_of n)
law_shrinks law1 f n u = in_chain_law fit1 fits1 f n u
law_shrinks law2 f n u = in_chain_law fit2 fits2 f n u
law_shrinks law3 f n u = whole_law Shrinks (PartsShrink 1) rewrite3 rewrites3 f n u
law_shrinks law4 f n u = whole_law Shrinks (PartsShrink 1) rewrite4 rewrites4 f n u
law_shrinks law5 f n u = in_chain_law fit5 fits5 f n u
law_shrinks law6 f n u = in_chain_law fit6 fits6 f n u
law_shrinks law7 f n u = in_chain_law fit7 fits7 f n u
law_shrinks law8 f n u = in_chain_law fit8 fits8 f n u
law_shrinks law9 f n u = whole_law Shrinks (PartsShrink 1) rewrite9 rewrites9 f n u
law_shrinks law10 f n u = in_chain_law fit10 fits10 f n u
law_shrinks law11 f n u = whole_law Shrinks (PartsShrink 1) rewrite11 rewrites11 f n u
