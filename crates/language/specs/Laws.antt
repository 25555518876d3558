-- The eleven laws, each at the form where it applies.
use Rattle.std.specs.Prelude.{ℕ, zero, suc, Bool, true, false, ◌&&◌, List, [], ◌∷◌}
use Rattle.std.proofs.Math.Option.{Option, some, none}
use Rattle.groundwork.specs.Options.{on_some, when}
use Rattle.language.specs.Objects.{Obj, truth_of, is_T, is_F, neither}
use Rattle.language.specs.Words.{Op}
use Rattle.language.specs.Forms.{Form, word, name, chain, construct, constant, insert, apply_all, bu, condition, while, Forms, stop, ◌&◌, Word, select, select_right, op, ◌+&◌, count, same_form, is_among, as_word, as_chain, as_construct, as_constant, as_condition}
use Rattle.language.specs.Meanings.{from_left, from_right}

-- Harmless: constants, id, atom, null, and constructions of harmless forms.
abbrev pub harmless_words : List Word
harmless_words = op Op.id ∷ op Op.atom ∷ op Op.null ∷ []

abbrev mutual
  pub harmless : Form → Bool
  harmless (word w) = is_among w harmless_words
  harmless (name w) = false
  harmless (chain fs) = false
  harmless (construct fs) = all_harmless fs
  harmless (constant x) = true
  harmless (insert f) = false
  harmless (apply_all f) = false
  harmless (bu f x) = false
  harmless (condition p f g) = false
  harmless (while p f) = false

  pub all_harmless : Forms → Bool
  all_harmless stop = true
  all_harmless (f & fs) = harmless f && all_harmless fs

-- The shapes that a law asks for; none if there is another.
abbrev pub on_chain : {A : Type 0} → Form → (Forms → Option A) → Option A
on_chain f k = on_some (as_chain f) k

abbrev pub on_construct : {A : Type 0} → Form → (Forms → Option A) → Option A
on_construct f k = on_some (as_construct f) k

abbrev pub on_constant : {A : Type 0} → Form → (Obj → Option A) → Option A
on_constant f k = on_some (as_constant f) k

abbrev pub on_condition : {A : Type 0} → Form → (Form → Form → Form → Option A) → Option A
on_condition f k = on_some (as_condition f) (λ c. k c.test c.then c.else)

-- a selector, as the number of forms before the one it takes of n, if it takes one
abbrev pub selects : Word → Option (ℕ → Option ℕ)
selects (select i) = some (from_left i)
selects (select_right i) = some (from_right i)
selects (op o) = none

abbrev pub on_selector : {A : Type 0} → Form → ((ℕ → Option ℕ) → Option A) → Option A
on_selector f k = on_some (as_word f) (λ w. on_some (selects w) k)

-- exactly two forms; two or more
abbrev pub on_two : {A : Type 0} → Forms → (Form → Form → Option A) → Option A
on_two stop k = none
on_two (f & stop) k = none
on_two (f & g & stop) k = k f g
on_two (f & g & h & hs) k = none

abbrev pub on_two_or_more : {A : Type 0} → Forms → (Form → Form → Forms → Option A) → Option A
on_two_or_more stop k = none
on_two_or_more (f & stop) k = none
on_two_or_more (f & g & gs) k = k f g gs

-- The same h or p means the same form.
abbrev pub when_same : {A : Type 0} → Form → Form → Option A → Option A
when_same f g a = elim (same_form f g) [ yes e ↦ a | no n ↦ none ]

-- A chain that a law puts among a chain's parts is joined in, one level.
abbrev pub join_in : Form → Forms → Forms
join_in f fs = elim (as_chain f) [ some gs ↦ gs +& fs | none ↦ f & fs ]

-- Laws 1, 2, 5, 6, 7, 8 and 10 take parts at the front of what is left of a chain, and say what comes in its place.

-- 1. In a chain, id goes away.
abbrev pub fit1 : Forms → Option Forms
fit1 stop = none
fit1 (f & fs) = when_same f (word (op Op.id)) (some fs)

-- 2. A chain in a chain is joined in.
abbrev pub fit2 : Forms → Option Forms
fit2 stop = none
fit2 (f & fs) = on_chain f (λ gs. some (gs +& fs))

-- 5. `f.[%x,g]`: `{f,x}.g`.
abbrev pub fit5 : Forms → Option Forms
fit5 fs = on_two_or_more fs (λ f h rest. on_construct h (λ gs. on_two gs (λ c g. on_constant c (λ x. some (bu f x & join_in g rest)))))

-- the form with j before it, if all others are harmless
abbrev pub chosen : ℕ → Forms → Option Form
chosen j stop = none
chosen zero (f & fs) = when (all_harmless fs) (some f)
chosen (suc j) (f & fs) = when (harmless f) (chosen j fs)

-- 6. `k.[f1,..,fn]` or `kr`, k at most n, all others harmless: the chosen form.
abbrev pub fit6 : Forms → Option Forms
fit6 fs = on_two_or_more fs (λ f h rest. on_selector f (λ before. on_construct h (λ gs. on_some (before (count gs)) (λ j. on_some (chosen j gs) (λ g. some (join_in g rest))))))

-- 7. `tl.[f1,..,fn]`, n at least 2, f1 harmless: `[f2,..,fn]`.
abbrev pub fit7 : Forms → Option Forms
fit7 fs = on_two_or_more fs (λ f h rest. when_same f (word (op Op.tl)) (on_construct h (λ gs. on_two_or_more gs (λ f1 f2 more. when (harmless f1) (some (construct (f2 & more) & rest))))))

-- 8. `%x.f`, f harmless: `%x`.
abbrev pub fit8 : Forms → Option Forms
fit8 fs = on_two_or_more fs (λ c f rest. on_constant c (λ x. when (harmless f) (some (constant x & rest))))

-- 10. `apndl.[f,[g1,..,gn]]`: `[f,g1,..,gn]`.
abbrev pub fit10 : Forms → Option Forms
fit10 fs = on_two_or_more fs (λ a h rest. when_same a (word (op Op.apndl)) (on_construct h (λ hs. on_two hs (λ f g. on_construct g (λ gs. some (construct (f & gs) & rest))))))

-- Laws 3, 4, 9 and 11 take a construction or a condition.

-- f and h of `f.h`, exactly two parts
abbrev pub on_split : {A : Type 0} → Form → (Form → Form → Option A) → Option A
on_split c k = on_chain c (λ fs. on_two fs k)

-- f of `f.h` for the same h
abbrev pub on_ending_in : {A : Type 0} → Form → Form → (Form → Option A) → Option A
on_ending_in h c k = on_split c (λ f last. when_same last h (k f))

-- f1 to fn of `f1.h` to `fn.h`
abbrev pub ending_in : Form → Forms → Option Forms
ending_in h stop = some stop
ending_in h (c & cs) = on_ending_in h c (λ f. on_some (ending_in h cs) (λ fs. some (f & fs)))

-- 3. `[f1.h,..,fn.h]`, n at least 2, each of exactly two parts: `[f1,..,fn].h`.
abbrev pub rewrite3 : Form → Option Form
rewrite3 c = on_construct c (λ cs. on_two_or_more cs (λ c1 c2 more. on_split c1 (λ f1 h. on_some (ending_in h cs) (λ fs. some (chain (construct fs & join_in h stop))))))

-- 4. `(p.h->f.h;g.h)`, exactly two parts each: `(p->f;g).h`.
abbrev pub rewrite4 : Form → Option Form
rewrite4 c = on_condition c (λ ph fh gh. on_split ph (λ p h. on_ending_in h fh (λ f. on_ending_in h gh (λ g. some (chain (condition p f g & join_in h stop))))))

-- 9. `(%T->f;g)`: f. `(%F->f;g)`: g.
abbrev pub rewrite9 : Form → Option Form
rewrite9 c = on_condition c (λ p f g. on_constant p (λ x. elim (truth_of x) [ is_T ↦ some f | is_F ↦ some g | neither ↦ none ]))

-- 11. `(p->(p->f;g);h)`: `(p->f;h)`.
abbrev pub rewrite11 : Form → Option Form
rewrite11 c = on_condition c (λ p i h. on_condition i (λ q f g. when_same q p (some (condition p f h))))

-- Within a chain the leftmost fitting parts are taken.
abbrev pub leftmost : (Forms → Option Forms) → Forms → Option Forms
leftmost fit stop = none
leftmost fit (f & fs) = elim (fit (f & fs)) [ some gs ↦ some gs | none ↦ on_some (leftmost fit fs) (λ gs. some (f & gs)) ]

-- What comes in a form's place: one that stays where it is, or one that is put there, and joined in where it is a chain in
-- a chain.
pub data New : Type 0 where
  stays puts : Form → New

abbrev pub form_of : New → Form
form_of (stays f) = f
form_of (puts f) = f

-- Then a chain left with one part is that part, joined in where it is a chain in a chain.
abbrev pub closed : Forms → New
closed stop = stays (chain stop)
closed (f & stop) = puts f
closed (f & g & fs) = stays (chain (f & g & fs))

abbrev pub in_chain : (Forms → Option Forms) → Form → Option New
in_chain fit f = on_chain f (λ fs. on_some (leftmost fit fs) (λ gs. some (closed gs)))

abbrev pub whole : Option Form → Option New
whole f = on_some f (λ g. some (puts g))

pub data Law : Type 0 where
  law1 law2 law3 law4 law5 law6 law7 law8 law9 law10 law11 : Law

-- the law at the form where it applies
abbrev pub at_root : Law → Form → Option New
at_root law1 f = in_chain fit1 f
at_root law2 f = in_chain fit2 f
at_root law3 f = whole (rewrite3 f)
at_root law4 f = whole (rewrite4 f)
at_root law5 f = in_chain fit5 f
at_root law6 f = in_chain fit6 f
at_root law7 f = in_chain fit7 f
at_root law8 f = in_chain fit8 f
at_root law9 f = whole (rewrite9 f)
at_root law10 f = in_chain fit10 f
at_root law11 f = whole (rewrite11 f)
