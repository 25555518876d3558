-- What a law's shapes say where they give something: the form had that shape.
use Prim.Native.Nat.{ℕ}
use mathlib.Core.Path.{◌≡◌, refl, sym, subst, ap, ◌∙◌}
use mathlib.Core.Bool.{Bool, true, false}
use mathlib.Core.Option.{Option, some, none}
use native.Mathlib.Omega.{arith}
use Rattle.language.specs.Objects.{Obj, seq, Objs, length_of}
use Rattle.language.specs.Forms.{Form, word, name, chain, construct, constant, insert, apply_all, bu, condition, while, Forms, stop, ◌&◌, Word, select, select_right, op, ◌+&◌, same_form}
use Rattle.language.specs.Numbers.{Edition}
use Rattle.language.specs.Meanings.{meaning, pick}
use Rattle.groundwork.specs.Options.{on_some, when}
use Rattle.language.specs.Laws.{on_chain, on_construct, on_constant, on_condition, on_selector, on_two, on_two_or_more, when_same, on_split, on_ending_in, ending_in, join_in}

pub some_inj : {A : Type 0} {a b : A} → some a ≡ some b → a ≡ b
some_inj h = cc

pub none_some : {A X : Type 0} {a : A} → Path (Option A) none (some a) → X
none_some h = let z : ◌≡◌ {A = ℕ} 0 1 = cc in absurd (omega arith)

-- a form made of one thing, with which k gives z
pub record Made {A B : Type 0} (make : B → Form) (f : Form) (k : B → Option A) (z : A) : Type 0 where
  pub of : B
  pub is : f ≡ make of
  pub gives : k of ≡ some z

pub chain_made : {A : Type 0} (f : Form) (k : Forms → Option A) (z : A) → on_chain f k ≡ some z → Made chain f k z
chain_made (word w) k z h = none_some h
chain_made (name w) k z h = none_some h
chain_made (chain fs) k z h = record { of = fs; is = refl; gives = h }
chain_made (construct fs) k z h = none_some h
chain_made (constant x) k z h = none_some h
chain_made (insert f) k z h = none_some h
chain_made (apply_all f) k z h = none_some h
chain_made (bu f x) k z h = none_some h
chain_made (condition p f g) k z h = none_some h
chain_made (while p f) k z h = none_some h

pub construct_made : {A : Type 0} (f : Form) (k : Forms → Option A) (z : A) → on_construct f k ≡ some z → Made construct f k z
construct_made (word w) k z h = none_some h
construct_made (name w) k z h = none_some h
construct_made (chain fs) k z h = none_some h
construct_made (construct fs) k z h = record { of = fs; is = refl; gives = h }
construct_made (constant x) k z h = none_some h
construct_made (insert f) k z h = none_some h
construct_made (apply_all f) k z h = none_some h
construct_made (bu f x) k z h = none_some h
construct_made (condition p f g) k z h = none_some h
construct_made (while p f) k z h = none_some h

pub constant_made : {A : Type 0} (f : Form) (k : Obj → Option A) (z : A) → on_constant f k ≡ some z → Made constant f k z
constant_made (word w) k z h = none_some h
constant_made (name w) k z h = none_some h
constant_made (chain fs) k z h = none_some h
constant_made (construct fs) k z h = none_some h
constant_made (constant x) k z h = record { of = x; is = refl; gives = h }
constant_made (insert f) k z h = none_some h
constant_made (apply_all f) k z h = none_some h
constant_made (bu f x) k z h = none_some h
constant_made (condition p f g) k z h = none_some h
constant_made (while p f) k z h = none_some h

pub record MadeCondition {A : Type 0} (c : Form) (k : Form → Form → Form → Option A) (z : A) : Type 0 where
  pub p : Form
  pub f : Form
  pub g : Form
  pub is : c ≡ condition p f g
  pub gives : k p f g ≡ some z

pub condition_made : {A : Type 0} (c : Form) (k : Form → Form → Form → Option A) (z : A) → on_condition c k ≡ some z → MadeCondition c k z
condition_made (word w) k z h = none_some h
condition_made (name w) k z h = none_some h
condition_made (chain fs) k z h = none_some h
condition_made (construct fs) k z h = none_some h
condition_made (constant x) k z h = none_some h
condition_made (insert f) k z h = none_some h
condition_made (apply_all f) k z h = none_some h
condition_made (bu f x) k z h = none_some h
condition_made (condition p f g) k z h = record { p = p; f = f; g = g; is = refl; gives = h }
condition_made (while p f) k z h = none_some h

-- a selector picks the object that has so many before it
pub record MadeSelector {A : Type 0} (f : Form) (k : (ℕ → Option ℕ) → Option A) (z : A) : Type 0 where
  pub selector : Word
  pub before : ℕ → Option ℕ
  pub is : f ≡ word selector
  pub picks : (e : Edition) (xs : Objs) → meaning e selector (seq xs) ≡ pick (before (length_of xs)) xs
  pub gives : k before ≡ some z

pub selector_made : {A : Type 0} (f : Form) (k : (ℕ → Option ℕ) → Option A) (z : A) → on_selector f k ≡ some z → MadeSelector f k z
selector_made (word (select i)) k z h = record { selector = select i; before = _; is = refl; picks = λ e xs. refl; gives = h }
selector_made (word (select_right i)) k z h = record { selector = select_right i; before = _; is = refl; picks = λ e xs. refl; gives = h }
selector_made (word (op o)) k z h = none_some h
selector_made (name w) k z h = none_some h
selector_made (chain fs) k z h = none_some h
selector_made (construct fs) k z h = none_some h
selector_made (constant x) k z h = none_some h
selector_made (insert f) k z h = none_some h
selector_made (apply_all f) k z h = none_some h
selector_made (bu f x) k z h = none_some h
selector_made (condition p f g) k z h = none_some h
selector_made (while p f) k z h = none_some h

-- exactly two forms
pub record Two {A : Type 0} (fs : Forms) (k : Form → Form → Option A) (z : A) : Type 0 where
  pub f : Form
  pub g : Form
  pub is : fs ≡ f & g & stop
  pub gives : k f g ≡ some z

pub two : {A : Type 0} (fs : Forms) (k : Form → Form → Option A) (z : A) → on_two fs k ≡ some z → Two fs k z
two stop k z h = none_some h
two (f & stop) k z h = none_some h
two (f & g & stop) k z h = record { f = f; g = g; is = refl; gives = h }
two (f & g & i & is) k z h = none_some h

pub record TwoOrMore {A : Type 0} (fs : Forms) (k : Form → Form → Forms → Option A) (z : A) : Type 0 where
  pub f : Form
  pub g : Form
  pub rest : Forms
  pub is : fs ≡ f & g & rest
  pub gives : k f g rest ≡ some z

pub two_or_more : {A : Type 0} (fs : Forms) (k : Form → Form → Forms → Option A) (z : A) → on_two_or_more fs k ≡ some z → TwoOrMore fs k z
two_or_more stop k z h = none_some h
two_or_more (f & stop) k z h = none_some h
two_or_more (f & g & gs) k z h = record { f = f; g = g; rest = gs; is = refl; gives = h }

pub record Something {A B : Type 0} (o : Option A) (k : A → Option B) (z : B) : Type 0 where
  pub of : A
  pub is : o ≡ some of
  pub gives : k of ≡ some z

pub something : {A B : Type 0} (o : Option A) (k : A → Option B) (z : B) → on_some o k ≡ some z → Something o k z
something none k z h = none_some h
something (some a) k z h = record { of = a; is = refl; gives = h }

pub when_true : {A : Type 0} (b : Bool) (a : Option A) (z : A) → when b a ≡ some z → (b ≡ true) × (a ≡ some z)
when_true true a z h = (refl, h)
when_true false a z h = none_some h

pub when_same_lem : {A : Type 0} (f g : Form) (a : Option A) (z : A) → when_same f g a ≡ some z → (f ≡ g) × (a ≡ some z)
when_same_lem {A} f g a z h = go (same_form f g) h
  where
    go : (d : Dec (f ≡ g)) → elim d as (λ (d : Dec (f ≡ g)). Option A) [ yes e ↦ a | no n ↦ none ] ≡ some z → (f ≡ g) × (a ≡ some z)
    go (yes e) h = (e, h)
    go (no n) h = none_some h

-- a chain of exactly two parts
pub record Split {A : Type 0} (c : Form) (k : Form → Form → Option A) (z : A) : Type 0 where
  pub f : Form
  pub h : Form
  pub is : c ≡ chain (f & h & stop)
  pub gives : k f h ≡ some z

pub split : {A : Type 0} (c : Form) (k : Form → Form → Option A) (z : A) → on_split c k ≡ some z → Split c k z
split c k z u =
    let M = chain_made c (λ fs. on_two fs k) z u in
    let T = two M.of k z M.gives in
    record { f = T.f; h = T.g; is = M.is ∙ ap chain T.is; gives = T.gives }

-- with the same second
pub record EndsIn {A : Type 0} (h c : Form) (k : Form → Option A) (z : A) : Type 0 where
  pub f : Form
  pub is : c ≡ chain (f & h & stop)
  pub gives : k f ≡ some z

pub ends_in : {A : Type 0} (h c : Form) (k : Form → Option A) (z : A) → on_ending_in h c k ≡ some z → EndsIn h c k z
ends_in h c k z u =
    let S = split c (λ f last. when_same last h (k f)) z u in
    let W = when_same_lem S.h h (k S.f) z S.gives in
    record { f = S.f; is = S.is ∙ ap (λ (b : Form). chain (S.f & b & stop)) W.0; gives = W.1 }

-- `f1.h` to `fn.h`, and f1 to fn
pub data Ending (h : Form) : Forms → Forms → Type 0 where
  none_more : Ending h stop stop
  one_more : (f : Form) {cs fs : Forms} → Ending h cs fs → Ending h (chain (f & h & stop) & cs) (f & fs)

pub ending : (h : Form) (cs fs : Forms) → ending_in h cs ≡ some fs → Ending h cs fs
ending h stop fs u = subst (Ending h stop) (some_inj u) none_more
ending h (c & cs) fs u =
    let E = ends_in h c (λ f. on_some (ending_in h cs) (λ fs. some (f & fs))) fs u in
    let R = something (ending_in h cs) (λ fs. some (E.f & fs)) fs E.gives in
    subst (λ (b : Form). Ending h (b & cs) fs) (sym E.is)
    (subst (Ending h (chain (E.f & h & stop) & cs)) (some_inj R.gives) (one_more E.f (ending h cs R.of R.is)))

-- A form put among a chain's parts is one part, or a chain whose parts are joined in.
pub data PutIn : Form → Forms → Forms → Type 0 where
  one_part : (g : Form) (fs : Forms) → PutIn g fs (g & fs)
  its_parts : (gs fs : Forms) → PutIn (chain gs) fs (gs +& fs)

pub put_in : (g : Form) (fs : Forms) → PutIn g fs (join_in g fs)
put_in (word w) fs = one_part _ fs
put_in (name w) fs = one_part _ fs
put_in (chain gs) fs = its_parts gs fs
put_in (construct gs) fs = one_part _ fs
put_in (constant x) fs = one_part _ fs
put_in (insert f) fs = one_part _ fs
put_in (apply_all f) fs = one_part _ fs
put_in (bu f x) fs = one_part _ fs
put_in (condition p f g) fs = one_part _ fs
put_in (while p f) fs = one_part _ fs
