-- A relation between forms that holds where a law is used at its own form, and passes to the forms around, holds for every
-- use at every place of every program.
use Prim.Native.Nat.{ℕ, zero, suc, ◌-◌, ◌≤◌}
use mathlib.Core.Path.{◌≡◌, refl, sym, subst}
use mathlib.Core.Bool.{Bool, true, false}
use mathlib.Core.List.{[], ◌∷◌}
use mathlib.Core.Option.{Option, some, none}
use lib.Dec.{ltb, leb}
use borrow.Author.Tests.{leb-true}
use Rattle.language.specs.Objects.{Obj}
use Rattle.language.specs.Forms.{Form, word, name, chain, construct, constant, insert, apply_all, bu, condition, while, Forms, stop, ◌&◌, Def, Prog, forms_in}
use Rattle.language.specs.Numbers.{mark_limit}
use Rattle.language.specs.Writing.{marks_of_program}
use Rattle.groundwork.specs.Options.{on_some, when}
use Rattle.language.specs.Laws.{join_in, leftmost, New, stays, puts, form_of, closed, in_chain, whole, Law, at_root}
use Rattle.language.specs.Uses.{place, within, around, around_all, among, use_at, use_among, with_body, use_in, apply_law}
use Rattle.theorems.proofs.Inversions.{some_inj, none_some, chain_made, something, when_true}

-- ---- at the law's own form

module _ (F : Form → Form → Type 0) (C : Forms → Forms → Type 0) where
  -- the leftmost fitting parts
  pub leftmost_fits : (fit : Forms → Option Forms) → ((fs gs : Forms) → fit fs ≡ some gs → C fs gs) → ((f : Form) (fs gs : Forms) → C fs gs → C (f & fs) (f & gs)) → (fs gs : Forms) → leftmost fit fs ≡ some gs → C fs gs
  leftmost_fits fit fits behind stop gs u = none_some u
  leftmost_fits fit fits behind (f & fs) gs u = go (fit (f & fs)) refl u (λ hs v. leftmost_fits fit fits behind fs hs v)
    where
      go : (o : Option Forms) → fit (f & fs) ≡ o → elim o as (λ (o : Option Forms). Option Forms) [ some gs ↦ some gs | none ↦ on_some (leftmost fit fs) (λ gs. some (f & gs)) ] ≡ some gs → ((hs : Forms) → leftmost fit fs ≡ some hs → C fs hs) → C (f & fs) gs
      go (some hs) e v k = fits (f & fs) gs (subst (λ (o : Option Forms). fit (f & fs) ≡ o) v e)
      go none e v k =
          let s = something (leftmost fit fs) (λ gs. some (f & gs)) gs v in
          subst (λ (bs : Forms). C (f & fs) bs) (some_inj s.gives) (behind f fs s.of (k s.of s.is))

  -- in a chain, which is then closed
  pub chain_law : (fit : Forms → Option Forms) → ((fs gs : Forms) → fit fs ≡ some gs → C fs gs) → ((f : Form) (fs gs : Forms) → C fs gs → C (f & fs) (f & gs)) → ((fs gs : Forms) → C fs gs → F (chain fs) (form_of (closed gs))) → (f : Form) (n : New) → in_chain fit f ≡ some n → F f (form_of n)
  chain_law fit fits behind closes f n u =
      let M = chain_made f (λ fs. on_some (leftmost fit fs) (λ gs. some (closed gs))) n u in
      let s = something (leftmost fit M.of) (λ gs. some (closed gs)) n M.gives in
      let r : F (chain M.of) (form_of (closed s.of)) = closes M.of s.of (leftmost_fits fit fits behind M.of s.of s.is) in
      subst (λ (a : Form). F a (form_of n)) (sym M.is) (subst (λ (m : New). F (chain M.of) (form_of m)) (some_inj s.gives) r)

  -- of a construction or a condition
  pub whole_law : (rewrite : Form → Option Form) → ((f g : Form) → rewrite f ≡ some g → F f g) → (f : Form) (n : New) → whole (rewrite f) ≡ some n → F f (form_of n)
  whole_law rewrite rewrites f n u =
      let s = something (rewrite f) (λ g. some (puts g)) n u in
      subst (λ (m : New). F f (form_of m)) (some_inj s.gives) (rewrites f s.of s.is)

-- ---- at any place of a form

-- F for forms, C for the parts of a chain in which one changes, S for the forms of a construction in which one does
pub record Passes (F : Form → Form → Type 0) (C S : Forms → Forms → Type 0) : Type 0 where
  pub part : {f g : Form} (fs : Forms) → F f g → C (f & fs) (g & fs)
  pub joined : {f g : Form} (fs : Forms) → F f g → C (f & fs) (join_in g fs)
  pub behind_part : (f : Form) {fs gs : Forms} → C fs gs → C (f & fs) (f & gs)
  pub in_chain_lem : {fs gs : Forms} → C fs gs → F (chain fs) (chain gs)
  pub item : {f g : Form} (fs : Forms) → F f g → S (f & fs) (g & fs)
  pub behind_item : (f : Form) {fs gs : Forms} → S fs gs → S (f & fs) (f & gs)
  pub in_construct : {fs gs : Forms} → S fs gs → F (construct fs) (construct gs)
  pub in_insert : {f g : Form} → F f g → F (insert f) (insert g)
  pub in_apply_all : {f g : Form} → F f g → F (apply_all f) (apply_all g)
  pub in_bu : (x : Obj) {f g : Form} → F f g → F (bu f x) (bu g x)
  pub in_test : (g h : Form) {p q : Form} → F p q → F (condition p g h) (condition q g h)
  pub in_then : (p h : Form) {f g : Form} → F f g → F (condition p f h) (condition p g h)
  pub in_else : (p f : Form) {g h : Form} → F g h → F (condition p f g) (condition p f h)
  pub in_while_test : (f : Form) {p q : Form} → F p q → F (while p f) (while q f)
  pub in_while_body : (p : Form) {f g : Form} → F f g → F (while p f) (while p g)

-- a place is the form's own or a part's; it lies in the first parts or in the rest
at_place : {A X : Type 0} {z : A} (i : ℕ) (here : Option A) (parts : ℕ → Option A) → (here ≡ some z → X) → ((j : ℕ) → parts j ≡ some z → X) → place i here parts ≡ some z → X
at_place zero here parts f g u = f u
at_place (suc j) here parts f g u = g j u

pub either_part : {A X : Type 0} {z : A} (j n : ℕ) (first rest : ℕ → Option A) → (first j ≡ some z → X) → (rest (j - n) ≡ some z → X) → within j n first rest ≡ some z → X
either_part {A} {X} {z} j n first rest f g u = go (ltb j n) u
  where
    go : (b : Bool) → elim b as (λ (b : Bool). Option A) [ true ↦ first j | false ↦ rest (j - n) ] ≡ some z → X
    go true u = f u
    go false u = g u

module _ (F : Form → Form → Type 0) (C S : Forms → Forms → Type 0) (R : Passes F C S) (root : (l : Law) (f : Form) (n : New) → at_root l f ≡ some n → F f (form_of n)) where
  around_one : (c : Form → Form) (f : Form) (o : Option New) (n : New) → ((g : Form) → F f g → F (c f) (c g)) → ((m : New) → o ≡ some m → F f (form_of m)) → around c o ≡ some n → F (c f) (form_of n)
  around_one c f o n pass k u =
      let s = something o (λ m. some (stays (c (form_of m)))) n u in
      subst (λ (m : New). F (c f) (form_of m)) (some_inj s.gives) (pass (form_of s.of) (k s.of s.is))

  around_all_lem : (D : Forms → Forms → Type 0) (c : Forms → Form) (fs : Forms) (o : Option Forms) (n : New) → ((gs : Forms) → D fs gs → F (c fs) (c gs)) → ((gs : Forms) → o ≡ some gs → D fs gs) → around_all c o ≡ some n → F (c fs) (form_of n)
  around_all_lem D c fs o n pass k u =
      let s = something o (λ gs. some (stays (c gs))) n u in
      subst (λ (m : New). F (c fs) (form_of m)) (some_inj s.gives) (pass s.of (k s.of s.is))

  -- among parts (true) and forms of a construction (false)
  abbrev Among : Bool → Forms → Forms → Type 0
  Among true = C
  Among false = S

  in_first : (b : Bool) (f : Form) (fs gs : Forms) (o : Option New) → ((n : New) → o ≡ some n → F f (form_of n)) → on_some o (λ n. some (among b n fs)) ≡ some gs → Among b (f & fs) gs
  in_first b f fs gs o k u =
      let s = something o (λ n. some (among b n fs)) gs u in
      subst (Among b (f & fs)) (some_inj s.gives) (go b s.of (k s.of s.is))
    where
      go : (b : Bool) (n : New) → F f (form_of n) → Among b (f & fs) (among b n fs)
      go true (stays g) r = R.part fs r
      go true (puts g) r = R.joined fs r
      go false n r = R.item fs r

  in_rest : (b : Bool) (f : Form) (fs gs : Forms) (o : Option Forms) → ((hs : Forms) → o ≡ some hs → Among b fs hs) → on_some o (λ hs. some (f & hs)) ≡ some gs → Among b (f & fs) gs
  in_rest b f fs gs o k u =
      let s = something o (λ hs. some (f & hs)) gs u in
      subst (Among b (f & fs)) (some_inj s.gives) (go b s.of (k s.of s.is))
    where
      go : (b : Bool) (hs : Forms) → Among b fs hs → Among b (f & fs) (f & hs)
      go true hs r = R.behind_part f r
      go false hs r = R.behind_item f r

  mutual
    pub anywhere : (f : Form) (l : Law) (i : ℕ) (n : New) → use_at f l i ≡ some n → F f (form_of n)
    anywhere (word w) l i n u = at_place i (at_root l (word w)) (λ j. none) (λ v. root l (word w) n v) (λ j v. none_some v) u
    anywhere (name w) l i n u = at_place i (at_root l (name w)) (λ j. none) (λ v. root l (name w) n v) (λ j v. none_some v) u
    anywhere (constant x) l i n u = at_place i (at_root l (constant x)) (λ j. none) (λ v. root l (constant x) n v) (λ j v. none_some v) u
    anywhere (chain fs) l i n u =
        at_place i (at_root l (chain fs)) (λ j. around_all chain (use_among true fs l j)) (λ v. root l (chain fs) n v)
        (λ j v. around_all_lem C chain fs (use_among true fs l j) n (λ gs r. R.in_chain_lem r) (λ gs w. anywhere_among true fs l j gs w) v) u
    anywhere (construct fs) l i n u =
        at_place i (at_root l (construct fs)) (λ j. around_all construct (use_among false fs l j)) (λ v. root l (construct fs) n v)
        (λ j v. around_all_lem S construct fs (use_among false fs l j) n (λ gs r. R.in_construct r) (λ gs w. anywhere_among false fs l j gs w) v) u
    anywhere (insert f) l i n u =
        at_place i (at_root l (insert f)) (λ j. around insert (use_at f l j)) (λ v. root l (insert f) n v)
        (λ j v. around_one insert f (use_at f l j) n (λ g r. R.in_insert r) (λ m w. anywhere f l j m w) v) u
    anywhere (apply_all f) l i n u =
        at_place i (at_root l (apply_all f)) (λ j. around apply_all (use_at f l j)) (λ v. root l (apply_all f) n v)
        (λ j v. around_one apply_all f (use_at f l j) n (λ g r. R.in_apply_all r) (λ m w. anywhere f l j m w) v) u
    anywhere (bu f x) l i n u =
        at_place i (at_root l (bu f x)) (λ j. around (λ g. bu g x) (use_at f l j)) (λ v. root l (bu f x) n v)
        (λ j v. around_one (λ g. bu g x) f (use_at f l j) n (λ g r. R.in_bu x r) (λ m w. anywhere f l j m w) v) u
    anywhere (condition p f g) l i n u =
        let test : ℕ → Option New = λ j. around (λ q. condition q f g) (use_at p l j) in
        let then : ℕ → Option New = λ j. around (λ h. condition p h g) (use_at f l j) in
        let else : ℕ → Option New = λ j. around (λ h. condition p f h) (use_at g l j) in
        at_place i (at_root l (condition p f g)) (λ j. within j (forms_in p) test (λ j. within j (forms_in f) then else)) (λ v. root l (condition p f g) n v)
        (λ j v. either_part j (forms_in p) test (λ j. within j (forms_in f) then else)
        (λ w. around_one (λ q. condition q f g) p (use_at p l j) n (λ q r. R.in_test f g r) (λ m x. anywhere p l j m x) w)
        (λ w. either_part (j - forms_in p) (forms_in f) then else
        (λ t. around_one (λ h. condition p h g) f (use_at f l (j - forms_in p)) n (λ h r. R.in_then p g r) (λ m x. anywhere f l (j - forms_in p) m x) t)
        (λ t. around_one (λ h. condition p f h) g (use_at g l (j - forms_in p - forms_in f)) n (λ h r. R.in_else p f r) (λ m x. anywhere g l (j - forms_in p - forms_in f) m x) t) w) v) u
    anywhere (while p f) l i n u =
        let test : ℕ → Option New = λ j. around (λ q. while q f) (use_at p l j) in
        let body : ℕ → Option New = λ j. around (λ g. while p g) (use_at f l j) in
        at_place i (at_root l (while p f)) (λ j. within j (forms_in p) test body) (λ v. root l (while p f) n v)
        (λ j v. either_part j (forms_in p) test body
        (λ w. around_one (λ q. while q f) p (use_at p l j) n (λ q r. R.in_while_test f r) (λ m x. anywhere p l j m x) w)
        (λ w. around_one (λ g. while p g) f (use_at f l (j - forms_in p)) n (λ g r. R.in_while_body p r) (λ m x. anywhere f l (j - forms_in p) m x) w) v) u

    anywhere_among : (b : Bool) (fs : Forms) (l : Law) (j : ℕ) (gs : Forms) → use_among b fs l j ≡ some gs → Among b fs gs
    anywhere_among b stop l j gs u = none_some u
    anywhere_among b (f & fs) l j gs u =
        let first : ℕ → Option Forms = λ j. on_some (use_at f l j) (λ n. some (among b n fs)) in
        let rest : ℕ → Option Forms = λ j. on_some (use_among b fs l j) (λ hs. some (f & hs)) in
        either_part j (forms_in f) first rest
        (λ v. in_first b f fs gs (use_at f l j) (λ n w. anywhere f l j n w) v)
        (λ v. in_rest b f fs gs (use_among b fs l (j - forms_in f)) (λ hs w. anywhere_among b fs l (j - forms_in f) hs w) v) u

-- ---- in a program

-- the same definitions but for one body
pub data OneBody (F : Form → Form → Type 0) : Prog → Prog → Type 0 where
  this : (d : Def) (ds : Prog) (f : Form) → F d.body f → OneBody F (d ∷ ds) (with_body d f ∷ ds)
  later : (d : Def) {ds es : Prog} → OneBody F ds es → OneBody F (d ∷ ds) (d ∷ es)

pub record Used (F : Form → Form → Type 0) (P Q : Prog) : Type 0 where
  pub change : OneBody F P Q
  pub marks : marks_of_program Q ≤ mark_limit

module _ (F : Form → Form → Type 0) (use-at : (f : Form) (l : Law) (i : ℕ) (n : New) → use_at f l i ≡ some n → F f (form_of n)) where
  in_program : (P : Prog) (l : Law) (i : ℕ) (Q : Prog) → use_in P l i ≡ some Q → OneBody F P Q
  in_program [] l i Q u = none_some u
  in_program (d ∷ ds) l i Q u =
      let first : ℕ → Option Prog = λ i. on_some (use_at d.body l i) (λ n. some (with_body d (form_of n) ∷ ds)) in
      let rest : ℕ → Option Prog = λ i. on_some (use_in ds l i) (λ es. some (d ∷ es)) in
      either_part i (forms_in d.body) first rest
      (λ v. let s = something (use_at d.body l i) (λ n. some (with_body d (form_of n) ∷ ds)) Q v in
      subst (OneBody F (d ∷ ds)) (some_inj s.gives) (this d ds (form_of s.of) (use-at d.body l i s.of s.is)))
      (λ v. let s = something (use_in ds l (i - forms_in d.body)) (λ es. some (d ∷ es)) Q v in
      subst (OneBody F (d ∷ ds)) (some_inj s.gives) (later d (in_program ds l (i - forms_in d.body) s.of s.is))) u

  pub each_use : (l : Law) (i : ℕ) (P Q : Prog) → apply_law l i P ≡ some Q → Used F P Q
  each_use l i P Q u =
      let s = something (use_in P l i) (λ R. when (leb (marks_of_program R) mark_limit) (some R)) Q u in
      let w = when_true (leb (marks_of_program s.of) mark_limit) (some s.of) Q s.gives in
      subst (Used F P) (some_inj w.1) (record { change = in_program P l i s.of s.is; marks = leb-true (marks_of_program s.of) mark_limit w.0 })
