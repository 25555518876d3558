-- Places, single uses of a law, and the simplifier.
use Rattle.std.specs.Prelude.{ℕ, zero, suc, ◌-◌, Bool, true, false, List, [], ◌∷◌, leb, ltb}
use Rattle.std.proofs.Math.Option.{Option, some, none}
use Rattle.language.specs.Forms.{Form, word, name, chain, construct, constant, insert, apply_all, bu, condition, while, Forms, stop, ◌&◌, Def, Prog, forms_in, forms_of}
use Rattle.language.specs.Numbers.{mark_limit}
use Rattle.language.specs.Writing.{marks_of_program}
use Rattle.groundwork.specs.Options.{on_some, when}
use Rattle.language.specs.Laws.{join_in, New, stays, puts, form_of, Law, law1, law2, law3, law4, law5, law6, law7, law8, law9, law10, law11, at_root}

-- Places number forms from 0, each before its parts: place 0 is the form itself, the others are its parts'.
abbrev pub place : {A : Type 0} → ℕ → A → (ℕ → A) → A
place zero here parts = here
place (suc j) here parts = parts j

-- of parts one behind the other, a place in the first n or in the rest
abbrev pub within : {A : Type 0} → ℕ → ℕ → (ℕ → A) → (ℕ → A) → A
within j n first rest = elim (ltb j n) [ true ↦ first j | false ↦ rest (j - n) ]

-- a use inside one part, and the form around it
abbrev pub around : (Form → Form) → Option New → Option New
around c n = on_some n (λ m. some (stays (c (form_of m))))

abbrev pub around_all : (Forms → Form) → Option Forms → Option New
around_all c fs = on_some fs (λ gs. some (stays (c gs)))

-- among the parts of a chain (true), or the forms of a construction (false)
abbrev pub among : Bool → New → Forms → Forms
among true (stays f) fs = f & fs
among true (puts f) fs = join_in f fs
among false n fs = form_of n & fs

abbrev mutual
  pub use_at : Form → Law → ℕ → Option New
  use_at (word w) l i = place i (at_root l (word w)) (λ j. none)
  use_at (name w) l i = place i (at_root l (name w)) (λ j. none)
  use_at (chain fs) l i = place i (at_root l (chain fs)) (λ j. around_all chain (use_among true fs l j))
  use_at (construct fs) l i = place i (at_root l (construct fs)) (λ j. around_all construct (use_among false fs l j))
  use_at (constant x) l i = place i (at_root l (constant x)) (λ j. none)
  use_at (insert f) l i = place i (at_root l (insert f)) (λ j. around insert (use_at f l j))
  use_at (apply_all f) l i = place i (at_root l (apply_all f)) (λ j. around apply_all (use_at f l j))
  use_at (bu f x) l i = place i (at_root l (bu f x)) (λ j. around (λ f'. bu f' x) (use_at f l j))
  use_at (condition p f g) l i =
      place i (at_root l (condition p f g)) (λ j.
      within j (forms_in p) (λ j. around (λ p'. condition p' f g) (use_at p l j)) (λ j.
      within j (forms_in f) (λ j. around (λ f'. condition p f' g) (use_at f l j)) (λ j.
      around (λ g'. condition p f g') (use_at g l j))))
  use_at (while p f) l i =
      place i (at_root l (while p f)) (λ j.
      within j (forms_in p) (λ j. around (λ p'. while p' f) (use_at p l j)) (λ j.
      around (λ f'. while p f') (use_at f l j)))

  pub use_among : Bool → Forms → Law → ℕ → Option Forms
  use_among b stop l j = none
  use_among b (f & fs) l j =
      within j (forms_in f) (λ j. on_some (use_at f l j) (λ n. some (among b n fs))) (λ j. on_some (use_among b fs l j) (λ gs. some (f & gs)))

abbrev pub with_body : Def → Form → Def
with_body d f = record { called = d.called; body = f }

-- through the whole program
abbrev pub use_in : Prog → Law → ℕ → Option Prog
use_in [] l i = none
use_in (d ∷ ds) l i =
    within i (forms_in d.body) (λ i. on_some (use_at d.body l i) (λ n. some (with_body d (form_of n) ∷ ds))) (λ i. on_some (use_in ds l i) (λ es. some (d ∷ es)))

-- One use; none where the law doesn't apply at that place. A use whose written result would open a 33rd mark doesn't apply.
abbrev pub apply_law : Law → ℕ → Prog → Option Prog
apply_law l i P = on_some (use_in P l i) (λ Q. when (leb (marks_of_program Q) mark_limit) (some Q))

abbrev pub laws : List Law
laws = law1 ∷ law2 ∷ law3 ∷ law4 ∷ law5 ∷ law6 ∷ law7 ∷ law8 ∷ law9 ∷ law10 ∷ law11 ∷ []

-- a law by its number
abbrev pub nth_law : List Law → ℕ → Option Law
nth_law [] n = none
nth_law (l ∷ ls) zero = none
nth_law (l ∷ ls) (suc zero) = some l
nth_law (l ∷ ls) (suc (suc n)) = nth_law ls (suc n)

abbrev pub law_numbered : ℕ → Option Law
law_numbered n = nth_law laws n

-- The simplifier takes the least place where a law applies, there the lowest law, until none does.
abbrev pub lowest : List Law → ℕ → Prog → Option Prog
lowest [] i P = none
lowest (l ∷ ls) i P = elim (apply_law l i P) [ some Q ↦ some Q | none ↦ lowest ls i P ]

-- of n places from i on
abbrev pub least : ℕ → ℕ → Prog → Option Prog
least zero i P = none
least (suc n) i P = elim (lowest laws i P) [ some Q ↦ some Q | none ↦ least n (suc i) P ]

pub record Simplified : Type 0 where
  pub program : Prog
  pub uses : ℕ

-- Each use leaves fewer forms, so that as many rounds as there are forms are enough.
abbrev pub simplify_by : ℕ → ℕ → Prog → Simplified
simplify_by zero u P = record { program = P; uses = u }
simplify_by (suc n) u P = elim (least (forms_of P) 0 P) [ some Q ↦ simplify_by n (suc u) Q | none ↦ record { program = P; uses = u } ]

abbrev pub simplify : Prog → Simplified
simplify P = simplify_by (forms_of P) 0 P
