-- Laws of numerals and budgets: each way out of the numeral reader, and the three numerals of a line.
use Prim.Native.Nat.{ℕ, ◌≤◌, ◌<◌, min}
use mathlib.Core.Path.{◌≡◌, refl, ap, sym, ◌∙◌}
use mathlib.Core.Bool.{Bool, true, false, not, ◌&&◌}
use mathlib.Core.List.{List, [], ◌∷◌}
use mathlib.Core.Option as maybe
use native.Mathlib.Nat.{pow-le-pow_right}
use native.Mathlib.Omega.{arith}
use borrow.Author.Tests.{le-leb, ne_eqb, not-false}
use lib.Dec.{leb, eqb}
use lib.ListN.{length, get_or}
use Rattle.std.specs.Prelude.{Option, Some, None}
use Rattle.std.specs.List.{list_all}
use Rattle.std.specs.Option.{is_some}
use Rattle.std.specs.Borrow.{Bor}
use Rattle.language.specs.Tokens.{is_digit}
use Rattle.language.specs.Judging.{all, value_of, leading_zero}
use Rattle.language.specs.Fprun.{split, on_three, on_numeral, budgets_in}
use Rattle.language.specs.declared.Meter.{Meter}
use Rattle.theorems.proofs.JudgedWords.{value_bound}
use Rattle.call_lines.proofs.Splits.{pieces}
use Rattle.call_lines.specs.Cutting.{CutOff, Cut}
use Rattle.call_lines.specs.Budgets.{BudgetsRead, NumeralRead, a_numeral, no_numeral, ThreeRead, three_in}

-- std's test of all elements is the definitions'
all_is : (test : ℕ → Bool) (s : List ℕ) → list_all test s ≡ all test s
all_is test [] = refl
all_is test (b ∷ s) = ap (λ (t : Bool). test b && t) (all_is test s)

-- ---- one numeral
small : (ds : List ℕ) → all is_digit ds ≡ true → length ds ≤ 7 → value_of ds < 10000000
small ds e few = let b = value_bound ds e in let m = pow-le-pow_right {n = 10} (omega arith) few in omega arith

lead_one : (ds : List ℕ) → length ds ≡ 1 → leading_zero ds ≡ false
lead_one [] e = refl
lead_one (b ∷ []) e = refl
lead_one (b ∷ c ∷ ds) e = absurd (omega arith)

lead_more : (ds : List ℕ) → (length ds ≡ 0 → ⊥) → (length ds ≡ 1 → ⊥) → leading_zero ds ≡ eqb (get_or ds 0 0) 48
lead_more [] h g = absurd (h refl)
lead_more (b ∷ []) h g = absurd (g refl)
lead_more (b ∷ c ∷ ds) h g = refl

module _ (ds : List ℕ) where
  module _ (some-digits : length ds ≡ 0 → ⊥) where
    enough : leb 1 (length ds) ≡ true
    enough = le-leb 1 (length ds) (omega arith)

    module _ (few : length ds ≤ 7) {t : Bool} (is_all : t ≡ list_all is_digit ds) where
      seven : leb (length ds) 7 ≡ true
      seven = le-leb (length ds) 7 few

      module _ (e : not t ≡ false) where
        every : all is_digit ds ≡ true
        every = sym (all_is is_digit ds) ∙ sym is_all ∙ not-false t e

        plain : {v : ℕ} → leading_zero ds ≡ false → v ≡ min (value_of ds) 2147483649 → NumeralRead ds (Some v)
        plain {v} f g = a_numeral (rw (enough, seven, every, f)) (ap Some (omega (arith, small ds every few)))

        pub one_digit : {v : ℕ} → length ds ≡ 1 → v ≡ min (value_of ds) 2147483649 → NumeralRead ds (Some v)
        one_digit h g = plain (lead_one ds h) g

        pub no_leading : {v : ℕ} → (length ds ≡ 1 → ⊥) → (get_or ds 0 0 ≡ 48 → ⊥) → v ≡ min (value_of ds) 2147483649 → NumeralRead ds (Some v)
        no_leading h f g = plain (lead_more ds some-digits h ∙ ne_eqb (get_or ds 0 0) 48 f) g

-- ---- three
abbrev on_read : Option ℕ → (ℕ → maybe.Option Meter) → maybe.Option Meter
on_read (Some v) k = k v
on_read None k = maybe.none

numeral_is : {ds : List ℕ} {r : Option ℕ} (k : ℕ → maybe.Option Meter) → NumeralRead ds r → on_numeral ds k ≡ on_read r k
numeral_is {ds} k (a_numeral t f) = ap (λ (b : Bool). elim b as (λ (u : Bool). maybe.Option Meter) [ true ↦ k (value_of ds) | false ↦ maybe.none ]) t ∙ ap (λ (r : Option ℕ). on_read r k) (sym f)
numeral_is {ds} k (no_numeral t f) = ap (λ (b : Bool). elim b as (λ (u : Bool). maybe.Option Meter) [ true ↦ k (value_of ds) | false ↦ maybe.none ]) t ∙ ap (λ (r : Option ℕ). on_read r k) (sym f)

known : {ds : List ℕ} {r q : Option ℕ} (k : ℕ → maybe.Option Meter) → NumeralRead ds r → r ≡ q → on_numeral ds k ≡ on_read q k
known k h e = numeral_is k h ∙ ap (λ (r : Option ℕ). on_read r k) e

abbrev cells_in : ℕ → ℕ → List ℕ → maybe.Option Meter
cells_in steps names c = on_numeral c (λ cells. maybe.some (record { steps = steps; names = names; cells = cells }))

abbrev names_in : ℕ → List ℕ → List ℕ → maybe.Option Meter
names_in steps n c = on_numeral n (λ names. cells_in steps names c)

module _ {x y z : List ℕ} {r₁ : Option ℕ} (one : NumeralRead x r₁) where
  pub no_first : r₁ ≡ None → ThreeRead x y z None
  unfolding three_in
  no_first e = record { is = sym (known (λ a. names_in a y z) one e) }

  module _ {a : ℕ} (is_one : r₁ ≡ Some a) {r₂ : Option ℕ} (two : NumeralRead y r₂) where
    pub no_second : r₂ ≡ None → ThreeRead x y z None
    unfolding three_in
    no_second e = record { is = sym (known (λ a. names_in a y z) one is_one ∙ known (λ b. cells_in a b z) two e) }

    module _ {b : ℕ} (is-two : r₂ ≡ Some b) {r₃ : Option ℕ} (three : NumeralRead z r₃) where
      abbrev of_cells : ℕ → maybe.Option Meter
      of_cells c = maybe.some (record { steps = a; names = b; cells = c })

      pub no_third : r₃ ≡ None → ThreeRead x y z None
      unfolding three_in
      no_third e = record { is = sym (known (λ a. names_in a y z) one is_one ∙ known (λ b. cells_in a b z) two is-two ∙ known of_cells three e) }

      pub all_three : {c : ℕ} → r₃ ≡ Some c → ThreeRead x y z (Some (record { steps = a; names = b; cells = c }))
      unfolding three_in
      all_three {c} e = record { is = sym (known (λ a. names_in a y z) one is_one ∙ known (λ b. cells_in a b z) two is-two ∙ known of_cells three e) }

-- ---- a line with two spaces
fourth : (x y z : List ℕ) (ws : List (List ℕ)) (k : List ℕ → List ℕ → List ℕ → maybe.Option Meter) → 1 ≤ length ws → on_three (x ∷ y ∷ z ∷ ws) k ≡ maybe.none
fourth x y z [] k h = absurd (omega arith)
fourth x y z (w ∷ ws) k h = refl

module _ {line a b r₁ c : List ℕ} {t : Bool} (q : Option (Bor (List ℕ) × Bor (List ℕ))) (one : CutOff 32 line a r₁) (two : CutOff 32 r₁ b c) (three : Cut 32 c q) (e : t ≡ is_some q) where
  cut : split 32 line ≡ a ∷ b ∷ split 32 c
  cut = one.is ∙ ap (λ (x : List (List ℕ)). a ∷ x) two.is

  pub many_spaces : t ≡ true → BudgetsRead line None
  many_spaces h = record { is = go q three (sym e ∙ h) }
    where
      go : (q : Option (Bor (List ℕ) × Bor (List ℕ))) → Cut 32 c q → is_some q ≡ true → maybe.none ≡ budgets_in line
      go (Some p) f g = sym (rw (cut, f.is) (fourth a b p.0.now (split 32 p.1.now) _ (pieces 32 p.1.now)))
      go None f g = let z : ◌≡◌ {A = ℕ} 0 1 = cc in absurd (omega arith)

  pub two_spaces : {r : Option Meter} → t ≡ false → ThreeRead a b c r → BudgetsRead line r
  unfolding three_in
  two_spaces {r} h w = record { is = w.is ∙ go q three (sym e ∙ h) }
    where
      go : (q : Option (Bor (List ℕ) × Bor (List ℕ))) → Cut 32 c q → is_some q ≡ false → three_in a b c ≡ budgets_in line
      go (Some p) f g = let z : ◌≡◌ {A = ℕ} 0 1 = cc in absurd (omega arith)
      go None f g = sym (rw (cut, f))
