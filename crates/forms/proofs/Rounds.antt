-- Forms in `( )`: a law for each way out of read_round, read_closed, read_while and read_condition, and for each call that they make.
use Prim.Native.Nat.{ℕ, ◌+◌, ◌-◌, ◌*◌, ◌≤◌, ◌<◌}
use mathlib.Core.Path.{◌≡◌, refl, ap, sym, ◌∙◌}
use mathlib.Core.List.{List, ◌++◌}
use native.Mathlib.Omega.{arith}
use lib.ListN.{length}
use Rattle.language.specs.Forms.{Form, condition, while, constant_cells}
use Rattle.language.specs.Reading.{Got, got, and_then, mark, after_test}
use Rattle.tables.specs.Tables.{record_put, shifted}
use Rattle.formtable.specs.Encoding.{encode_form, constants_from}
use Rattle.std.specs.Prelude.{Result, Ok, Err}
use Rattle.language.specs.declared.refusals.RefusedText.{RefusedText}
use Rattle.objects.proofs.Refused.{error_of, refuses_as}
use Rattle.forms.specs.declared.Upto.{Upto}
use Rattle.forms.specs.declared.TestRead.{TestRead}
use Rattle.forms.specs.declared.TestRead.TheVariants as T
use Rattle.forms.specs.Readers.{form_at, closed_at, round_at, while_at, Branches, both, branches_at, condition_at}
use Rattle.forms.specs.Readings.{Ready, Marked, test_read, TestMet, test_met, test_refused, Passed, Tested, Laid, FormMet, form_read, form_refused, BranchesMet, branches_read, branches_refused, Continued}
use Rattle.forms.proofs.Laying.{run_then, run_moved, run_as}
use Rattle.forms.proofs.Answers.{GotForm, form_got, form_no, mark_got, mark_no, mark_passed, After, form_after}
use Rattle.forms.proofs.Chains.{cells_at}

-- ---- what the tables hold
module _ (p f : Form) {n m c c₀ e d : ℕ} {t₀ u₀ t u t₁ t₂ u₂ : List ℕ} (l : Laid (encode_form c₀ p) (constants_from c₀ p) n c₀ t₀ u₀ m c t u) (s : t₁ ≡ shifted t n m) (h : Laid (encode_form c f) (constants_from c f) (m + 1) c t₁ u e d t₂ u₂) where
  while_laid : {t₃ : List ℕ} → t₃ ≡ record_put t₂ n 10 2 0 0 → Laid (encode_form c₀ (while p f)) (constants_from c₀ (while p f)) n c₀ t₀ u₀ e d t₃ u₂
  unfolding encode_form constants_from
  while_laid w =
      let z = cells_at p l in
      record {
        records = run_moved l.records s (run_as (ap (λ (x : ℕ). encode_form x f) z) h.records) w;
        cells = run_then l.cells (run_as (ap (λ (x : ℕ). constants_from x f) z) h.cells);
      }

condition_laid : (p : Form) (b : Branches) {n m c c₀ e d : ℕ} {t₀ u₀ t u t₁ t₂ u₂ t₃ : List ℕ} → Laid (encode_form c₀ p) (constants_from c₀ p) n c₀ t₀ u₀ m c t u → t₁ ≡ shifted t n m
    → Laid (encode_form c b.yes ++ encode_form (c + constant_cells b.yes) b.no) (constants_from c b.yes ++ constants_from (c + constant_cells b.yes) b.no) (m + 1) c t₁ u e d t₂ u₂
    → t₃ ≡ record_put t₂ n 9 3 0 0 → Laid (encode_form c₀ (condition p b.yes b.no)) (constants_from c₀ (condition p b.yes b.no)) n c₀ t₀ u₀ e d t₃ u₂
unfolding encode_form constants_from
condition_laid p b l s h w =
    let z = cells_at p l in
    record {
      records = run_moved l.records s (run_as (ap (λ (x : ℕ). encode_form x b.yes ++ encode_form (x + constant_cells b.yes) b.no) z) h.records) w;
      cells = run_then l.cells (run_as (ap (λ (x : ℕ). constants_from x b.yes ++ constants_from (x + constant_cells b.yes) b.no) z) h.cells);
    }

-- ---- read_closed
module _ (s : List ℕ) (at room : ℕ) {n c : ℕ} {t u t₁ u₁ : List ℕ} {r : Result Upto RefusedText} (m : FormMet n c t u r t₁ u₁ (form_at s at room)) where
  pub closed_stops : {e : RefusedText} {q : Result Upto RefusedText} {t' u' : List ℕ} → r ≡ Err e → q ≡ Err e → FormMet n c t u q t' u' (closed_at s at room)
  unfolding closed_at
  closed_stops e o = let y = form_no m e in rw y.is (form_refused (refuses_as y o))

  module _ {x : Upto} (e : r ≡ Ok x) where
    -- a mark may be read behind the form
    pub form_mark_requires : Ready s at n c → x.next ≤ length s
    form_mark_requires a = (form_after room a m e).ready.inside

    pub closed_open : {q : Result ℕ RefusedText} {o : RefusedText} {q₂ : Result Upto RefusedText} {t' u' : List ℕ} → Marked 41 s x.next q → q ≡ Err o → q₂ ≡ Err o → FormMet n c t u q₂ t' u' (closed_at s at room)
    unfolding closed_at
    closed_open h g o = let y = form_got m e in let z = mark_no (λ a. got y.form a) h g in rw (y.is, z.is) (form_refused (refuses_as z o))

    pub closed_is : {q : Result ℕ RefusedText} {a : ℕ} → Marked 41 s x.next q → q ≡ Ok a → FormMet n c t u (Ok (record { next = a; forms = x.forms; cells = x.cells })) t₁ u₁ (closed_at s at room)
    unfolding closed_at
    closed_is h g = let y = form_got m e in rw (y.is, mark_got (λ a. got y.form a) h g) (form_read refl refl y.laid)

-- ---- read_while
module _ (s : List ℕ) (at room : ℕ) {n m c : ℕ} {t u t₁ t₂ u₂ : List ℕ} {r : Result Upto RefusedText} where
  pub while_stops : {e : RefusedText} {q : Result Upto RefusedText} {t' u' : List ℕ} → FormMet (m + 1) c t₁ u r t₂ u₂ (closed_at s at room) → r ≡ Err e → q ≡ Err e → Continued (while_at s at room) n m c t u q t' u'
  unfolding while_at
  while_stops h e o = record { means = λ f c₀ t₀ u₀ l. let y = form_no h e in rw y.is (form_refused (refuses_as y o)) }

  pub while_is : {x : Upto} {t₃ : List ℕ} → t₁ ≡ shifted t n m → FormMet (m + 1) c t₁ u r t₂ u₂ (closed_at s at room) → r ≡ Ok x → t₃ ≡ record_put t₂ n 10 2 0 0 → Continued (while_at s at room) n m c t u (Ok x) t₃ u₂
  unfolding while_at
  while_is g h e w = record { means = λ f c₀ t₀ u₀ l. let y = form_got h e in rw y.is (form_read refl refl (while_laid f y.form l g y.laid w)) }

-- ---- read_branches
module _ (s : List ℕ) (at room : ℕ) {n c : ℕ} {t u t₁ u₁ : List ℕ} {r : Result Upto RefusedText} (m : FormMet n c t u r t₁ u₁ (form_at s at room)) where
  pub branches_stops : {e : RefusedText} {q : Result Upto RefusedText} {t' u' : List ℕ} → r ≡ Err e → q ≡ Err e → BranchesMet n c t u q t' u' (branches_at s at room)
  unfolding branches_at
  branches_stops e o = let y = form_no m e in rw y.is (branches_refused (refuses_as y o))

  module _ {x : Upto} {q : Result ℕ RefusedText} (e : r ≡ Ok x) (i : Marked 59 s x.next q) where
    begun : branches_at s at room ≡ mark 59 s x.next (λ a. and_then (closed_at s a room) (λ g e₁. got (both (form_got m e).form g) e₁))
    unfolding branches_at
    begun = ap (λ (g : Got Form). and_then g (λ f e. mark 59 s e (λ a. and_then (closed_at s a room) (λ g e. got (both f g) e)))) (form_got m e).is

    pub branches_open : {o : RefusedText} {q₂ : Result Upto RefusedText} {t' u' : List ℕ} → q ≡ Err o → q₂ ≡ Err o → BranchesMet n c t u q₂ t' u' (branches_at s at room)
    branches_open g o = let z = mark_no (λ a. and_then (closed_at s a room) (λ g e₁. got (both (form_got m e).form g) e₁)) i g in rw (begun ∙ z.is) (branches_refused (refuses_as z o))

    module _ {a : ℕ} (j : q ≡ Ok a) where
      pub branches_are : {r₂ : Result Upto RefusedText} {t₂ u₂ : List ℕ} → FormMet x.forms x.cells t₁ u₁ r₂ t₂ u₂ (closed_at s a room) → BranchesMet n c t u r₂ t₂ u₂ (branches_at s at room)
      branches_are k = rw (begun ∙ mark_got (λ a. and_then (closed_at s a room) (λ g e₁. got (both (form_got m e).form g) e₁)) i j) (second k)
        where
          y : GotForm n c t u x t₁ u₁ (form_at s at room)
          y = form_got m e

          second : {r₂ : Result Upto RefusedText} {t₂ u₂ : List ℕ} {h : Got Form} → FormMet x.forms x.cells t₁ u₁ r₂ t₂ u₂ h → BranchesMet n c t u r₂ t₂ u₂ (and_then h (λ g e₁. got (both y.form g) e₁))
          second (form_refused z) = branches_refused z
          second (form_read {f = g} z v l) =
              let d = cells_at y.form y.laid in
              branches_read z v (record {
                records = run_then y.laid.records (run_as (ap (λ (k : ℕ). encode_form k g) d) l.records);
                cells = run_then y.laid.cells (run_as (ap (λ (k : ℕ). constants_from k g) d) l.cells);
              })

      module _ (b : Ready s at n c) where
        pub closed_ready : Ready s a x.forms x.cells
        closed_ready =
            let y = (form_after room b m e).ready in
            let v = mark_passed (omega arith) i j in
            record { short = y.short; inside = v.1; forms = omega (arith, y.forms, v.0); cells = omega (arith, y.cells, v.0) }

        pub closed_below : {k : ℕ} → 5 * (length s - at) + 2 ≡ k → 5 * (length s - a) + 2 < k
        closed_below z = let w = form_after room b m e in let v = mark_passed (omega arith) i j in omega (arith, w.behind, v.0, v.1)

-- ---- read_condition
module _ (s : List ℕ) (at room : ℕ) {n m c : ℕ} {t u t₁ t₂ u₂ : List ℕ} {r : Result Upto RefusedText} where
  pub condition_stops : {e : RefusedText} {q : Result Upto RefusedText} {t' u' : List ℕ} → BranchesMet (m + 1) c t₁ u r t₂ u₂ (branches_at s at room) → r ≡ Err e → q ≡ Err e → Continued (condition_at s at room) n m c t u q t' u'
  unfolding condition_at
  condition_stops {e} {q} {t'} {u'} h e₁ e₂ = record { means = λ f c₀ t₀ u₀ l. go f h }
    where
      go : {c₀ : ℕ} {t₀ u₀ : List ℕ} (f : Form) {g : Got Branches} → BranchesMet (m + 1) c t₁ u r t₂ u₂ g → FormMet n c₀ t₀ u₀ q t' u' (and_then g (λ b e. got (condition f b.yes b.no) e))
      go f (branches_read z v w) = absurd (let y : ◌≡◌ {A = ℕ} 0 1 = cc in omega arith)
      go f (branches_refused {k = j} {p = v} z) = form_refused {k = j} {p = v} (e₂ ∙ ap (λ (t : RefusedText). Err t) (error_of (sym e₁ ∙ z)))

  pub condition_is : {x : Upto} {t₃ : List ℕ} → t₁ ≡ shifted t n m → BranchesMet (m + 1) c t₁ u r t₂ u₂ (branches_at s at room) → r ≡ Ok x → t₃ ≡ record_put t₂ n 9 3 0 0 → Continued (condition_at s at room) n m c t u (Ok x) t₃ u₂
  unfolding condition_at
  condition_is {x} {t₃} q h e w = record { means = λ f c₀ t₀ u₀ l. go f l h }
    where
      go : {c₀ : ℕ} {t₀ u₀ : List ℕ} (f : Form) {g : Got Branches} → Laid (encode_form c₀ f) (constants_from c₀ f) n c₀ t₀ u₀ m c t u → BranchesMet (m + 1) c t₁ u r t₂ u₂ g → FormMet n c₀ t₀ u₀ (Ok x) t₃ u₂ (and_then g (λ b e. got (condition f b.yes b.no) e))
      go f l (branches_read {b = b} {x = y} z v k) = form_read {x = y} (cc) v (condition_laid f b l q k w)
      go f l (branches_refused z) = absurd (let y : ◌≡◌ {A = ℕ} 0 1 = cc in omega arith)

-- ---- read_round
as_ok : {q : Result TestRead RefusedText} {w v : TestRead} → q ≡ Ok w → w ≡ v → q ≡ Ok v
as_ok g h = g ∙ ap (λ (t : TestRead). Ok t) h

module _ (s : List ℕ) (at room : ℕ) {n c : ℕ} {t u t₁ u₁ : List ℕ} {r : Result Upto RefusedText} (m : FormMet n c t u r t₁ u₁ (form_at s at room)) where
  pub round_stops : {e : RefusedText} {q : Result Upto RefusedText} {t' u' : List ℕ} → r ≡ Err e → q ≡ Err e → FormMet n c t u q t' u' (round_at s at room)
  unfolding round_at
  round_stops e o = let y = form_no m e in rw y.is (form_refused (refuses_as y o))

  module _ {x : Upto} {q : Result TestRead RefusedText} (e : r ≡ Ok x) (i : Tested s x.next q) where
    begun_round : round_at s at room ≡ after_test s (form_got m e).form x.next (λ a. form_at s a room)
    unfolding round_at
    begun_round = ap (λ (g : Got Form). and_then g (λ f e. after_test s f e (λ a. form_at s a room))) (form_got m e).is

    tested : {w : TestRead} → q ≡ Ok w → round_at s at room ≡ test_read s room (form_got m e).form w
    tested {w} h = begun_round ∙ go (i.is (form_got m e).form room)
      where
        same : {v : TestRead} → ◌≡◌ {A = Result TestRead RefusedText} (Ok v) (Ok w) → v ≡ w
        same z = cc

        go : {g : Got Form} → TestMet s room (form_got m e).form q g → g ≡ test_read s room (form_got m e).form w
        go (test_met z) = ap (λ (v : TestRead). test_read s room (form_got m e).form v) (same (sym z ∙ h))
        go (test_refused z) = absurd (let y : ◌≡◌ {A = ℕ} 0 1 = cc in omega arith)

    pub round_no : {o : RefusedText} {q₂ : Result Upto RefusedText} {t' u' : List ℕ} → q ≡ Err o → q₂ ≡ Err o → FormMet n c t u q₂ t' u' (round_at s at room)
    round_no {o} {q₂} {t'} {u'} h o₂ = rw begun_round (go (i.is (form_got m e).form room))
      where
        go : {g : Got Form} → TestMet s room (form_got m e).form q g → FormMet n c t u q₂ t' u' g
        go (test_met z) = absurd (let y : ◌≡◌ {A = ℕ} 0 1 = cc in omega arith)
        go (test_refused z) = form_refused (o₂ ∙ ap (λ (v : RefusedText). Err v) (error_of (sym h ∙ z)))

    module _ {a : ℕ} where
      pub round_is : {w : TestRead} → q ≡ Ok w → w ≡ T.Closed a → FormMet n c t u (Ok (record { next = a; forms = x.forms; cells = x.cells })) t₁ u₁ (round_at s at room)
      round_is g h = rw (tested (as_ok g h)) (form_read refl refl (form_got m e).laid)

      pub round_while : {w : TestRead} {r₂ : Result Upto RefusedText} {t₂ u₂ : List ℕ} → q ≡ Ok w → w ≡ T.While a → Continued (while_at s a room) n x.forms x.cells t₁ u₁ r₂ t₂ u₂ → FormMet n c t u r₂ t₂ u₂ (round_at s at room)
      round_while g h k = let y = form_got m e in rw (tested (as_ok g h)) (k.means y.form c t u y.laid)

      pub round_condition : {w : TestRead} {r₂ : Result Upto RefusedText} {t₂ u₂ : List ℕ} → q ≡ Ok w → w ≡ T.Condition a → Continued (condition_at s a room) n x.forms x.cells t₁ u₁ r₂ t₂ u₂ → FormMet n c t u r₂ t₂ u₂ (round_at s at room)
      round_condition g h k = let y = form_got m e in rw (tested (as_ok g h)) (k.means y.form c t u y.laid)

module _ (s : List ℕ) (at room : ℕ) {n c : ℕ} {t u t₁ u₁ : List ℕ} {r : Result Upto RefusedText} {x : Upto} (b : Ready s at (n + 1) c) (m : FormMet n c t u r t₁ u₁ (form_at s at room)) (e : r ≡ Ok x) where
  behind : After s at x
  behind = form_after room (record { short = b.short; inside = b.inside; forms = omega (arith, b.forms); cells = b.cells }) m e

  pub round_test_requires : x.next ≤ length s
  round_test_requires = behind.ready.inside

  onward : {a : ℕ} → Passed s x.next a → Ready s a (x.forms + 1) x.cells
  onward p = let w = behind.ready in record { short = w.short; inside = p.inside; forms = omega (arith, w.forms, p.behind); cells = omega (arith, w.cells, p.behind) }

  falls : {a j : ℕ} → Passed s x.next a → 5 * (length s - at) + 2 ≡ j → 5 * (length s - a) + 3 < j
  falls p z = omega (arith, behind.behind, p.behind, p.inside)

  module _ {q : Result TestRead RefusedText} {a : ℕ} (i : Tested s x.next q) where
    pub while_ready : {w : TestRead} → q ≡ Ok w → w ≡ T.While a → Ready s a (x.forms + 1) x.cells
    while_ready g h = onward (i.loops a (as_ok g h))

    pub while_below : {j : ℕ} {w : TestRead} → q ≡ Ok w → w ≡ T.While a → 5 * (length s - at) + 2 ≡ j → 5 * (length s - a) + 3 < j
    while_below g h z = falls (i.loops a (as_ok g h)) z

    pub condition_ready : {w : TestRead} → q ≡ Ok w → w ≡ T.Condition a → Ready s a (x.forms + 1) x.cells
    condition_ready g h = onward (i.branches a (as_ok g h))

    pub condition_below : {j : ℕ} {w : TestRead} → q ≡ Ok w → w ≡ T.Condition a → 5 * (length s - at) + 2 ≡ j → 5 * (length s - a) + 3 < j
    condition_below g h z = falls (i.branches a (as_ok g h)) z
