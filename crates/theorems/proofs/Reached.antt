-- A run reaches an answer exactly where the name `main` ends so and its counts fit the budgets.
use Prim.Native.Nat.{ℕ, ◌+◌, ◌-◌, ◌≤◌}
use mathlib.Core.Path.{◌≡◌, refl, subst, subst₂, ◌∙◌, ap}
use mathlib.Core.Bool.{Bool, true, false}
use native.Mathlib.Omega.{arith}
use lib.Dec.{leb}
use borrow.Author.Tests.{le-leb, leb-true}
use Rattle.language.specs.declared.Meter.{Meter}
use Rattle.language.specs.Objects.{Obj}
use Rattle.language.specs.Forms.{Prog, main_form}
use Rattle.language.specs.Numbers.{Edition}
use Rattle.language.specs.Evaluation.{Out, apply, RunEnd, done, fell, too_few, counted, starting_cells, run}
use Rattle.theorems.specs.Demand3.{Result, object, bottom, reaches}
use Rattle.theorems.proofs.Ends.{just, Ends}
use Rattle.theorems.proofs.Complete.{out, complete}
use Rattle.theorems.proofs.Sound.{Explains, ex_object, ex_bottom, ex_out, sound}

-- how `main` ended, and what the run counted
pub record Ran (e : Edition) (P : Prog) (x : Obj) (b : Meter) (r : Result) (s c : ℕ) : Type 0 where
  pub d : ℕ
  pub c₀ : ℕ
  pub ends : Ends e P d (just main_form x) r s c₀
  pub names : d ≤ b.names
  pub total : c ≡ starting_cells P x + c₀
  pub steps : s ≤ b.steps
  pub cells : c ≤ b.cells

counted_is : (b m' : Meter) (r : Result) (s c : ℕ) → b.steps ≡ s + m'.steps → b.cells ≡ c + m'.cells → counted b (out r m') ≡ reaches r s c
counted_is b m' (object v) s c p q =
    let p' : b.steps - m'.steps ≡ s = omega arith in
    let q' : b.cells - m'.cells ≡ c = omega arith in
    λ i. done v (p' i) (q' i)
counted_is b m' bottom s c p q =
    let p' : b.steps - m'.steps ≡ s = omega arith in
    let q' : b.cells - m'.cells ≡ c = omega arith in
    λ i. fell (p' i) (q' i)

pub ran_complete : (e : Edition) (P : Prog) (x : Obj) (b : Meter) {d : ℕ} (r : Result) {s c₀ : ℕ} → Ends e P d (just main_form x) r s c₀ → d ≤ b.names
    → s ≤ b.steps → starting_cells P x + c₀ ≤ b.cells → run e P x b ≡ reaches r s (starting_cells P x + c₀)
ran_complete e P x b r {s} {c₀} D p q t =
    let h : leb (starting_cells P x) b.cells ≡ true = le-leb (starting_cells P x) b.cells (omega arith) in
    let m : Meter = record { steps = b.steps; names = b.names; cells = b.cells - starting_cells P x } in
    let m' : Meter = record { steps = b.steps - s; names = b.names; cells = b.cells - starting_cells P x - c₀ } in
    let k : apply b.steps e P main_form x m ≡ out r m' = complete e P D b.steps m m' (record { steps = omega arith; cells = omega arith; names = refl }) p (omega arith) in
    rw (h, run) (ap (counted b) k ∙ counted_is b m' r s (starting_cells P x + c₀) (omega arith) (omega arith))

ran_inv : (e : Edition) (P : Prog) (x : Obj) (b m : Meter) (r : Result) (s c : ℕ) {o : Out Obj} → m.steps ≡ b.steps → m.names ≡ b.names
    → b.cells ≡ starting_cells P x + m.cells → Explains e P 0 0 (just main_form x) m o → counted b o ≡ reaches r s c → Ran e P x b r s c
ran_inv e P x b m (object v) s c p n q (ex_object {v = v'} {m' = m'} E) u =
    let i : b.steps - m'.steps ≡ s = cc in
    let j : b.cells - m'.cells ≡ c = cc in
    let k : object v' ≡ object v = ap object (cc) in
    let h : E.s ≡ s = omega (arith, E.steps) in
    record {
      d = E.d;
      c₀ = E.c;
      names = omega (arith, E.fits);
      ends = subst₂ (λ (r : Result) (t : ℕ). Ends e P E.d (just main_form x) r t E.c) k h E.ends;
      total = omega (arith, E.cells);
      steps = omega (arith, E.steps);
      cells = omega (arith, E.cells);
    }
ran_inv e P x b m bottom s c p n q (ex_object E) u = let z : ◌≡◌ {A = ℕ} 0 1 = cc in absurd (omega arith)
ran_inv e P x b m (object v) s c p n q (ex_bottom E) u = let z : ◌≡◌ {A = ℕ} 0 1 = cc in absurd (omega arith)
ran_inv e P x b m bottom s c p n q (ex_bottom {m' = m'} E) u =
    let i : b.steps - m'.steps ≡ s = cc in
    let j : b.cells - m'.cells ≡ c = cc in
    let h : E.s ≡ s = omega (arith, E.steps) in
    record {
      d = E.d;
      c₀ = E.c;
      names = omega (arith, E.fits);
      ends = subst (λ (t : ℕ). Ends e P E.d (just main_form x) bottom t E.c) h E.ends;
      total = omega (arith, E.cells);
      steps = omega (arith, E.steps);
      cells = omega (arith, E.cells);
    }
ran_inv e P x b m (object v) s c p n q ex_out u = let z : ◌≡◌ {A = ℕ} 0 1 = cc in absurd (omega arith)
ran_inv e P x b m bottom s c p n q ex_out u = let z : ◌≡◌ {A = ℕ} 0 1 = cc in absurd (omega arith)

few : {X : Type 0} (r : Result) (s c : ℕ) → too_few ≡ reaches r s c → X
few (object v) s c u = let z : ◌≡◌ {A = ℕ} 0 1 = cc in absurd (omega arith)
few bottom s c u = let z : ◌≡◌ {A = ℕ} 0 1 = cc in absurd (omega arith)

pub ran_sound : (e : Edition) (P : Prog) (x : Obj) (b : Meter) (r : Result) (s c : ℕ) → run e P x b ≡ reaches r s c → Ran e P x b r s c
ran_sound e P x b r s c u = go (leb (starting_cells P x) b.cells) refl u
  where
    m : Meter
    m = record { steps = b.steps; names = b.names; cells = b.cells - starting_cells P x }

    go : (t : Bool) → leb (starting_cells P x) b.cells ≡ t
        → elim t as (λ (t : Bool). RunEnd) [ false ↦ too_few | true ↦ counted b (apply b.steps e P main_form x m) ] ≡ reaches r s c
        → Ran e P x b r s c
    go false h u = few r s c u
    go true h u =
        let l : starting_cells P x ≤ b.cells = leb-true (starting_cells P x) b.cells h in
        ran_inv e P x b m r s c refl refl (omega arith) (sound e P b.steps main_form x m) u
