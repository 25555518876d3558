-- Demand 3 holds: each use of a law, and so any series of uses.
use Prim.Native.Nat.{ℕ, ◌+◌, ◌≤◌}
use mathlib.Core.Path.{◌≡◌}
use mathlib.Core.Bool.{Bool, true, false}
use mathlib.Core.List.{List}
use mathlib.Core.Option.{Option, some, none}
use native.Mathlib.Omega.{arith}
use Rattle.language.specs.declared.Meter.{Meter}
use Rattle.language.specs.Bytes.{same_bytes}
use Rattle.language.specs.Objects.{Obj}
use Rattle.language.specs.Forms.{Form, Prog, program_cells}
use Rattle.language.specs.Numbers.{Edition}
use Rattle.language.specs.Evaluation.{lookup, starting_cells, run}
use Rattle.theorems.specs.Demand3.{Result, reaches, Uses, no_use, use_then, NoMore, Somehow, Demand3}
use Rattle.theorems.proofs.Congruence.{Less, Less-closed, Any, Any-closed}
use Rattle.theorems.proofs.Simulation.{Link, sim}
use Rattle.theorems.proofs.Implies.{ImpF, imp_refl}
use Rattle.theorems.proofs.Anywhere.{OneBody, this, later}
use Rattle.theorems.proofs.Refines.{RefF, one_body, no_more_cells}
use Rattle.theorems.proofs.Reached.{ran_complete, ran_sound}

-- what a name has in the two programs
data Pair : Option Form → Option Form → Type 0 where
  p_none : Pair none none
  p_some : {a b : Form} → ((e : Edition) (Q : Prog) → ImpF e Q a b) → Pair (some a) (some b)

pair_refl : (o : Option Form) → Pair o o
pair_refl none = p_none
pair_refl (some a) = p_some (λ e Q x. imp_refl e Q _)

pick_pair : (b : Bool) {o o' q q' : Option Form} → Pair o o' → Pair q q'
    → Pair (elim b as (λ (b : Bool). Option Form) [ true ↦ o | false ↦ q ]) (elim b as (λ (b : Bool). Option Form) [ true ↦ o' | false ↦ q' ])
pick_pair true p q = p
pick_pair false p q = q

pairs : {P P' : Prog} → OneBody RefF P P' → (w : List ℕ) → Pair (lookup w P) (lookup w P')
pairs (this d ds f K) w = pick_pair (same_bytes w d.called) (p_some K.imp) (pair_refl (lookup w ds))
pairs (later d B) w = pick_pair (same_bytes w d.called) (pair_refl (some d.body)) (pairs B w)

link_fwd : (e : Edition) (P Q : Prog) {o o' : Option Form} → Pair o o' → Link e P Q Less Less-closed o o'
link_fwd e P Q p_none = tt
link_fwd e P Q (p_some k) = λ x. (k e Q x).fwd

link_bwd : (e : Edition) (P Q : Prog) {o o' : Option Form} → Pair o o' → Link e P Q Any Any-closed o' o
link_bwd e P Q p_none = tt
link_bwd e P Q (p_some k) = λ x. (k e Q x).bwd

-- one use
one_fwd : (e : Edition) (P P' : Prog) → OneBody RefF P P' → program_cells P' ≤ program_cells P → (x : Obj) (b : Meter) (r : Result) (s c : ℕ)
    → run e P x b ≡ reaches r s c → NoMore e P' x b r s c
one_fwd e P P' F l x b r s c u =
    let K = ran_sound e P x b r s c u in
    let B = sim e P P' Less Less-closed (λ w. link_fwd e P P' (pairs F w)) K.ends in
    record {
      s' = B.s';
      c' = starting_cells P' x + B.c';
      answers = ran_complete e P' x b r B.ends (omega (arith, K.names, B.rel.names)) (omega (arith, K.steps, B.rel.steps)) (omega (arith, K.cells, K.total, B.rel.cells));
      steps = B.rel.steps;
      cells = omega (arith, K.total, B.rel.cells);
    }

one_bwd : (e : Edition) (P P' : Prog) → OneBody RefF P P' → (x : Obj) (b : Meter) (r : Result) (s c : ℕ) → run e P' x b ≡ reaches r s c → Somehow e P x r
one_bwd e P P' F x b r s c u =
    let K = ran_sound e P' x b r s c u in
    let B = sim e P' P Any Any-closed (λ w. link_bwd e P' P (pairs F w)) K.ends in
    let b' : Meter = record { steps = B.s'; names = B.d'; cells = starting_cells P x + B.c' } in
    record {
      budgets = b';
      s = B.s';
      c = starting_cells P x + B.c';
      answers = ran_complete e P x b' r B.ends (omega arith) (omega arith) (omega arith);
    }

-- a series
fwd : (e : Edition) {P P' : Prog} → Uses P P' → (x : Obj) (b : Meter) (r : Result) (s c : ℕ) → run e P x b ≡ reaches r s c → NoMore e P' x b r s c
fwd e no_use x b r s c u = record { s' = s; c' = c; answers = u; steps = omega arith; cells = omega arith }
fwd e (use_then {P = P} {P' = P'} l i h U) x b r s c u =
    let N = one_fwd e P P' (one_body l i P P' h) (no_more_cells l i P P' h) x b r s c u in
    let M = fwd e U x b r N.s' N.c' N.answers in
    record { s' = M.s'; c' = M.c'; answers = M.answers; steps = omega (arith, N.steps, M.steps); cells = omega (arith, N.cells, M.cells) }

bwd : (e : Edition) {P P' : Prog} → Uses P P' → (x : Obj) (b : Meter) (r : Result) (s c : ℕ) → run e P' x b ≡ reaches r s c → Somehow e P x r
bwd e no_use x b r s c u = record { budgets = b; s = s; c = c; answers = u }
bwd e (use_then {P = P} {P' = P'} l i h U) x b r s c u =
    let S = bwd e U x b r s c u in
    one_bwd e P P' (one_body l i P P' h) x S.budgets r S.s S.c S.answers

pub demand3 : Demand3
demand3 e P P' U x b r s c = (λ u. fwd e U x b r s c u, λ u. bwd e U x b r s c u)
