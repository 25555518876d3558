-- A while in the tables against the definition.
use Rattle.std.specs.Prelude.{Ok, Err}
use Rattle.language.specs.declared.stops.Stopped.{Stopped}
use Rattle.primitives.specs.declared.Reached.{Reached}
use Prim.Native.Nat.{ℕ, zero, suc, ◌+◌, ◌*◌, ◌≤◌, ◌<◌}
use native.Mathlib.Omega.{arith}
use mathlib.Core.Path.{◌≡◌, refl, sym, ap, ◌∙◌}
use mathlib.Core.List.{List}
use lib.ListN.{length}
use mathlib.Core.Bool.{true, false, not}
use borrow.Author.Tests.{not-true, not-false}
use Rattle.language.specs.Objects.{Obj}
use Rattle.language.specs.Forms.{Form}
use Rattle.language.specs.Numbers.{one}
use Rattle.language.specs.declared.Meter.{Meter}
use Rattle.language.specs.declared.Val.{Val}
use Rattle.evaluator.specs.Ring.{Stops, ends_done, ends_stop}
use Rattle.language.specs.Evaluation.{Out, value, spent, bind, decide, while_by, inside, no_step}
use Rattle.evaluator.specs.declared.waiting.Asked.{Asked}
use Rattle.linker.specs.Linked.{link_at}
use Rattle.evaluator.specs.Applying.{Setting, by, At, Given, Applied, Repeated, Questioned}
use Rattle.evaluator.proofs.Steps.{Since, since, since_refl, since_trans, gave, gave_stop, stopped_eq, stopped_bind, given_value, given_again, fell_by}
use Rattle.evaluator.proofs.Chains.{says_fell, says_names, on_yes, on_no, on_stop, decided_yes, decided_no}

pub record RepeatNow (F : List ℕ) (S : Setting) (k : ℕ) (Cs Ws : List ℕ) (top : ℕ) (m : Meter) (p f : Form) (e : Out Obj) (C W : List ℕ) (v : Val) (n : Meter) : Type 0 where
  pub j : ℕ
  pub x : Obj
  pub given : Given F S k C W n v x
  pub since : Since Cs Ws top m C W n
  pub low : n.steps ≤ j
  pub whole : e ≡ while_by (by S k) j p f x n

pub record Repeating (F Cs Ws : List ℕ) (top h : ℕ) (v₀ : Val) (m : Meter) (C W : List ℕ) (v : Val) (n : Meter) : Type 0 where
  pub sinks : (n.steps ≤ m.steps) × (n.names ≡ m.names)
  pub long_C : length C ≡ length Cs
  pub means : (S : Setting) (k : ℕ) (p f : Form) (x : Obj) → At F S h p → At F S (link_at F h) f → Given F S k Cs Ws m v₀ x → RepeatNow F S k Cs Ws top m p f (while_by (by S k) k p f x m) C W v n

pub repeat_start : {F C W : List ℕ} {top h : ℕ} {v : Val} {m : Meter} → Repeating F C W top h v m C W v m
repeat_start {C = C} {W} {top} {m = m} = record {
  sinks = (omega arith, refl);
  long_C = refl;
  means = λ S k p f x pa fa g. record { j = k; x = x; given = g; since = since_refl C W top m; low = g.fuel; whole = refl };
}

-- what a turn does with what the question says
abbrev on_T : Setting → ℕ → ℕ → Form → Form → Obj → Meter → Out Obj
on_T S k i p f x m₂ = bind (by S k f x m₂) (λ y m₃. while_by (by S k) i p f y m₃)

-- a turn where a step is left
turned : (j k : ℕ) (S : Setting) (p f : Form) (x : Obj) (n : Meter) → n.steps ≤ j → 0 < n.steps → (i : ℕ) × (n.steps ≤ suc i) × (while_by (by S k) j p f x n ≡ bind (by S k p x n) (λ b m₁. decide b m₁ (on_T S k i p f x) (λ m₂. value x m₂)))
turned zero k S p f x n l h = absurd (omega arith)
turned (suc i) k S p f x n l h = (i, l, refl)

-- without a step every application ends as a while without a turn
dry : (k : ℕ) (S : Setting) (f : Form) (x : Obj) (m : Meter) → m.steps ≡ 0 → by S k f x m ≡ spent no_step m
dry zero S f x m h = refl
dry (suc k) S f x m h = ap (λ (s : ℕ). elim s [ zero ↦ spent no_step m | suc t ↦ inside (by S k) k one S.prog f x (record { steps = t; names = m.names; cells = m.cells }) ]) h

stop_turn : (j k : ℕ) (S : Setting) (p f : Form) (x : Obj) (n : Meter) {s : Stopped} → n.steps ≤ j → ((on_T on_F : Meter → Out Obj) → Stops (bind (by S k p x n) (λ b m₁. decide b m₁ on_T on_F)) s) → Stops (while_by (by S k) j p f x n) s
stop_turn zero k S p f x n l s = stopped_eq (sym (ap (λ w. bind w (λ b m₁. decide b m₁ (λ m₂. value x m₂) (λ m₂. value x m₂))) (dry k S p x n (omega arith)))) (s (λ m₂. value x m₂) (λ m₂. value x m₂))
stop_turn (suc i) k S p f x n l s = s (on_T S k i p f x) (λ m₂. value x m₂)

pub repeat_stop : {F Cs Ws C W C₁ W₁ : List ℕ} {top h : ℕ} {v₀ v : Val} {m n : Meter} {s : Stopped} → Repeating F Cs Ws top h v₀ m C W v n → Questioned F C W top h v n (Err s) C₁ W₁ → Repeated F Cs Ws top h v₀ m (Err s) C₁ W₁
repeat_stop {n = n} c b = record {
  sinks = tt;
  means = λ S k p f x pa fa g. let t = c.means S k p f x pa fa g in
      ends_stop (stopped_eq t.whole (stop_turn t.j k S p f t.x n t.low (on_stop S k b pa t.given)));
}

pub repeat_done : {F Cs Ws C W C₁ W₁ : List ℕ} {top h : ℕ} {v₀ v : Val} {m n : Meter} {q : Asked} → Repeating F Cs Ws top h v₀ m C W v n → Questioned F C W top h v n (Ok q) C₁ W₁ → not q.yes ≡ true → Repeated F Cs Ws top h v₀ m (Ok (record { value = v; meter = q.meter })) C₁ W₁
repeat_done {v = v} {n = n} {q} c b y = record {
  sinks = (omega (arith, says_fell b, c.sinks.0), says_names b ∙ c.sinks.1);
  means = λ S k p f x pa fa g. let t = c.means S k p f x pa fa g in
      let u = on_no S k b (not-true q.yes y) pa t.given in
      let w = turned t.j k S p f t.x n t.low (omega (arith, says_fell b)) in
      let s = since_trans t.since (since u.done) in
      let a = given_again t.given (says_fell b) u.done in
      ends_done {r = record { value = v; meter = q.meter }} (record { obj = t.x; is = t.whole ∙ w.2 ∙ decided_no (on_T S k w.0 p f t.x) (λ m₂. value t.x m₂) u; made = record { rep = a.arg; same = s.same; room = a.room; fewer = s.fewer; long = s.long }; ring = a.ring; kept = s.kept });
}

-- the question said T, and then f
module _ {F Cs Ws C W C₁ W₁ C₂ W₂ : List ℕ} {top h g : ℕ} {v₀ v : Val} {m n : Meter} {said : Asked} (q : g ≡ link_at F h) (c : Repeating F Cs Ws top h v₀ m C W v n) (b : Questioned F C W top h v n (Ok said) C₁ W₁) (z : not said.yes ≡ false) where
  pub repeat_stop_2 : {s : Stopped} → Applied F C₁ W₁ top g v said.meter (Err s) C₂ W₂ → Repeated F Cs Ws top h v₀ m (Err s) C₂ W₂
  repeat_stop_2 d = record {
    sinks = tt;
    means = λ S k p f x pa fa gv. let t = c.means S k p f x pa fa gv in
        let u = on_yes S k b (not-false said.yes z) pa t.given in
        let w = turned t.j k S p f t.x n t.low (omega (arith, says_fell b)) in
        let s = gave_stop (d.means S k f t.x (rw q fa) (given_again t.given (says_fell b) u.done)) in
        ends_stop (stopped_eq (t.whole ∙ w.2 ∙ decided_yes (on_T S k w.0 p f t.x) (λ m₂. value t.x m₂) u) (stopped_bind (λ y m₃. while_by (by S k) w.0 p f y m₃) s));
  }

  pub repeat_less : {y₂ : Reached} → Applied F C₁ W₁ top g v said.meter (Ok y₂) C₂ W₂ → y₂.meter.steps < n.steps
  repeat_less d = omega (arith, says_fell b, fell_by d)

  pub repeat_next : {y₂ : Reached} → Applied F C₁ W₁ top g v said.meter (Ok y₂) C₂ W₂ → length C₁ ≡ length C → length C₂ ≡ length C₁ → Repeating F Cs Ws top h v₀ m C₂ W₂ y₂.value y₂.meter
  repeat_next {y₂} d l1 l2 = record {
    sinks = (omega (arith, says_fell b, d.falls.0, c.sinks.0), d.falls.1 ∙ says_names b ∙ c.sinks.1);
    long_C = l2 ∙ l1 ∙ c.long_C;
    means = λ S k p f x pa fa gv. let t = c.means S k p f x pa fa gv in
        let u = on_yes S k b (not-false said.yes z) pa t.given in
        let w = turned t.j k S p f t.x n t.low (omega (arith, says_fell b)) in
        let ga = given_again t.given (says_fell b) u.done in
        let s = gave (d.means S k f t.x (rw q fa) ga) in
        record {
          j = w.0;
          x = s.obj;
          given = given_value ga d.falls.0 s;
          since = since_trans t.since (since_trans (since u.done) (since s));
          low = omega (arith, w.1, says_fell b, d.falls.0);
          whole = t.whole ∙ w.2 ∙ decided_yes (on_T S k w.0 p f t.x) (λ m₂. value t.x m₂) u ∙ ap (λ a. bind a (λ y m₃. while_by (by S k) w.0 p f y m₃)) s.is;
        };
  }

pub below_turn : {F Cs Ws C W C₁ W₁ : List ℕ} {top h : ℕ} {v₀ v : Val} {m n : Meter} {q : Asked} (t : ℕ) → Repeating F Cs Ws top h v₀ m C W v n → Questioned F C W top h v n (Ok q) C₁ W₁ → 5 * m.steps + 4 ≡ t → 5 * q.meter.steps + 1 < t
below_turn t c b e = omega (arith, says_fell b, c.sinks.0)
