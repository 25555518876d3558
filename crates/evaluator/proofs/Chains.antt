-- Chains, conditions and names in the tables against the definition.
use Rattle.primitives.specs.Ends.{Ended, reached}
use Rattle.std.specs.Prelude.{Some, None, Ok, Err}
use Rattle.language.specs.declared.stops.Stopped.{Stopped}
use Rattle.primitives.specs.declared.Reached.{Reached}
use Rattle.language.specs.Charging.{stopped}
use Rattle.language.specs.declared.stops.Stop.TheVariants.{Bottom}
use Prim.Native.Nat.{ℕ, ◌+◌, ◌-◌, ◌*◌, ◌≤◌, ◌<◌}
use native.Mathlib.Omega.{arith}
use mathlib.Core.Path.{◌≡◌, refl, sym, ap, subst, ◌∙◌}
use mathlib.Core.List.{List}
use mathlib.Core.Bool.{Bool, true, false}
use mathlib.Core.Option.{Option, some}
use lib.ListN.{length}
use Rattle.language.specs.Objects.{Obj, truth_of, Truth, is_T, is_F, neither}
use Rattle.language.specs.Forms.{Form, Forms, stop, ◌&◌, ◌+&◌}
use Rattle.language.specs.Accepted.{IsName}
use Rattle.language.specs.Evaluation.{Out, value, bottom, spent, bind, close, Apply, lookup, chain_by, decide, no_name}
use Rattle.language.specs.Charging.{name_charge, name_given, with_names}
use Rattle.language.specs.declared.Meter.{Meter}
use Rattle.language.specs.declared.Val.{Val}
use Rattle.language.proofs.Charging.{Left, name_asked, name_given_lem, name_granted, name_spent, on_charge}
use Rattle.cells.specs.Cells.{free}
use Rattle.primitives.specs.Shapes.{truth_said, ReadTruth}
use Rattle.evaluator.specs.declared.waiting.Asked.{Asked}
use Rattle.linker.specs.Linked.{FormAt, none_yet, one_more, DefAt, no_def, a_def, link_at}
use Rattle.evaluator.specs.Ring.{Finished, Stops, fell, ran_out, ends_done, ends_stop}
use Rattle.std.specs.Int.{from_bool}
use Rattle.evaluator.specs.Applying.{Setting, by, At, LastAt, Given, Applied, Chained, Chosen, NameApplied, name_by, Branch, QuestionSays, says_yes, says_no, says_stop, Questioned}
use Rattle.primitives.proofs.Ending.{agree_self}
use Rattle.evaluator.proofs.Steps.{Since, since, since_refl, since_trans, gave, gave_stop, ends_since, ends_eq, stopped_eq, stopped_bind, stopped_close, given_value, given_again, given_charged, sinks_after, decide_true, decide_false, decide_none}

bind_value : (u : Out Obj) → u ≡ bind u (λ y m. value y m)
bind_value (value y m) = refl
bind_value (bottom m) = refl
bind_value (spent w m) = refl

bind_bind : (u : Out Obj) (k l : Obj → Meter → Out Obj) → bind (bind u k) l ≡ bind u (λ y m. bind (k y m) l)
bind_bind (value y m) k l = refl
bind_bind (bottom m) k l = refl
bind_bind (spent w m) k l = refl

-- the last part first, and then those before it
chain_last : (ev : Apply) (fs : Forms) (f : Form) (x : Obj) (m : Meter) → chain_by ev (fs +& (f & stop)) x m ≡ bind (ev f x m) (chain_by ev fs)
chain_last ev stop f x m = bind_value (ev f x m)
chain_last ev (g & fs) f x m = ap (λ u. bind u (λ y m₁. ev g y m₁)) (chain_last ev fs f x m) ∙ bind_bind (ev f x m) (chain_by ev fs) (λ y m₁. ev g y m₁)

-- ---- a chain
pub record ChainNow (F : List ℕ) (S : Setting) (k : ℕ) (Cs Ws : List ℕ) (top : ℕ) (m : Meter) (e : Out Obj) (C W : List ℕ) (j : ℕ) (v : Val) (n : Meter) : Type 0 where
  pub fs : Forms
  pub x : Obj
  pub parts : LastAt F S j fs
  pub given : Given F S k C W n v x
  pub since : Since Cs Ws top m C W n
  pub whole : e ≡ chain_by (by S k) fs x n

pub record Chaining (F Cs Ws : List ℕ) (top last : ℕ) (v₀ : Val) (m : Meter) (C W : List ℕ) (j : ℕ) (v : Val) (n : Meter) : Type 0 where
  pub sinks : (n.steps ≤ m.steps) × (n.names ≡ m.names)
  pub fits : j < 4294967296
  pub long_C : length C ≡ length Cs
  pub means : (S : Setting) (k : ℕ) (fs : Forms) (x : Obj) → LastAt F S last fs → Given F S k Cs Ws m v₀ x → ChainNow F S k Cs Ws top m (chain_by (by S k) fs x m) C W j v n

pub chain_start : {F C W : List ℕ} {top j : ℕ} {v : Val} {m : Meter} → j < 4294967296 → Chaining F C W top j v m C W j v m
chain_start {F} {C} {W} {top} {m = m} z = record {
  sinks = (omega arith, refl);
  fits = z;
  long_C = refl;
  means = λ S k fs x p g. record { fs = fs; x = x; parts = p; given = g; since = since_refl C W top m; whole = refl };
}

step_chain : {F Cs Ws C W C₁ W₁ : List ℕ} {top j : ℕ} {v y : Val} {m n n₁ : Meter} {e : Out Obj} {fs : Forms} {x : Obj} (S : Setting) (k : ℕ) → (j ≡ 0 → ⊥) → LastAt F S j fs → Given F S k C W n v x → Since Cs Ws top m C W n → e ≡ chain_by (by S k) fs x n → Applied F C W top j v n (reached y n₁) C₁ W₁ → ChainNow F S k Cs Ws top m e C₁ W₁ (link_at F j) y n₁
step_chain S k z (none_yet h) g s w a = absurd (z h)
step_chain {n = n} {x = x} S k z (one_more {f = f} {before = before} l fa ps q) g s w a =
    let u = gave (a.means S k f x fa g) in
    record {
      fs = before;
      x = u.obj;
      parts = ps;
      given = given_value g a.falls.0 u;
      since = since_trans s (since u);
      whole = w ∙ ap (λ h. chain_by (by S k) h x n) q ∙ chain_last (by S k) before f x n ∙ ap (λ h. bind h (chain_by (by S k) before)) u.is;
    }

pub chain_next : {F Cs Ws C W C₁ W₁ : List ℕ} {top last j j₁ : ℕ} {v₀ v : Val} {m n : Meter} {y : Reached} → (j ≡ 0 → ⊥) → Chaining F Cs Ws top last v₀ m C W j v n → Applied F C W top j v n (Ok y) C₁ W₁ → j₁ ≡ link_at F j → j₁ < 4294967296 → length C₁ ≡ length C → Chaining F Cs Ws top last v₀ m C₁ W₁ j₁ y.value y.meter
chain_next {y = y} z c b q fj lc = record {
  sinks = (omega (arith, b.falls.0, c.sinks.0), b.falls.1 ∙ c.sinks.1);
  fits = fj;
  long_C = lc ∙ c.long_C;
  means = λ S k fs x p g. let h = c.means S k fs x p g in rw q (step_chain {y = y.value} {n₁ = y.meter} S k z h.parts h.given h.since h.whole b);
}

stop_chain : {F C W C₁ W₁ : List ℕ} {top j : ℕ} {v : Val} {n : Meter} {s : Stopped} {e : Out Obj} {fs : Forms} {x : Obj} (S : Setting) (k : ℕ) → (j ≡ 0 → ⊥) → LastAt F S j fs → Given F S k C W n v x → e ≡ chain_by (by S k) fs x n → Applied F C W top j v n (Err s) C₁ W₁ → Stops e s
stop_chain S k z (none_yet h) g w a = absurd (z h)
stop_chain {n = n} {x = x} S k z (one_more {f = f} {before = before} l fa ps q) g w a =
    stopped_eq (w ∙ ap (λ h. chain_by (by S k) h x n) q ∙ chain_last (by S k) before f x n) (stopped_bind (chain_by (by S k) before) (gave_stop (a.means S k f x fa g)))

pub chain_stop : {F Cs Ws C W C₁ W₁ : List ℕ} {top last j : ℕ} {v₀ v : Val} {m n : Meter} {s : Stopped} → (j ≡ 0 → ⊥) → Chaining F Cs Ws top last v₀ m C W j v n → Applied F C W top j v n (Err s) C₁ W₁ → Chained F Cs Ws top last v₀ m (Err s) C₁ W₁
chain_stop z c a = record {
  sinks = tt;
  means = λ S k fs x p g. let h = c.means S k fs x p g in ends_stop (stop_chain S k z h.parts h.given h.whole a);
}

end_chain : {F Cs Ws C W : List ℕ} {top j : ℕ} {v : Val} {m n : Meter} {e : Out Obj} {fs : Forms} {x : Obj} (S : Setting) (k : ℕ) → j ≡ 0 → LastAt F S j fs → Given F S k C W n v x → Since Cs Ws top m C W n → e ≡ chain_by (by S k) fs x n → Finished Cs Ws top m e v n C W
end_chain {x = x} S k z (none_yet h) g s w = record { obj = x; is = w; made = record { rep = g.arg; same = s.same; room = g.room; fewer = s.fewer; long = s.long }; ring = g.ring; kept = s.kept }
end_chain S k z (one_more l fa ps q) g s w = absurd (omega arith)

pub chain_end : {F Cs Ws C W : List ℕ} {top last j : ℕ} {v₀ : Val} {m : Meter} {y : Reached} → j ≡ 0 → Chaining F Cs Ws top last v₀ m C W j y.value y.meter → Chained F Cs Ws top last v₀ m (Ok y) C W
chain_end z c = record {
  sinks = c.sinks;
  means = λ S k fs x p g. let h = c.means S k fs x p g in ends_done (end_chain S k z h.parts h.given h.since h.whole);
}

-- ---- a question, by what its value was read as
is_yes : (t : Truth) → Some true ≡ truth_said t → t ≡ is_T
is_yes is_T e = refl
is_yes is_F e = let z : ◌≡◌ {A = ℕ} 0 1 = cc in absurd (omega arith)
is_yes neither e = let z : ◌≡◌ {A = ℕ} 0 1 = cc in absurd (omega arith)

is_no : (t : Truth) → Some false ≡ truth_said t → t ≡ is_F
is_no is_T e = let z : ◌≡◌ {A = ℕ} 0 1 = cc in absurd (omega arith)
is_no is_F e = refl
is_no neither e = let z : ◌≡◌ {A = ℕ} 0 1 = cc in absurd (omega arith)

is_neither : (t : Truth) → None ≡ truth_said t → t ≡ neither
is_neither is_T e = let z : ◌≡◌ {A = ℕ} 0 1 = cc in absurd (omega arith)
is_neither is_F e = let z : ◌≡◌ {A = ℕ} 0 1 = cc in absurd (omega arith)
is_neither neither e = refl

pub ask_stop : {F C W C₁ W₁ : List ℕ} {top h : ℕ} {v : Val} {m : Meter} {s : Stopped} → Applied F C W top h v m (Err s) C₁ W₁ → Questioned F C W top h v m (Err s) C₁ W₁
ask_stop a = record { falls = tt; means = λ S k p x at gv. says_stop (λ on_T on_F. stopped_bind (λ b m₁. decide b m₁ on_T on_F) (gave_stop (a.means S k p x at gv))) }

pub ask_says : {F C W C₁ W₁ : List ℕ} {top h : ℕ} {b : Bool} {v : Val} {m : Meter} {y : Reached} → Applied F C W top h v m (Ok y) C₁ W₁ → ReadTruth y.value (Some b) → Questioned F C W top h v m (Ok (record { yes = b; meter = y.meter })) C₁ W₁
ask_says {C₁ = C₁} {b = true} {y = y} a t = record {
  falls = a.falls;
  means = λ S k p x at gv. let u = gave (a.means S k p x at gv) in says_yes {q = record { yes = true; meter = y.meter }} u (is_yes (truth_of u.obj) (t.means C₁ (free C₁ y.meter) u.obj u.made.rep)) refl;
}
ask_says {C₁ = C₁} {b = false} {y = y} a t = record {
  falls = a.falls;
  means = λ S k p x at gv. let u = gave (a.means S k p x at gv) in says_no {q = record { yes = false; meter = y.meter }} u (is_no (truth_of u.obj) (t.means C₁ (free C₁ y.meter) u.obj u.made.rep)) refl;
}

pub ask_none : {F C W C₁ W₁ : List ℕ} {top h : ℕ} {v : Val} {m : Meter} {y : Reached} → Applied F C W top h v m (Ok y) C₁ W₁ → ReadTruth y.value None → Questioned F C W top h v m (stopped Bottom y.meter) C₁ W₁
ask_none {C₁ = C₁} {y = y} a t = record {
  falls = tt;
  means = λ S k p x at gv.
      let u = gave (a.means S k p x at gv) in
      says_stop (λ on_T on_F. fell (ap (λ w. bind w (λ b m₁. decide b m₁ on_T on_F)) u.is ∙ decide_none u.obj y.meter on_T on_F (is_neither (truth_of u.obj) (t.means C₁ (free C₁ y.meter) u.obj u.made.rep))) refl (agree_self y.meter));
}

pub says_fell : {F C W C₁ W₁ : List ℕ} {top h : ℕ} {v : Val} {m : Meter} {q : Asked} → Questioned F C W top h v m (Ok q) C₁ W₁ → q.meter.steps < m.steps
says_fell a = a.falls.0

pub says_names : {F C W C₁ W₁ : List ℕ} {top h : ℕ} {v : Val} {m : Meter} {q : Asked} → Questioned F C W top h v m (Ok q) C₁ W₁ → q.meter.names ≡ m.names
says_names a = a.falls.1

pub below_says : {F C W C₁ W₁ : List ℕ} {top h : ℕ} {v : Val} {m : Meter} {q : Asked} (t : ℕ) → Questioned F C W top h v m (Ok q) C₁ W₁ → 5 * m.steps + 4 ≡ t → 5 * q.meter.steps + 1 < t
below_says t a q = omega (arith, says_fell a)

-- what the question's outcome was
pub record Said (C W : List ℕ) (top : ℕ) (m : Meter) (e : Out Obj) (t : Truth) (k : Meter) (C₁ W₁ : List ℕ) : Type 0 where
  pub val : Val
  pub done : Finished C W top m e val k C₁ W₁
  pub says : truth_of done.obj ≡ t

other_answer : {A : Type 0} {b : Bool} → b ≡ true → b ≡ false → A
other_answer e f = let z : ◌≡◌ {A = ℕ} 0 1 = cc in absurd (omega arith)

said_yes : {C W C₁ W₁ : List ℕ} {top : ℕ} {m : Meter} {q : Asked} {e : Out Obj} → q.yes ≡ true → QuestionSays C W top m e C₁ W₁ (Ok q) → Said C W top m e is_T q.meter C₁ W₁
said_yes z (says_yes {v = v} u t y) = record { val = v; done = u; says = t }
said_yes z (says_no u t y) = other_answer z y

said_no : {C W C₁ W₁ : List ℕ} {top : ℕ} {m : Meter} {q : Asked} {e : Out Obj} → q.yes ≡ false → QuestionSays C W top m e C₁ W₁ (Ok q) → Said C W top m e is_F q.meter C₁ W₁
said_no z (says_no {v = v} u t y) = record { val = v; done = u; says = t }
said_no z (says_yes u t y) = other_answer y z

said_stop : {C W C₁ W₁ : List ℕ} {top : ℕ} {m : Meter} {s : Stopped} {e : Out Obj} → QuestionSays C W top m e C₁ W₁ (Err s) → (on_T on_F : Meter → Out Obj) → Stops (bind e (λ b m₁. decide b m₁ on_T on_F)) s
said_stop (says_stop s) = s

-- the three ways that a question goes
pub on_yes : {F C W C₁ W₁ : List ℕ} {top h : ℕ} {v : Val} {m : Meter} {q : Asked} {p : Form} {x : Obj} (S : Setting) (k : ℕ) → Questioned F C W top h v m (Ok q) C₁ W₁ → q.yes ≡ true → At F S h p → Given F S k C W m v x → Said C W top m (by S k p x m) is_T q.meter C₁ W₁
on_yes {p = p} {x} S k a z at gv = said_yes z (a.means S k p x at gv)

pub on_no : {F C W C₁ W₁ : List ℕ} {top h : ℕ} {v : Val} {m : Meter} {q : Asked} {p : Form} {x : Obj} (S : Setting) (k : ℕ) → Questioned F C W top h v m (Ok q) C₁ W₁ → q.yes ≡ false → At F S h p → Given F S k C W m v x → Said C W top m (by S k p x m) is_F q.meter C₁ W₁
on_no {p = p} {x} S k a z at gv = said_no z (a.means S k p x at gv)

pub on_stop : {F C W C₁ W₁ : List ℕ} {top h : ℕ} {v : Val} {m : Meter} {s : Stopped} {p : Form} {x : Obj} (S : Setting) (k : ℕ) → Questioned F C W top h v m (Err s) C₁ W₁ → At F S h p → Given F S k C W m v x → (on_T on_F : Meter → Out Obj) → Stops (bind (by S k p x m) (λ b m₁. decide b m₁ on_T on_F)) s
on_stop {p = p} {x} S k a at gv = said_stop (a.means S k p x at gv)

pub decided_yes : {C W C₁ W₁ : List ℕ} {top : ℕ} {m n : Meter} {e : Out Obj} (on_T on_F : Meter → Out Obj) → Said C W top m e is_T n C₁ W₁ → bind e (λ b m₁. decide b m₁ on_T on_F) ≡ on_T n
decided_yes {n = n} on_T on_F u = ap (λ w. bind w (λ b m₁. decide b m₁ on_T on_F)) u.done.is ∙ decide_true u.done.obj n on_T on_F u.says

pub decided_no : {C W C₁ W₁ : List ℕ} {top : ℕ} {m n : Meter} {e : Out Obj} (on_T on_F : Meter → Out Obj) → Said C W top m e is_F n C₁ W₁ → bind e (λ b m₁. decide b m₁ on_T on_F) ≡ on_F n
decided_no {n = n} on_T on_F u = ap (λ w. bind w (λ b m₁. decide b m₁ on_T on_F)) u.done.is ∙ decide_false u.done.obj n on_T on_F u.says

-- ---- a condition
pub cond_stop : {F C W C₁ W₁ : List ℕ} {top h : ℕ} {v : Val} {m : Meter} {s : Stopped} → Questioned F C W top h v m (Err s) C₁ W₁ → Chosen F C W top h v m (Err s) C₁ W₁
cond_stop a = record { sinks = tt; means = λ S k p f g x at ft gt gv. ends_stop (on_stop S k a at gv (by S k f x) (by S k g x)) }

cond_true : {F C W C₁ W₁ C₂ W₂ : List ℕ} {top h j : ℕ} {v : Val} {m : Meter} {q : Asked} {r₂ : Ended} → Questioned F C W top h v m (Ok q) C₁ W₁ → q.yes ≡ true → j ≡ link_at F h → Applied F C₁ W₁ top j v q.meter r₂ C₂ W₂ → Chosen F C W top h v m r₂ C₂ W₂
cond_true {m = m} {q} {r₂ = r₂} a y z b = record {
  sinks = sinks_after r₂ m q.meter b.falls (says_fell a, says_names a);
  means = λ S k p f g x at ft gt gv.
      let u = on_yes S k a y at gv in
      ends_eq (decided_yes (by S k f x) (by S k g x) u) (ends_since (since u.done) (b.means S k f x (rw z ft) (given_again gv (says_fell a) u.done)));
}

cond_false : {F C W C₁ W₁ C₂ W₂ : List ℕ} {top h j : ℕ} {v : Val} {m : Meter} {q : Asked} {r₂ : Ended} → Questioned F C W top h v m (Ok q) C₁ W₁ → q.yes ≡ false → j ≡ link_at F (link_at F h) → Applied F C₁ W₁ top j v q.meter r₂ C₂ W₂ → Chosen F C W top h v m r₂ C₂ W₂
cond_false {m = m} {q} {r₂ = r₂} a y z b = record {
  sinks = sinks_after r₂ m q.meter b.falls (says_fell a, says_names a);
  means = λ S k p f g x at ft gt gv.
      let u = on_no S k a y at gv in
      ends_eq (decided_no (by S k f x) (by S k g x) u) (ends_since (since u.done) (b.means S k g x (rw z gt) (given_again gv (says_fell a) u.done)));
}

pub cond_done : {F C W C₁ W₁ C₂ W₂ : List ℕ} {top h j n : ℕ} {v : Val} {m : Meter} {q : Asked} {r₂ : Ended} → Questioned F C W top h v m (Ok q) C₁ W₁ → n ≡ from_bool q.yes → Branch F h n j → Applied F C₁ W₁ top j v q.meter r₂ C₂ W₂ → Chosen F C W top h v m r₂ C₂ W₂
cond_done {F} {C} {W} {C₂ = C₂} {W₂} {top} {h} {n = n} {v} {m} {q} {r₂} a y z b = go q.yes refl
  where
    go : (t : Bool) → q.yes ≡ t → Chosen F C W top h v m r₂ C₂ W₂
    go true e =
        let w : n ≡ 1 = y ∙ ap from_bool e in
        cond_true a e (z.on_true (λ x. let u : n ≡ 0 = x in absurd (omega (arith, w, u)))) b
    go false e = cond_false a e (z.on_false (y ∙ ap from_bool e)) b

-- ---- a name
none_named : {F C : List ℕ} {n d : ℕ} {root : List ℕ → ℕ} {b : Option Form} (ev : Apply) (x : Obj) (m : Meter) → d ≡ 0 → DefAt F C n root d b → name_by ev b x m ≡ bottom m
none_named ev x m z (no_def e) = refl
none_named ev x m z (a_def {i = i} e f) = absurd (omega arith)

pub name_none : {F C W : List ℕ} {top d : ℕ} {v : Val} {m : Meter} → d ≡ 0 → NameApplied F C W top d v m (stopped Bottom m) C W
name_none {m = m} z = record { sinks = tt; means = λ S k w x nm q gv. ends_stop (fell (none_named (by S k) x m (sym q ∙ z) (gv.defs w nm)) refl (agree_self m)) }

-- a defined name is asked for, and then its body
body_asked : {b : Option Form} (ev : Apply) (f : Form) (x : Obj) (m : Meter) → b ≡ some f → name_by ev b x m ≡ on_charge (name_charge m) no_name (λ m₁. close m.names (ev f x m₁))
body_asked ev f x m e = ap (λ u. name_by ev u x m) e ∙ name_asked m (λ m₁. ev f x m₁)

-- the form that a name stands for
pub record Body (F : List ℕ) (S : Setting) (w : List ℕ) (d : ℕ) : Type 0 where
  pub form : Form
  pub is : lookup w S.prog ≡ some form
  pub at : At F S (d - 1) form

body_of : {F C : List ℕ} {n d : ℕ} {root : List ℕ → ℕ} {b : Option Form} → (d ≡ 0 → ⊥) → DefAt F C n root d b → (f : Form) × (b ≡ some f) × FormAt F C n root (d - 1) f
body_of z (no_def e) = absurd (z e)
body_of {d = d} z (a_def {i = i} {f = f} e a) = let q : d - 1 ≡ i = omega arith in (f, refl, rw q a)

body : {F C W : List ℕ} {S : Setting} {k d : ℕ} {v : Val} {m : Meter} {x : Obj} (w : List ℕ) → IsName w → (d ≡ 0 → ⊥) → d ≡ S.root w → Given F S k C W m v x → Body F S w d
body {F} {S = S} w nm z q gv =
    let b = body_of (λ e. z (q ∙ e)) (gv.defs w nm) in
    record { form = b.0; is = b.1; at = subst (λ (j : ℕ). At F S (j - 1) b.0) (sym q) b.2 }

pub name_full : {F C W : List ℕ} {top d : ℕ} {v : Val} {m : Meter} {s : Stopped} → (d ≡ 0 → ⊥) → Err s ≡ name_charge m → NameApplied F C W top d v m (Err s) C W
name_full {m = m} {s} z a = record {
  sinks = tt;
  means = λ S k w x nm q gv. let y = body w nm z q gv in
      ends_stop (ran_out (body_asked (by S k) y.form x m y.is ∙ ap (λ u. on_charge u no_name (λ m₁. close m.names (by S k y.form x m₁))) (sym a)) (sym (ap (λ u. u.why) (name_spent m (sym a)).1)) (agree_self s.meter));
}

pub name_stop : {F C W C₁ W₁ : List ℕ} {top d : ℕ} {v : Val} {m m₁ : Meter} {s : Stopped} → (d ≡ 0 → ⊥) → Ok m₁ ≡ name_charge m → Applied F C W top (d - 1) v m₁ (Err s) C₁ W₁ → NameApplied F C W top d v m (Err s) C₁ W₁
name_stop {m = m} {m₁} z a p = record {
  sinks = tt;
  means = λ S k w x nm q gv. let y = body w nm z q gv in
      let c = name_granted m (sym a) in
      ends_stop (stopped_eq (body_asked (by S k) y.form x m y.is ∙ ap (λ u. on_charge u no_name (λ m₁. close m.names (by S k y.form x m₁))) (sym a))
      (stopped_close m.names (gave_stop (p.means S k y.form x y.at (given_charged 0 1 k c (omega arith) gv)))));
}

-- where a name was opened, a body that ended leaves room to close it
pub may_close : (m : Meter) {F C W C₁ W₁ : List ℕ} {top i : ℕ} {v : Val} {m₁ : Meter} {y : Reached} → Applied F C W top i v m₁ (Ok y) C₁ W₁ → Ok m₁ ≡ name_charge m → m.names < 4294967296 → y.meter.names < 4294967295
may_close m p a l = omega (arith, p.falls.1, (name_granted m (sym a)).names)

-- the names are as before once the name is closed
closed_body : {C W C₁ W₁ : List ℕ} {top : ℕ} {y : Val} {m m₁ n n₁ : Meter} {e e₁ : Out Obj} → e ≡ close m.names e₁ → Left m m₁ 0 1 0 → n.names ≡ m₁.names → n₁ ≡ name_given n → Finished C W top m₁ e₁ y n C₁ W₁ → Finished C W top m e y n₁ C₁ W₁
closed_body {C} {C₁ = C₁} {m = m} {m₁} {n} q c ns z u =
    let w : name_given n ≡ with_names m.names n = name_given_lem m.names n (omega (arith, c.names)) in
    let f : free C m ≡ free C m₁ = omega (arith, c.cells) in
    let k : m₁.cells ≡ m.cells = omega (arith, c.cells) in
    rw (z, w) (record {
      obj = u.obj;
      is = q ∙ ap (λ h. close m.names h) u.is;
      made = record { rep = u.made.rep; same = rw f u.made.same; room = record { fits = u.made.room.fits; small = u.made.room.small }; fewer = omega (arith, u.made.fewer); long = u.made.long };
      ring = u.ring;
      kept = record { keep = λ d h s. u.kept.keep d h (omega arith) };
    })

pub name_done : {F C W C₁ W₁ : List ℕ} {top d : ℕ} {v : Val} {m m₁ n₁ : Meter} {r : Reached} → (d ≡ 0 → ⊥) → Ok m₁ ≡ name_charge m → Applied F C W top (d - 1) v m₁ (Ok r) C₁ W₁ → n₁ ≡ name_given r.meter → NameApplied F C W top d v m (Ok (record { value = r.value; meter = n₁ })) C₁ W₁
name_done {m = m} {m₁} {n₁} {r} z a p cl =
    let c = name_granted m (sym a) in
    record {
      sinks = (omega (arith, p.falls.0, c.steps, ap (λ u. u.steps) cl), omega (arith, p.falls.1, c.names, ap (λ u. u.names) cl));
      means = λ S k w x nm q gv. let y = body w nm z q gv in
          ends_done {r = record { value = r.value; meter = n₁ }} (closed_body (body_asked (by S k) y.form x m y.is ∙ ap (λ u. on_charge u no_name (λ m₁. close m.names (by S k y.form x m₁))) (sym a)) c p.falls.1 cl
          (gave (p.means S k y.form x y.at (given_charged 0 1 k c (omega arith) gv))));
    }
