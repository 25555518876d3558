-- An application by its kind, and a whole run, in the tables against the definition.
use Rattle.std.specs.Prelude.{Ok, Err}
use Rattle.language.specs.declared.stops.Stopped.{Stopped}
use Prim.Native.Nat.{ℕ, zero, suc, ◌+◌, ◌≤◌, ◌<◌, ◌%◌}
use native.Mathlib.Omega.{arith}
use mathlib.Core.Path.{◌≡◌, refl, sym, ap, subst, ◌∙◌}
use mathlib.Core.List.{List}
use lib.ListN.{length}
use Rattle.language.specs.Objects.{Obj}
use Rattle.language.specs.Forms.{select, select_right, Form}
use Rattle.language.specs.Numbers.{one}
use Rattle.language.specs.declared.Meter.{Meter}
use Rattle.language.specs.declared.Val.{Val}
use Rattle.evaluator.specs.Ring.{fell, ran_out, Ends, ends_done, ends_stop}
use Rattle.language.specs.Bytes.{bytes}
use Rattle.language.specs.Forms.{main_form}
use Rattle.language.specs.Accepted.{IsName}
use Rattle.language.specs.Meanings.{meaning}
use Rattle.language.specs.Evaluation.{Out, value, spent, charged, inside, no_step}
use Rattle.language.specs.Charging.{step_charge}
use Rattle.language.proofs.Charging.{Left, step_asked, step_granted, step_spent, on_charge}
use Rattle.tables.specs.Tables.{field}
use Rattle.cells.specs.Cells.{Rep, free}
use Rattle.cells.proofs.Reps.{same_refl, rep_ext}
use Rattle.primitives.specs.Ends.{Ended, reached, Gives, gives_value, gives_bottom, gives_spent, Leaf, Sinks}
use Rattle.linker.specs.Linked.{FormIs, is_op, is_select, is_select_right, is_name, is_chain, is_construct, is_insert, is_all, is_condition, is_while, is_constant, is_bu, form_at, linked_kind_at, constant_at}
use Rattle.evaluator.specs.Applying.{Setting, by, At, Given, Alone, a_word, a_select, a_select_right, a_constant, no_kind, Applied, Falls, Chained, Constructed, Mapped, Inserted, Bound, Chosen, Repeated, NameApplied, FormsCopied, Ran}
use Rattle.primitives.specs.Leaves.{Coded}
use Rattle.evaluator.proofs.Copies.{def_copied}
use Rattle.primitives.proofs.Ending.{agree_self}
use Rattle.evaluator.proofs.Steps.{since_step, ends_since, ends_eq, gives_eq, kept_refl, given_charged}

-- the number is no kind of a form with parts, and no name's
pub record Bare (κ : ℕ) : Type 0 where
  pub not4 : κ ≡ 4 → ⊥
  pub not5 : κ ≡ 5 → ⊥
  pub not6 : κ ≡ 6 → ⊥
  pub not7 : κ ≡ 7 → ⊥
  pub not8 : κ ≡ 8 → ⊥
  pub not9 : κ ≡ 9 → ⊥
  pub not10 : κ ≡ 10 → ⊥
  pub not16 : κ ≡ 16 → ⊥

-- what was done at each kind
pub data Dispatched (F C W : List ℕ) (top i : ℕ) (v : Val) (m : Meter) : ℕ → Ended → List ℕ → List ℕ → Type 0 where
  on_word : {r : Ended} {C₁ : List ℕ} → Alone F C i v m 1 r C₁ → Dispatched F C W top i v m 1 r C₁ W
  on_leaf : {κ : ℕ} {r : Ended} {C₁ : List ℕ} → Bare κ → Alone F C i v m κ r C₁ → Dispatched F C W top i v m κ r C₁ W
  on_name : {d : ℕ} {r : Ended} {C₁ W₁ : List ℕ} → d ≡ field F i 1 → NameApplied F C W top d v m r C₁ W₁ → Dispatched F C W top i v m 4 r C₁ W₁
  on_chain : {j : ℕ} {r : Ended} {C₁ W₁ : List ℕ} → j ≡ field F i 2 → Chained F C W top j v m r C₁ W₁ → Dispatched F C W top i v m 5 r C₁ W₁
  on_construct : {h many : ℕ} {r : Ended} {C₁ W₁ : List ℕ} → h ≡ (i + 1) % 4294967296 → many ≡ field F i 1 → Constructed F C W top h many v m r C₁ W₁ → Dispatched F C W top i v m 6 r C₁ W₁
  on_insert : {h : ℕ} {r : Ended} {C₁ W₁ : List ℕ} → h ≡ (i + 1) % 4294967296 → Inserted F C W top h v m r C₁ W₁ → Dispatched F C W top i v m 7 r C₁ W₁
  on_all : {h : ℕ} {r : Ended} {C₁ W₁ : List ℕ} → h ≡ (i + 1) % 4294967296 → Mapped F C W top h v m r C₁ W₁ → Dispatched F C W top i v m 8 r C₁ W₁
  on_condition : {h : ℕ} {r : Ended} {C₁ W₁ : List ℕ} → h ≡ (i + 1) % 4294967296 → Chosen F C W top h v m r C₁ W₁ → Dispatched F C W top i v m 9 r C₁ W₁
  on_while : {h : ℕ} {r : Ended} {C₁ W₁ : List ℕ} → h ≡ (i + 1) % 4294967296 → Repeated F C W top h v m r C₁ W₁ → Dispatched F C W top i v m 10 r C₁ W₁
  on_bu : {h : ℕ} {a : Val} {r : Ended} {C₁ W₁ : List ℕ} → h ≡ (i + 1) % 4294967296 → a ≡ constant_at F i → Bound F C W top h a v m r C₁ W₁ → Dispatched F C W top i v m 16 r C₁ W₁

-- a word ends without the ring
leaf_ends : {C C₁ : List ℕ} (W : List ℕ) (top : ℕ) {m : Meter} {e : Out Obj} (r : Ended) → length W ≡ 16384 → Gives C m C₁ e r → Ends C W top m e C₁ W r
leaf_ends W top {m} (Ok r) w (gives_value {x = x} g) = ends_done (record { obj = x; is = refl; made = g; ring = w; kept = kept_refl W top m.cells r.meter.cells })
leaf_ends W top (Err s) w (gives_bottom z a) = ends_stop (fell refl z a)
leaf_ends W top (Err s) w (gives_spent z a) = ends_stop (ran_out refl z a)

leaf : {F C W C₁ : List ℕ} {S : Setting} {k : ℕ} (top : ℕ) {v : Val} {m : Meter} {x : Obj} (r : Ended) {w : _} → Leaf C v m w r C₁ → Given F S k C W m v x → Ends C W top m (charged (meaning one w x) m) C₁ W r
leaf {W = W} top {x = x} r l g = leaf_ends W top r g.ring (l.means x g.room g.arg)

constant_here : {F C W : List ℕ} {S : Setting} {k : ℕ} (top : ℕ) {v u : Val} {m : Meter} {x y : Obj} → Given F S k C W m v x → Rep S.cells S.few u y → Ends C W top m (value y m) C W (reached u m)
constant_here {C = C} {W} top {u = u} {m} {y = y} g p = ends_done {r = record { value = u; meter = m }} (record {
  obj = y;
  is = refl;
  made = record { rep = rep_ext g.still g.low p; same = same_refl C (free C m); room = g.room; fewer = omega arith; long = refl };
  ring = g.ring;
  kept = kept_refl W top m.cells m.cells;
})

-- a form with no parts
alone : {F C W C₁ : List ℕ} {κ top i : ℕ} {S : Setting} {k : ℕ} {v : Val} {m : Meter} {f : Form} {x : Obj} (r : Ended) → Bare κ → FormIs F S.cells S.few S.root κ i f → Alone F C i v m κ r C₁ → Given F S k C W m v x → Ends C W top m (inside (by S k) k one S.prog f x m) C₁ W r
alone {top = top} r h (is_op {o = o} p) (a_word l) g = leaf top r (l.means o (sym p)) g
alone {C = C} {top = top} {v = v} {m = m} r h (is_select p) (a_select l) g = leaf top r (subst (λ (j : ℕ). Leaf C v m (select j) r C) p l) g
alone {C = C} {top = top} {v = v} {m = m} r h (is_select_right p) (a_select_right l) g = leaf top r (subst (λ (j : ℕ). Leaf C v m (select_right j) r C) p l) g
alone {top = top} r h (is_constant p) a_constant g = constant_here top g p
alone r h (is_op p) (no_kind n1 n2 n3 n12) g = absurd (n1 refl)
alone r h (is_select p) (no_kind n1 n2 n3 n12) g = absurd (n2 refl)
alone r h (is_select_right p) (no_kind n1 n2 n3 n12) g = absurd (n3 refl)
alone r h (is_constant p) (no_kind n1 n2 n3 n12) g = absurd (n12 refl)
alone r h (is_name n p) a g = absurd (h.not4 refl)
alone r h (is_chain p) a g = absurd (h.not5 refl)
alone r h (is_construct e p) a g = absurd (h.not6 refl)
alone r h (is_insert p) a g = absurd (h.not7 refl)
alone r h (is_all p) a g = absurd (h.not8 refl)
alone r h (is_condition a a₁ a₂) z g = absurd (h.not9 refl)
alone r h (is_while a a₁) z g = absurd (h.not10 refl)
alone r h (is_bu p p₁) z g = absurd (h.not16 refl)

-- the kind of words is bare
bare_word : Bare 1
bare_word = record { not4 = λ e. absurd (omega arith); not5 = λ e. absurd (omega arith); not6 = λ e. absurd (omega arith); not7 = λ e. absurd (omega arith); not8 = λ e. absurd (omega arith); not9 = λ e. absurd (omega arith); not10 = λ e. absurd (omega arith); not16 = λ e. absurd (omega arith) }

-- the first part's record
behind : (i h : ℕ) → i < 2048 → h ≡ (i + 1) % 4294967296 → i + 1 ≡ h
behind i h l e = omega arith

dispatch : {F C W C₁ W₁ : List ℕ} {κ top i : ℕ} {v : Val} {m : Meter} {f : Form} {x : Obj} {r : Ended} (S : Setting) (k : ℕ) → i < 2048 → FormIs F S.cells S.few S.root κ i f → Dispatched F C W top i v m κ r C₁ W₁ → Given F S k C W m v x → Ends C W top m (inside (by S k) k one S.prog f x m) C₁ W₁ r
dispatch {r = r} S k b p (on_word a) g = alone r bare_word p a g
dispatch {r = r} S k b p (on_leaf h a) g = alone r h p a g
dispatch {x = x} S k b (is_name {w = w} n p) (on_name q c) g = c.means S k w x n (q ∙ p) g
dispatch {x = x} S k b (is_chain {fs = fs} p) (on_chain q c) g = c.means S k fs x (rw q p) g
dispatch {i = i} {x = x} S k b (is_construct {fs = fs} e p) (on_construct {h = h} q z c) g = c.means S k fs x (e ∙ sym z) (rw (behind i h b q) at p) g
dispatch {i = i} {x = x} S k b (is_insert {f = f} p) (on_insert {h = h} q c) g = c.means S k f x (rw (behind i h b q) at p) g
dispatch {i = i} {x = x} S k b (is_all {f = f} p) (on_all {h = h} q c) g = c.means S k f x (rw (behind i h b q) at p) g
dispatch {i = i} {x = x} S k b (is_condition {p = p} {f = f} {g = f₂} a a₁ a₂) (on_condition {h = h} q c) g = c.means S k p f f₂ x (rw (behind i h b q) at a) (rw (behind i h b q) at a₁) (rw (behind i h b q) at a₂) g
dispatch {i = i} {x = x} S k b (is_while {p = p} {f = f} a a₁) (on_while {h = h} q c) g = c.means S k p f x (rw (behind i h b q) at a) (rw (behind i h b q) at a₁) g
dispatch {i = i} {x = x} S k b (is_bu {f = f} {x = y} p p₁) (on_bu {h = h} q z c) g = c.means S k f y x (rw (behind i h b q) at p) (rw z p₁) g

alone_sinks : {F C C₁ : List ℕ} {κ i : ℕ} {v : Val} {m : Meter} (r : Ended) → Alone F C i v m κ r C₁ → Sinks r m
alone_sinks r (a_word l) = l.sinks
alone_sinks r (a_select l) = l.sinks
alone_sinks r (a_select_right l) = l.sinks
alone_sinks r a_constant = (omega arith, refl)
alone_sinks r (no_kind n1 n2 n3 n12) = tt

dispatch_sinks : {F C W C₁ W₁ : List ℕ} {κ top i : ℕ} {v : Val} {m : Meter} (r : Ended) → Dispatched F C W top i v m κ r C₁ W₁ → Sinks r m
dispatch_sinks r (on_word a) = alone_sinks r a
dispatch_sinks r (on_leaf h a) = alone_sinks r a
dispatch_sinks r (on_name q c) = c.sinks
dispatch_sinks r (on_chain q c) = c.sinks
dispatch_sinks r (on_construct q z c) = c.sinks
dispatch_sinks r (on_insert q c) = c.sinks
dispatch_sinks r (on_all q c) = c.sinks
dispatch_sinks r (on_condition q c) = c.sinks
dispatch_sinks r (on_while q c) = c.sinks
dispatch_sinks r (on_bu q z c) = c.sinks

falls_after : (r : Ended) (m m₁ : Meter) → Sinks r m₁ → Left m m₁ 1 0 0 → Falls r m
falls_after (Ok q) m m₁ s c = (omega (arith, s.0, c.steps), omega (arith, s.1, c.names))
falls_after (Err q) m m₁ s e = tt

apply_means : {F C W C₁ W₁ : List ℕ} {κ top i : ℕ} {v : Val} {m m₁ : Meter} {f : Form} {x : Obj} {r : Ended} (S : Setting) (k : ℕ) → linked_kind_at F i ≡ κ → step_charge m ≡ Ok m₁ → Left m m₁ 1 0 0 → Dispatched F C W top i v m₁ κ r C₁ W₁ → At F S i f → Given F S k C W m v x → Ends C W top m (by S k f x m) C₁ W₁ r
apply_means S zero q e c d at g = absurd (omega (arith, c.steps, g.fuel))
apply_means {F} {C} {W} {top = top} {i} {m = m} {f = f} {x} S (suc k) q e c d (form_at l q₁ fi) g =
    ends_eq (step_asked m (λ m₁. inside (by S k) k one S.prog f x m₁) ∙ ap (λ u. on_charge u no_step (λ m₁. inside (by S k) k one S.prog f x m₁)) e)
    (ends_since (since_step C W top c) (dispatch S k l (subst (λ (n : ℕ). FormIs F S.cells S.few S.root n i f) (sym q₁ ∙ q) fi) d (given_charged 1 0 k c (omega arith) g)))

pub applied : {F C W C₁ W₁ : List ℕ} {κ κ₁ top i : ℕ} {v : Val} {m m₁ : Meter} {r : Ended} → Ok m₁ ≡ step_charge m → κ₁ ≡ linked_kind_at F i → κ₁ ≡ κ → Dispatched F C W top i v m₁ κ r C₁ W₁ → Applied F C W top i v m r C₁ W₁
applied {m = m} {m₁} {r = r} a q z d =
    let e = sym a in
    let c = step_granted m e in
    record { falls = falls_after r m m₁ (dispatch_sinks r d) c; means = λ S k f x at g. apply_means S k (sym q ∙ z) e c d at g }

spent_means : (S : Setting) (f : Form) (x : Obj) (m : Meter) {s : Stopped} (k : ℕ) → step_charge m ≡ Err s → by S k f x m ≡ spent no_step s.meter
spent_means S f x m zero e = ap (λ u. spent no_step u.meter) (step_spent m e).1
spent_means S f x m (suc k) e = step_asked m (λ m₁. inside (by S k) k one S.prog f x m₁) ∙ ap (λ u. on_charge u no_step (λ m₁. inside (by S k) k one S.prog f x m₁)) e

pub apply_spent : {F C W : List ℕ} {top i : ℕ} {v : Val} {m : Meter} {s : Stopped} → Err s ≡ step_charge m → Applied F C W top i v m (Err s) C W
apply_spent {m = m} {s} a = record { falls = tt; means = λ S k f x at g. ends_stop (ran_out (spent_means S f x m k (sym a)) (sym (ap (λ u. u.why) (step_spent m (sym a)).1)) (agree_self s.meter)) }

pub apply_leaf : {F C W C₁ : List ℕ} {κ top i : ℕ} {v : Val} {m m₁ : Meter} {r : Ended} → Ok m₁ ≡ step_charge m → κ ≡ linked_kind_at F i → (κ ≡ 4 → ⊥) → (κ ≡ 5 → ⊥) → (κ ≡ 6 → ⊥) → (κ ≡ 7 → ⊥) → (κ ≡ 8 → ⊥) → (κ ≡ 9 → ⊥) → (κ ≡ 10 → ⊥) → (κ ≡ 16 → ⊥) → Alone F C i v m₁ κ r C₁ → Applied F C W top i v m r C₁ W
apply_leaf a q n4 n5 n6 n7 n8 n9 n10 n16 l = applied a q refl (on_leaf (record { not4 = n4; not5 = n5; not6 = n6; not7 = n7; not8 = n8; not9 = n9; not10 = n10; not16 = n16 }) l)

-- ---- forms with no parts, by their kinds
pub alone_word : {F C C₁ : List ℕ} {i κ code : ℕ} {v : Val} {m : Meter} {r : Ended} → κ ≡ 1 → code ≡ field F i 2 → Coded C v m code r C₁ → Alone F C i v m κ r C₁
alone_word {F} {C} {C₁} {i} {v = v} {m} {r} e q l = subst (λ (n : ℕ). Alone F C i v m n r C₁) (sym e) (a_word (subst (λ (n : ℕ). Coded C v m n r C₁) q l))

pub alone_select : {F C : List ℕ} {i κ n : ℕ} {v : Val} {m : Meter} {r : Ended} → κ ≡ 2 → n ≡ field F i 2 → Leaf C v m (select n) r C → Alone F C i v m κ r C
alone_select {F} {C} {i} {v = v} {m} {r} e q l = subst (λ (n : ℕ). Alone F C i v m n r C) (sym e) (a_select (subst (λ (n : ℕ). Leaf C v m (select n) r C) q l))

pub alone_select_right : {F C : List ℕ} {i κ n : ℕ} {v : Val} {m : Meter} {r : Ended} → κ ≡ 3 → n ≡ field F i 2 → Leaf C v m (select_right n) r C → Alone F C i v m κ r C
alone_select_right {F} {C} {i} {v = v} {m} {r} e q l = subst (λ (n : ℕ). Alone F C i v m n r C) (sym e) (a_select_right (subst (λ (n : ℕ). Leaf C v m (select_right n) r C) q l))

pub alone_constant : {F C : List ℕ} {i κ : ℕ} {v u : Val} {m : Meter} → κ ≡ 12 → u ≡ constant_at F i → Alone F C i v m κ (reached u m) C
alone_constant {F} {C} {i} {v = v} {u} {m} e q = subst (λ (n : ℕ). Alone F C i v m n (reached u m) C) (sym e) (subst (λ (x : Val). Alone F C i v m 12 (reached x m) C) (sym q) a_constant)

-- ---- a whole run
main_name : IsName (bytes "main")
main_name = (refl, refl, omega arith, refl)

ends_gives : {C W C₁ W₁ : List ℕ} {top : ℕ} {m : Meter} {e : Out Obj} {r : Ended} → Ends C W top m e C₁ W₁ r → Gives C m C₁ e r
ends_gives (ends_done f) = gives_eq f.is (gives_value f.made)
ends_gives (ends_stop (fell e z a)) = gives_eq e (gives_bottom z a)
ends_gives (ends_stop (ran_out e z a)) = gives_eq e (gives_spent z a)

pub ran_spent : {F C : List ℕ} {d : ℕ} {v : Val} {m : Meter} {s : Stopped} → Err s ≡ step_charge m → Ran F C d v m (Err s) C
ran_spent {C = C} {m = m} {s} a = record {
  means = λ P root x ds q rm p. gives_eq (spent_means (record { prog = P; root = root; cells = C; few = free C m }) main_form x m m.steps (sym a)) (gives_spent (sym (ap (λ u. u.why) (step_spent m (sym a)).1)) (agree_self s.meter));
}

run_means : {F C W C₁ W₁ : List ℕ} {d : ℕ} {v : Val} {m m₁ : Meter} {x : Obj} {r : Ended} (S : Setting) (k : ℕ) → m.steps ≤ k → step_charge m ≡ Ok m₁ → Left m m₁ 1 0 0 → NameApplied F C W 0 d v m₁ r C₁ W₁ → d ≡ S.root (bytes "main") → Given F S k C W m v x → Ends C W 0 m (by S k main_form x m) C₁ W₁ r
run_means S zero l e c n q g = absurd (omega (arith, c.steps))
run_means {C = C} {W} {m = m} {x = x} S (suc k) l e c n q g =
    ends_eq (step_asked m (λ m₁. inside (by S k) k one S.prog main_form x m₁) ∙ ap (λ u. on_charge u no_step (λ m₁. inside (by S k) k one S.prog main_form x m₁)) e)
    (ends_since (since_step C W 0 c) (n.means S k (bytes "main") x main_name q (given_charged 1 0 k c (omega arith) g)))

pub ran : {F T C W C₁ W₁ : List ℕ} {d : ℕ} {v : Val} {m m₁ : Meter} {r : Ended} → Ok m₁ ≡ step_charge m → FormsCopied F T → length W ≡ 16384 → NameApplied T C W 0 d v m₁ r C₁ W₁ → Ran F C d v m r C₁
ran {C = C} {m = m} a t l n =
    let e = sym a in
    record {
      means = λ P root x ds q rm p. ends_gives (run_means (record { prog = P; root = root; cells = C; few = free C m }) m.steps (omega arith) e (step_granted m e) n q
          (record { defs = λ w i. def_copied t (ds w i); still = same_refl C (free C m); low = omega arith; room = rm; ring = l; fuel = omega arith; arg = p }));
    }
