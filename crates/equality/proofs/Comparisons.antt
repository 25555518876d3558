-- Looking at two objects, and at the places of two sequences, on cells.
use Prim.Native.Nat.{ℕ, suc, ◌+◌, ◌-◌, ◌*◌, ◌≤◌, ◌<◌}
use mathlib.Core.Path.{◌≡◌, refl, sym, ap, subst, ◌∙◌}
use mathlib.Core.Bool.{Bool, true, false}
use mathlib.Core.List.{List}
use native.Mathlib.Omega.{arith}
use lib.Dec.{eqb, leb}
use Rattle.std.specs.Prelude.{Result, Ok, Err, not}
use borrow.Author.Tests.{eqb-true, eqb-false, not-true, not-false, le-leb, lt-leb, leb-true, leb-false, eq-eqb, ne_eqb}
use Rattle.language.specs.Bytes.{same_bytes}
use Rattle.language.specs.Objects.{Obj, int, symbol, seq, Objs, nil, ◌::◌}
use Rattle.language.specs.Meanings.{Looked, look, look_along, onward}
use Rattle.packing.specs.Packing.{packed}
use Rattle.language.specs.Charging.{stopped, step_charge}
use Rattle.language.specs.declared.Meter.{Meter}
use Rattle.language.specs.declared.Val.{Val}
use Rattle.language.specs.declared.stops.Stop.TheVariants.{StepsSpent}
use Rattle.language.specs.declared.stops.Stopped.{Stopped}
use Rattle.language.proofs.Bytes.{same_bytes_is, same_bytes_refl}
use Rattle.language.proofs.Charging.{meter_same, step_granted, step_spent}
use Rattle.cells.specs.Cells.{Rep, rep_pos, rep_neg, rep_symbol, rep_nil, rep_more}
use Rattle.cells.specs.Parts.{Sized, Headed, Tailed}
use Rattle.packing.proofs.Packed.{symbols_same}
use Rattle.equality.specs.declared.Compared.{Compared}
use Rattle.equality.specs.Looking.{steps_taken, compared_end, after, Fewer, MeterNoMore, ComparedFalls, ComparedSinks, Looks, LooksAlong}

-- ---- a step for each pair
-- one pair more is one step more
ended_more : (s : Bool) (p : ℕ) (m : Meter) {k : Meter} → step_charge m ≡ Ok k → compared_end (record { same = s; pairs = suc p }) m ≡ compared_end (record { same = s; pairs = p }) k
unfolding compared_end
ended_more s p m {k} e = go (leb p k.steps) refl
  where
    go : (b : Bool) → leb p k.steps ≡ b → compared_end (record { same = s; pairs = suc p }) m ≡ compared_end (record { same = s; pairs = p }) k
    go true f =
        let l = step_granted m e in
        let h = leb-true p k.steps f in
        rw (le-leb (suc p) m.steps (omega (arith, l.steps)), f, meter_same (steps_taken (suc p) m) (steps_taken p k) (omega (arith, l.steps)) (omega (arith, l.names)) (omega (arith, l.cells)))
    go false f =
        let l = step_granted m e in
        let h = leb-false p k.steps f in
        rw (lt-leb (suc p) m.steps (omega (arith, l.steps)), f) (ap (stopped StepsSpent) (meter_same (record { steps = 0; names = m.names; cells = m.cells }) (record { steps = 0; names = k.names; cells = k.cells }) refl (omega (arith, l.names)) (omega (arith, l.cells))))

ended_spent : (b : Bool) (p : ℕ) (m : Meter) {s : Stopped} → step_charge m ≡ Err s → Err s ≡ compared_end (record { same = b; pairs = suc p }) m
unfolding compared_end
ended_spent b p m {s} e =
    let z = step_spent m e in
    rw (lt-leb (suc p) m.steps (omega (arith, z.0)), ← z.1) (ap (stopped StepsSpent) (meter_same m (record { steps = 0; names = m.names; cells = m.cells }) z.0 refl refl))

ended_none : (s : Bool) (k : Meter) → compared_end (record { same = s; pairs = 0 }) k ≡ Ok (record { same = s; meter = k })
unfolding compared_end
ended_none s k = rw (le-leb 0 k.steps (omega arith), meter_same (steps_taken 0 k) k (omega arith) refl refl)

then_more : (p : ℕ) (b : Looked) (m : Meter) → p ≤ m.steps → compared_end (record { same = b.same; pairs = p + b.pairs }) m ≡ compared_end b (steps_taken p m)
unfolding compared_end
then_more p b m h = go (leb b.pairs (m.steps - p)) refl
  where
    go : (t : Bool) → leb b.pairs (m.steps - p) ≡ t → compared_end (record { same = b.same; pairs = p + b.pairs }) m ≡ compared_end b (steps_taken p m)
    go true f =
        let l = leb-true b.pairs (m.steps - p) f in
        rw (f, le-leb (p + b.pairs) m.steps (omega arith), meter_same (steps_taken (p + b.pairs) m) (steps_taken b.pairs (steps_taken p m)) (omega arith) refl refl)
    go false f =
        let l = leb-false b.pairs (m.steps - p) f in
        rw (f, lt-leb (p + b.pairs) m.steps (omega arith))

onward_same : (p : ℕ) (b : Looked) (m : Meter) → compared_end (record { same = b.same; pairs = p + b.pairs }) m ≡ after (compared_end (record { same = true; pairs = p }) m) (compared_end b)
unfolding compared_end
onward_same p b m = go (leb p m.steps) refl
  where
    go : (t : Bool) → leb p m.steps ≡ t → compared_end (record { same = b.same; pairs = p + b.pairs }) m ≡ after (compared_end (record { same = true; pairs = p }) m) (compared_end b)
    go true e = rw e (then_more p b m (leb-true p m.steps e))
    go false e =
        let h = leb-false p m.steps e in
        rw (e, lt-leb (p + b.pairs) m.steps (omega arith))

onward_other : (p : ℕ) (b : Looked) (m : Meter) → compared_end (record { same = false; pairs = p }) m ≡ after (compared_end (record { same = false; pairs = p }) m) (compared_end b)
unfolding compared_end
onward_other p b m = go (leb p m.steps) refl
  where
    go : (t : Bool) → leb p m.steps ≡ t → compared_end (record { same = false; pairs = p }) m ≡ after (compared_end (record { same = false; pairs = p }) m) (compared_end b)
    go true e = rw e
    go false e = rw e

-- what is looked at in order is charged in order
ended_onward : (a b : Looked) (m : Meter) → compared_end (onward a b) m ≡ after (compared_end a m) (compared_end b)
ended_onward a b m = go a.same refl
  where
    go : (t : Bool) → a.same ≡ t → compared_end (onward a b) m ≡ after (compared_end a m) (compared_end b)
    go true e = rw e (onward_same a.pairs b m)
    go false e = rw e (onward_other a.pairs b m)

-- ---- two atoms, or objects of different kinds
other_bytes : (v w : List ℕ) → (v ≡ w → ⊥) → same_bytes v w ≡ false
other_bytes v w h = go (same_bytes v w) refl
  where
    go : (t : Bool) → same_bytes v w ≡ t → t ≡ false
    go true e = absurd (h (same_bytes_is v w e))
    go false e = refl

atoms_equal : {C : List ℕ} {n : ℕ} {a b : Val} {x y : Obj} → a.tag ≡ b.tag → (a.tag ≡ 3 → ⊥) → a.word ≡ b.word → Rep C n a x → Rep C n b y → look x y ≡ record { same = true; pairs = 1 }
atoms_equal t h e (rep_pos {k = k} t₁ e₁ l₁) (rep_pos {k = j} t₂ e₂ l₂) = rw (eq-eqb k j (omega arith))
atoms_equal t h e (rep_pos t₁ e₁ l₁) (rep_neg t₂ e₂ l₂) = absurd (omega arith)
atoms_equal t h e (rep_pos t₁ e₁ l₁) (rep_symbol t₂ i₂ e₂) = absurd (omega arith)
atoms_equal t h e (rep_pos t₁ e₁ l₁) (rep_nil t₂ e₂) = absurd (omega arith)
atoms_equal t h e (rep_pos t₁ e₁ l₁) (rep_more t₂ e₂ l₂ p₂ q₂) = absurd (omega arith)
atoms_equal t h e (rep_neg t₁ e₁ l₁) (rep_pos t₂ e₂ l₂) = absurd (omega arith)
atoms_equal t h e (rep_neg {k = k} t₁ e₁ l₁) (rep_neg {k = j} t₂ e₂ l₂) = rw (eq-eqb k j (omega arith))
atoms_equal t h e (rep_neg t₁ e₁ l₁) (rep_symbol t₂ i₂ e₂) = absurd (omega arith)
atoms_equal t h e (rep_neg t₁ e₁ l₁) (rep_nil t₂ e₂) = absurd (omega arith)
atoms_equal t h e (rep_neg t₁ e₁ l₁) (rep_more t₂ e₂ l₂ p₂ q₂) = absurd (omega arith)
atoms_equal t h e (rep_symbol t₁ i₁ e₁) (rep_pos t₂ e₂ l₂) = absurd (omega arith)
atoms_equal t h e (rep_symbol t₁ i₁ e₁) (rep_neg t₂ e₂ l₂) = absurd (omega arith)
atoms_equal t h e (rep_symbol {w = v} t₁ i₁ e₁) (rep_symbol {w = w} t₂ i₂ e₂) = rw (symbols_same v w i₁ i₂ (sym e₁ ∙ (e ∙ e₂)), same_bytes_refl w)
atoms_equal t h e (rep_symbol t₁ i₁ e₁) (rep_nil t₂ e₂) = absurd (omega arith)
atoms_equal t h e (rep_symbol t₁ i₁ e₁) (rep_more t₂ e₂ l₂ p₂ q₂) = absurd (omega arith)
atoms_equal t h e (rep_nil t₁ e₁) r = absurd (h t₁)
atoms_equal t h e (rep_more t₁ e₁ l₁ p₁ q₁) r = absurd (h t₁)

atoms_differ : {C : List ℕ} {n : ℕ} {a b : Val} {x y : Obj} → a.tag ≡ b.tag → (a.tag ≡ 3 → ⊥) → (a.word ≡ b.word → ⊥) → Rep C n a x → Rep C n b y → look x y ≡ record { same = false; pairs = 1 }
atoms_differ t h e (rep_pos {k = k} t₁ e₁ l₁) (rep_pos {k = j} t₂ e₂ l₂) = rw (ne_eqb k j (λ f. e (e₁ ∙ (f ∙ sym e₂))))
atoms_differ t h e (rep_pos t₁ e₁ l₁) (rep_neg t₂ e₂ l₂) = absurd (omega arith)
atoms_differ t h e (rep_pos t₁ e₁ l₁) (rep_symbol t₂ i₂ e₂) = absurd (omega arith)
atoms_differ t h e (rep_pos t₁ e₁ l₁) (rep_nil t₂ e₂) = absurd (omega arith)
atoms_differ t h e (rep_pos t₁ e₁ l₁) (rep_more t₂ e₂ l₂ p₂ q₂) = absurd (omega arith)
atoms_differ t h e (rep_neg t₁ e₁ l₁) (rep_pos t₂ e₂ l₂) = absurd (omega arith)
atoms_differ t h e (rep_neg {k = k} t₁ e₁ l₁) (rep_neg {k = j} t₂ e₂ l₂) = rw (ne_eqb k j (λ f. e (e₁ ∙ (f ∙ sym e₂))))
atoms_differ t h e (rep_neg t₁ e₁ l₁) (rep_symbol t₂ i₂ e₂) = absurd (omega arith)
atoms_differ t h e (rep_neg t₁ e₁ l₁) (rep_nil t₂ e₂) = absurd (omega arith)
atoms_differ t h e (rep_neg t₁ e₁ l₁) (rep_more t₂ e₂ l₂ p₂ q₂) = absurd (omega arith)
atoms_differ t h e (rep_symbol t₁ i₁ e₁) (rep_pos t₂ e₂ l₂) = absurd (omega arith)
atoms_differ t h e (rep_symbol t₁ i₁ e₁) (rep_neg t₂ e₂ l₂) = absurd (omega arith)
atoms_differ t h e (rep_symbol {w = v} t₁ i₁ e₁) (rep_symbol {w = w} t₂ i₂ e₂) = rw (other_bytes v w (λ f. e (e₁ ∙ (ap packed f ∙ sym e₂))))
atoms_differ t h e (rep_symbol t₁ i₁ e₁) (rep_nil t₂ e₂) = absurd (omega arith)
atoms_differ t h e (rep_symbol t₁ i₁ e₁) (rep_more t₂ e₂ l₂ p₂ q₂) = absurd (omega arith)
atoms_differ t h e (rep_nil t₁ e₁) r = absurd (h t₁)
atoms_differ t h e (rep_more t₁ e₁ l₁ p₁ q₁) r = absurd (h t₁)

tags_differ : {C : List ℕ} {n : ℕ} {a b : Val} {x y : Obj} → (a.tag ≡ b.tag → ⊥) → Rep C n a x → Rep C n b y → look x y ≡ record { same = false; pairs = 1 }
tags_differ h (rep_pos t₁ e₁ l₁) (rep_pos t₂ e₂ l₂) = absurd (h (t₁ ∙ sym t₂))
tags_differ h (rep_pos t₁ e₁ l₁) (rep_neg t₂ e₂ l₂) = refl
tags_differ h (rep_pos t₁ e₁ l₁) (rep_symbol t₂ i₂ e₂) = refl
tags_differ h (rep_pos t₁ e₁ l₁) (rep_nil t₂ e₂) = refl
tags_differ h (rep_pos t₁ e₁ l₁) (rep_more t₂ e₂ l₂ p₂ q₂) = refl
tags_differ h (rep_neg t₁ e₁ l₁) (rep_pos t₂ e₂ l₂) = refl
tags_differ h (rep_neg t₁ e₁ l₁) (rep_neg t₂ e₂ l₂) = absurd (h (t₁ ∙ sym t₂))
tags_differ h (rep_neg t₁ e₁ l₁) (rep_symbol t₂ i₂ e₂) = refl
tags_differ h (rep_neg t₁ e₁ l₁) (rep_nil t₂ e₂) = refl
tags_differ h (rep_neg t₁ e₁ l₁) (rep_more t₂ e₂ l₂ p₂ q₂) = refl
tags_differ h (rep_symbol t₁ i₁ e₁) (rep_pos t₂ e₂ l₂) = refl
tags_differ h (rep_symbol t₁ i₁ e₁) (rep_neg t₂ e₂ l₂) = refl
tags_differ h (rep_symbol t₁ i₁ e₁) (rep_symbol t₂ i₂ e₂) = absurd (h (t₁ ∙ sym t₂))
tags_differ h (rep_symbol t₁ i₁ e₁) (rep_nil t₂ e₂) = refl
tags_differ h (rep_symbol t₁ i₁ e₁) (rep_more t₂ e₂ l₂ p₂ q₂) = refl
tags_differ h (rep_nil t₁ e₁) (rep_pos t₂ e₂ l₂) = refl
tags_differ h (rep_nil t₁ e₁) (rep_neg t₂ e₂ l₂) = refl
tags_differ h (rep_nil t₁ e₁) (rep_symbol t₂ i₂ e₂) = refl
tags_differ h (rep_nil t₁ e₁) (rep_nil t₂ e₂) = absurd (h (t₁ ∙ sym t₂))
tags_differ h (rep_nil t₁ e₁) (rep_more t₂ e₂ l₂ p₂ q₂) = absurd (h (t₁ ∙ sym t₂))
tags_differ h (rep_more t₁ e₁ l₁ p₁ q₁) (rep_pos t₂ e₂ l₂) = refl
tags_differ h (rep_more t₁ e₁ l₁ p₁ q₁) (rep_neg t₂ e₂ l₂) = refl
tags_differ h (rep_more t₁ e₁ l₁ p₁ q₁) (rep_symbol t₂ i₂ e₂) = refl
tags_differ h (rep_more t₁ e₁ l₁ p₁ q₁) (rep_nil t₂ e₂) = absurd (h (t₁ ∙ sym t₂))
tags_differ h (rep_more t₁ e₁ l₁ p₁ q₁) (rep_more t₂ e₂ l₂ p₂ q₂) = absurd (h (t₁ ∙ sym t₂))

-- ---- one pair
charged_fewer : {m k : Meter} → Ok k ≡ step_charge m → Fewer k m
charged_fewer {m} e = let l = step_granted m (sym e) in record { steps = omega (arith, l.steps); names = omega (arith, l.names) }

-- each look asks for a step
look_pairs : (x y : Obj) (m : Meter) {s : Stopped} → step_charge m ≡ Err s → Err s ≡ compared_end (look x y) m
look_pairs (int i) (int j) m e = ended_spent _ 0 m e
look_pairs (int i) (symbol t) m e = ended_spent _ 0 m e
look_pairs (int i) (seq ys) m e = ended_spent _ 0 m e
look_pairs (symbol s) (int j) m e = ended_spent _ 0 m e
look_pairs (symbol s) (symbol t) m e = ended_spent _ 0 m e
look_pairs (symbol s) (seq ys) m e = ended_spent _ 0 m e
look_pairs (seq xs) (int j) m e = ended_spent _ 0 m e
look_pairs (seq xs) (symbol t) m e = ended_spent _ 0 m e
look_pairs (seq xs) (seq ys) m e = ended_spent _ (look_along xs ys).pairs m e

pub look_out : {C : List ℕ} {a b : Val} {m : Meter} {s : Stopped} → Err s ≡ step_charge m → Looks C a b m (Err s)
look_out {m = m} e = record { falls = tt; means = λ n x y u ra rb. look_pairs x y m (sym e) }

-- what one step decides
decided : (m : Meter) {k : Meter} {l : Looked} (s : Bool) → Ok k ≡ step_charge m → l ≡ record { same = s; pairs = 1 } → Ok (record { same = s; meter = k }) ≡ compared_end l m
decided m {k = k} s e g = rw (g, ended_more s 0 m (sym e), ended_none s k)

-- two atoms of one kind are the same where their words are
atoms_looked : {C : List ℕ} {n : ℕ} {a b : Val} {x y : Obj} {s : Bool} → a.tag ≡ b.tag → (a.tag ≡ 3 → ⊥) → s ≡ eqb a.word b.word → Rep C n a x → Rep C n b y → look x y ≡ record { same = s; pairs = 1 }
atoms_looked {a = a} {b = b} {x} {y} {s} t h e ra rb = go (eqb a.word b.word) refl
  where
    go : (z : Bool) → eqb a.word b.word ≡ z → look x y ≡ record { same = s; pairs = 1 }
    go true f = rw (e, f) (atoms_equal t h (eqb-true a.word b.word f) ra rb)
    go false f = rw (e, f) (atoms_differ t h (eqb-false a.word b.word f) ra rb)

pub look_atoms : {C : List ℕ} {a b : Val} {m k : Meter} {s : Bool} → Ok k ≡ step_charge m → a.tag ≡ b.tag → (a.tag ≡ 3 → ⊥) → s ≡ eqb a.word b.word → Looks C a b m (Ok (record { same = s; meter = k }))
look_atoms {m = m} {s = s} e t h w = record { falls = charged_fewer e; means = λ n x y u ra rb. decided m s e (atoms_looked t h w ra rb) }

pub look_apart : {C : List ℕ} {a b : Val} {m k : Meter} → Ok k ≡ step_charge m → (a.tag ≡ b.tag → ⊥) → Looks C a b m (Ok (record { same = false; meter = k }))
look_apart {m = m} e t = record { falls = charged_fewer e; means = λ n x y u ra rb. decided m false e (tags_differ t ra rb) }

sinks_fall : {m k : Meter} (r : Result Compared Stopped) → Fewer k m → ComparedSinks r k → ComparedFalls r m
sinks_fall (Ok c) f s = record { steps = omega (arith, f.steps, s.steps); names = s.names ∙ f.names }
sinks_fall (Err z) f s = tt

-- two sequences: a step, and then their places
along : {C : List ℕ} {n : ℕ} {a b : Val} {x y : Obj} (m : Meter) {k : Meter} {r : Result Compared Stopped} → n < 4294967296 → step_charge m ≡ Ok k → a.tag ≡ b.tag → a.tag ≡ 3 → LooksAlong C a b k r → Rep C n a x → Rep C n b y → r ≡ compared_end (look x y) m
along m u e t z g (rep_pos t₁ e₁ l₁) rb = absurd (omega arith)
along m u e t z g (rep_neg t₁ e₁ l₁) rb = absurd (omega arith)
along m u e t z g (rep_symbol t₁ i₁ e₁) rb = absurd (omega arith)
along m u e t z g (rep_nil t₁ e₁) (rep_pos t₂ e₂ l₂) = absurd (omega arith)
along m u e t z g (rep_nil t₁ e₁) (rep_neg t₂ e₂ l₂) = absurd (omega arith)
along m u e t z g (rep_nil t₁ e₁) (rep_symbol t₂ i₂ e₂) = absurd (omega arith)
along {n = n} m u e t z g (rep_nil t₁ e₁) (rep_nil t₂ e₂) = g.means n nil nil u (rep_nil t₁ e₁) (rep_nil t₂ e₂) ∙ sym (ended_more _ _ m e)
along {n = n} m u e t z g (rep_nil t₁ e₁) (rep_more {x = y} {xs = ys} t₂ e₂ l₂ p₂ q₂) = g.means n nil (y :: ys) u (rep_nil t₁ e₁) (rep_more t₂ e₂ l₂ p₂ q₂) ∙ sym (ended_more _ _ m e)
along m u e t z g (rep_more t₁ e₁ l₁ p₁ q₁) (rep_pos t₂ e₂ l₂) = absurd (omega arith)
along m u e t z g (rep_more t₁ e₁ l₁ p₁ q₁) (rep_neg t₂ e₂ l₂) = absurd (omega arith)
along m u e t z g (rep_more t₁ e₁ l₁ p₁ q₁) (rep_symbol t₂ i₂ e₂) = absurd (omega arith)
along {n = n} m u e t z g (rep_more {x = x} {xs = xs} t₁ e₁ l₁ p₁ q₁) (rep_nil t₂ e₂) = g.means n (x :: xs) nil u (rep_more t₁ e₁ l₁ p₁ q₁) (rep_nil t₂ e₂) ∙ sym (ended_more _ _ m e)
along {n = n} m u e t z g (rep_more {x = x} {xs = xs} t₁ e₁ l₁ p₁ q₁) (rep_more {x = y} {xs = ys} t₂ e₂ l₂ p₂ q₂) = g.means n (x :: xs) (y :: ys) u (rep_more t₁ e₁ l₁ p₁ q₁) (rep_more t₂ e₂ l₂ p₂ q₂) ∙ sym (ended_more _ _ m e)

pub look_places : {C : List ℕ} {a b : Val} {m k : Meter} {r : Result Compared Stopped} → Ok k ≡ step_charge m → a.tag ≡ b.tag → a.tag ≡ 3 → LooksAlong C a b k r → Looks C a b m r
look_places {m = m} {r = r} e t z g = record { falls = sinks_fall r (charged_fewer e) g.sinks; means = λ n x y u ra rb. along m u (sym e) t z g ra rb }

-- ---- the places of two sequences: `xs` and `ys` are still to be looked at
pub record PlaceNow (C : List ℕ) (n : ℕ) (xs₀ ys₀ : Objs) (m : Meter) (p q : Val) (k : Meter) : Type 0 where
  pub xs : Objs
  pub ys : Objs
  pub rp : Rep C n p (seq xs)
  pub rq : Rep C n q (seq ys)
  pub whole : compared_end (look_along xs₀ ys₀) m ≡ compared_end (look_along xs ys) k

pub record Placing (C : List ℕ) (a b : Val) (m : Meter) (p q : Val) (k : Meter) : Type 0 where
  pub sinks : MeterNoMore k m
  pub means : (n : ℕ) (xs₀ ys₀ : Objs) → n < 4294967296 → Rep C n a (seq xs₀) → Rep C n b (seq ys₀) → PlaceNow C n xs₀ ys₀ m p q k

pub record Behind (C : List ℕ) (n : ℕ) (p q : Val) (k : Meter) (r : Result Compared Stopped) (xs ys : Objs) : Type 0 where
  pub xs' : Objs
  pub ys' : Objs
  pub rp : (p₁ : Val) → Tailed C p p₁ → Rep C n p₁ (seq xs')
  pub rq : (q₁ : Val) → Tailed C q q₁ → Rep C n q₁ (seq ys')
  pub first : compared_end (look_along xs ys) k ≡ after r (compared_end (look_along xs' ys'))

-- both have a place: what looking at the two objects there gives goes first
first_places : {C : List ℕ} {n i j : ℕ} {p q v w : Val} {k : Meter} {r : Result Compared Stopped} (xs ys : Objs) → n < 4294967296 → Sized p i → Sized q j → (i ≡ 0 → ⊥) → (j ≡ 0 → ⊥) → Headed C p v → Headed C q w → Looks C v w k r → Rep C n p (seq xs) → Rep C n q (seq ys) → Behind C n p q k r xs ys
first_places {C} {n} nil ys u sp sq hi hj h₁ h₂ c rp rq = absurd (hi (sp.means C n nil u rp))
first_places {C} {n} (x :: xs) nil u sp sq hi hj h₁ h₂ c rp rq = absurd (hj (sq.means C n nil u rq))
first_places {C} {n} {k = k} (x :: xs) (y :: ys) u sp sq hi hj h₁ h₂ c rp rq =
    record {
      xs' = xs;
      ys' = ys;
      rp = λ p₁ t. t.means n x xs u rp;
      rq = λ q₁ t. t.means n y ys u rq;
      first = ended_onward (look x y) (look_along xs ys) k ∙ ap (λ (r : Result Compared Stopped). after r (compared_end (look_along xs ys))) (sym (c.means n x y u (h₁.means n x xs u rp) (h₂.means n y ys u rq)));
    }

-- the objects at both places are the same, or differ
same_on : {C : List ℕ} {v w : Val} {k : Meter} (c : Compared) (s : Bool) → Looks C v w k (Ok c) → c.same ≡ s → Looks C v w k (Ok (record { same = s; meter = c.meter }))
same_on {C} {v} {w} {k} c s g f = subst (λ (t : Bool). Looks C v w k (Ok (record { same = t; meter = c.meter }))) f g

next_places : {C : List ℕ} {n i j : ℕ} {xs₀ ys₀ : Objs} {p q p₁ q₁ v w : Val} {m k k₁ : Meter} → n < 4294967296 → Sized p i → Sized q j → (i ≡ 0 → ⊥) → (j ≡ 0 → ⊥) → Headed C p v → Headed C q w → Looks C v w k (Ok (record { same = true; meter = k₁ })) → Tailed C p p₁ → Tailed C q q₁ → PlaceNow C n xs₀ ys₀ m p q k → PlaceNow C n xs₀ ys₀ m p₁ q₁ k₁
next_places {p₁ = p₁} {q₁ = q₁} u sp sq hi hj h₁ h₂ c t₁ t₂ s =
    let f = first_places s.xs s.ys u sp sq hi hj h₁ h₂ c s.rp s.rq in
    record { xs = f.xs'; ys = f.ys'; rp = f.rp p₁ t₁; rq = f.rq q₁ t₂; whole = s.whole ∙ f.first }

pub place_next : {C : List ℕ} {i j : ℕ} {a b p q p₁ q₁ v w : Val} {m k : Meter} {s : Compared} → Placing C a b m p q k → Sized p i → (i ≡ 0 → ⊥) → Sized q j → (j ≡ 0 → ⊥) → Headed C p v → Headed C q w → Looks C v w k (Ok s) → not s.same ≡ false → Tailed C p p₁ → Tailed C q q₁ → Placing C a b m p₁ q₁ s.meter
place_next {s = s} g sp hi sq hj h₁ h₂ c f t₁ t₂ =
    let d = same_on s true c (not-false s.same f) in
    record { sinks = record { steps = omega (arith, d.falls.steps, g.sinks.steps); names = d.falls.names ∙ g.sinks.names }; means = λ n xs₀ ys₀ u ra rb. next_places u sp sq hi hj h₁ h₂ d t₁ t₂ (g.means n xs₀ ys₀ u ra rb) }

stop_places : {C : List ℕ} {n i j : ℕ} {xs₀ ys₀ : Objs} {p q v w : Val} {m k : Meter} (r : Result Compared Stopped) → ((f : Meter → Result Compared Stopped) → after r f ≡ r) → n < 4294967296 → Sized p i → Sized q j → (i ≡ 0 → ⊥) → (j ≡ 0 → ⊥) → Headed C p v → Headed C q w → Looks C v w k r → PlaceNow C n xs₀ ys₀ m p q k → r ≡ compared_end (look_along xs₀ ys₀) m
stop_places r stays u sp sq hi hj h₁ h₂ c s =
    let f = first_places s.xs s.ys u sp sq hi hj h₁ h₂ c s.rp s.rq in
    sym (stays (compared_end (look_along f.xs' f.ys'))) ∙ sym (s.whole ∙ f.first)

pub place_differ : {C : List ℕ} {i j : ℕ} {a b p q v w : Val} {m k : Meter} {s : Compared} → Placing C a b m p q k → Sized p i → (i ≡ 0 → ⊥) → Sized q j → (j ≡ 0 → ⊥) → Headed C p v → Headed C q w → Looks C v w k (Ok s) → not s.same ≡ true → LooksAlong C a b m (Ok s)
place_differ {s = s} g sp hi sq hj h₁ h₂ d f =
    let stays : (k : Meter → Result Compared Stopped) → after (Ok s) k ≡ Ok s = λ k. rw (not-true s.same f) in
    record { sinks = record { steps = omega (arith, d.falls.steps, g.sinks.steps); names = d.falls.names ∙ g.sinks.names }; means = λ n xs₀ ys₀ u ra rb. stop_places (Ok s) stays u sp sq hi hj h₁ h₂ d (g.means n xs₀ ys₀ u ra rb) }

pub place_out : {C : List ℕ} {i j : ℕ} {a b p q v w : Val} {m k : Meter} {s : Stopped} → Placing C a b m p q k → Sized p i → (i ≡ 0 → ⊥) → Sized q j → (j ≡ 0 → ⊥) → Headed C p v → Headed C q w → Looks C v w k (Err s) → LooksAlong C a b m (Err s)
place_out {s = s} g sp hi sq hj h₁ h₂ c = record { sinks = tt; means = λ n xs₀ ys₀ u ra rb. stop_places (Err s) (λ f. refl) u sp sq hi hj h₁ h₂ c (g.means n xs₀ ys₀ u ra rb) }

-- either ends
longer_first : {C : List ℕ} {n i j : ℕ} {p q : Val} (xs ys : Objs) (k : Meter) → n < 4294967296 → Sized p i → Sized q j → (i ≡ 0 → ⊥) → j ≡ 0 → Rep C n p (seq xs) → Rep C n q (seq ys) → Ok (record { same = false; meter = k }) ≡ compared_end (look_along xs ys) k
longer_first {C} {n} nil ys k u sp sq hi hj rp rq = absurd (hi (sp.means C n nil u rp))
longer_first {C} {n} (x :: xs) nil k u sp sq hi hj rp rq = sym (ended_none false k)
longer_first {C} {n} (x :: xs) (y :: ys) k u sp sq hi hj rp rq = absurd (omega (arith, sq.means C n (y :: ys) u rq))

longer_second : {C : List ℕ} {n i j : ℕ} {p q : Val} (xs ys : Objs) (k : Meter) → n < 4294967296 → Sized p i → Sized q j → i ≡ 0 → (j ≡ 0 → ⊥) → Rep C n p (seq xs) → Rep C n q (seq ys) → Ok (record { same = false; meter = k }) ≡ compared_end (look_along xs ys) k
longer_second {C} {n} nil nil k u sp sq hi hj rp rq = absurd (hj (sq.means C n nil u rq))
longer_second {C} {n} nil (y :: ys) k u sp sq hi hj rp rq = sym (ended_none false k)
longer_second {C} {n} (x :: xs) ys k u sp sq hi hj rp rq = absurd (omega (arith, sp.means C n (x :: xs) u rp))

both_end : {C : List ℕ} {n i j : ℕ} {p q : Val} (xs ys : Objs) (k : Meter) → n < 4294967296 → Sized p i → Sized q j → i ≡ 0 → j ≡ 0 → Rep C n p (seq xs) → Rep C n q (seq ys) → Ok (record { same = true; meter = k }) ≡ compared_end (look_along xs ys) k
both_end {C} {n} nil nil k u sp sq hi hj rp rq = sym (ended_none true k)
both_end {C} {n} nil (y :: ys) k u sp sq hi hj rp rq = absurd (omega (arith, sq.means C n (y :: ys) u rq))
both_end {C} {n} (x :: xs) ys k u sp sq hi hj rp rq = absurd (omega (arith, sp.means C n (x :: xs) u rp))

pub place_longer : {C : List ℕ} {i j : ℕ} {a b p q : Val} {m k : Meter} → Placing C a b m p q k → Sized p i → (i ≡ 0 → ⊥) → Sized q j → j ≡ 0 → LooksAlong C a b m (Ok (record { same = false; meter = k }))
place_longer {k = k} g sp hi sq hj = record { sinks = g.sinks; means = λ n xs₀ ys₀ u ra rb. let s = g.means n xs₀ ys₀ u ra rb in longer_first s.xs s.ys k u sp sq hi hj s.rp s.rq ∙ sym s.whole }

-- the first has ended: the same where the second has too
first_ended : {C : List ℕ} {n i j : ℕ} {p q : Val} {s : Bool} (xs ys : Objs) (k : Meter) → n < 4294967296 → Sized p i → Sized q j → i ≡ 0 → s ≡ eqb j 0 → Rep C n p (seq xs) → Rep C n q (seq ys) → Ok (record { same = s; meter = k }) ≡ compared_end (look_along xs ys) k
first_ended {C} {n} {i} {j} {p} {q} {s} xs ys k u sp sq hi e rp rq = go (eqb j 0) refl
  where
    go : (z : Bool) → eqb j 0 ≡ z → Ok (record { same = s; meter = k }) ≡ compared_end (look_along xs ys) k
    go true f = rw (e, f) (both_end xs ys k u sp sq hi (eqb-true j 0 f) rp rq)
    go false f = rw (e, f) (longer_second xs ys k u sp sq hi (eqb-false j 0 f) rp rq)

pub place_end : {C : List ℕ} {i j : ℕ} {a b p q : Val} {m k : Meter} {s : Bool} → Placing C a b m p q k → Sized p i → i ≡ 0 → Sized q j → s ≡ eqb j 0 → LooksAlong C a b m (Ok (record { same = s; meter = k }))
place_end {k = k} g sp hi sq hj = record { sinks = g.sinks; means = λ n xs₀ ys₀ u ra rb. let s = g.means n xs₀ ys₀ u ra rb in first_ended s.xs s.ys k u sp sq hi hj s.rp s.rq ∙ sym s.whole }

-- ---- the measure
pub below_look : (m k : Meter) (t : ℕ) → Ok k ≡ step_charge m → 2 * m.steps ≡ t → 2 * k.steps + 1 < t
below_look m k t a e = omega (arith, (step_granted m (sym a)).steps)
