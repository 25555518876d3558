-- The words that answer T or F, and those on T and F.
use Rattle.language.specs.declared.stops.Stop.TheVariants.{Bottom, StepsSpent}
use Prim.Native.Nat.{ℕ, ◌-◌}
use mathlib.Core.Path.{◌≡◌, refl, sym, ap, subst, ◌∙◌}
use mathlib.Core.Bool.{Bool, true, false, cond, ◌&&◌, ◌||◌, not as opposite}
use mathlib.Core.List.{List}
use native.Mathlib.Omega.{arith}
use lib.Dec.{leb}
use borrow.Author.Tests.{le-leb}
use Rattle.language.specs.Objects.{Obj, truth, Truth, is_T, is_F, neither, truth_of}
use Rattle.language.specs.Words.{Op}
use Rattle.language.specs.Forms.{op}
use Rattle.language.specs.Numbers.{one}
use Rattle.language.specs.Meanings.{WordAnswer, falls, gives, meaning, pair, on_truth, Looked, look, compared}
use Rattle.language.specs.Charging.{stop_at, stopped, take_cells}
use Rattle.language.specs.Evaluation.{value, spent, no_step, ask_steps, charged}
use Rattle.language.specs.declared.Meter.{Meter}
use Rattle.language.specs.declared.Val.{Val}
use Rattle.language.specs.declared.stops.Stopped.{Stopped}
use Rattle.std.specs.Prelude.{Option, ok_or, Some, None, Result, Ok, Err}
use Rattle.cells.specs.Cells.{Rep, Room, free}
use Rattle.cells.proofs.Reps.{same_refl}
use Rattle.equality.specs.Looking.{steps_taken, compared_end, Looks}
use Rattle.equality.specs.declared.Compared.{Compared}
use Rattle.language.proofs.Charging.{meter_same}
use Rattle.primitives.specs.Shapes.{truth_val, truth_said, ReadTruth, ReadAtom, ReadNull, TwoTruths, are_truths, first_other, second_other}
use Rattle.primitives.specs.Ends.{reached, Gives, gives_value, gives_spent}
use Rattle.primitives.specs.Leaves.{LeafTwo, Plain, PlainTwo}
use Rattle.primitives.proofs.Ending.{end_plain, leaf_falls, two_falls, agree_self, free_under}
use Rattle.primitives.proofs.Shaped.{truth_rep}

pub atom_is : {v u : Val} {m : Meter} {t : Bool} → ReadAtom v t → u ≡ truth_val t → Plain v m (op Op.atom) (reached u m)
atom_is {m = m} {t = t} g e = record { means = λ C. record { sinks = (omega arith, refl); means = λ x room r. end_plain (truth t) room (ap (λ (b : Bool). gives 0 0 (truth b)) (sym (g.means C (free C m) x r))) (truth_rep C (free C m) t e) } }

pub null_is : {v u : Val} {m : Meter} {t : Bool} → ReadNull v t → u ≡ truth_val t → Plain v m (op Op.null) (reached u m)
null_is {m = m} {t = t} g e = record { means = λ C. record { sinks = (omega arith, refl); means = λ x room r. end_plain (truth t) room (ap (λ (b : Bool). gives 0 0 (truth b)) (sym (g.means C (free C m) x r))) (truth_rep C (free C m) t e) } }

-- ---- T, F or neither, by the number that was read
on_truth_is : (x : Obj) (k : Bool → WordAnswer) (t : Truth) → truth_of x ≡ t → on_truth x k ≡ elim t [ is_T ↦ k true | is_F ↦ k false | neither ↦ falls ]
on_truth_is x k t e = ap (λ (u : Truth). elim u [ is_T ↦ k true | is_F ↦ k false | neither ↦ falls ]) e

said_neither : (t : Truth) → None ≡ truth_said t → t ≡ neither
said_neither is_T e = let z : ◌≡◌ {A = ℕ} 0 1 = cc in absurd (omega arith)
said_neither is_F e = let z : ◌≡◌ {A = ℕ} 0 1 = cc in absurd (omega arith)
said_neither neither e = refl

said_is : (t : Truth) {b : Bool} (x : Obj) (k : Bool → WordAnswer) → truth_of x ≡ t → Some b ≡ truth_said t → on_truth x k ≡ k b
said_is is_T {b} x k h e =
    let z : b ≡ true = cc in
    on_truth_is x k is_T h ∙ ap k (sym z)
said_is is_F {b} x k h e =
    let z : b ≡ false = cc in
    on_truth_is x k is_F h ∙ ap k (sym z)
said_is neither x k h e = let z : ◌≡◌ {A = ℕ} 0 1 = cc in absurd (omega arith)

-- ---- not
pub not_other : {v : Val} {m : Meter} → ReadTruth v None → Plain v m (op Op.not) (stopped Bottom m)
not_other {m = m} g = record { means = λ C. leaf_falls (λ x room r. on_truth_is x (λ a. gives 0 0 (truth (opposite a))) neither (said_neither (truth_of x) (g.means C (free C m) x r))) }

pub not_is : {v u : Val} {m : Meter} {b : Bool} → ReadTruth v (Some b) → u ≡ truth_val (opposite b) → Plain v m (op Op.not) (reached u m)
not_is {m = m} {b = b} g e = record {
  means = λ C. record {
    sinks = (omega arith, refl);
    means = λ x room r. end_plain (truth (opposite b)) room (said_is (truth_of x) x (λ a. gives 0 0 (truth (opposite a))) refl (g.means C (free C m) x r)) (truth_rep C (free C m) (opposite b) e);
  };
}

-- ---- and, or
pub data OnTruths : Op → (Bool → Bool → Bool) → Type 0 where
  on_and : OnTruths Op.and ◌&&◌
  on_or : OnTruths Op.or ◌||◌

on_truths : {o : Op} {f : Bool → Bool → Bool} → OnTruths o f → (x y : Obj) → meaning one (op o) (pair x y) ≡ on_truth x (λ a. on_truth y (λ b. gives 0 0 (truth (f a b))))
on_truths on_and x y = refl
on_truths on_or x y = refl

-- two that were read
pub truths_read : {a b : Val} {m : Meter} {o q : Option Bool} {x y : Bool} → ReadTruth a o → o ≡ Some x → ReadTruth b q → q ≡ Some y → TwoTruths a b m (Ok (x, y))
truths_read {a} {b} {x = x} {y = y} g e h f = are_truths {p = (x, y)} (subst (ReadTruth a) e g) (subst (ReadTruth b) f h)

same_stop : {o : Option Bool} {s e : Stopped} → Err s ≡ ok_or o e → o ≡ None → s ≡ e
same_stop {o} {s} {e} h f =
    let z : ◌≡◌ {A = Result Bool Stopped} (Err s) (Err e) = rw f at h in
    cc

pub first_unread : {a b : Val} {m : Meter} {o : Option Bool} {s e : Stopped} → ReadTruth a o → Err s ≡ ok_or o e → o ≡ None → e ≡ stop_at Bottom m → TwoTruths a b m (Err s)
first_unread {a} g h f i = first_other (subst (ReadTruth a) f g) (same_stop h f ∙ i)

pub second_unread : {a b : Val} {m : Meter} {o : Option Bool} {s e : Stopped} → ReadTruth b o → Err s ≡ ok_or o e → o ≡ None → e ≡ stop_at Bottom m → TwoTruths a b m (Err s)
second_unread {b = b} g h f i = second_other (subst (ReadTruth b) f g) (same_stop h f ∙ i)

either_falls : (x : Obj) (k : Bool → WordAnswer) → ((a : Bool) → k a ≡ falls) → (t : Truth) → truth_of x ≡ t → on_truth x k ≡ falls
either_falls x k h is_T e = on_truth_is x k is_T e ∙ h true
either_falls x k h is_F e = on_truth_is x k is_F e ∙ h false
either_falls x k h neither e = on_truth_is x k neither e

pub no_truths : {a b : Val} {m : Meter} {o : Op} {f : Bool → Bool → Bool} {s : Stopped} → OnTruths o f → TwoTruths a b m (Err s) → PlainTwo a b m (op o) (Err s)
no_truths {m = m} {f = f} w (first_other g e) = record { means = λ C. rw e (two_falls (λ x y room ra rb. on_truths w x y ∙ on_truth_is x (λ a. on_truth y (λ b. gives 0 0 (truth (f a b)))) neither (said_neither (truth_of x) (g.means C (free C m) x ra)))) }
no_truths {m = m} {f = f} w (second_other g e) = record { means = λ C. rw e (two_falls (λ x y room ra rb. on_truths w x y ∙ either_falls x (λ a. on_truth y (λ b. gives 0 0 (truth (f a b)))) (λ a. on_truth_is y (λ b. gives 0 0 (truth (f a b))) neither (said_neither (truth_of y) (g.means C (free C m) y rb))) (truth_of x) refl)) }

-- both are T or F, and the answer is what f says of them
truths_end : {a b u : Val} {m : Meter} {o : Op} {p : Bool × Bool} (f : Bool → Bool → Bool) → OnTruths o f → TwoTruths a b m (Ok p) → u ≡ truth_val (f p.0 p.1) → PlainTwo a b m (op o) (reached u m)
truths_end {m = m} {p = p} f w (are_truths g h) e = record {
  means = λ C. record {
    sinks = (omega arith, refl);
    means = λ x y room ra rb.
        end_plain (truth (f p.0 p.1)) room (on_truths w x y ∙ (said_is (truth_of x) x (λ a. on_truth y (λ b. gives 0 0 (truth (f a b)))) refl (g.means C (free C m) x ra) ∙ said_is (truth_of y) y (λ b. gives 0 0 (truth (f p.0 b))) refl (h.means C (free C m) y rb))) (truth_rep C (free C m) (f p.0 p.1) e);
  };
}

pub and_is : {a b u : Val} {m : Meter} {p : Bool × Bool} → TwoTruths a b m (Ok p) → u ≡ truth_val (p.0 && p.1) → PlainTwo a b m (op Op.and) (reached u m)
and_is g e = truths_end ◌&&◌ on_and g e

pub or_is : {a b u : Val} {m : Meter} {p : Bool × Bool} → TwoTruths a b m (Ok p) → u ≡ truth_val (p.0 || p.1) → PlainTwo a b m (op Op.or) (reached u m)
or_is g e = truths_end ◌||◌ on_or g e

-- ---- eq
-- the steps are charged as the comparison counted them
charged_looked : (l : Looked) (m : Meter) (t : Bool) → leb l.pairs m.steps ≡ t → charged (compared l) m ≡ cond t (value (truth l.same) (steps_taken l.pairs m)) (spent no_step (record { steps = 0; names = m.names; cells = m.cells }))
charged_looked l m true e =
    let z : ◌≡◌ {A = Meter} (record { steps = m.steps - l.pairs; names = m.names; cells = m.cells - 0 }) (steps_taken l.pairs m) = meter_same (record { steps = m.steps - l.pairs; names = m.names; cells = m.cells - 0 }) (steps_taken l.pairs m) refl refl (omega arith) in
    rw (e, ask_steps, le-leb 0 m.cells (omega arith), take_cells, z)
charged_looked l m false e = rw (e, ask_steps)

gives_stepped : {C : List ℕ} {m : Meter} {u : Val} (p : ℕ) (y : Obj) → Room C m → Rep C (free C m) u y → Gives C m C (value y (steps_taken p m)) (reached u (steps_taken p m))
gives_stepped {C} {m} p y o r = gives_value (record { rep = r; same = same_refl C (free C m); room = record { fits = o.fits; small = o.small }; fewer = omega arith; long = refl })

-- a comparison that has ended, and one whose steps were spent
eq_gives : {C : List ℕ} {m : Meter} {u : Val} {c : Compared} (l : Looked) → Room C m → u ≡ truth_val c.same → Ok c ≡ compared_end l m → Gives C m C (charged (compared l) m) (reached u c.meter)
unfolding compared_end
eq_gives {C} {m} {u} {c} l o e f = go (leb l.pairs m.steps) refl
  where
    go : (t : Bool) → leb l.pairs m.steps ≡ t → Gives C m C (charged (compared l) m) (reached u c.meter)
    go true h =
        let z : ◌≡◌ {A = Result Compared Stopped} (Ok c) (Ok (record { same = l.same; meter = steps_taken l.pairs m })) = rw h at f in
        let y : c ≡ record { same = l.same; meter = steps_taken l.pairs m } = cc in
        rw (charged_looked l m true h, y) (gives_stepped l.pairs (truth l.same) o (truth_rep C (free C m) l.same (rw y at e)))
    go false h =
        let z : ◌≡◌ {A = Result Compared Stopped} (Ok c) (stopped StepsSpent (record { steps = 0; names = m.names; cells = m.cells })) = rw h at f in
        let q : ◌≡◌ {A = ℕ} 0 1 = cc in
        absurd (omega arith)

eq_gives_out : {C : List ℕ} {m : Meter} {s : Stopped} (l : Looked) → Err s ≡ compared_end l m → Gives C m C (charged (compared l) m) (Err s)
unfolding compared_end
eq_gives_out {C} {m} {s} l f = go (leb l.pairs m.steps) refl
  where
    go : (t : Bool) → leb l.pairs m.steps ≡ t → Gives C m C (charged (compared l) m) (Err s)
    go true h =
        let z : ◌≡◌ {A = Result Compared Stopped} (Err s) (Ok (record { same = l.same; meter = steps_taken l.pairs m })) = rw h at f in
        let q : ◌≡◌ {A = ℕ} 0 1 = cc in
        absurd (omega arith)
    go false h =
        let z : ◌≡◌ {A = Result Compared Stopped} (Err s) (stopped StepsSpent (record { steps = 0; names = m.names; cells = m.cells })) = rw h at f in
        let y : s ≡ stop_at StepsSpent (record { steps = 0; names = m.names; cells = m.cells }) = cc in
        rw (charged_looked l m false h, y) (gives_spent refl (agree_self (record { steps = 0; names = m.names; cells = m.cells })))

pub eq_is : {C : List ℕ} {a b u : Val} {m : Meter} {c : Compared} → Looks C a b m (Ok c) → u ≡ truth_val c.same → LeafTwo C a b m (op Op.eq) (reached u c.meter) C
eq_is {C} {m = m} d f = record { sinks = (omega (arith, d.falls.steps), d.falls.names); means = λ x y o ra rb. eq_gives (look x y) o f (d.means (free C m) x y (free_under C m o) ra rb) }

pub eq_out : {C : List ℕ} {a b : Val} {m : Meter} {s : Stopped} → Looks C a b m (Err s) → LeafTwo C a b m (op Op.eq) (Err s) C
eq_out {C} {m = m} g = record { sinks = tt; means = λ x y o ra rb. eq_gives_out (look x y) (g.means (free C m) x y (free_under C m o) ra rb) }
