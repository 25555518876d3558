-- The words on two integers.
use Rattle.language.specs.declared.stops.Stop.TheVariants.{Bottom}
use Rattle.language.specs.Charging.{stopped}
use Prim.Native.Nat.{ℕ, zero, suc, ◌+◌, ◌≤◌, ◌<◌}
use mathlib.Core.Path.{◌≡◌, refl, sym, ap, ◌∙◌}
use mathlib.Core.Bool.{Bool, true, false}
use mathlib.Core.List.{List}
use native.Mathlib.Omega.{arith}
use lib.Dec.{ltb}
use lib.IntN.{ℤ, pos, negsuc, ◌+ℤ◌, ◌-ℤ◌, ◌*ℤ◌}
use lib.Signed.{lt_z, quot_z}
use borrow.Author.Tests.{lt-ltb, le-ltb, ltb-true, ltb-false}
use Rattle.language.specs.Objects.{Obj, int, symbol, seq, truth}
use Rattle.language.specs.Words.{Op, entry, cells_by}
use Rattle.language.specs.Forms.{op}
use Rattle.language.specs.Numbers.{one}
use Rattle.language.specs.Meanings.{WordAnswer, falls, gives, meaning, pair, on_ints, number, divided}
use Rattle.language.specs.Evaluation.{charged}
use Rattle.language.specs.declared.Meter.{Meter}
use Rattle.language.specs.declared.stops.Stopped.{Stopped}
use Rattle.std.specs.Prelude.{Ok, Err}
use Rattle.language.specs.declared.Val.{Val}
use Rattle.cells.specs.Cells.{Rep, rep_pos, rep_neg, Room, free}
use Rattle.arithmetic.specs.Integers.{HoldsInteger, holds_pos, holds_neg, Short, Computes, Less}
use Rattle.primitives.specs.Shapes.{truth_val, BothIntegers, are_both, first_none, second_none, InRange}
use Rattle.primitives.specs.Ends.{Ended, reached, Gives, Sinks}
use Rattle.primitives.specs.Leaves.{PlainTwo}
use Rattle.primitives.proofs.Ending.{end_falls, end_plain, two_falls}
use Rattle.primitives.proofs.Shaped.{NoInteger, a_symbol, a_seq, no_integer, IntegerOf, integer_of, truth_rep}

number_in : (o : Op) (z : ℤ) {v : Val} → HoldsInteger v z → v.word < 2147483648 → cells_by (entry o).rule 0 0 ≡ 0 → number one o z ≡ gives 0 0 (int z)
number_in o (pos k) (holds_pos t w) h e = rw (lt-ltb k 2147483648 (omega arith), number, e)
number_in o (negsuc k) (holds_neg t w) h e = rw (lt-ltb k 2147483648 (omega arith), number, e)

number_out : (o : Op) (z : ℤ) {v : Val} → HoldsInteger v z → 2147483648 ≤ v.word → number one o z ≡ falls
number_out o (pos k) (holds_pos t w) h = rw (le-ltb k 2147483648 (omega arith), number)
number_out o (negsuc k) (holds_neg t w) h = rw (le-ltb k 2147483648 (omega arith), number)

integer_rep : (C : List ℕ) (n : ℕ) {v : Val} (z : ℤ) → HoldsInteger v z → v.word < 2147483648 → Rep C n v (int z)
integer_rep C n (pos k) (holds_pos t w) h = rep_pos t w (omega arith)
integer_rep C n (negsuc k) (holds_neg t w) h = rep_neg t w (omega arith)

-- ---- the words that ask for two integers
pub data OnInts : Op → (ℤ → ℤ → WordAnswer) → Type 0 where
  on_lt : OnInts Op.lt (λ a b. gives 0 0 (truth (lt_z a b)))
  on_add : OnInts Op.add (λ a b. number one Op.add (a +ℤ b))
  on_sub : OnInts Op.sub (λ a b. number one Op.sub (a -ℤ b))
  on_mul : OnInts Op.mul (λ a b. number one Op.mul (a *ℤ b))
  on_div : OnInts Op.div (λ a b. divided one a b)

on_ints_lem : {o : Op} {k : ℤ → ℤ → WordAnswer} → OnInts o k → (x : Obj) → meaning one (op o) x ≡ on_ints x k
on_ints_lem on_lt x = refl
on_ints_lem on_add x = refl
on_ints_lem on_sub x = refl
on_ints_lem on_mul x = refl
on_ints_lem on_div x = refl

first_other : (x y : Obj) (k : ℤ → ℤ → WordAnswer) → NoInteger x → on_ints (pair x y) k ≡ falls
first_other x y k a_symbol = refl
first_other x y k a_seq = refl

second_other : (x y : Obj) (k : ℤ → ℤ → WordAnswer) → NoInteger y → on_ints (pair x y) k ≡ falls
second_other (int i) y k a_symbol = refl
second_other (int i) y k a_seq = refl
second_other (symbol s) y k n = refl
second_other (seq xs) y k n = refl

pub no_ints : {a b : Val} {m : Meter} {o : Op} {k : ℤ → ℤ → WordAnswer} {s : Stopped} → OnInts o k → BothIntegers a b m (Err s) → PlainTwo a b m (op o) (Err s)
no_ints {k = k} w (first_none e f) = record { means = λ C. rw f (two_falls (λ x y z ra rb. on_ints_lem w (pair x y) ∙ first_other x y k (no_integer e ra))) }
no_ints {k = k} w (second_none e f) = record { means = λ C. rw f (two_falls (λ x y z ra rb. on_ints_lem w (pair x y) ∙ second_other x y k (no_integer e rb))) }

shorts : {a b : Val} {m : Meter} {u : Unit {0}} → BothIntegers a b m (Ok u) → Short a × Short b
shorts (are_both s t) = (s, t)

-- both are integers
both_ints : {a b : Val} {o : Op} {k : ℤ → ℤ → WordAnswer} (w : OnInts o k) (x y : Obj) (p : IntegerOf a x) (q : IntegerOf b y) → meaning one (op o) (pair x y) ≡ k p.number q.number
both_ints {k = k} w x y p q = on_ints_lem w (pair x y) ∙ rw (p.is, q.is)

-- an answer that is a number
number_end : {C : List ℕ} {m : Meter} {z : Val} {r : Ended} {a : WordAnswer} (o : Op) (i : ℤ) → cells_by (entry o).rule 0 0 ≡ 0 → Room C m → a ≡ number one o i → HoldsInteger z i → InRange z m r → Gives C m C (charged a m) r
number_end {C} {m} {z} {r} {a} o i c room e h g = go (ltb z.word 2147483648) refl
  where
    go : (t : Bool) → ltb z.word 2147483648 ≡ t → Gives C m C (charged a m) r
    go true f =
        let l = ltb-true z.word 2147483648 f in
        rw (g.below l) (end_plain (int i) room (e ∙ number_in o i h l c) (integer_rep C (free C m) i h l))
    go false f =
        let l = ltb-false z.word 2147483648 f in
        rw (g.above l) (end_falls (e ∙ number_out o i h l))

range_sinks : {m : Meter} (z : Val) {r : Ended} → InRange z m r → Sinks r m
range_sinks {m} z {r} g = go (ltb z.word 2147483648) refl
  where
    go : (t : Bool) → ltb z.word 2147483648 ≡ t → Sinks r m
    go true f = rw (g.below (ltb-true z.word 2147483648 f)) (omega arith, refl)
    go false f = rw (g.above (ltb-false z.word 2147483648 f)) tt

pub number_word : {a b z : Val} {m : Meter} {r : Ended} (o : Op) (f : ℤ → ℤ → ℤ) → OnInts o (λ i j. number one o (f i j)) → cells_by (entry o).rule 0 0 ≡ 0 → Short a → Short b → Computes f a b z → InRange z m r → PlainTwo a b m (op o) r
number_word {a} {b} {z} {m} {r} o f w c sa sb g h = record {
  means = λ C. record {
    sinks = range_sinks z h;
    means = λ x y room ra rb.
        let p = integer_of sa ra in
        let q = integer_of sb rb in
        number_end o (f p.number q.number) c room (both_ints w x y p q) (g.means p.number q.number p.holds q.holds) h;
  };
}

pub add_end : {a b z : Val} {m : Meter} {r : Ended} → BothIntegers a b m (Ok tt) → Computes ◌+ℤ◌ a b z → InRange z m r → PlainTwo a b m (op Op.add) r
add_end w g h = number_word Op.add ◌+ℤ◌ on_add refl (shorts w).0 (shorts w).1 g h

pub sub_end : {a b z : Val} {m : Meter} {r : Ended} → BothIntegers a b m (Ok tt) → Computes ◌-ℤ◌ a b z → InRange z m r → PlainTwo a b m (op Op.sub) r
sub_end w g h = number_word Op.sub ◌-ℤ◌ on_sub refl (shorts w).0 (shorts w).1 g h

pub mul_end : {a b z : Val} {m : Meter} {r : Ended} → BothIntegers a b m (Ok tt) → Computes ◌*ℤ◌ a b z → InRange z m r → PlainTwo a b m (op Op.mul) r
mul_end w g h = number_word Op.mul ◌*ℤ◌ on_mul refl (shorts w).0 (shorts w).1 g h

pub lt_end : {a b v : Val} {m : Meter} {t : Bool} → BothIntegers a b m (Ok tt) → Less a b t → v ≡ truth_val t → PlainTwo a b m (op Op.lt) (reached v m)
lt_end {a} {b} {v} {m} {t} w g e = record {
  means = λ C. record {
    sinks = (omega arith, refl);
    means = λ x y room ra rb.
        let p = integer_of (shorts w).0 ra in
        let q = integer_of (shorts w).1 rb in
        end_plain (truth t) room (both_ints on_lt x y p q ∙ ap (λ (u : Bool). gives 0 0 (truth u)) (sym (g.means p.number q.number p.holds q.holds))) (truth_rep C (free C m) t e);
  };
}

-- ---- division
divided-zero : (i j : ℤ) {b : Val} → HoldsInteger b j → b.word + b.tag ≡ 0 → divided one i j ≡ falls
divided-zero i (pos zero) (holds_pos t w) e = refl
divided-zero i (pos (suc n)) (holds_pos t w) e = absurd (omega arith)
divided-zero i (negsuc n) (holds_neg t w) e = absurd (omega arith)

divided_is : (i j : ℤ) {b : Val} → HoldsInteger b j → (b.word + b.tag ≡ 0 → ⊥) → divided one i j ≡ number one Op.div (quot_z i j)
divided_is i (pos zero) (holds_pos t w) e = absurd (e (omega arith))
divided_is i (pos (suc n)) (holds_pos t w) e = refl
divided_is i (negsuc n) (holds_neg t w) e = refl

pub div-zero : {a b : Val} {m : Meter} → BothIntegers a b m (Ok tt) → b.word + b.tag ≡ 0 → PlainTwo a b m (op Op.div) (stopped Bottom m)
div-zero {a} {b} {m} w e = record {
  means = λ C. two_falls (λ x y room ra rb.
      let p = integer_of (shorts w).0 ra in
      let q = integer_of (shorts w).1 rb in
      both_ints on_div x y p q ∙ divided-zero p.number q.number q.holds e);
}

pub div_end : {a b z : Val} {m : Meter} {r : Ended} → BothIntegers a b m (Ok tt) → (b.word + b.tag ≡ 0 → ⊥) → Computes quot_z a b z → InRange z m r → PlainTwo a b m (op Op.div) r
div_end {a} {b} {z} {m} {r} w e g h = record {
  means = λ C. record {
    sinks = range_sinks z h;
    means = λ x y room ra rb.
        let p = integer_of (shorts w).0 ra in
        let q = integer_of (shorts w).1 rb in
        number_end Op.div (quot_z p.number q.number) refl room (both_ints on_div x y p q ∙ divided_is p.number q.number q.holds e) (g.means p.number q.number p.holds q.holds) h;
  };
}
