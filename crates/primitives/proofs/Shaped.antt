-- What a value shows of its object: pairs, integers, truth values, atoms.
use Prim.Native.Nat.{ℕ, ◌≤◌, ◌<◌}
use mathlib.Core.Path.{◌≡◌, refl, sym, ap, ◌∙◌}
use mathlib.Core.Bool.{Bool, true, false, ◌&&◌}
use mathlib.Core.List.{List}
use native.Mathlib.Omega.{arith}
use lib.Dec.{ltb}
use lib.IntN.{ℤ, pos, negsuc}
use borrow.Author.Tests.{le-ltb, lt-ltb, ltb-true}
use Rattle.language.specs.Objects.{Obj, int, symbol, seq, Objs, nil, ◌::◌, length_of, truth}
use Rattle.language.specs.Meanings.{WordAnswer, falls, on_pair}
use Rattle.language.specs.declared.Val.{Val}
use Rattle.language.specs.declared.Meter.{Meter}
use Rattle.language.specs.declared.stops.Stop.TheVariants.{Bottom}
use Rattle.language.specs.Charging.{stopped}
use Rattle.std.specs.Prelude.{Some, None, Ok}
use Rattle.cells.specs.Cells.{Rep, rep_pos, rep_neg, rep_symbol, rep_nil, rep_more}
use Rattle.cells.specs.Parts.{Sized, Headed, Tailed}
use Rattle.cells.proofs.Compared.{rep_T, rep_F}
use Rattle.cells.proofs.Compared as compared
use Rattle.arithmetic.specs.Integers.{HoldsInteger, holds_pos, holds_neg, Short}
use Rattle.primitives.specs.Shapes.{IsTwo, are_two, not_two, ReadTwo, is_integer_val, truth_val, truth_said, ReadTruth, BothIntegers, are_both, first_none, second_none}

-- ---- pairs
pub two_atom : {C : List ℕ} {v : Val} → (v.tag ≡ 3 → ⊥) → ReadTwo C v None
two_atom {C} {v} h = record { means = go }
  where
    go : (n : ℕ) (x : Obj) → n < 4294967296 → Rep C n v x → IsTwo C n x None
    go n x u (rep_pos t e b) = not_two (λ k. refl)
    go n x u (rep_neg t e b) = not_two (λ k. refl)
    go n x u (rep_symbol t i e) = not_two (λ k. refl)
    go n x u (rep_nil t e) = absurd (h t)
    go n x u (rep_more t e l a b) = absurd (h t)

no_pair : (x : Obj) → ((xs : Objs) → x ≡ seq xs → length_of xs ≡ 2 → ⊥) → (k : Obj → Obj → WordAnswer) → on_pair x k ≡ falls
no_pair (int z) h k = refl
no_pair (symbol s) h k = refl
no_pair (seq nil) h k = refl
no_pair (seq (a :: nil)) h k = refl
no_pair (seq (a :: b :: nil)) h k = absurd (h (a :: b :: nil) refl refl)
no_pair (seq (a :: b :: c :: cs)) h k = refl

pub two_size : {C : List ℕ} {v : Val} {i : ℕ} → Sized v i → (i ≡ 2 → ⊥) → ReadTwo C v None
two_size {C} {v} {i} s h = record { means = λ n x u r. not_two (no_pair x (λ xs e l. h (s.means C n xs u (rw e at r) ∙ l))) }

pub two_is : {C : List ℕ} {v rest a b : Val} {i : ℕ} → v.tag ≡ 3 → Sized v i → i ≡ 2 → Tailed C v rest → Headed C v a → Headed C rest b → ReadTwo C v (Some (a, b))
two_is {C} {v} {rest} {a} {b} {i} t s e tl h h₂ = record { means = go }
  where
    go : (n : ℕ) (x : Obj) → n < 4294967296 → Rep C n v x → IsTwo C n x (Some (a, b))
    go n (int z) u (rep_pos t₁ e₁ l₁) = absurd (omega arith)
    go n (int z) u (rep_neg t₁ e₁ l₁) = absurd (omega arith)
    go n (symbol z) u (rep_symbol t₁ i₁ e₁) = absurd (omega arith)
    go n (seq nil) u r = absurd (omega (arith, s.means C n nil u r))
    go n (seq (x :: nil)) u r = absurd (omega (arith, s.means C n (x :: nil) u r))
    go n (seq (x :: y :: nil)) u r = are_two {p = (a, b)} (h.means n x (y :: nil) u r) (h₂.means n y nil u (tl.means n x (y :: nil) u r))
    go n (seq (x :: y :: z :: zs)) u r = absurd (omega (arith, s.means C n (x :: y :: z :: zs) u r))

-- ---- integers
pub integer_no : (v : Val) → 2 ≤ v.tag → false ≡ is_integer_val v
unfolding is_integer_val
integer_no v h = rw (le-ltb v.tag 2 h)

pub integer_is : (v : Val) {r : Bool} → v.tag < 2 → r ≡ ltb v.word 2147483648 → r ≡ is_integer_val v
unfolding is_integer_val
integer_is v h e = rw (lt-ltb v.tag 2 h) e

and_true : (a b : Bool) → (a && b) ≡ true → (a ≡ true) × (b ≡ true)
and_true true b e = (refl, e)
and_true false b e = absurd (let z : ◌≡◌ {A = ℕ} 0 1 = cc in omega arith)

pub short_of : {v : Val} → is_integer_val v ≡ true → Short v
unfolding is_integer_val
short_of {v} e =
    let t = and_true (ltb v.tag 2) (ltb v.word 2147483648) e in
    record { tag = ltb-true v.tag 2 t.0; word = ltb-true v.word 2147483648 t.1 }

-- the integer of a value
pub record IntegerOf (v : Val) (x : Obj) : Type 0 where
  pub number : ℤ
  pub is : x ≡ int number
  pub holds : HoldsInteger v number

pub integer_of : {C : List ℕ} {n : ℕ} {v : Val} {x : Obj} → Short v → Rep C n v x → IntegerOf v x
integer_of s (rep_pos {k = k} t e b) = record { number = pos k; is = refl; holds = holds_pos t e }
integer_of s (rep_neg {k = k} t e b) = record { number = negsuc k; is = refl; holds = holds_neg t e }
integer_of s (rep_symbol t i e) = absurd (omega (arith, s.tag))
integer_of s (rep_nil t e) = absurd (omega (arith, s.tag))
integer_of s (rep_more t e l a b) = absurd (omega (arith, s.tag))

-- no integer
pub data NoInteger : Obj → Type 0 where
  a_symbol : {s : List ℕ} → NoInteger (symbol s)
  a_seq : {xs : Objs} → NoInteger (seq xs)

integral : (v : Val) → v.tag < 2 → v.word < 2147483648 → is_integer_val v ≡ true
unfolding is_integer_val
integral v t w = rw (lt-ltb v.tag 2 t, lt-ltb v.word 2147483648 w)

no_integral : {v : Val} → is_integer_val v ≡ false → v.tag < 2 → v.word < 2147483648 → ⊥
no_integral {v} e t w =
    let f : true ≡ false = sym (integral v t w) ∙ e in
    let z : ◌≡◌ {A = ℕ} 0 1 = cc in omega arith

pub no_integer : {C : List ℕ} {n : ℕ} {v : Val} {x : Obj} → is_integer_val v ≡ false → Rep C n v x → NoInteger x
no_integer e (rep_pos t f b) = absurd (no_integral e (omega arith) (omega arith))
no_integer e (rep_neg t f b) = absurd (no_integral e (omega arith) (omega arith))
no_integer e (rep_symbol t i f) = a_symbol
no_integer e (rep_nil t f) = a_seq
no_integer e (rep_more t f l a b) = a_seq

pub truth_rep : (C : List ℕ) (n : ℕ) {v : Val} (b : Bool) → v ≡ truth_val b → Rep C n v (truth b)
truth_rep C n true e = rw e rep_T
truth_rep C n false e = rw e rep_F

pub truth_read_t : {v : Val} → v.tag ≡ 2 → v.word ≡ 20 → ReadTruth v (Some true)
truth_read_t h w = record { means = λ C n x r. sym (ap truth_said (compared.truth_T h w r)) }

pub truth_read_f : {v : Val} → v.tag ≡ 2 → v.word ≡ 6 → ReadTruth v (Some false)
truth_read_f h w = record { means = λ C n x r. sym (ap truth_said (compared.truth_F h w r)) }

pub truth_other : {v : Val} → v.tag ≡ 2 → (v.word ≡ 20 → ⊥) → (v.word ≡ 6 → ⊥) → ReadTruth v None
truth_other h wt wf = record { means = λ C n x r. sym (ap truth_said (compared.truth_neither wt wf r)) }

-- ---- two of them
pub both_integers_lem : {a b : Val} {m : Meter} {p q : Bool} {u : Unit {0}} → p ≡ is_integer_val a → q ≡ is_integer_val b → p ≡ true → q ≡ true → BothIntegers a b m (Ok u)
both_integers_lem e f g h = are_both (short_of (sym e ∙ g)) (short_of (sym f ∙ h))

pub no_first : {a b : Val} {m : Meter} {p : Bool} → p ≡ is_integer_val a → p ≡ false → BothIntegers a b m (stopped Bottom m)
no_first e g = first_none (sym e ∙ g) refl

pub no_second : {a b : Val} {m : Meter} {q : Bool} → q ≡ is_integer_val b → q ≡ false → BothIntegers a b m (stopped Bottom m)
no_second e g = second_none (sym e ∙ g) refl
