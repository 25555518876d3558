-- What a value shows of the object that it stands for: a pair, an integer, a truth value, an atom.
use Rattle.std.specs.Prelude.{ℕ, ◌<◌, ◌≤◌, ◌≡◌, Bool, true, false, ◌&&◌, List, ltb, Option, Some, None, Result, Ok, Err}
use Rattle.language.specs.Numbers.{half, one}
use Rattle.language.specs.Objects.{Obj, seq, nil, ◌::◌, Truth, is_T, is_F, neither, truth_of}
use Rattle.language.specs.Meanings.{WordAnswer, falls, on_pair, is_atom, is_null}
use Rattle.language.specs.declared.Val.{Val}
use Rattle.cells.specs.Cells.{Rep}
use Rattle.cells.specs.Parts.{Sized}
use Rattle.language.specs.declared.Meter.{Meter}
use Rattle.language.specs.Charging.{stop_at, stopped}
use Rattle.language.specs.declared.stops.Stop.TheVariants.{Bottom}
use Rattle.language.specs.declared.stops.Stopped.{Stopped}
use Rattle.arithmetic.specs.Integers.{Short}
use Rattle.primitives.specs.Ends.{Ended, reached}

-- a sequence of n places; no sequence, and so bottom
pub record IsSequence (v : Val) (n : ℕ) : Type 0 where
  pub tag : v.tag ≡ 3
  pub size : Sized v n

pub record NoSequence (v : Val) (m : Meter) (s : Stopped) : Type 0 where
  pub tag : v.tag ≡ 3 → ⊥
  pub is : s ≡ stop_at Bottom m

abbrev pub ReadPlaces : Val → Meter → Result ℕ Stopped → Type 0
ReadPlaces v m (Ok n) = IsSequence v n
ReadPlaces v m (Err s) = NoSequence v m s

-- a sequence of n places with a place k, counted from 1; or bottom
pub record HasPlace (k : ℕ) (v : Val) (n : ℕ) : Type 0 where
  pub sequence : IsSequence v n
  pub first : k ≡ 0 → ⊥
  pub last : k ≤ n

pub data NoPlace (k : ℕ) (v : Val) : Type 0 where
  an_atom : (v.tag ≡ 3 → ⊥) → NoPlace k v
  no_first : v.tag ≡ 3 → k ≡ 0 → NoPlace k v
  too_far : {n : ℕ} → v.tag ≡ 3 → Sized v n → n < k → NoPlace k v

pub record NoPlaceTo (k : ℕ) (v : Val) (m : Meter) (s : Stopped) : Type 0 where
  pub none : NoPlace k v
  pub is : s ≡ stop_at Bottom m

abbrev pub ReadPlacesTo : ℕ → Val → Meter → Result ℕ Stopped → Type 0
ReadPlacesTo k v m (Ok n) = HasPlace k v n
ReadPlacesTo k v m (Err s) = NoPlaceTo k v m s

-- the two objects of a pair, or no pair
pub data IsTwo (C : List ℕ) (n : ℕ) : Obj → Option (Val × Val) → Type 0 where
  are_two : {p : Val × Val} {x y : Obj} → Rep C n p.0 x → Rep C n p.1 y → IsTwo C n (seq (x :: y :: nil)) (Some p)
  not_two : {x : Obj} → ((k : Obj → Obj → WordAnswer) → on_pair x k ≡ falls) → IsTwo C n x None

pub record ReadTwo (C : List ℕ) (v : Val) (r : Option (Val × Val)) : Type 0 where
  pub means : (n : ℕ) (x : Obj) → n < 4294967296 → Rep C n v x → IsTwo C n x r

-- one of document 01's integers
unfoldable pub is_integer_val : Val → Bool
is_integer_val v = ltb v.tag 2 && ltb v.word (half one)

-- the symbols T and F
abbrev pub truth_val : Bool → Val
truth_val true = record { tag = 2; word = 20 }
truth_val false = record { tag = 2; word = 6 }

abbrev pub truth_said : Truth → Option Bool
truth_said is_T = Some true
truth_said is_F = Some false
truth_said neither = None

pub record ReadTruth (v : Val) (r : Option Bool) : Type 0 where
  pub means : (C : List ℕ) (n : ℕ) (x : Obj) → Rep C n v x → r ≡ truth_said (truth_of x)

-- two values that are T or F, or bottom
pub data TwoTruths (a b : Val) (m : Meter) : Result (Bool × Bool) Stopped → Type 0 where
  are_truths : {p : Bool × Bool} → ReadTruth a (Some p.0) → ReadTruth b (Some p.1) → TwoTruths a b m (Ok p)
  first_other : {s : Stopped} → ReadTruth a None → s ≡ stop_at Bottom m → TwoTruths a b m (Err s)
  second_other : {s : Stopped} → ReadTruth b None → s ≡ stop_at Bottom m → TwoTruths a b m (Err s)

pub record ReadAtom (v : Val) (r : Bool) : Type 0 where
  pub means : (C : List ℕ) (n : ℕ) (x : Obj) → Rep C n v x → r ≡ is_atom x

pub record ReadNull (v : Val) (r : Bool) : Type 0 where
  pub means : (C : List ℕ) (n : ℕ) (x : Obj) → Rep C n v x → r ≡ is_null x

-- two integers, or bottom
pub data BothIntegers (a b : Val) (m : Meter) : Result (Unit {0}) Stopped → Type 0 where
  are_both : {u : Unit {0}} → Short a → Short b → BothIntegers a b m (Ok u)
  first_none : {s : Stopped} → is_integer_val a ≡ false → s ≡ stop_at Bottom m → BothIntegers a b m (Err s)
  second_none : {s : Stopped} → is_integer_val b ≡ false → s ≡ stop_at Bottom m → BothIntegers a b m (Err s)

-- an integer of any size that is given where it is in range
pub record InRange (z : Val) (m : Meter) (r : Ended) : Type 0 where
  pub below : z.word < half one → r ≡ reached z m
  pub above : half one ≤ z.word → r ≡ stopped Bottom m
