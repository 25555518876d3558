-- What an application of a word answers, by the word's code, on one value or on the two of a pair.
use Rattle.std.specs.Prelude.{ℕ, ◌<◌, ◌≡◌, Bool, true, false, List}
use Rattle.language.specs.Objects.{Obj, Objs, length_of, seq}
use Rattle.language.specs.Words.{Op}
use Rattle.language.specs.Forms.{Word, op}
use Rattle.language.specs.Numbers.{one}
use Rattle.language.specs.Meanings.{meaning, pair, on_seq, made, turned, to_left, to_right}
use Rattle.language.specs.Evaluation.{charged}
use Rattle.language.specs.declared.Meter.{Meter}
use Rattle.language.specs.declared.Val.{Val}
use Rattle.cells.specs.Cells.{Rep, Room, free}
use Rattle.sequences.specs.Making.{Rearranged, all_but_last}
use Rattle.lexer.specs.declared.vocabulary.Primitive.{Primitive}
use Rattle.lexer.specs.declared.vocabulary.Primitive.TheVariants as P
use Rattle.lexer.specs.Vocabulary.{op_code}
use Rattle.language.specs.Charging.{stopped}
use Rattle.language.specs.declared.stops.Stop.TheVariants.{Bottom}
use Rattle.primitives.specs.Ends.{Ended, Gives, Sinks, Leaf}

-- the word w on a pair
pub record LeafTwo (C : List ℕ) (a b : Val) (m : Meter) (w : Word) (r : Ended) (C' : List ℕ) : Type 0 where
  pub sinks : Sinks r m
  pub means : (x y : Obj) → Room C m → Rep C (free C m) a x → Rep C (free C m) b y → Gives C m C' (charged (meaning one w (pair x y)) m) r

-- a word that changes no cells, with any cells
pub record Plain (v : Val) (m : Meter) (w : Word) (r : Ended) : Type 0 where
  pub means : (C : List ℕ) → Leaf C v m w r C

pub record PlainTwo (a b : Val) (m : Meter) (w : Word) (r : Ended) : Type 0 where
  pub means : (C : List ℕ) → LeafTwo C a b m w r C

-- the word with a code
pub record Coded (C : List ℕ) (v : Val) (m : Meter) (code : ℕ) (r : Ended) (C' : List ℕ) : Type 0 where
  pub sinks : Sinks r m
  pub past : 22 < code → r ≡ stopped Bottom m
  pub means : (o : Op) → op_code o ≡ code → Leaf C v m (op o) r C'

-- the words that ask for a pair
abbrev pub takes_pair : Op → Bool
takes_pair Op.id = false
takes_pair Op.tl = false
takes_pair Op.atom = false
takes_pair Op.null = false
takes_pair Op.eq = true
takes_pair Op.lt = true
takes_pair Op.length = false
takes_pair Op.add = true
takes_pair Op.sub = true
takes_pair Op.mul = true
takes_pair Op.div = true
takes_pair Op.and = true
takes_pair Op.or = true
takes_pair Op.not = false
takes_pair Op.apndl = true
takes_pair Op.tlr = false
takes_pair Op.reverse = false
takes_pair Op.rotl = false
takes_pair Op.rotr = false
takes_pair Op.apndr = true
takes_pair Op.distl = true
takes_pair Op.distr = true
takes_pair Op.trans = false

-- a word with a code that asks for a pair, on a pair and on any value
pub record CodedTwo (C : List ℕ) (a b : Val) (m : Meter) (code : ℕ) (r : Ended) (C' : List ℕ) : Type 0 where
  pub sinks : Sinks r m
  pub past : 22 < code → r ≡ stopped Bottom m
  pub means : (o : Op) → op_code o ≡ code → takes_pair o ≡ true → LeafTwo C a b m (op o) r C'

pub record CodedPair (C : List ℕ) (v : Val) (m : Meter) (code : ℕ) (r : Ended) (C' : List ℕ) : Type 0 where
  pub sinks : Sinks r m
  pub past : 22 < code → r ≡ stopped Bottom m
  pub means : (o : Op) → op_code o ≡ code → takes_pair o ≡ true → Leaf C v m (op o) r C'

-- the words that give a sequence's places in another order, or all but the last
pub data Orders : Primitive → Op → (Objs → Objs) → Type 0 where
  order_tlr : Orders P.Tlr Op.tlr all_but_last
  order_reverse : Orders P.Reverse Op.reverse turned
  order_rotl : Orders P.Rotl Op.rotl to_left
  order_rotr : Orders P.Rotr Op.rotr to_right

pub record Arranged (C : List ℕ) (v : Val) (word : Primitive) (n p : ℕ) (r : Val) (C' : List ℕ) : Type 0 where
  pub means : (o : Op) (f : Objs → Objs) → Orders word o f → Rearranged f C v n p r C'

-- such a word on a sequence
pub record Ordered (C : List ℕ) (v : Val) (m : Meter) (word : Primitive) (r : Ended) (C' : List ℕ) : Type 0 where
  pub sinks : Sinks r m
  pub means : (o : Op) (f : Objs → Objs) (x : Obj) → Orders word o f → Room C m → Rep C (free C m) v x → Gives C m C' (charged (on_seq x (λ xs. made o (length_of xs) 0 (seq (f xs)))) m) r
