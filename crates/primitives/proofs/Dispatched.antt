-- A word by its code.
use Rattle.language.specs.declared.stops.Stop.TheVariants.{Bottom}
use Rattle.language.specs.Charging.{stopped}
use Prim.Native.Nat.{ℕ, ◌≤◌}
use mathlib.Core.Path.{◌≡◌, refl, sym, ap, subst, ◌∙◌}
use mathlib.Core.Bool.{true, ◌&&◌, ◌||◌}
use mathlib.Core.List.{List}
use native.Mathlib.Omega.{arith}
use lib.IntN.{◌+ℤ◌, ◌-ℤ◌, ◌*ℤ◌}
use lib.ListN.{get_or}
use lib.Signed.{lt_z}
use Rattle.language.specs.Objects.{Obj, seq, Objs, nil, ◌::◌, length_of, ◌+++◌, truth}
use Rattle.language.specs.Words.{Op, ops}
use Rattle.language.specs.Forms.{op}
use Rattle.language.specs.Numbers.{one}
use Rattle.language.specs.Meanings.{WordAnswer, falls, meaning, made, plain, number, divided, compared, look, on_seq, on_int, on_truth, on_pair, with_left, with_right}
use Rattle.language.specs.Evaluation.{charged}
use Rattle.language.specs.declared.Meter.{Meter}
use Rattle.language.specs.declared.Val.{Val}
use Rattle.std.specs.Prelude.{Some, None}
use Rattle.cells.specs.Cells.{Room, free}
use Rattle.lexer.specs.declared.vocabulary.Primitive.{Primitive}
use Rattle.lexer.specs.declared.vocabulary.Primitive.TheVariants as P
use Rattle.lexer.specs.Vocabulary.{op_code, op_of}
use Rattle.primitives.specs.Shapes.{IsTwo, are_two, not_two, ReadTwo}
use Rattle.primitives.specs.Ends.{Ended, reached, Gives, Leaf}
use Rattle.primitives.specs.Leaves.{LeafTwo, Plain, PlainTwo, Coded, CodedTwo, CodedPair, takes_pair, Orders, order_reverse, order_rotl, order_rotr, Ordered}
use Rattle.primitives.proofs.Ending.{end_plain, leaf_falls, free_under}

-- ---- a word has one code, of the 23
op_at : ℕ → Op
op_at code = get_or ops code Op.id

op_back : (o : Op) → (op_at (op_code o) ≡ o) × (op_code o ≤ 22)
unfolding op_at op_code
op_back Op.id = (refl, omega arith)
op_back Op.tl = (refl, omega arith)
op_back Op.atom = (refl, omega arith)
op_back Op.null = (refl, omega arith)
op_back Op.eq = (refl, omega arith)
op_back Op.lt = (refl, omega arith)
op_back Op.length = (refl, omega arith)
op_back Op.add = (refl, omega arith)
op_back Op.sub = (refl, omega arith)
op_back Op.mul = (refl, omega arith)
op_back Op.div = (refl, omega arith)
op_back Op.and = (refl, omega arith)
op_back Op.or = (refl, omega arith)
op_back Op.not = (refl, omega arith)
op_back Op.apndl = (refl, omega arith)
op_back Op.tlr = (refl, omega arith)
op_back Op.reverse = (refl, omega arith)
op_back Op.rotl = (refl, omega arith)
op_back Op.rotr = (refl, omega arith)
op_back Op.apndr = (refl, omega arith)
op_back Op.distl = (refl, omega arith)
op_back Op.distr = (refl, omega arith)
op_back Op.trans = (refl, omega arith)

same_op : (o p : Op) {code : ℕ} → code ≡ op_code o → op_code p ≡ code → o ≡ p
same_op o p e f = sym (op_back o).0 ∙ (ap op_at (sym e ∙ sym f) ∙ (op_back p).0)

-- ---- the word o, whose code it is
coded : {C C' : List ℕ} {v : Val} {m : Meter} {code : ℕ} {r : Ended} (o : Op) → code ≡ op_code o → Leaf C v m (op o) r C' → Coded C v m code r C'
coded {C} {C'} {v} {m} {code} {r} o e g = record { sinks = g.sinks; past = λ h. absurd (omega (arith, (op_back o).1)); means = λ p f. subst (λ (q : Op). Leaf C v m (op q) r C') (same_op o p e f) g }

coded_plain : {C : List ℕ} {v : Val} {m : Meter} {code : ℕ} {r : Ended} (o : Op) → code ≡ op_code o → Plain v m (op o) r → Coded C v m code r C
coded_plain {C} o e g = coded o e (g.means C)

coded_two : {C C' : List ℕ} {a b : Val} {m : Meter} {code : ℕ} {r : Ended} (o : Op) → code ≡ op_code o → LeafTwo C a b m (op o) r C' → CodedTwo C a b m code r C'
coded_two {C} {C'} {a} {b} {m} {code} {r} o e g = record { sinks = g.sinks; past = λ h. absurd (omega (arith, (op_back o).1)); means = λ p f t. subst (λ (q : Op). LeafTwo C a b m (op q) r C') (same_op o p e f) g }

coded_plain_two : {C : List ℕ} {a b : Val} {m : Meter} {code : ℕ} {r : Ended} (o : Op) → code ≡ op_code o → PlainTwo a b m (op o) r → CodedTwo C a b m code r C
coded_plain_two {C} o e g = coded_two o e (g.means C)

id_is : {C : List ℕ} {v : Val} {m : Meter} → Leaf C v m (op Op.id) (reached v m) C
id_is = record { sinks = (omega arith, refl); means = λ x o r. end_plain x o refl r }

-- the words that arrange places
leaf_order : {C C' : List ℕ} {v : Val} {m : Meter} {word : Primitive} {r : Ended} {f : Objs → Objs} (o : Op) → Orders word o f → ((x : Obj) → meaning one (op o) x ≡ on_seq x (λ xs. made o (length_of xs) 0 (seq (f xs)))) → Ordered C v m word r C' → Leaf C v m (op o) r C'
leaf_order {f = f} o d e g = record { sinks = g.sinks; means = λ x room w. rw (e x) (g.means o f x d room w) }

-- ---- none of the words on one value
other_word : (word : Primitive) → (word ≡ P.Id → ⊥) → (word ≡ P.Tl → ⊥) → (word ≡ P.Atom → ⊥) → (word ≡ P.Null → ⊥) → (word ≡ P.Length → ⊥) → (word ≡ P.Not → ⊥) → (word ≡ P.Tlr → ⊥) → (word ≡ P.Reverse → ⊥) → (word ≡ P.Rotl → ⊥) → (word ≡ P.Rotr → ⊥) → (word ≡ P.Trans → ⊥) → takes_pair (op_of word) ≡ true
other_word P.Id a b c d f g h i j k l = absurd (a refl)
other_word P.Tl a b c d f g h i j k l = absurd (b refl)
other_word P.Atom a b c d f g h i j k l = absurd (c refl)
other_word P.Null a b c d f g h i j k l = absurd (d refl)
other_word P.Eq a b c d f g h i j k l = refl
other_word P.Lt a b c d f g h i j k l = refl
other_word P.Length a b c d f g h i j k l = absurd (f refl)
other_word P.Add a b c d f g h i j k l = refl
other_word P.Sub a b c d f g h i j k l = refl
other_word P.Mul a b c d f g h i j k l = refl
other_word P.Div a b c d f g h i j k l = refl
other_word P.And a b c d f g h i j k l = refl
other_word P.Or a b c d f g h i j k l = refl
other_word P.Not a b c d f g h i j k l = absurd (g refl)
other_word P.Apndl a b c d f g h i j k l = refl
other_word P.Tlr a b c d f g h i j k l = absurd (h refl)
other_word P.Reverse a b c d f g h i j k l = absurd (i refl)
other_word P.Rotl a b c d f g h i j k l = absurd (j refl)
other_word P.Rotr a b c d f g h i j k l = absurd (k refl)
other_word P.Apndr a b c d f g h i j k l = refl
other_word P.Distl a b c d f g h i j k l = refl
other_word P.Distr a b c d f g h i j k l = refl
other_word P.Trans a b c d f g h i j k l = absurd (l refl)

-- so the word that a code is of takes a pair
taken : (word : Primitive) (o : Op) → takes_pair (op_of word) ≡ true → op_code o ≡ op_code (op_of word) → takes_pair o ≡ true
taken word o t e = subst (λ (q : Op). takes_pair q ≡ true) (same_op (op_of word) o refl e) t

pub coded_pair : {C C' : List ℕ} {v : Val} {m : Meter} {word : Primitive} {r : Ended} → (word ≡ P.Id → ⊥) → (word ≡ P.Tl → ⊥) → (word ≡ P.Atom → ⊥) → (word ≡ P.Null → ⊥) → (word ≡ P.Length → ⊥) → (word ≡ P.Not → ⊥) → (word ≡ P.Tlr → ⊥) → (word ≡ P.Reverse → ⊥) → (word ≡ P.Rotl → ⊥) → (word ≡ P.Rotr → ⊥) → (word ≡ P.Trans → ⊥) → CodedPair C v m (op_code (op_of word)) r C' → Coded C v m (op_code (op_of word)) r C'
coded_pair {word = word} a b c d f g h i j k l p = record { sinks = p.sinks; past = p.past; means = λ o e. p.means o e (taken word o (other_word word a b c d f g h i j k l) e) }

-- ---- none of the words on a pair
no_two : (word : Primitive) → takes_pair (op_of word) ≡ true → (word ≡ P.Eq → ⊥) → (word ≡ P.Lt → ⊥) → (word ≡ P.Add → ⊥) → (word ≡ P.Sub → ⊥) → (word ≡ P.Mul → ⊥) → (word ≡ P.Div → ⊥) → (word ≡ P.And → ⊥) → (word ≡ P.Or → ⊥) → (word ≡ P.Apndl → ⊥) → (word ≡ P.Apndr → ⊥) → (word ≡ P.Distl → ⊥) → (word ≡ P.Distr → ⊥) → ⊥
no_two P.Id t a b c d f g h i j k l n = cc
no_two P.Tl t a b c d f g h i j k l n = cc
no_two P.Atom t a b c d f g h i j k l n = cc
no_two P.Null t a b c d f g h i j k l n = cc
no_two P.Eq t a b c d f g h i j k l n = a refl
no_two P.Lt t a b c d f g h i j k l n = b refl
no_two P.Length t a b c d f g h i j k l n = cc
no_two P.Add t a b c d f g h i j k l n = c refl
no_two P.Sub t a b c d f g h i j k l n = d refl
no_two P.Mul t a b c d f g h i j k l n = f refl
no_two P.Div t a b c d f g h i j k l n = g refl
no_two P.And t a b c d f g h i j k l n = h refl
no_two P.Or t a b c d f g h i j k l n = i refl
no_two P.Not t a b c d f g h i j k l n = cc
no_two P.Apndl t a b c d f g h i j k l n = j refl
no_two P.Tlr t a b c d f g h i j k l n = cc
no_two P.Reverse t a b c d f g h i j k l n = cc
no_two P.Rotl t a b c d f g h i j k l n = cc
no_two P.Rotr t a b c d f g h i j k l n = cc
no_two P.Apndr t a b c d f g h i j k l n = k refl
no_two P.Distl t a b c d f g h i j k l n = l refl
no_two P.Distr t a b c d f g h i j k l n = n refl
no_two P.Trans t a b c d f g h i j k l n = cc

untaken : (word : Primitive) (o : Op) → takes_pair o ≡ true → op_code o ≡ op_code (op_of word) → takes_pair (op_of word) ≡ true
untaken word o t e = subst (λ (q : Op). takes_pair q ≡ true) (sym (same_op (op_of word) o refl e)) t

pub two_none : {C : List ℕ} {u v : Val} {m : Meter} {word : Primitive} → (word ≡ P.Eq → ⊥) → (word ≡ P.Lt → ⊥) → (word ≡ P.Add → ⊥) → (word ≡ P.Sub → ⊥) → (word ≡ P.Mul → ⊥) → (word ≡ P.Div → ⊥) → (word ≡ P.And → ⊥) → (word ≡ P.Or → ⊥) → (word ≡ P.Apndl → ⊥) → (word ≡ P.Apndr → ⊥) → (word ≡ P.Distl → ⊥) → (word ≡ P.Distr → ⊥) → CodedTwo C u v m (op_code (op_of word)) (stopped Bottom m) C
two_none {word = word} a b c d f g h i j k l n = record { sinks = tt; past = λ z. refl; means = λ o e t. absurd (no_two word (untaken word o t e) a b c d f g h i j k l n) }

-- ---- the words on a pair give bottom of anything else
no_pair : (o : Op) → takes_pair o ≡ true → (x : Obj) → ((k : Obj → Obj → WordAnswer) → on_pair x k ≡ falls) → meaning one (op o) x ≡ falls
no_pair Op.id e x h = let z : ◌≡◌ {A = ℕ} 0 1 = cc in absurd (omega arith)
no_pair Op.tl e x h = let z : ◌≡◌ {A = ℕ} 0 1 = cc in absurd (omega arith)
no_pair Op.atom e x h = let z : ◌≡◌ {A = ℕ} 0 1 = cc in absurd (omega arith)
no_pair Op.null e x h = let z : ◌≡◌ {A = ℕ} 0 1 = cc in absurd (omega arith)
no_pair Op.eq e x h = h (λ a b. compared (look a b))
no_pair Op.lt e x h = h (λ a b. on_int a (λ i. on_int b (λ j. plain Op.lt (truth (lt_z i j)))))
no_pair Op.length e x h = let z : ◌≡◌ {A = ℕ} 0 1 = cc in absurd (omega arith)
no_pair Op.add e x h = h (λ a b. on_int a (λ i. on_int b (λ j. number one Op.add (i +ℤ j))))
no_pair Op.sub e x h = h (λ a b. on_int a (λ i. on_int b (λ j. number one Op.sub (i -ℤ j))))
no_pair Op.mul e x h = h (λ a b. on_int a (λ i. on_int b (λ j. number one Op.mul (i *ℤ j))))
no_pair Op.div e x h = h (λ a b. on_int a (λ i. on_int b (λ j. divided one i j)))
no_pair Op.and e x h = h (λ a b. on_truth a (λ i. on_truth b (λ j. plain Op.and (truth (i && j)))))
no_pair Op.or e x h = h (λ a b. on_truth a (λ i. on_truth b (λ j. plain Op.or (truth (i || j)))))
no_pair Op.not e x h = let z : ◌≡◌ {A = ℕ} 0 1 = cc in absurd (omega arith)
no_pair Op.apndl e x h = h (λ a b. on_seq b (λ ys. made Op.apndl (length_of ys) 0 (seq (a :: ys))))
no_pair Op.tlr e x h = let z : ◌≡◌ {A = ℕ} 0 1 = cc in absurd (omega arith)
no_pair Op.reverse e x h = let z : ◌≡◌ {A = ℕ} 0 1 = cc in absurd (omega arith)
no_pair Op.rotl e x h = let z : ◌≡◌ {A = ℕ} 0 1 = cc in absurd (omega arith)
no_pair Op.rotr e x h = let z : ◌≡◌ {A = ℕ} 0 1 = cc in absurd (omega arith)
no_pair Op.apndr e x h = h (λ a b. on_seq a (λ xs. made Op.apndr (length_of xs) 0 (seq (xs +++ (b :: nil)))))
no_pair Op.distl e x h = h (λ a b. on_seq b (λ ys. made Op.distl (length_of ys) 0 (seq (with_left a ys))))
no_pair Op.distr e x h = h (λ a b. on_seq a (λ xs. made Op.distr (length_of xs) 0 (seq (with_right xs b))))
no_pair Op.trans e x h = let z : ◌≡◌ {A = ℕ} 0 1 = cc in absurd (omega arith)

not_two_of : {C : List ℕ} {n : ℕ} {x : Obj} → IsTwo C n x None → (k : Obj → Obj → WordAnswer) → on_pair x k ≡ falls
not_two_of (not_two h) = h

pub pair_none : {C : List ℕ} {v : Val} {m : Meter} {code : ℕ} → ReadTwo C v None → CodedPair C v m code (stopped Bottom m) C
pair_none {C} {m = m} g = record { sinks = tt; past = λ h. refl; means = λ o f t. leaf_falls (λ x room r. no_pair o t x (not_two_of (g.means (free C m) x (free_under C m room) r))) }

two_gives : {C C' : List ℕ} {p : Val × Val} {m : Meter} {r : Ended} {o : Op} {x : Obj} → LeafTwo C p.0 p.1 m (op o) r C' → Room C m → IsTwo C (free C m) x (Some p) → Gives C m C' (charged (meaning one (op o) x) m) r
two_gives g room (are_two {x = x} {y = y} ra rb) = g.means x y room ra rb

pub pair_both : {C C' : List ℕ} {v : Val} {p : Val × Val} {m : Meter} {code : ℕ} {r : Ended} → ReadTwo C v (Some p) → CodedTwo C p.0 p.1 m code r C' → CodedPair C v m code r C'
pair_both {C} {m = m} g h = record { sinks = h.sinks; past = h.past; means = λ o f t. record { sinks = h.sinks; means = λ x room w. two_gives (h.means o f t) room (g.means (free C m) x (free_under C m room) w) } }

code_is : {word p : Primitive} → word ≡ p → op_code (op_of word) ≡ op_code (op_of p)
code_is e = ap (λ (q : Primitive). op_code (op_of q)) e

-- ---- each word
pub word_id : {C : List ℕ} {v : Val} {m : Meter} {word : Primitive} → word ≡ P.Id → Coded C v m (op_code (op_of word)) (reached v m) C
word_id e = coded Op.id (code_is e) id_is

pub word_tl : {C C' : List ℕ} {v : Val} {m : Meter} {word : Primitive} {r : Ended} → word ≡ P.Tl → Leaf C v m (op Op.tl) r C' → Coded C v m (op_code (op_of word)) r C'
word_tl e g = coded Op.tl (code_is e) g

pub word_atom : {C : List ℕ} {v : Val} {m : Meter} {word : Primitive} {r : Ended} → word ≡ P.Atom → Plain v m (op Op.atom) r → Coded C v m (op_code (op_of word)) r C
word_atom e g = coded_plain Op.atom (code_is e) g

pub word_null : {C : List ℕ} {v : Val} {m : Meter} {word : Primitive} {r : Ended} → word ≡ P.Null → Plain v m (op Op.null) r → Coded C v m (op_code (op_of word)) r C
word_null e g = coded_plain Op.null (code_is e) g

pub word_length : {C : List ℕ} {v : Val} {m : Meter} {word : Primitive} {r : Ended} → word ≡ P.Length → Plain v m (op Op.length) r → Coded C v m (op_code (op_of word)) r C
word_length e g = coded_plain Op.length (code_is e) g

pub word_not : {C : List ℕ} {v : Val} {m : Meter} {word : Primitive} {r : Ended} → word ≡ P.Not → Plain v m (op Op.not) r → Coded C v m (op_code (op_of word)) r C
word_not e g = coded_plain Op.not (code_is e) g

pub word_tlr : {C C' : List ℕ} {v : Val} {m : Meter} {word : Primitive} {r : Ended} → word ≡ P.Tlr → Leaf C v m (op Op.tlr) r C' → Coded C v m (op_code (op_of word)) r C'
word_tlr e g = coded Op.tlr (code_is e) g

pub word_trans : {C C' : List ℕ} {v : Val} {m : Meter} {word : Primitive} {r : Ended} → word ≡ P.Trans → Leaf C v m (op Op.trans) r C' → Coded C v m (op_code (op_of word)) r C'
word_trans e g = coded Op.trans (code_is e) g

pub word_reverse : {C C' : List ℕ} {v : Val} {m : Meter} {word : Primitive} {r : Ended} → word ≡ P.Reverse → Ordered C v m P.Reverse r C' → Coded C v m (op_code (op_of word)) r C'
word_reverse e g = coded Op.reverse (code_is e) (leaf_order Op.reverse order_reverse (λ x. refl) g)

pub word_rotl : {C C' : List ℕ} {v : Val} {m : Meter} {word : Primitive} {r : Ended} → word ≡ P.Rotl → Ordered C v m P.Rotl r C' → Coded C v m (op_code (op_of word)) r C'
word_rotl e g = coded Op.rotl (code_is e) (leaf_order Op.rotl order_rotl (λ x. refl) g)

pub word_rotr : {C C' : List ℕ} {v : Val} {m : Meter} {word : Primitive} {r : Ended} → word ≡ P.Rotr → Ordered C v m P.Rotr r C' → Coded C v m (op_code (op_of word)) r C'
word_rotr e g = coded Op.rotr (code_is e) (leaf_order Op.rotr order_rotr (λ x. refl) g)

pub word_eq : {C C' : List ℕ} {a b : Val} {m : Meter} {word : Primitive} {r : Ended} → word ≡ P.Eq → LeafTwo C a b m (op Op.eq) r C' → CodedTwo C a b m (op_code (op_of word)) r C'
word_eq e g = coded_two Op.eq (code_is e) g

pub word_lt : {C : List ℕ} {a b : Val} {m : Meter} {word : Primitive} {r : Ended} → word ≡ P.Lt → PlainTwo a b m (op Op.lt) r → CodedTwo C a b m (op_code (op_of word)) r C
word_lt e g = coded_plain_two Op.lt (code_is e) g

pub word_add : {C : List ℕ} {a b : Val} {m : Meter} {word : Primitive} {r : Ended} → word ≡ P.Add → PlainTwo a b m (op Op.add) r → CodedTwo C a b m (op_code (op_of word)) r C
word_add e g = coded_plain_two Op.add (code_is e) g

pub word_sub : {C : List ℕ} {a b : Val} {m : Meter} {word : Primitive} {r : Ended} → word ≡ P.Sub → PlainTwo a b m (op Op.sub) r → CodedTwo C a b m (op_code (op_of word)) r C
word_sub e g = coded_plain_two Op.sub (code_is e) g

pub word_mul : {C : List ℕ} {a b : Val} {m : Meter} {word : Primitive} {r : Ended} → word ≡ P.Mul → PlainTwo a b m (op Op.mul) r → CodedTwo C a b m (op_code (op_of word)) r C
word_mul e g = coded_plain_two Op.mul (code_is e) g

pub word_div : {C : List ℕ} {a b : Val} {m : Meter} {word : Primitive} {r : Ended} → word ≡ P.Div → PlainTwo a b m (op Op.div) r → CodedTwo C a b m (op_code (op_of word)) r C
word_div e g = coded_plain_two Op.div (code_is e) g

pub word_and : {C : List ℕ} {a b : Val} {m : Meter} {word : Primitive} {r : Ended} → word ≡ P.And → PlainTwo a b m (op Op.and) r → CodedTwo C a b m (op_code (op_of word)) r C
word_and e g = coded_plain_two Op.and (code_is e) g

pub word_or : {C : List ℕ} {a b : Val} {m : Meter} {word : Primitive} {r : Ended} → word ≡ P.Or → PlainTwo a b m (op Op.or) r → CodedTwo C a b m (op_code (op_of word)) r C
word_or e g = coded_plain_two Op.or (code_is e) g

pub word_apndl : {C C' : List ℕ} {a b : Val} {m : Meter} {word : Primitive} {r : Ended} → word ≡ P.Apndl → LeafTwo C a b m (op Op.apndl) r C' → CodedTwo C a b m (op_code (op_of word)) r C'
word_apndl e g = coded_two Op.apndl (code_is e) g

pub word_apndr : {C C' : List ℕ} {a b : Val} {m : Meter} {word : Primitive} {r : Ended} → word ≡ P.Apndr → LeafTwo C a b m (op Op.apndr) r C' → CodedTwo C a b m (op_code (op_of word)) r C'
word_apndr e g = coded_two Op.apndr (code_is e) g

pub word_distl : {C C' : List ℕ} {a b : Val} {m : Meter} {word : Primitive} {r : Ended} → word ≡ P.Distl → LeafTwo C a b m (op Op.distl) r C' → CodedTwo C a b m (op_code (op_of word)) r C'
word_distl e g = coded_two Op.distl (code_is e) g

pub word_distr : {C C' : List ℕ} {a b : Val} {m : Meter} {word : Primitive} {r : Ended} → word ≡ P.Distr → LeafTwo C a b m (op Op.distr) r C' → CodedTwo C a b m (op_code (op_of word)) r C'
word_distr e g = coded_two Op.distr (code_is e) g

-- ---- the word that a code is of, or a code past the table
pub coded_as : {C C' : List ℕ} {v : Val} {m : Meter} {code : ℕ} (word : Primitive) {r : Ended} → op_code (op_of word) ≡ code → Coded C v m (op_code (op_of word)) r C' → Coded C v m code r C'
coded_as {C} {C'} {v} {m} word {r} e g = subst (λ (k : ℕ). Coded C v m k r C') e g

pub coded_past : {C : List ℕ} {v : Val} {m : Meter} {code : ℕ} → 23 ≤ code → Coded C v m code (stopped Bottom m) C
coded_past h = record { sinks = tt; past = λ z. refl; means = λ o e. absurd (omega (arith, (op_back o).1)) }
