-- What is written of an object reads back, so that equal bytes mean equal objects.
use mathlib.Core.Path.{◌≡◌, refl, ap, sym, ◌∙◌}
use mathlib.Core.Bool.{false}
use mathlib.Core.List.{List, [], ◌∷◌, ◌++◌, append-nil}
use Prim.Native.Nat.{ℕ, suc, ◌+◌, ◌-◌, ◌*◌}
use native.Mathlib.Nat.{zero-add}
use native.Mathlib.Omega.{arith}
use borrow.Author.Tests.{eq-eqb, ne_eqb}
use lib.ListN.{length, drop}
use Rattle.language.specs.Objects.{Obj, int, symbol, seq, Objs, nil, ◌::◌}
use Rattle.language.specs.Tokens.{is_blank, is_word_byte, size_at}
use Rattle.language.specs.Judging.{is, judge_atom}
use Rattle.language.specs.Reading.{got, and_then, opens, inside_sequence, after_object, read_obj, read_objs, read_object, at_end}
use Rattle.language.specs.Writing.{write_integer, write_obj, write_objs, write_more_objs, marks_of_obj, marks_of_objs}
use Rattle.language.specs.Accepted.{IsObj, AreObjs}
use Rattle.theorems.specs.ReadBack.{ObjectsReadBack, EqualBytes}
use Rattle.theorems.proofs.Texts.{byte_here, place_here, drop_one, place_end, span-nil, span_none, judged_here}
use Rattle.theorems.proofs.Readers.{Reads, EndsWord, suc_of, closed, joined}
use Rattle.theorems.proofs.Atoms.{BeginsAtom, integer_judged, symbol_judged, integer_begins, symbol_begins, integer_size, symbol_size}

abbrev pub ReadsObj : Obj → Type 0
ReadsObj x = Reads read_obj EndsWord 0 (write_obj x) (marks_of_obj x) x

-- what an object's text begins with is no blank and no >
begins : (x : Obj) → IsObj x → (b : ℕ) × (a : List ℕ) × (write_obj x ≡ b ∷ a) × (is_blank b ≡ false) × (b ≡ 62 → ⊥)
unfolding write_obj
begins (int z) h = let x = integer_begins z in (x.0, x.1, x.2, x.3, x.5)
begins (symbol w) h = let x = symbol_begins w h in (x.0, x.1, x.2, x.3, x.5)
begins (seq xs) h = (60, write_objs xs, refl, refl, omega arith)

atom_back : (x : Obj) (w : List ℕ) → BeginsAtom w → judge_atom w ≡ is x →
    ((s : List ℕ) (p : ℕ) (l : List ℕ) → EndsWord l → drop p s ≡ w ++ l → size_at s p ≡ length w) → Reads read_obj EndsWord 0 w 0 x
unfolding read_obj
atom_back x w b j size s at room k l d f m n =
    let i = suc_of k (omega arith) in
    let e : drop at s ≡ b.0 ∷ (b.1 ++ l) = rw b.2 at d in
    rw (i.1, place_here s at b.0 (b.1 ++ l) e b.3, byte_here s at b.0 (b.1 ++ l) e, ne_eqb b.0 60 b.4)
    (judged_here judge_atom x s at w l d (size s at l f d) j)

-- behind an object: the > or a comma
module _ (x : Obj) (s : List ℕ) (at room k e : ℕ) (l : List ℕ) (read : read_obj k s at room ≡ got x e) where
  last_object : drop e s ≡ 62 ∷ l → read_objs (suc k) s at room ≡ got (x :: nil) (e + 1)
  unfolding read_objs after_object
  last_object d = rw (read, place_here s e 62 l d refl, byte_here s e 62 l d)

  later_object : drop e s ≡ 44 ∷ l → read_objs (suc k) s at room ≡ and_then (read_objs k s (e + 1) room) (λ xs e. got (x :: xs) e)
  unfolding read_objs after_object
  later_object d = rw (read, place_here s e 44 l d refl, byte_here s e 44 l d)

abbrev AllRead : Objs → Type 0
AllRead nil = Unit {0}
AllRead (x :: xs) = ReadsObj x × AllRead xs

objs_back : (x : Obj) (xs : Objs) → AllRead (x :: xs) → Reads read_objs EndsWord 1 (write_objs (x :: xs)) (marks_of_objs (x :: xs)) (x :: xs)
unfolding write_objs
objs_back x nil r = closed 62 read_obj read_objs (λ x. x :: nil) EndsWord EndsWord 0 (write_obj x) (marks_of_obj x) x (λ l. span_none is_word_byte 62 l refl) (last_object x) r.0
objs_back x (y :: ys) r =
    joined 44 read_obj read_objs read_objs ◌::◌ EndsWord EndsWord 0 (write_obj x) (marks_of_obj x) x (write_objs (y :: ys)) (marks_of_objs (y :: ys)) (y :: ys)
    (λ l. span_none is_word_byte 44 l refl) (later_object x) r.0 (objs_back y ys r.1)

seq_back : (xs : Objs) → AreObjs xs → AllRead xs → ReadsObj (seq xs)
unfolding read_obj inside_sequence opens write_objs
seq_back nil h r s at room k l d f m n =
    let i = suc_of k (omega arith) in
    let d₁ = drop_one s at 60 (62 ∷ l) d in
    let y : at + 1 + 1 ≡ at + 2 = omega arith in
    rw (i.1, place_here s at 60 (62 ∷ l) d refl, byte_here s at 60 (62 ∷ l) d, ne_eqb room 0 (omega arith), place_here s (at + 1) 62 l d₁ refl, byte_here s (at + 1) 62 l d₁, y)
seq_back (x :: xs) h r s at room k l d f m n =
    let i = suc_of k (omega arith) in
    let t = write_objs (x :: xs) in
    let b = begins x h.0 in
    let d₁ = drop_one s at 60 (t ++ l) d in
    let u = b.1 ++ write_more_objs xs ++ l in
    let e : drop (at + 1) s ≡ b.0 ∷ u = rw b.2 at d₁ in
    let g = objs_back x xs r s (at + 1) (room - 1) i.0 l d₁ f (omega arith) (omega (arith, i.1)) in
    let y : at + 1 + length t ≡ at + suc (length t) = omega arith in
    rw (
      i.1,
      place_here s at 60 (t ++ l) d refl,
      byte_here s at 60 (t ++ l) d,
      ne_eqb room 0 (omega arith),
      place_here s (at + 1) b.0 u e b.3,
      byte_here s (at + 1) b.0 u e,
      ne_eqb b.0 62 b.4,
      g,
      y,
    )

mutual
  unfolding write_obj

  pub obj_back : (x : Obj) → IsObj x → ReadsObj x
  obj_back (int z) h = atom_back (int z) (write_integer z) (integer_begins z) (integer_judged z h) (λ s p l e d. integer_size s p l e z d)
  obj_back (symbol w) h = atom_back (symbol w) w (symbol_begins w h) (symbol_judged w h) (λ s p l e d. symbol_size s p l e w h d)
  obj_back (seq xs) h = seq_back xs h (all_read xs h)

  all_read : (xs : Objs) → AreObjs xs → AllRead xs
  all_read nil h = tt
  all_read (x :: xs) h = (obj_back x h.0, all_read xs h.1)

pub objects_read_back : ObjectsReadBack
unfolding read_object at_end
objects_read_back x h m =
    let w = write_obj x in
    let g = obj_back x h w 0 32 (4 * length w + 4) [] (sym (append-nil w)) (span-nil is_word_byte) m (omega arith) in
    rw (g, zero-add, place_end w, eq-eqb (length w) (length w) refl)

-- With room for the marks of both, the one text reads as either.
pub equal_bytes : EqualBytes
equal_bytes x y hx hy e =
    let w = write_obj x in
    let room = marks_of_obj x + marks_of_obj y in
    let k = 3 * length w + 1 in
    let gx = obj_back x hx w 0 room k [] (sym (append-nil w)) (span-nil is_word_byte) (omega arith) (omega arith) in
    let gy = obj_back y hy w 0 room k [] (e ∙ sym (append-nil (write_obj y))) (span-nil is_word_byte) (omega arith) (omega (arith, ap length e)) in
    cc
