-- Whatever is read as an object is one that texts can hold, of at most 32 marks, and is written in no more bytes than were read.
use Prim.Native.Nat.{ℕ, zero, suc, ◌+◌, ◌-◌, ◌≤◌}
use Prim.Native.Char.{code}
use mathlib.Core.List.{List}
use native.Mathlib.Omega.{arith}
use borrow.Author.Tests.{eqb-true}
use lib.Dec.{eqb}
use lib.ListN.{length, length-append}
use Rattle.language.specs.Objects.{Obj, Objs, nil, ◌::◌}
use Rattle.language.specs.Tokens.{byte_at, place_from, size_at}
use Rattle.language.specs.Numbers.{mark_limit}
use Rattle.language.specs.Reading.{Got, word_at, inside_sequence, after_object, read_obj, read_objs, at_end, calls, read_object}
use Rattle.language.specs.Writing.{write_obj, write_objs, write_more_objs, marks_of_obj, marks_of_objs}
use Rattle.language.specs.Accepted.{IsObj, AreObjs}
use Rattle.theorems.specs.ReadBack.{ReadObject, ObjectsRead}
use Rattle.theorems.proofs.Outcomes.{Meets, meets, refuses, got_meets, meets_then, meets_cond, meets_refused, meets_opens, meets_judged, place_on, word_long}
use Rattle.theorems.proofs.JudgedWords.{IsAtomIn, judged_atom}

-- from `at` to `e`, where `room` marks might open
pub record ObjectIn (at room : ℕ) (x : Obj) (e : ℕ) : Type 0 where
  pub is_obj : IsObj x
  pub marks : marks_of_obj x ≤ room
  pub short : at + length (write_obj x) ≤ e

-- the same with the closing `>`
pub record ObjectsIn (at room : ℕ) (xs : Objs) (e : ℕ) : Type 0 where
  pub are_objs : AreObjs xs
  pub marks : marks_of_objs xs ≤ room
  pub short : at + length (write_objs xs) ≤ e

-- later objects take a comma more
more_objects : (xs : Objs) → length (write_more_objs xs) ≤ suc (length (write_objs xs))
unfolding write_objs
more_objects nil = omega arith
more_objects (x :: xs) = omega arith

module _ (s : List ℕ) (at room : ℕ) where
  atom_in : (x : Obj) → IsAtomIn (length (word_at s (place_from s at))) x → ObjectIn at room x (place_from s at + size_at s (place_from s at))
  atom_in x h =
      let p = place_on s at in
      let l = word_long s (place_from s at) in
      record { is_obj = h.is_obj; marks = omega (arith, h.marks); short = omega (arith, h.short) }

  sequence_in : (a : ℕ) (r : ℕ → Got Objs) → at + 1 ≤ a → 1 ≤ room → Meets (ObjectsIn a (room - 1)) (r a) → Meets (ObjectIn at room) (inside_sequence s a r)
  unfolding inside_sequence write_obj
  sequence_in a r la lr h =
      let p = place_on s a in
      meets_cond (eqb (byte_at s (place_from s a)) (code ">"))
      (λ t. meets (record { is_obj = tt; marks = omega arith; short = omega arith }))
      (λ t. meets_then h (λ xs e q. meets (record { is_obj = q.are_objs; marks = omega (arith, q.marks); short = omega (arith, q.short) })))

  after_object_lem : (x : Obj) (e : ℕ) (r : ℕ → Got Objs) → ObjectIn at room x e → Meets (ObjectsIn (place_from s e + 1) room) (r (place_from s e + 1)) → Meets (ObjectsIn at room) (after_object s x e r)
  unfolding after_object write_objs
  after_object_lem x e r q h =
      let p = place_on s e in
      meets_cond (eqb (byte_at s (place_from s e)) (code ","))
      (λ t. meets_then h (λ xs e' qs.
      let m = more_objects xs in
      meets (record { are_objs = (q.is_obj, qs.are_objs); marks = omega (arith, q.marks, qs.marks); short = rw length-append (omega (arith, q.short, qs.short)) })))
      (λ t. meets_cond (eqb (byte_at s (place_from s e)) (code ">"))
      (λ u. meets (record { are_objs = (q.is_obj, tt); marks = omega (arith, q.marks); short = rw length-append (omega (arith, q.short)) }))
      (λ u. meets_refused s (place_from s e)))

mutual
  unfolding read_obj

  pub object_in : (k : ℕ) (s : List ℕ) (at room : ℕ) → Meets (ObjectIn at room) (read_obj k s at room)
  object_in zero s at room = refuses
  object_in (suc k) s at room =
      let p = place_from s at in
      let o = place_on s at in
      meets_cond (eqb (byte_at s p) (code "<"))
      (λ t. meets_opens p room (λ a. inside_sequence s a (λ b. read_objs k s b (room - 1)))
      (λ l. sequence_in s at room (p + 1) (λ b. read_objs k s b (room - 1)) (omega arith) l (objects_in k s (p + 1) (room - 1))))
      (λ t. meets_judged s p (judged_atom (word_at s p)) (λ x h. atom_in s at room x h))

  objects_in : (k : ℕ) (s : List ℕ) (at room : ℕ) → Meets (ObjectsIn at room) (read_objs k s at room)
  objects_in zero s at room = refuses
  objects_in (suc k) s at room =
      meets_then (object_in k s at room) (λ x e q. after_object_lem s at room x e (λ a. read_objs k s a room) q (objects_in k s (place_from s e + 1) room))

-- nothing stands behind it
whole : (s : List ℕ) (x : Obj) (e : ℕ) → ObjectIn 0 mark_limit x e → Meets (ReadObject s) (at_end s x e)
unfolding at_end
whole s x e q =
    let p = place_from s e in
    let o = place_on s e in
    meets_cond (eqb p (length s))
    (λ t. let n = eqb-true p (length s) t in meets (record { is_obj = q.is_obj; marks = q.marks; ends = n; no_longer = omega (arith, q.short) }))
    (λ t. meets_refused s p)

pub objects_read : ObjectsRead
unfolding read_object
objects_read s x e h = got_meets (meets_then (object_in (calls s) s 0 mark_limit) (λ y a q. whole s y a q)) h
