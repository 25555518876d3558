-- What a reader gets ends behind its start and within the text; a refusal has one of 01's numbers and a place within the text.
use Prim.Native.Nat.{ℕ, zero, suc, ◌+◌, ◌-◌, ◌≤◌}
use Prim.Native.Char.{code}
use mathlib.Core.Path.{◌≡◌, refl, sym, ◌∙◌}
use mathlib.Core.Bool.{Bool, true, false, cond, ◌&&◌, ◌||◌, and-eq-true_iff}
use mathlib.Core.List.{List, [], ◌∷◌}
use native.Mathlib.Omega.{arith}
use borrow.Author.Tests.{eqb-true, leb-true, leb-false}
use lib.Dec.{leb, eqb, ltb}
use lib.ListN.{length, take, drop, length-take, length-drop, drop_of_length-le, get_or-eq_default}
use Rattle.language.specs.Objects.{Obj, Objs}
use Rattle.language.specs.Forms.{Form, construct, constant, insert, apply_all, bu, condition, while, Forms, Prog, forms_of}
use Rattle.language.specs.Tokens.{is_blank, is_digit, is_letter, is_word_byte, byte_at, span, place_from, dash_size, size, size_at}
use Rattle.language.specs.Judging.{Judged, is_not, judge_atom, judge_part, judge_name, refusal_of}
use Rattle.language.specs.Numbers.{mark_limit}
use Rattle.language.specs.Reading.{Got, got, no, and_then, word_at, as_judged, refused, mark, opens, inside_sequence, after_object, read_obj, read_objs, at_end, calls, read_object}
use Rattle.language.specs.Reading.{after_test, after_part, after_parts, after_form, read_form, read_parts, read_forms, read_part, Placed, program_of, definition_at, read_definitions, is_in, none_twice, within_limits, read_program}
use Rattle.theorems.specs.ReadBack.{Refusal, ObjectsRefused, ProgramsRefused}
use Rattle.theorems.proofs.Outcomes.{Outcome, meets, refuses_by, MeetsWord, meets_word, misspelled, out_of_range, too_long, no_meets, meets_then, meets_cond, place_on, word_long}
use Rattle.theorems.proofs.JudgedWords.{judged_atom, judged_part, judged_name}

-- ---- places within a text

span_short : (test : ℕ → Bool) (s : List ℕ) → span test s ≤ length s
unfolding span
span_short test [] = omega arith
span_short test (b ∷ s) = go (span_short test s) (test b)
  where
    go : span test s ≤ length s → (t : Bool) → elim t [ true ↦ suc (span test s) | false ↦ zero ] ≤ suc (length s)
    go h true = omega arith
    go h false = omega arith

dash_short : (s : List ℕ) → dash_size s ≤ suc (length s)
unfolding dash_size
dash_short [] = omega arith
dash_short (b ∷ s) = go (is_digit b) (eqb b (code ">"))
  where
    go : (t u : Bool) → elim t [ true ↦ suc (suc (span is_word_byte s)) | false ↦ elim u [ true ↦ 2 | false ↦ 1 ] ] ≤ suc (suc (length s))
    go true u = let h = span_short is_word_byte s in omega arith
    go false true = omega arith
    go false false = omega arith

size_short : (s : List ℕ) → size s ≤ length s
unfolding size
size_short [] = omega arith
size_short (b ∷ s) = go (is_word_byte b) (eqb b (code "-"))
  where
    go : (t u : Bool) → elim t [ true ↦ suc (span is_word_byte s) | false ↦ elim u [ true ↦ dash_size s | false ↦ 1 ] ] ≤ suc (length s)
    go true u = let h = span_short is_word_byte s in omega arith
    go false true = dash_short s
    go false false = omega arith

pub place_within : (s : List ℕ) (at : ℕ) → at ≤ length s → place_from s at ≤ length s
unfolding place_from
place_within s at h = let i = span_short is_blank (drop at s) in let l = length-drop at s in omega arith

pub size_within : (s : List ℕ) (p : ℕ) → p ≤ length s → p + size_at s p ≤ length s
unfolding size_at
size_within s p h = let i = size_short (drop p s) in let l = length-drop p s in omega arith

byte_within : (s : List ℕ) (p : ℕ) → 1 ≤ byte_at s p → p + 1 ≤ length s
byte_within [] p h = absurd (omega arith)
byte_within (b ∷ s) zero h = omega arith
byte_within (b ∷ s) (suc p) h = let i = byte_within s p h in omega arith

-- a byte that is not 0 stands within the text
pub mark_within : (s : List ℕ) (p b : ℕ) → 1 ≤ b → eqb (byte_at s p) b ≡ true → p + 1 ≤ length s
mark_within s p b n h = let e = eqb-true (byte_at s p) b h in byte_within s p (omega arith)

-- ---- the demand, and a rule for each step

pub record Ends (s : List ℕ) (at e : ℕ) : Type 0 where
  pub behind : at + 1 ≤ e
  pub inside : e ≤ length s

abbrev pub Reads : {A : Type 0} → List ℕ → (A → ℕ → Type 0) → Got A → Type 0
Reads s Q r = Outcome (Refusal s 9) Q r

-- what is got from `at` on ends behind it
abbrev pub Within : {A : Type 0} → List ℕ → ℕ → Got A → Type 0
Within s at r = Outcome (Refusal s 9) (λ a e. Ends s at e) r

refusal_number : (w : List ℕ) → (6 ≤ refusal_of w) × (refusal_of w ≤ 9)
unfolding refusal_of
refusal_number [] = (omega arith, omega arith)
refusal_number (b ∷ w) = go (is_letter b) (leb (suc (length w)) 12)
  where
    go : (t u : Bool) → (6 ≤ cond t (cond u 6 9) 6) × (cond t (cond u 6 9) 6 ≤ 9)
    go true true = (omega arith, omega arith)
    go true false = (omega arith, omega arith)
    go false u = (omega arith, omega arith)

module _ {A : Type 0} {Q : A → ℕ → Type 0} (s : List ℕ) where
  no_within : (n p : ℕ) → 6 ≤ n → n ≤ 9 → p ≤ length s → Reads s Q (no n p)
  no_within n p l h w = refuses_by (record { low = l; high = h; within = w })

  -- the bound of calls is spent
  pub spent : Reads s Q (no 6 (length s))
  spent = no_within 6 (length s) (omega arith) (omega arith) (omega arith)

  pub refused_within : (p : ℕ) → p ≤ length s → Reads s Q (refused s p)
  unfolding refused
  refused_within p h = let n = refusal_number (word_at s p) in no_within (refusal_of (word_at s p)) p n.0 n.1 h

  pub mark_reads : (b at : ℕ) (rest : ℕ → Got A) → 1 ≤ b → at ≤ length s → (place_from s at + 1 ≤ length s → Reads s Q (rest (place_from s at + 1))) → Reads s Q (mark b s at rest)
  unfolding mark
  mark_reads b at rest n l h =
      let p = place_from s at in
      meets_cond (eqb (byte_at s p) b) (λ t. h (mark_within s p b n t)) (λ t. refused_within p (place_within s at l))

  pub opens_reads : (p room : ℕ) (rest : ℕ → Got A) → p ≤ length s → Reads s Q (rest (p + 1)) → Reads s Q (opens p room rest)
  unfolding opens
  opens_reads p room rest l h = meets_cond (eqb room 0) (λ t. no_within 7 p (omega arith) (omega arith) l) (λ t. h)

  -- what is judged is no empty word
  pub judged_reads : (p : ℕ) (judge : List ℕ → Judged A) {P : List ℕ → A → Type 0} → p ≤ length s → judge [] ≡ is_not 6
      → ((w : List ℕ) → MeetsWord (P w) (judge w)) → ((a : A) → p + 1 ≤ p + size_at s p → Q a (p + size_at s p)) → Reads s Q (as_judged s p (judge (word_at s p)))
  judged_reads p judge {P} l none each f = go (word_at s p) (word_long s p)
    where
      one : (w : List ℕ) (j : Judged A) → 1 ≤ size_at s p → MeetsWord (P w) j → Reads s Q (as_judged s p j)
      one w _ n (meets_word {a} q) = meets (f a (omega arith))
      one w _ n misspelled = no_within 6 p (omega arith) (omega arith) l
      one w _ n out_of_range = no_within 8 p (omega arith) (omega arith) l
      one w _ n too_long = no_within 9 p (omega arith) (omega arith) l

      go : (w : List ℕ) → length w ≤ size_at s p → Reads s Q (as_judged s p (judge w))
      go [] n = rw none (no_within 6 p (omega arith) (omega arith) l)
      go (b ∷ w) n = one (b ∷ w) (judge (b ∷ w)) (omega arith) (each (b ∷ w))

pub word_within : {A : Type 0} (s : List ℕ) (at : ℕ) (judge : List ℕ → Judged A) {P : List ℕ → A → Type 0} → at ≤ length s → judge [] ≡ is_not 6
    → ((w : List ℕ) → MeetsWord (P w) (judge w)) → Within s at (as_judged s (place_from s at) (judge (word_at s (place_from s at))))
word_within s at judge l none each =
    let o = place_on s at in
    let i = place_within s at l in
    judged_reads s (place_from s at) judge i none each (λ a n. record { behind = omega arith; inside = size_within s (place_from s at) i })

-- ---- objects

module _ (s : List ℕ) (at : ℕ) where
  later : (a e : ℕ) → at ≤ a → Ends s a e → Ends s at e
  later a e l q = record { behind = omega (arith, q.behind); inside = q.inside }

  sequence_within : (a : ℕ) (r : ℕ → Got Objs) → at ≤ a → a ≤ length s → Within s a (r a) → Within s at (inside_sequence s a r)
  unfolding inside_sequence
  sequence_within a r l i h =
      let p = place_from s a in
      let o = place_on s a in
      meets_cond (eqb (byte_at s p) (code ">"))
      (λ t. meets (record { behind = omega arith; inside = mark_within s p (code ">") (omega arith) t }))
      (λ t. meets_then h (λ xs e q. meets (later a e l q)))

  after_object_within : (x : Obj) (e : ℕ) (r : ℕ → Got Objs) → Ends s at e → (place_from s e + 1 ≤ length s → Within s (place_from s e + 1) (r (place_from s e + 1))) → Within s at (after_object s x e r)
  unfolding after_object
  after_object_within x e r q h =
      let p = place_from s e in
      let o = place_on s e in
      let b = q.behind in
      meets_cond (eqb (byte_at s p) (code ","))
      (λ t. meets_then (h (mark_within s p (code ",") (omega arith) t)) (λ xs e₁ q₁. meets (later (p + 1) e₁ (omega arith) q₁)))
      (λ t. meets_cond (eqb (byte_at s p) (code ">"))
      (λ u. meets (record { behind = omega arith; inside = mark_within s p (code ">") (omega arith) u }))
      (λ u. refused_within s p (place_within s e q.inside)))

mutual
  unfolding read_obj judge_atom

  pub object_within : (k : ℕ) (s : List ℕ) (at room : ℕ) → at ≤ length s → Within s at (read_obj k s at room)
  object_within zero s at room l = spent s
  object_within (suc k) s at room l =
      let p = place_from s at in
      let o = place_on s at in
      meets_cond (eqb (byte_at s p) (code "<"))
      (λ t.
      let i = mark_within s p (code "<") (omega arith) t in
      opens_reads s p room (λ a. inside_sequence s a (λ b. read_objs k s b (room - 1))) (omega arith)
      (sequence_within s at (p + 1) (λ b. read_objs k s b (room - 1)) (omega arith) i (objects_within k s (p + 1) (room - 1) i)))
      (λ t. word_within s at judge_atom l refl judged_atom)

  pub objects_within : (k : ℕ) (s : List ℕ) (at room : ℕ) → at ≤ length s → Within s at (read_objs k s at room)
  objects_within zero s at room l = spent s
  objects_within (suc k) s at room l =
      meets_then (object_within k s at room l) (λ x e q. after_object_within s at x e (λ a. read_objs k s a room) q (λ i. objects_within k s (place_from s e + 1) room i))

-- from the text's end on no object stands: the number is 6
pub object_past : (k : ℕ) (s : List ℕ) (at room : ℕ) → length s ≤ at → read_obj (suc k) s at room ≡ no 6 at
unfolding read_obj judge_atom place_from span
object_past k s at room h =
    let rest : drop at s ≡ [] = drop_of_length-le s h in
    let p : place_from s at ≡ at = rw rest (omega arith) in
    let byte : byte_at s at ≡ 0 = get_or-eq_default s 0 {n = at} h in
    let word : word_at s at ≡ [] = drop_of_length-le (take (at + size_at s at) s) (rw length-take (omega arith)) in
    rw (p, byte, word) refl

six : {A : Type 0} {a n p : ℕ} → ◌≡◌ {A = Got A} (no 6 a) (no n p) → 6 ≡ n
six e = cc

-- and from any place on the number is 6 to 9
pub object_refuses : (k : ℕ) (s : List ℕ) (at room n p : ℕ) → read_obj k s at room ≡ no n p → (6 ≤ n) × (n ≤ 9)
unfolding read_obj
object_refuses k s at room n p e = go (leb at (length s)) refl
  where
    past : (k : ℕ) → length s ≤ at → read_obj k s at room ≡ no n p → (6 ≤ n) × (n ≤ 9)
    past zero h e = let f : 6 ≡ n = six e in (omega (arith, f), omega (arith, f))
    past (suc k) h e = let f : 6 ≡ n = six (sym (object_past k s at room h) ∙ e) in (omega (arith, f), omega (arith, f))

    go : (t : Bool) → leb at (length s) ≡ t → (6 ≤ n) × (n ≤ 9)
    go true t = let r = no_meets (object_within k s at room (leb-true at (length s) t)) e in (r.low, r.high)
    go false t = let b = leb-false at (length s) t in past k (omega arith) e

pub objects_refused : ObjectsRefused
unfolding read_object at_end
objects_refused s n p h =
    no_meets {Q = λ x e. Unit {0}} (meets_then (object_within (calls s) s 0 mark_limit (omega arith)) (λ x e q.
    meets_cond (eqb (place_from s e) (length s)) (λ t. meets tt) (λ t. refused_within s (place_from s e) (place_within s e q.inside)))) h

-- ---- forms

module _ (s : List ℕ) (at : ℕ) where
  -- the mark b behind what ends at e, and nothing more
  closed : {A : Type 0} (b : ℕ) (x : A) (e : ℕ) → 1 ≤ b → Ends s at e → Within s at (mark b s e (λ a. got x a))
  closed b x e n q =
      let o = place_on s e in
      let l = q.behind in
      mark_reads s b e (λ a. got x a) n q.inside (λ i. meets (record { behind = omega arith; inside = i }))

  after_part_within : (f : Form) (e : ℕ) (r : ℕ → Got Forms) → Ends s at e → (place_from s e + 1 ≤ length s → Within s (place_from s e + 1) (r (place_from s e + 1))) → Within s at (after_part s f e r)
  unfolding after_part
  after_part_within f e r q h =
      let p = place_from s e in
      let o = place_on s e in
      let b = q.behind in
      meets_cond (eqb (byte_at s p) (code "."))
      (λ t. meets_then (h (mark_within s p (code ".") (omega arith) t)) (λ fs e₁ q₁. meets (later s at (p + 1) e₁ (omega arith) q₁)))
      (λ t. meets q)

  after_parts_within : (f : Form) (e : ℕ) (r : ℕ → Got Forms) → Ends s at e → (place_from s e + 1 ≤ length s → Within s (place_from s e + 1) (r (place_from s e + 1))) → Within s at (after_parts s f e r)
  unfolding after_parts
  after_parts_within f e r q h =
      let p = place_from s e in
      let o = place_on s e in
      let b = q.behind in
      meets_cond (eqb (byte_at s p) (code "."))
      (λ t. meets_then (h (mark_within s p (code ".") (omega arith) t)) (λ fs e₁ q₁. meets (later s at (p + 1) e₁ (omega arith) q₁)))
      (λ t. meets q)

  after_form_within : (f : Form) (e : ℕ) (r : ℕ → Got Forms) → Ends s at e → (place_from s e + 1 ≤ length s → Within s (place_from s e + 1) (r (place_from s e + 1))) → Within s at (after_form s f e r)
  unfolding after_form
  after_form_within f e r q h =
      let p = place_from s e in
      let o = place_on s e in
      let b = q.behind in
      meets_cond (eqb (byte_at s p) (code ","))
      (λ t. meets_then (h (mark_within s p (code ",") (omega arith) t)) (λ fs e₁ q₁. meets (later s at (p + 1) e₁ (omega arith) q₁)))
      (λ t. meets_cond (eqb (byte_at s p) (code "]"))
      (λ u. meets (record { behind = omega arith; inside = mark_within s p (code "]") (omega arith) u }))
      (λ u. refused_within s p (place_within s e q.inside)))

  after_test_within : (f : Form) (e : ℕ) (r : ℕ → Got Form) → Ends s at e → ((a : ℕ) → a ≤ length s → Within s a (r a)) → Within s at (after_test s f e r)
  unfolding after_test
  after_test_within f e r q h =
      let p = place_from s e in
      let o = place_on s e in
      let b = q.behind in
      meets_cond (eqb (byte_at s p) (code "-") && eqb (byte_at s (p + 1)) (code ">"))
      (λ t.
      let i = mark_within s (p + 1) (code ">") (omega arith) ((and-eq-true_iff (eqb (byte_at s p) (code "-")) (eqb (byte_at s (p + 1)) (code ">"))).0 t).1 in
      meets_then (h (p + 2) (omega arith)) (λ g e₁ q₁.
      let o₁ = place_on s e₁ in
      let b₁ = q₁.behind in
      mark_reads s (code ";") e₁ (λ a. and_then (r a) (λ g₁ e. mark (code ")") s e (λ a. got (condition f g g₁) a))) (omega arith) q₁.inside
      (λ j. meets_then (h (place_from s e₁ + 1) j) (λ g₁ e₂ q₂. closed (code ")") (condition f g g₁) e₂ (omega arith) (later s at (place_from s e₁ + 1) e₂ (omega arith) q₂)))))
      (λ t. meets_cond (eqb (byte_at s p) (code "?"))
      (λ u. meets_then (h (p + 1) (mark_within s p (code "?") (omega arith) u)) (λ g e₁ q₁. closed (code ")") (while f g) e₁ (omega arith) (later s at (p + 1) e₁ (omega arith) q₁)))
      (λ u. meets_cond (eqb (byte_at s p) (code ")"))
      (λ v. meets (record { behind = omega arith; inside = mark_within s p (code ")") (omega arith) v }))
      (λ v. refused_within s p (place_within s e q.inside))))

mutual
  unfolding read_part judge_part

  pub form_within : (k : ℕ) (s : List ℕ) (at room : ℕ) → at ≤ length s → Within s at (read_form k s at room)
  form_within zero s at room l = spent s
  form_within (suc k) s at room l =
      meets_then (part_within k s at room l) (λ f e q. after_part_within s at f e (λ a. read_parts k s a room) q (λ i. parts_within k s (place_from s e + 1) room i))

  pub parts_within : (k : ℕ) (s : List ℕ) (at room : ℕ) → at ≤ length s → Within s at (read_parts k s at room)
  parts_within zero s at room l = spent s
  parts_within (suc k) s at room l =
      meets_then (part_within k s at room l) (λ f e q. after_parts_within s at f e (λ a. read_parts k s a room) q (λ i. parts_within k s (place_from s e + 1) room i))

  pub forms_within : (k : ℕ) (s : List ℕ) (at room : ℕ) → at ≤ length s → Within s at (read_forms k s at room)
  forms_within zero s at room l = spent s
  forms_within (suc k) s at room l =
      meets_then (form_within k s at room l) (λ f e q. after_form_within s at f e (λ a. read_forms k s a room) q (λ i. forms_within k s (place_from s e + 1) room i))

  pub part_within : (k : ℕ) (s : List ℕ) (at room : ℕ) → at ≤ length s → Within s at (read_part k s at room)
  part_within zero s at room l = spent s
  part_within (suc k) s at room l =
      let p = place_from s at in
      let b = byte_at s p in
      let a = p + 1 in
      let o = place_on s at in
      let i = place_within s at l in
      let la : at ≤ a = omega arith in
      meets_cond (eqb b (code "["))
      (λ t. opens_reads s p room (λ a. and_then (read_forms k s a (room - 1)) (λ fs e. got (construct fs) e)) i
      (meets_then (forms_within k s a (room - 1) (mark_within s p (code "[") (omega arith) t)) (λ fs e q. meets (later s at a e la q))))
      (λ t. meets_cond (eqb b (code "%"))
      (λ t. opens_reads s p room (λ a. and_then (read_obj k s a (room - 1)) (λ x e. got (constant x) e)) i
      (meets_then (object_within k s a (room - 1) (mark_within s p (code "%") (omega arith) t)) (λ x e q. meets (later s at a e la q))))
      (λ t. meets_cond (eqb b (code "/"))
      (λ t. opens_reads s p room (λ a. and_then (read_part k s a (room - 1)) (λ f e. got (insert f) e)) i
      (meets_then (part_within k s a (room - 1) (mark_within s p (code "/") (omega arith) t)) (λ f e q. meets (later s at a e la q))))
      (λ t. meets_cond (eqb b (code "@"))
      (λ t. opens_reads s p room (λ a. and_then (read_part k s a (room - 1)) (λ f e. got (apply_all f) e)) i
      (meets_then (part_within k s a (room - 1) (mark_within s p (code "@") (omega arith) t)) (λ f e q. meets (later s at a e la q))))
      (λ t. meets_cond (eqb b (code "{"))
      (λ t. opens_reads s p room (λ a. and_then (read_part k s a (room - 1)) (λ f e. mark (code ",") s e (λ a. and_then (read_obj k s a (room - 1)) (λ x e. mark (code "}") s e (λ a. got (bu f x) a))))) i
      (meets_then (part_within k s a (room - 1) (mark_within s p (code "{") (omega arith) t)) (λ f e q.
      let o₁ = place_on s e in
      let b₁ = q.behind in
      mark_reads s (code ",") e (λ a. and_then (read_obj k s a (room - 1)) (λ x e. mark (code "}") s e (λ a. got (bu f x) a))) (omega arith) q.inside
      (λ j. meets_then (object_within k s (place_from s e + 1) (room - 1) j) (λ x e₁ q₁. closed s at (code "}") (bu f x) e₁ (omega arith) (later s at (place_from s e + 1) e₁ (omega arith) q₁))))))
      (λ t. meets_cond (eqb b (code "("))
      (λ t. opens_reads s p room (λ a. and_then (read_form k s a (room - 1)) (λ f e. after_test s f e (λ a. read_form k s a (room - 1)))) i
      (meets_then (form_within k s a (room - 1) (mark_within s p (code "(") (omega arith) t)) (λ f e q. after_test_within s at f e (λ a. read_form k s a (room - 1)) (later s at a e la q) (λ c j. form_within k s c (room - 1) j))))
      (λ t. word_within s at judge_part l refl judged_part))))))

-- ---- programs

-- a definition, with the place of its name
pub record DefinitionEnds (s : List ℕ) (at : ℕ) (d : Placed) (e : ℕ) : Type 0 where
  pub ends : Ends s at e
  pub placed : d.place ≤ length s

pub data AllPlaced (s : List ℕ) : List Placed → Type 0 where
  none : AllPlaced s []
  more : {d : Placed} {ds : List Placed} → d.place ≤ length s → AllPlaced s ds → AllPlaced s (d ∷ ds)

pub definition_within : (k : ℕ) (s : List ℕ) (at p : ℕ) (w : List ℕ) (e : ℕ) → p ≤ length s → Ends s at e → Reads s (DefinitionEnds s at) (definition_at k s p w e)
unfolding definition_at
definition_within k s at p w e l q =
    let o = place_on s e in
    let b = q.behind in
    mark_reads s (code "=") e (λ a. and_then (read_form k s a mark_limit) (λ f e. mark (code ";") s e (λ a. got (record { place = p; def = record { called = w; body = f } }) a))) (omega arith) q.inside
    (λ i. meets_then (form_within k s (place_from s e + 1) mark_limit i) (λ f e₁ q₁.
    let o₁ = place_on s e₁ in
    let b₁ = q₁.behind in
    mark_reads s (code ";") e₁ (λ a. got (record { place = p; def = record { called = w; body = f } }) a) (omega arith) q₁.inside
    (λ j. meets (record { ends = record { behind = omega arith; inside = j }; placed = l }))))

-- a definition from its name on
pub first_within : (k : ℕ) (s : List ℕ) (at : ℕ) → at ≤ length s
    → Reads s (DefinitionEnds s at) (and_then (as_judged s (place_from s at) (judge_name (word_at s (place_from s at)))) (λ w e. definition_at k s (place_from s at) w e))
unfolding judge_name
first_within k s at l =
    meets_then (word_within s at judge_name l refl judged_name) (λ w e q. definition_within k s at (place_from s at) w e (place_within s at l) q)

pub definitions_within : (k : ℕ) (s : List ℕ) (at : ℕ) → at ≤ length s → Reads s (λ ds e. AllPlaced s ds) (read_definitions k s at)
unfolding read_definitions
definitions_within zero s at l = spent s
definitions_within (suc k) s at l =
    meets_cond (eqb (place_from s at) (length s)) (λ t. meets none)
    (λ t. meets_then (first_within k s at l) (λ d e q. meets_then (definitions_within k s e q.ends.inside) (λ ds e₁ qs. meets (more q.placed qs))))

abbrev Any : Prog → ℕ → Type 0
Any P e = Unit {0}

none_twice_within : (s : List ℕ) (earlier : List (List ℕ)) (ds : List Placed) (good : Got Prog) → AllPlaced s ds → Outcome (Refusal s 11) Any good → Outcome (Refusal s 11) Any (none_twice earlier ds good)
unfolding none_twice
none_twice_within s earlier [] good none h = h
none_twice_within s earlier (d ∷ ds) good (more l q) h =
    meets_cond (is_in d.def.called earlier) (λ t. refuses_by {n = 11} (record { low = omega arith; high = omega arith; within = l }))
    (λ t. none_twice_within s (d.def.called ∷ earlier) ds good q h)

higher : {A : Type 0} {Q : A → ℕ → Type 0} (s : List ℕ) {r : Got A} → Reads s Q r → Outcome (Refusal s 11) Q r
higher s (meets q) = meets q
higher s (refuses_by h) = refuses_by (record { low = h.low; high = widen h.high; within = h.within })
  where
    widen : {n : ℕ} → n ≤ 9 → n ≤ 11
    widen l = omega arith

pub programs_refused : ProgramsRefused
unfolding read_program within_limits
programs_refused s n p h =
    no_meets (meets_then (higher s (definitions_within (calls s) s 0 (omega arith))) (λ ds e q.
    let P = program_of ds in
    meets_cond (ltb 2048 (forms_of P) || ltb 128 (length P)) (λ t. refuses_by {n = 10} {p = 0} (record { low = omega arith; high = omega arith; within = omega arith }))
    (λ t. none_twice_within s [] ds (got P e) q (meets tt)))) h
