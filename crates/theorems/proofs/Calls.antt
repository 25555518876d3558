-- The bound on calls is never reached: one that falls with the text left is enough, whatever were answered where no call is left.
use Prim.Native.Nat.{ℕ, zero, suc, ◌+◌, ◌-◌, ◌*◌, ◌≤◌}
use Prim.Native.Char.{code}
use mathlib.Core.Path.{◌≡◌, refl, sym, ap, ◌∙◌}
use mathlib.Core.Bool.{Bool, true, false, cond, ◌&&◌, and-eq-true_iff}
use mathlib.Core.List.{List, ◌∷◌}
use native.Mathlib.Omega.{arith}
use lib.Dec.{eqb}
use lib.ListN.{length}
use Rattle.language.specs.Objects.{Obj, seq, Objs, ◌::◌}
use Rattle.language.specs.Forms.{Form, chain, construct, constant, insert, apply_all, bu, condition, while, Forms, ◌&◌}
use Rattle.language.specs.Tokens.{byte_at, place_from}
use Rattle.language.specs.Judging.{judge_name}
use Rattle.language.specs.Numbers.{mark_limit}
use Rattle.language.specs.Reading.{Got, got, and_then, mark, opens, inside_sequence, after_object, read_obj, read_objs, calls}
use Rattle.language.specs.Reading.{after_test, after_part, after_parts, after_form, read_form, read_parts, read_forms, read_part, Placed, definition_at, read_definitions}
use Rattle.theorems.specs.ReadBack.{CallsNeverDecide}
use Rattle.theorems.specs.CallsLeft.{Readers, readers, definition_by, readers_from, NoCallLeft}
use Rattle.theorems.proofs.CallsLeft.{same_readers}
use Rattle.theorems.proofs.Outcomes.{Outcome, meets, refuses_by, place_on}
use Rattle.theorems.proofs.JudgedWords.{judged_name}
use Rattle.theorems.proofs.Refusals.{Within, mark_within, word_within, object_within, form_within, part_within, first_within}

-- ---- a rule for each step: what it calls reads the same, so it does

module _ {A : Type 0} where
  same_cond : (t : Bool) {x x' y y' : Got A} → (t ≡ true → x ≡ x') → (t ≡ false → y ≡ y') → cond t x y ≡ cond t x' y'
  same_cond true f g = f refl
  same_cond false f g = g refl

  same_then : {B : Type 0} {N : ℕ → ℕ → Type 0} {Q : A → ℕ → Type 0} {r r' : Got A} {k k' : A → ℕ → Got B} → Outcome N Q r → r ≡ r' → ((a : A) (e : ℕ) → Q a e → k a e ≡ k' a e) → and_then r k ≡ and_then r' k'
  same_then {k' = k'} (meets q) h f = f _ _ q ∙ ap (λ (u : Got A). and_then u k') h
  same_then {k' = k'} (refuses_by n) h f = ap (λ (u : Got A). and_then u k') h

  same_mark : (b : ℕ) (s : List ℕ) (at : ℕ) (r r' : ℕ → Got A) → 1 ≤ b → (place_from s at + 1 ≤ length s → r (place_from s at + 1) ≡ r' (place_from s at + 1)) → mark b s at r ≡ mark b s at r'
  unfolding mark
  same_mark b s at r r' n h = same_cond (eqb (byte_at s (place_from s at)) b) (λ t. h (mark_within s (place_from s at) b n t)) (λ t. refl)

  same_opens : (p room : ℕ) (r r' : ℕ → Got A) → r (p + 1) ≡ r' (p + 1) → opens p room r ≡ opens p room r'
  unfolding opens
  same_opens p room r r' h = same_cond (eqb room 0) (λ t. refl) (λ t. h)

-- ---- objects

module _ (s : List ℕ) where
  same_sequence : (a : ℕ) (r r' : ℕ → Got Objs) → r a ≡ r' a → inside_sequence s a r ≡ inside_sequence s a r'
  unfolding inside_sequence
  same_sequence a r r' h =
      same_cond (eqb (byte_at s (place_from s a)) (code ">")) (λ t. refl) (λ t. ap (λ (u : Got Objs). and_then u (λ xs e. got (seq xs) e)) h)

  same_after_object : (x : Obj) (e : ℕ) (r r' : ℕ → Got Objs) → (place_from s e + 1 ≤ length s → r (place_from s e + 1) ≡ r' (place_from s e + 1)) → after_object s x e r ≡ after_object s x e r'
  unfolding after_object
  same_after_object x e r r' h =
      let p = place_from s e in
      same_cond (eqb (byte_at s p) (code ","))
      (λ t. ap (λ (u : Got Objs). and_then u (λ xs e. got (x :: xs) e)) (h (mark_within s p (code ",") (omega arith) t))) (λ t. refl)

-- ---- forms

module _ (s : List ℕ) where
  same_after_part : (f : Form) (e : ℕ) (r r' : ℕ → Got Forms) → (place_from s e + 1 ≤ length s → r (place_from s e + 1) ≡ r' (place_from s e + 1)) → after_part s f e r ≡ after_part s f e r'
  unfolding after_part
  same_after_part f e r r' h =
      let p = place_from s e in
      same_cond (eqb (byte_at s p) (code "."))
      (λ t. ap (λ (u : Got Forms). and_then u (λ fs e. got (chain (f & fs)) e)) (h (mark_within s p (code ".") (omega arith) t))) (λ t. refl)

  same_after_parts : (f : Form) (e : ℕ) (r r' : ℕ → Got Forms) → (place_from s e + 1 ≤ length s → r (place_from s e + 1) ≡ r' (place_from s e + 1)) → after_parts s f e r ≡ after_parts s f e r'
  unfolding after_parts
  same_after_parts f e r r' h =
      let p = place_from s e in
      same_cond (eqb (byte_at s p) (code "."))
      (λ t. ap (λ (u : Got Forms). and_then u (λ fs e. got (f & fs) e)) (h (mark_within s p (code ".") (omega arith) t))) (λ t. refl)

  same_after_form : (f : Form) (e : ℕ) (r r' : ℕ → Got Forms) → (place_from s e + 1 ≤ length s → r (place_from s e + 1) ≡ r' (place_from s e + 1)) → after_form s f e r ≡ after_form s f e r'
  unfolding after_form
  same_after_form f e r r' h =
      let p = place_from s e in
      same_cond (eqb (byte_at s p) (code ","))
      (λ t. ap (λ (u : Got Forms). and_then u (λ fs e. got (f & fs) e)) (h (mark_within s p (code ",") (omega arith) t))) (λ t. refl)

  -- the forms inside are read from behind e on
  same_after_test : (f : Form) (e : ℕ) (r r' : ℕ → Got Form) → ((a : ℕ) → a ≤ length s → Within s a (r a))
      → ((a : ℕ) → e ≤ a → a ≤ length s → r a ≡ r' a) → after_test s f e r ≡ after_test s f e r'
  unfolding after_test
  same_after_test f e r r' w h =
      let p = place_from s e in
      let o = place_on s e in
      same_cond (eqb (byte_at s p) (code "-") && eqb (byte_at s (p + 1)) (code ">"))
      (λ t.
      let i = mark_within s (p + 1) (code ">") (omega arith) ((and-eq-true_iff (eqb (byte_at s p) (code "-")) (eqb (byte_at s (p + 1)) (code ">"))).0 t).1 in
      same_then (w (p + 2) (omega arith)) (h (p + 2) (omega arith) (omega arith)) (λ g e₁ q₁.
      let o₁ = place_on s e₁ in
      let b₁ = q₁.behind in
      same_mark (code ";") s e₁ (λ a. and_then (r a) (λ g₁ e. mark (code ")") s e (λ a. got (condition f g g₁) a))) (λ a. and_then (r' a) (λ g₁ e. mark (code ")") s e (λ a. got (condition f g g₁) a))) (omega arith)
      (λ j. ap (λ (u : Got Form). and_then u (λ g₁ e. mark (code ")") s e (λ a. got (condition f g g₁) a))) (h (place_from s e₁ + 1) (omega arith) j))))
      (λ t. same_cond (eqb (byte_at s p) (code "?"))
      (λ u. ap (λ (v : Got Form). and_then v (λ g e. mark (code ")") s e (λ a. got (while f g) a))) (h (p + 1) (omega arith) (mark_within s p (code "?") (omega arith) u)))
      (λ u. refl))

-- ---- Reading's readers and those that end with z, each with enough calls

module _ (z : Readers) where
  abbrev others : ℕ → List ℕ → Readers
  others n s = readers_from z n s

  mutual
    unfolding read_obj

    object_any : (k n : ℕ) (s : List ℕ) (at room : ℕ) → at ≤ length s → 2 * (length s - at) + 1 ≤ k → 2 * (length s - at) + 1 ≤ n → read_obj k s at room ≡ (others n s).object at room
    object_any zero n s at room l lk ln = absurd (omega arith)
    object_any (suc k) zero s at room l lk ln = absurd (omega arith)
    object_any (suc k) (suc n) s at room l lk ln =
        let p = place_from s at in
        let o = place_on s at in
        same_cond (eqb (byte_at s p) (code "<"))
        (λ t.
        let i = mark_within s p (code "<") (omega arith) t in
        same_opens p room (λ a. inside_sequence s a (λ a. read_objs k s a (room - 1))) (λ a. inside_sequence s a (λ a. (others n s).objects a (room - 1)))
        (same_sequence s (p + 1) (λ a. read_objs k s a (room - 1)) (λ a. (others n s).objects a (room - 1)) (objects_any k n s (p + 1) (room - 1) i (omega arith) (omega arith))))
        (λ t. refl)

    objects_any : (k n : ℕ) (s : List ℕ) (at room : ℕ) → at ≤ length s → 2 * (length s - at) + 2 ≤ k → 2 * (length s - at) + 2 ≤ n → read_objs k s at room ≡ (others n s).objects at room
    objects_any zero n s at room l lk ln = absurd (omega arith)
    objects_any (suc k) zero s at room l lk ln = absurd (omega arith)
    objects_any (suc k) (suc n) s at room l lk ln =
        same_then (object_within k s at room l) (object_any k n s at room l (omega arith) (omega arith)) (λ x e q.
        let o = place_on s e in
        let b = q.behind in
        same_after_object s x e (λ a. read_objs k s a room) (λ a. (others n s).objects a room) (λ i. objects_any k n s (place_from s e + 1) room i (omega arith) (omega arith)))

  mutual
    unfolding read_part

    part_any : (k n : ℕ) (s : List ℕ) (at room : ℕ) → at ≤ length s → 4 * (length s - at) + 1 ≤ k → 4 * (length s - at) + 1 ≤ n → read_part k s at room ≡ (others n s).part at room
    part_any zero n s at room l lk ln = absurd (omega arith)
    part_any (suc k) zero s at room l lk ln = absurd (omega arith)
    part_any (suc k) (suc n) s at room l lk ln =
        let p = place_from s at in
        let b = byte_at s p in
        let a = p + 1 in
        let o = place_on s at in
        same_cond (eqb b (code "["))
        (λ t.
        let i = mark_within s p (code "[") (omega arith) t in
        same_opens p room (λ a. and_then (read_forms k s a (room - 1)) (λ fs e. got (construct fs) e)) (λ a. and_then ((others n s).forms a (room - 1)) (λ fs e. got (construct fs) e))
        (ap (λ (u : Got Forms). and_then u (λ fs e. got (construct fs) e)) (forms_any k n s a (room - 1) i (omega arith) (omega arith))))
        (λ t. same_cond (eqb b (code "%"))
        (λ t.
        let i = mark_within s p (code "%") (omega arith) t in
        same_opens p room (λ a. and_then (read_obj k s a (room - 1)) (λ x e. got (constant x) e)) (λ a. and_then ((others n s).object a (room - 1)) (λ x e. got (constant x) e))
        (ap (λ (u : Got Obj). and_then u (λ x e. got (constant x) e)) (object_any k n s a (room - 1) i (omega arith) (omega arith))))
        (λ t. same_cond (eqb b (code "/"))
        (λ t.
        let i = mark_within s p (code "/") (omega arith) t in
        same_opens p room (λ a. and_then (read_part k s a (room - 1)) (λ f e. got (insert f) e)) (λ a. and_then ((others n s).part a (room - 1)) (λ f e. got (insert f) e))
        (ap (λ (u : Got Form). and_then u (λ f e. got (insert f) e)) (part_any k n s a (room - 1) i (omega arith) (omega arith))))
        (λ t. same_cond (eqb b (code "@"))
        (λ t.
        let i = mark_within s p (code "@") (omega arith) t in
        same_opens p room (λ a. and_then (read_part k s a (room - 1)) (λ f e. got (apply_all f) e)) (λ a. and_then ((others n s).part a (room - 1)) (λ f e. got (apply_all f) e))
        (ap (λ (u : Got Form). and_then u (λ f e. got (apply_all f) e)) (part_any k n s a (room - 1) i (omega arith) (omega arith))))
        (λ t. same_cond (eqb b (code "{"))
        (λ t.
        let i = mark_within s p (code "{") (omega arith) t in
        same_opens p room
        (λ a. and_then (read_part k s a (room - 1)) (λ f e. mark (code ",") s e (λ a. and_then (read_obj k s a (room - 1)) (λ x e. mark (code "}") s e (λ a. got (bu f x) a)))))
        (λ a. and_then ((others n s).part a (room - 1)) (λ f e. mark (code ",") s e (λ a. and_then ((others n s).object a (room - 1)) (λ x e. mark (code "}") s e (λ a. got (bu f x) a)))))
        (same_then (part_within k s a (room - 1) i) (part_any k n s a (room - 1) i (omega arith) (omega arith)) (λ f e q.
        let o₁ = place_on s e in
        let b₁ = q.behind in
        same_mark (code ",") s e (λ a. and_then (read_obj k s a (room - 1)) (λ x e. mark (code "}") s e (λ a. got (bu f x) a))) (λ a. and_then ((others n s).object a (room - 1)) (λ x e. mark (code "}") s e (λ a. got (bu f x) a))) (omega arith)
        (λ j. ap (λ (u : Got Obj). and_then u (λ x e. mark (code "}") s e (λ a. got (bu f x) a))) (object_any k n s (place_from s e + 1) (room - 1) j (omega arith) (omega arith))))))
        (λ t. same_cond (eqb b (code "("))
        (λ t.
        let i = mark_within s p (code "(") (omega arith) t in
        same_opens p room (λ a. and_then (read_form k s a (room - 1)) (λ f e. after_test s f e (λ a. read_form k s a (room - 1)))) (λ a. and_then ((others n s).form a (room - 1)) (λ f e. after_test s f e (λ a. (others n s).form a (room - 1))))
        (same_then (form_within k s a (room - 1) i) (form_any k n s a (room - 1) i (omega arith) (omega arith)) (λ f e q.
        let b₁ = q.behind in
        same_after_test s f e (λ a. read_form k s a (room - 1)) (λ a. (others n s).form a (room - 1)) (λ c j. form_within k s c (room - 1) j)
        (λ c lc j. form_any k n s c (room - 1) j (omega arith) (omega arith)))))
        (λ t. refl))))))

    form_any : (k n : ℕ) (s : List ℕ) (at room : ℕ) → at ≤ length s → 4 * (length s - at) + 2 ≤ k → 4 * (length s - at) + 2 ≤ n → read_form k s at room ≡ (others n s).form at room
    form_any zero n s at room l lk ln = absurd (omega arith)
    form_any (suc k) zero s at room l lk ln = absurd (omega arith)
    form_any (suc k) (suc n) s at room l lk ln =
        same_then (part_within k s at room l) (part_any k n s at room l (omega arith) (omega arith)) (λ f e q.
        let o = place_on s e in
        let b = q.behind in
        same_after_part s f e (λ a. read_parts k s a room) (λ a. (others n s).parts a room) (λ i. parts_any k n s (place_from s e + 1) room i (omega arith) (omega arith)))

    parts_any : (k n : ℕ) (s : List ℕ) (at room : ℕ) → at ≤ length s → 4 * (length s - at) + 2 ≤ k → 4 * (length s - at) + 2 ≤ n → read_parts k s at room ≡ (others n s).parts at room
    parts_any zero n s at room l lk ln = absurd (omega arith)
    parts_any (suc k) zero s at room l lk ln = absurd (omega arith)
    parts_any (suc k) (suc n) s at room l lk ln =
        same_then (part_within k s at room l) (part_any k n s at room l (omega arith) (omega arith)) (λ f e q.
        let o = place_on s e in
        let b = q.behind in
        same_after_parts s f e (λ a. read_parts k s a room) (λ a. (others n s).parts a room) (λ i. parts_any k n s (place_from s e + 1) room i (omega arith) (omega arith)))

    forms_any : (k n : ℕ) (s : List ℕ) (at room : ℕ) → at ≤ length s → 4 * (length s - at) + 3 ≤ k → 4 * (length s - at) + 3 ≤ n → read_forms k s at room ≡ (others n s).forms at room
    forms_any zero n s at room l lk ln = absurd (omega arith)
    forms_any (suc k) zero s at room l lk ln = absurd (omega arith)
    forms_any (suc k) (suc n) s at room l lk ln =
        same_then (form_within k s at room l) (form_any k n s at room l (omega arith) (omega arith)) (λ f e q.
        let o = place_on s e in
        let b = q.behind in
        same_after_form s f e (λ a. read_forms k s a room) (λ a. (others n s).forms a room) (λ i. forms_any k n s (place_from s e + 1) room i (omega arith) (omega arith)))

  -- `=form;` from e on
  definition_any : (k n : ℕ) (s : List ℕ) (p : ℕ) (w : List ℕ) (e : ℕ) → 4 * (length s - e) + 2 ≤ k → 4 * (length s - e) + 2 ≤ n → definition_at k s p w e ≡ definition_by s (others n s) p w e
  unfolding definition_at
  definition_any k n s p w e lk ln =
      let o = place_on s e in
      same_mark (code "=") s e
      (λ a. and_then (read_form k s a mark_limit) (λ f e. mark (code ";") s e (λ a. got (record { place = p; def = record { called = w; body = f } }) a)))
      (λ a. and_then ((others n s).form a mark_limit) (λ f e. mark (code ";") s e (λ a. got (record { place = p; def = record { called = w; body = f } }) a))) (omega arith)
      (λ i. ap (λ (u : Got Form). and_then u (λ f e. mark (code ";") s e (λ a. got (record { place = p; def = record { called = w; body = f } }) a)))
      (form_any k n s (place_from s e + 1) mark_limit i (omega arith) (omega arith)))

  definitions_any : (k n : ℕ) (s : List ℕ) (at : ℕ) → at ≤ length s → 4 * (length s - at) + 1 ≤ k → 4 * (length s - at) + 1 ≤ n → read_definitions k s at ≡ (others n s).definitions at
  unfolding read_definitions judge_name
  definitions_any zero n s at l lk ln = absurd (omega arith)
  definitions_any (suc k) zero s at l lk ln = absurd (omega arith)
  definitions_any (suc k) (suc n) s at l lk ln =
      let p = place_from s at in
      same_cond (eqb p (length s)) (λ t. refl)
      (λ t. same_then (first_within k s at l)
      (same_then (word_within s at judge_name l refl judged_name) refl (λ w e q.
      let b = q.behind in
      let i = q.inside in
      definition_any k n s p w e (omega arith) (omega arith)))
      (λ d e q.
      let b = q.ends.behind in
      let i = q.ends.inside in
      ap (λ (u : Got (List Placed)). and_then u (λ ds e. got (d ∷ ds) e)) (definitions_any k n s e i (omega arith) (omega arith))))

-- ---- the same with Reading's own answer

module _ (k n : ℕ) (s : List ℕ) (at room : ℕ) (l : at ≤ length s) where
  pub object_calls : 2 * (length s - at) + 1 ≤ k → 2 * (length s - at) + 1 ≤ n → read_obj k s at room ≡ read_obj n s at room
  object_calls lk ln = object_any (readers 0 s) k n s at room l lk ln ∙ ap (λ (r : Readers). r.object at room) (same_readers n s)

  pub part_calls : 4 * (length s - at) + 1 ≤ k → 4 * (length s - at) + 1 ≤ n → read_part k s at room ≡ read_part n s at room
  part_calls lk ln = part_any (readers 0 s) k n s at room l lk ln ∙ ap (λ (r : Readers). r.part at room) (same_readers n s)

  pub form_calls : 4 * (length s - at) + 2 ≤ k → 4 * (length s - at) + 2 ≤ n → read_form k s at room ≡ read_form n s at room
  form_calls lk ln = form_any (readers 0 s) k n s at room l lk ln ∙ ap (λ (r : Readers). r.form at room) (same_readers n s)

  pub parts_calls : 4 * (length s - at) + 2 ≤ k → 4 * (length s - at) + 2 ≤ n → read_parts k s at room ≡ read_parts n s at room
  parts_calls lk ln = parts_any (readers 0 s) k n s at room l lk ln ∙ ap (λ (r : Readers). r.parts at room) (same_readers n s)

  pub forms_calls : 4 * (length s - at) + 3 ≤ k → 4 * (length s - at) + 3 ≤ n → read_forms k s at room ≡ read_forms n s at room
  forms_calls lk ln = forms_any (readers 0 s) k n s at room l lk ln ∙ ap (λ (r : Readers). r.forms at room) (same_readers n s)

pub definitions_calls : (k n : ℕ) (s : List ℕ) (at : ℕ) → at ≤ length s → 4 * (length s - at) + 1 ≤ k → 4 * (length s - at) + 1 ≤ n → read_definitions k s at ≡ read_definitions n s at
definitions_calls k n s at l lk ln = definitions_any (readers 0 s) k n s at l lk ln ∙ ap (λ (r : Readers). r.definitions at) (same_readers n s)

pub no_call_left : NoCallLeft
no_call_left z s k l =
    (sym (object_any z k k s 0 mark_limit (omega arith) (omega arith) (omega arith)), sym (definitions_any z k k s 0 (omega arith) (omega arith) (omega arith)))

pub calls_never_decide : CallsNeverDecide
calls_never_decide s k l =
    (object_calls k (calls s) s 0 mark_limit (omega arith) (omega arith) (omega arith), definitions_calls k (calls s) s 0 (omega arith) (omega arith) (omega arith))
