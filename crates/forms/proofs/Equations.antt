-- What each reader with enough calls reads, by what the others read.
use Prim.Native.Nat.{ℕ, suc, ◌+◌, ◌-◌, ◌≤◌, ◌<◌}
use mathlib.Core.Path.{◌≡◌, refl, ap, sym, ◌∙◌}
use mathlib.Core.Bool.{Bool, true, false, cond, ◌||◌}
use mathlib.Core.List.{List}
use native.Mathlib.Omega.{arith}
use borrow.Author.Tests.{ne_eqb}
use lib.Dec.{eqb}
use lib.ListN.{length}
use Rattle.language.specs.Forms.{Form, chain, construct, constant, insert, apply_all, bu, condition, while, Forms, stop, ◌&◌}
use Rattle.language.specs.Tokens.{byte_at, place_from}
use Rattle.language.specs.Judging.{refusal_of}
use Rattle.language.specs.Reading.{Got, got, no, and_then, word_at, refused, mark, opens, after_test, after_part, after_parts, after_form, read_form, read_part, calls}
use Rattle.theorems.proofs.Calls.{part_calls, form_calls, parts_calls, forms_calls}
use Rattle.std.specs.Prelude.{Option, Some, None, Result, Ok, Err}
use Rattle.language.specs.declared.refusals.RefusedText.{RefusedText}
use Rattle.objects.proofs.Refused.{error_of, Refuses}
use Rattle.forms.specs.declared.CommaRead.{CommaRead}
use Rattle.forms.specs.declared.CommaRead.TheVariants as C
use Rattle.forms.specs.Readings.{Dotted, dot_read, no_dot, Separated, comma_read, bracket_read, neither_read}
use Rattle.forms.specs.Readers.{object_at, part_at, form_at, parts_at, forms_at, plain_at, constant_read, prefix_form, prefix_at, construct_at, bound_at, bu_at, round_at, closed_at, while_at, both, branches_at, condition_at, is_opening, is_arrow}

-- ---- one step behind another
module _ {A B C : Type 0} where
  pub then_then : (g : Got A) (k : A → ℕ → Got B) (l : B → ℕ → Got C) → and_then g (λ a e. and_then (k a e) l) ≡ and_then (and_then g k) l
  then_then (got a e) k l = refl
  then_then (no n p) k l = refl

pub then_got : {A : Type 0} (g : Got A) → and_then g (λ a e. got a e) ≡ g
then_got (got a e) = refl
then_got (no n p) = refl

pub mark_same : {A : Type 0} (b : ℕ) (s : List ℕ) (at : ℕ) (r r' : ℕ → Got A) → r (place_from s at + 1) ≡ r' (place_from s at + 1) → mark b s at r ≡ mark b s at r'
unfolding mark
mark_same {A} b s at r r' h = ap (λ (g : Got A). cond (eqb (byte_at s (place_from s at)) b) g (refused s (place_from s at))) h

module _ {A B : Type 0} where
  pub mark_then : (b : ℕ) (s : List ℕ) (at : ℕ) (r : ℕ → Got A) (k : A → ℕ → Got B) → mark b s at (λ a. and_then (r a) k) ≡ and_then (mark b s at r) k
  unfolding mark refused
  mark_then b s at r k = go (eqb (byte_at s (place_from s at)) b)
    where
      go : (t : Bool) → cond t (and_then (r (place_from s at + 1)) k) (refused s (place_from s at)) ≡ and_then (cond t (r (place_from s at + 1)) (refused s (place_from s at))) k
      go true = refl
      go false = refl

  -- the mark behind what is then held in another form
  pub wrap : (b : ℕ) (s : List ℕ) (g : Got A) (k : A → B) → and_then g (λ x e. mark b s e (λ a. got (k x) a)) ≡ and_then (and_then g (λ x e. mark b s e (λ a. got x a))) (λ x e. got (k x) e)
  wrap b s (got x e) k = mark_then b s e (λ a. got x a) (λ x e. got (k x) e)
  wrap b s (no n p) k = refl

bound : (s : List ℕ) (room : ℕ) (g : Got Form) → and_then g (λ f e. mark 44 s e (λ a. and_then (object_at s a room) (λ x e. mark 125 s e (λ a. got (bu f x) a)))) ≡ and_then g (λ f e. and_then (bound_at s e room) (λ x e. got (bu f x) e))
unfolding bound_at
bound s room (no n p) = refl
bound s room (got f e) =
    mark_same 44 s e (λ a. and_then (object_at s a room) (λ x e. mark 125 s e (λ a. got (bu f x) a))) (λ a. and_then (and_then (object_at s a room) (λ x e. mark 125 s e (λ a. got x a))) (λ x e. got (bu f x) e)) (wrap 125 s (object_at s (place_from s e + 1) room) (λ x. bu f x))
    ∙ mark_then 44 s e (λ a. and_then (object_at s a room) (λ x e. mark 125 s e (λ a. got x a))) (λ x e. got (bu f x) e)

pair : (s : List ℕ) (room : ℕ) (p : Form) (g : Got Form) → and_then g (λ f e. mark 59 s e (λ a. and_then (form_at s a room) (λ h e. mark 41 s e (λ a. got (condition p f h) a)))) ≡ and_then (and_then g (λ f e. mark 59 s e (λ a. and_then (closed_at s a room) (λ h e. got (both f h) e)))) (λ b e. got (condition p b.yes b.no) e)
unfolding closed_at
pair s room p (no n q) = refl
pair s room p (got f e) =
    mark_same 59 s e (λ a. and_then (form_at s a room) (λ h e. mark 41 s e (λ a. got (condition p f h) a))) (λ a. and_then (and_then (closed_at s a room) (λ h e. got (both f h) e)) (λ b e. got (condition p b.yes b.no) e))
    (wrap 41 s (form_at s (place_from s e + 1) room) (λ h. condition p f h) ∙ then_then (closed_at s (place_from s e + 1) room) (λ h e. got (both f h) e) (λ b e. got (condition p b.yes b.no) e))
    ∙ mark_then 59 s e (λ a. and_then (closed_at s a room) (λ h e. got (both f h) e)) (λ b e. got (condition p b.yes b.no) e)

deep : {A : Type 0} (t₁ t₂ t₃ t₄ t₅ t₆ : Bool) (z w : Got A) → (t₁ || t₂ || t₃ || t₄ || t₅ || t₆) ≡ true → cond t₁ z (cond t₂ z (cond t₃ z (cond t₄ z (cond t₅ z (cond t₆ z w))))) ≡ z
deep true t₂ t₃ t₄ t₅ t₆ z w h = refl
deep false true t₃ t₄ t₅ t₆ z w h = refl
deep false false true t₄ t₅ t₆ z w h = refl
deep false false false true t₅ t₆ z w h = refl
deep false false false false true t₆ z w h = refl
deep false false false false false true z w h = refl
deep false false false false false false z w h = absurd (let y : ◌≡◌ {A = ℕ} 0 1 = cc in omega arith)

module _ (s : List ℕ) (at room : ℕ) (l : at ≤ length s) where
  pub form_is : form_at s at room ≡ and_then (part_at s at room) (λ f e. after_part s f e (λ a. parts_at s a room))
  unfolding form_at part_at parts_at read_form
  form_is = form_calls (calls s) (suc (calls s)) s at room l (omega arith) (omega arith)

  pub parts_are : parts_at s at room ≡ and_then (part_at s at room) (λ f e. after_parts s f e (λ a. parts_at s a room))
  unfolding part_at parts_at read_form
  parts_are = parts_calls (calls s) (suc (calls s)) s at room l (omega arith) (omega arith)

  pub forms_are : forms_at s at room ≡ and_then (form_at s at room) (λ f e. after_form s f e (λ a. forms_at s a room))
  unfolding form_at forms_at read_form
  forms_are = forms_calls (calls s) (suc (calls s)) s at room l (omega arith) (omega arith)

  part_once : part_at s at room ≡ read_part (suc (calls s)) s at room
  unfolding part_at
  part_once = part_calls (calls s) (suc (calls s)) s at room l (omega arith) (omega arith)

-- ---- a part, by the byte that it begins with
opening : (b : ℕ) → is_opening b ≡ false → (b ≡ 91 → ⊥) × (b ≡ 37 → ⊥) × (b ≡ 47 → ⊥) × (b ≡ 64 → ⊥) × (b ≡ 123 → ⊥) × (b ≡ 40 → ⊥)
opening b h = (λ e. bad (rw e at h), λ e. bad (rw e at h), λ e. bad (rw e at h), λ e. bad (rw e at h), λ e. bad (rw e at h), λ e. bad (rw e at h))
  where
    bad : ◌≡◌ {A = Bool} true false → ⊥
    bad z = let y : ◌≡◌ {A = ℕ} 0 1 = cc in omega arith

module _ (s : List ℕ) (at room p b : ℕ) (l : at ≤ length s) (p-is : p ≡ place_from s at) (b-is : b ≡ byte_at s p) where
  byte : byte_at s (place_from s at) ≡ b
  byte = ap (λ (q : ℕ). byte_at s q) (sym p-is) ∙ sym b-is

  pub part_plain_is : is_opening b ≡ false → part_at s at room ≡ plain_at s p
  unfolding read_part plain_at
  part_plain_is h =
      let o = opening b h in
      part_once s at room l ∙ rw (byte, ne_eqb b 91 o.0, ne_eqb b 37 o.1, ne_eqb b 47 o.2, ne_eqb b 64 o.3, ne_eqb b 123 o.4, ne_eqb b 40 o.5, ← p-is)

  module _ (r : 0 < room) where
    -- behind a mark that opens at p
    opened : {A : Type 0} (k : ℕ → Got A) → opens p room k ≡ k (p + 1)
    unfolding opens
    opened k = rw (ne_eqb room 0 (omega arith))

    pub part_construct_is : b ≡ 91 → part_at s at room ≡ construct_at s (p + 1) (room - 1)
    unfolding read_part construct_at forms_at
    part_construct_is h = part_once s at room l ∙ rw (byte, h, ← p-is) (opened (λ a. and_then (forms_at s a (room - 1)) (λ fs e. got (construct fs) e)))

    pub part_constant_is : b ≡ 37 → part_at s at room ≡ constant_read s (p + 1) (room - 1)
    unfolding read_part constant_read object_at
    part_constant_is h = part_once s at room l ∙ rw (byte, h, ← p-is) (opened (λ a. and_then (object_at s a (room - 1)) (λ x e. got (constant x) e)))

    pub part_insert_is : b ≡ 47 → part_at s at room ≡ prefix_at 7 s (p + 1) (room - 1)
    unfolding read_part prefix_at prefix_form part_at
    part_insert_is h = part_once s at room l ∙ rw (byte, h, ← p-is) (opened (λ a. and_then (part_at s a (room - 1)) (λ f e. got (insert f) e)))

    pub part_apply_is : b ≡ 64 → part_at s at room ≡ prefix_at 8 s (p + 1) (room - 1)
    unfolding read_part prefix_at prefix_form part_at
    part_apply_is h = part_once s at room l ∙ rw (byte, h, ← p-is) (opened (λ a. and_then (part_at s a (room - 1)) (λ f e. got (apply_all f) e)))

    pub part_round_is : b ≡ 40 → part_at s at room ≡ round_at s (p + 1) (room - 1)
    unfolding read_part round_at form_at
    part_round_is h = part_once s at room l ∙ rw (byte, h, ← p-is) (opened (λ a. and_then (form_at s a (room - 1)) (λ f e. after_test s f e (λ a. form_at s a (room - 1)))))

    pub part_bu_is : b ≡ 123 → part_at s at room ≡ bu_at s (p + 1) (room - 1)
    unfolding read_part bu_at bound_at part_at object_at
    part_bu_is h =
        part_once s at room l
        ∙ rw (byte, h, ← p-is) (opened (λ a. and_then (part_at s a (room - 1)) (λ f e. mark 44 s e (λ a. and_then (object_at s a (room - 1)) (λ x e. mark 125 s e (λ a. got (bu f x) a)))))
        ∙ bound s (room - 1) (part_at s (p + 1) (room - 1)))

  pub part_deep_is : is_opening b ≡ true → room ≡ 0 → part_at s at room ≡ no 7 p
  unfolding read_part opens
  part_deep_is h z = part_once s at room l ∙ rw (byte, z, ← p-is) (deep (eqb b 91) (eqb b 37) (eqb b 47) (eqb b 64) (eqb b 123) (eqb b 40) (no 7 p) _ h)

-- ---- behind a part
module _ (s : List ℕ) (e : ℕ) {q : Option ℕ} (f : Form) (r : ℕ → Got Forms) where
  pub one_part : Dotted s e q → q ≡ None → after_part s f e r ≡ got f e
  unfolding after_part
  one_part (dot_read h i) z = absurd (let y : ◌≡◌ {A = ℕ} 0 1 = cc in omega arith)
  one_part (no_dot h i) z = rw (ne_eqb (byte_at s (place_from s e)) 46 h)

  pub last_part : Dotted s e q → q ≡ None → after_parts s f e r ≡ got (f & stop) e
  unfolding after_parts
  last_part (dot_read h i) z = absurd (let y : ◌≡◌ {A = ℕ} 0 1 = cc in omega arith)
  last_part (no_dot h i) z = rw (ne_eqb (byte_at s (place_from s e)) 46 h)

  pub more_parts : {a : ℕ} → Dotted s e q → q ≡ Some a → after_part s f e r ≡ and_then (r a) (λ fs e. got (chain (f & fs)) e)
  unfolding after_part
  more_parts {a} (dot_read h i) z = let y : place_from s e + 1 ≡ a = cc in rw (h, y)
  more_parts (no_dot h i) z = absurd (let y : ◌≡◌ {A = ℕ} 0 1 = cc in omega arith)

  pub next_part : {a : ℕ} → Dotted s e q → q ≡ Some a → after_parts s f e r ≡ and_then (r a) (λ fs e. got (f & fs) e)
  unfolding after_parts
  next_part {a} (dot_read h i) z = let y : place_from s e + 1 ≡ a = cc in rw (h, y)
  next_part (no_dot h i) z = absurd (let y : ◌≡◌ {A = ℕ} 0 1 = cc in omega arith)

-- ---- behind a form of `[ ]`
module _ (s : List ℕ) (e : ℕ) {q : Result CommaRead RefusedText} (f : Form) (r : ℕ → Got Forms) where
  pub last_form : {a : ℕ} → Separated s e q → q ≡ Ok (C.Closed a) → after_form s f e r ≡ got (f & stop) a
  unfolding after_form
  last_form (comma_read h i) z = absurd (let y : ◌≡◌ {A = ℕ} 0 1 = cc in omega arith)
  last_form {a} (bracket_read h i) z = let y : place_from s e + 1 ≡ a = cc in rw (h, y)
  last_form (neither_read g h i) z = absurd (let y : ◌≡◌ {A = ℕ} 0 1 = cc in omega arith)

  pub next_form : {a : ℕ} → Separated s e q → q ≡ Ok (C.More a) → after_form s f e r ≡ and_then (r a) (λ fs e. got (f & fs) e)
  unfolding after_form
  next_form {a} (comma_read h i) z = let y : place_from s e + 1 ≡ a = cc in rw (h, y)
  next_form (bracket_read h i) z = absurd (let y : ◌≡◌ {A = ℕ} 0 1 = cc in omega arith)
  next_form (neither_read g h i) z = absurd (let y : ◌≡◌ {A = ℕ} 0 1 = cc in omega arith)

  pub other_form : {o : RefusedText} → Separated s e q → q ≡ Err o → Refuses o (after_form s f e r)
  unfolding after_form refused
  other_form (comma_read h i) z = absurd (let y : ◌≡◌ {A = ℕ} 0 1 = cc in omega arith)
  other_form (bracket_read h i) z = absurd (let y : ◌≡◌ {A = ℕ} 0 1 = cc in omega arith)
  other_form (neither_read g h i) z = record {
    number = refusal_of (word_at s (place_from s e));
    place = place_from s e;
    is = rw (ne_eqb (byte_at s (place_from s e)) 44 g, ne_eqb (byte_at s (place_from s e)) 93 h);
    told = error_of (sym z ∙ i);
  }

-- ---- behind a first form: p is the next place and b its byte
module _ (s : List ℕ) (e p b : ℕ) (p-is : p ≡ place_from s e) (b-is : b ≡ byte_at s p) where
  module _ (f : Form) where
    -- behind the first form in `( )`
    module _ (room : ℕ) where
      pub test_while : is_arrow s p ≡ false → b ≡ 63 → after_test s f e (λ a. form_at s a room) ≡ while_at s (p + 1) room f
      unfolding after_test while_at closed_at
      test_while a h = rw (← p-is, a, sym b-is, h) (wrap 41 s (form_at s (p + 1) room) (λ g. while f g))

      pub test_closed : is_arrow s p ≡ false → b ≡ 41 → after_test s f e (λ a. form_at s a room) ≡ got f (p + 1)
      unfolding after_test
      test_closed a h = rw (← p-is, a, sym b-is, h)

      pub test_other : is_arrow s p ≡ false → (b ≡ 63 → ⊥) → (b ≡ 41 → ⊥) → after_test s f e (λ a. form_at s a room) ≡ no (refusal_of (word_at s p)) p
      unfolding after_test refused
      test_other a h i = rw (← p-is, a, sym b-is, ne_eqb b 63 h, ne_eqb b 41 i)

pub test_condition : (s : List ℕ) (e p room : ℕ) (f : Form) → p ≡ place_from s e → is_arrow s p ≡ true → after_test s f e (λ a. form_at s a room) ≡ condition_at s (p + 2) room f
unfolding after_test condition_at branches_at
test_condition s e p room f p-is a = rw (← p-is, a) (pair s room f (form_at s (p + 2) room))
