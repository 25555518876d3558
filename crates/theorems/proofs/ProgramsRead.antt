-- Whatever is read as a program is well formed, and is written in no more bytes than were read.
use Prim.Native.Nat.{ℕ, zero, suc, ◌+◌, ◌-◌, ◌≤◌}
use Prim.Native.Char.{code}
use mathlib.Core.Path.{◌≡◌, refl}
use mathlib.Core.Bool.{Bool, true, false, cond, ◌&&◌, ◌||◌}
use mathlib.Core.List.{List, [], ◌∷◌, ◌++◌}
use native.Mathlib.Omega.{arith}
use borrow.Author.Tests.{eqb-true, ltb-false}
use lib.Dec.{eqb, ltb}
use lib.ListN.{length, length-append}
use Rattle.language.specs.Objects.{Obj}
use Rattle.language.specs.Forms.{Form, construct, constant, insert, apply_all, bu, condition, while, Forms, stop, ◌&◌, Prog, forms_of, is_chain}
use Rattle.language.specs.Tokens.{byte_at, place_from, size_at}
use Rattle.language.specs.Numbers.{mark_limit}
use Rattle.language.specs.Reading.{Got, got, and_then, word_at, mark, read_obj, calls, after_test, after_part, after_parts, after_form}
use Rattle.language.specs.Reading.{read_form, read_parts, read_forms, read_part, Placed, program_of, definition_at, read_definitions, is_in, none_twice, within_limits, read_program}
use Rattle.language.specs.Writing.{write_form, write_parts, write_more_parts, write_forms, write_more_forms, write_program}
use Rattle.language.specs.Writing.{bracketed, marks_of, bracket_marks, marks_of_parts, marks_of_forms, marks_of_program}
use Rattle.language.specs.Accepted.{IsForm, AreForms, IsName, OneOrMore, AreDefinitions, Different}
use Rattle.theorems.specs.ReadBack.{ReadProgram, ProgramsRead}
use Rattle.theorems.proofs.Outcomes.{Meets, meets, refuses, got_meets, meets_then, meets_cond, meets_refused, meets_mark, meets_opens, meets_judged, place_on, word_long}
use Rattle.theorems.proofs.JudgedWords.{IsPartIn, judged_part, judged_name}
use Rattle.theorems.proofs.ObjectsRead.{ObjectIn, object_in}

-- ---- what is read from `at` to `e`, where `room` marks might open

pub record FormIn (at room : ℕ) (f : Form) (e : ℕ) : Type 0 where
  pub is_form : IsForm f
  pub marks : marks_of f ≤ room
  pub short : at + length (write_form f) ≤ e

-- with its brackets, if it is a chain
pub record PartIn (at room : ℕ) (f : Form) (e : ℕ) : Type 0 where
  pub is_form : IsForm f
  pub marks : bracket_marks f (marks_of f) ≤ room
  pub short : at + length (bracketed f (write_form f)) ≤ e

pub record PartsIn (at room : ℕ) (fs : Forms) (e : ℕ) : Type 0 where
  pub are_forms : AreForms fs
  pub one_or_more : OneOrMore fs
  pub marks : marks_of_parts fs ≤ room
  pub short : at + length (write_parts fs) ≤ e

-- with the closing `]`
pub record FormsIn (at room : ℕ) (fs : Forms) (e : ℕ) : Type 0 where
  pub are_forms : AreForms fs
  pub one_or_more : OneOrMore fs
  pub marks : marks_of_forms fs ≤ room
  pub short : at + length (write_forms fs) ≤ e

-- brackets are two bytes and a mark at most
pub bracket_bytes : (f : Form) (s : List ℕ) → (length s ≤ length (bracketed f s)) × (length (bracketed f s) ≤ length s + 2)
bracket_bytes f s = go (is_chain f)
  where
    go : (t : Bool) → (length s ≤ length (cond t (code "(" ∷ (s ++ code ")" ∷ [])) s)) × (length (cond t (code "(" ∷ (s ++ code ")" ∷ [])) s) ≤ length s + 2)
    go true = let l = length-append s (code ")" ∷ []) in omega arith
    go false = omega arith

pub bracket_marks_lem : (f : Form) (k : ℕ) → (k ≤ bracket_marks f k) × (bracket_marks f k ≤ suc k)
bracket_marks_lem f k = go (is_chain f)
  where
    go : (t : Bool) → (k ≤ cond t (suc k) k) × (cond t (suc k) k ≤ suc k)
    go true = omega arith
    go false = omega arith

-- later parts take a dot more, later forms a comma
more_parts : (fs : Forms) → length (write_more_parts fs) ≤ suc (length (write_parts fs))
unfolding write_parts
more_parts stop = omega arith
more_parts (f & fs) = omega arith

more_forms : (fs : Forms) → length (write_more_forms fs) ≤ suc (length (write_forms fs))
unfolding write_forms
more_forms stop = omega arith
more_forms (f & fs) = omega arith

-- ---- one step of a reader

module _ (s : List ℕ) (at room : ℕ) where
  word_in : (f : Form) → IsPartIn (length (word_at s (place_from s at))) f → PartIn at room f (place_from s at + size_at s (place_from s at))
  word_in f h =
      let p = place_on s at in
      let l = word_long s (place_from s at) in
      record { is_form = h.is_form; marks = rw h.no_chain (omega (arith, h.marks)); short = rw h.no_chain (omega (arith, h.short)) }

  form_of_part : (f : Form) (e : ℕ) → PartIn at room f e → FormIn at room f e
  form_of_part f e q =
      let b = bracket_bytes f (write_form f) in
      let m = bracket_marks_lem f (marks_of f) in
      record { is_form = q.is_form; marks = omega (arith, q.marks, m.0); short = omega (arith, q.short, b.0) }

  part_of_form : (f : Form) (a e e' : ℕ) → at + 1 ≤ a → e + 1 ≤ e' → 1 ≤ room → FormIn a (room - 1) f e → PartIn at room f e'
  part_of_form f a e e' la le lr q =
      let b = bracket_bytes f (write_form f) in
      let m = bracket_marks_lem f (marks_of f) in
      record { is_form = q.is_form; marks = omega (arith, q.marks, m.1); short = omega (arith, q.short, b.1) }

  after_part_lem : (f : Form) (e : ℕ) (r : ℕ → Got Forms) → PartIn at room f e → Meets (PartsIn (place_from s e + 1) room) (r (place_from s e + 1)) → Meets (FormIn at room) (after_part s f e r)
  unfolding after_part write_form
  after_part_lem f e r q h =
      let p = place_on s e in
      meets_cond (eqb (byte_at s (place_from s e)) (code "."))
      (λ t. meets_then h (λ fs e' qs.
      let m = more_parts fs in
      meets (record { is_form = (qs.one_or_more, (q.is_form, qs.are_forms)); marks = omega (arith, q.marks, qs.marks); short = rw length-append (omega (arith, q.short, qs.short)) })))
      (λ t. meets (form_of_part f e q))

  after_parts_lem : (f : Form) (e : ℕ) (r : ℕ → Got Forms) → PartIn at room f e → Meets (PartsIn (place_from s e + 1) room) (r (place_from s e + 1)) → Meets (PartsIn at room) (after_parts s f e r)
  unfolding after_parts write_form
  after_parts_lem f e r q h =
      let p = place_on s e in
      meets_cond (eqb (byte_at s (place_from s e)) (code "."))
      (λ t. meets_then h (λ fs e' qs.
      let m = more_parts fs in
      meets (record { are_forms = (q.is_form, qs.are_forms); one_or_more = tt; marks = omega (arith, q.marks, qs.marks); short = rw length-append (omega (arith, q.short, qs.short)) })))
      (λ t. meets (record { are_forms = (q.is_form, tt); one_or_more = tt; marks = omega (arith, q.marks); short = rw length-append (omega (arith, q.short)) }))

  after_form_lem : (f : Form) (e : ℕ) (r : ℕ → Got Forms) → FormIn at room f e → Meets (FormsIn (place_from s e + 1) room) (r (place_from s e + 1)) → Meets (FormsIn at room) (after_form s f e r)
  unfolding after_form write_form
  after_form_lem f e r q h =
      let p = place_on s e in
      meets_cond (eqb (byte_at s (place_from s e)) (code ","))
      (λ t. meets_then h (λ fs e' qs.
      let m = more_forms fs in
      meets (record { are_forms = (q.is_form, qs.are_forms); one_or_more = tt; marks = omega (arith, q.marks, qs.marks); short = rw length-append (omega (arith, q.short, qs.short)) })))
      (λ t. meets_cond (eqb (byte_at s (place_from s e)) (code "]"))
      (λ u. meets (record { are_forms = (q.is_form, tt); one_or_more = tt; marks = omega (arith, q.marks); short = rw length-append (omega (arith, q.short)) }))
      (λ u. meets_refused s (place_from s e)))

  -- behind the first form in `( )`, read from a on
  after_test_lem : (p : Form) (a e : ℕ) (r : ℕ → Got Form) → at + 1 ≤ a → 1 ≤ room → FormIn a (room - 1) p e → ((b : ℕ) → Meets (FormIn b (room - 1)) (r b)) → Meets (PartIn at room) (after_test s p e r)
  unfolding after_test write_form
  after_test_lem p a e r la lr q h =
      let n = place_from s e in
      let o = place_on s e in
      meets_cond (eqb (byte_at s n) (code "-") && eqb (byte_at s (n + 1)) (code ">"))
      (λ t. meets_then (h (n + 2)) (λ f e₁ q₁. meets_mark (code ";") s e₁ (λ b. and_then (r b) (λ g e. mark (code ")") s e (λ a. got (condition p f g) a)))
      (meets_then (h (place_from s e₁ + 1)) (λ g e₂ q₂. meets_mark (code ")") s e₂ (λ a. got (condition p f g) a) (meets (if_in f g e₁ e₂ q₁ q₂))))))
      (λ t. meets_cond (eqb (byte_at s n) (code "?"))
      (λ u. meets_then (h (n + 1)) (λ f e₁ q₁. meets_mark (code ")") s e₁ (λ a. got (while p f) a) (meets (while_in f e₁ q₁))))
      (λ u. meets_cond (eqb (byte_at s n) (code ")")) (λ v. meets (part_of_form p a e (n + 1) la (omega arith) lr q)) (λ v. meets_refused s n)))
    where
      if_in : (f g : Form) (e₁ e₂ : ℕ) → FormIn (place_from s e + 2) (room - 1) f e₁ → FormIn (place_from s e₁ + 1) (room - 1) g e₂ → PartIn at room (condition p f g) (place_from s e₂ + 1)
      if_in f g e₁ e₂ q₁ q₂ =
          let o = place_on s e in
          let o₁ = place_on s e₁ in
          let o₂ = place_on s e₂ in
          record { is_form = (q.is_form, q₁.is_form, q₂.is_form); marks = omega (arith, q.marks, q₁.marks, q₂.marks); short = simp length-append (omega (arith, q.short, q₁.short, q₂.short)) }

      while_in : (f : Form) (e₁ : ℕ) → FormIn (place_from s e + 1) (room - 1) f e₁ → PartIn at room (while p f) (place_from s e₁ + 1)
      while_in f e₁ q₁ =
          let o = place_on s e in
          let o₁ = place_on s e₁ in
          record { is_form = (q.is_form, q₁.is_form); marks = omega (arith, q.marks, q₁.marks); short = simp length-append (omega (arith, q.short, q₁.short)) }

  -- behind a mark that opens
  construct_in : (a e : ℕ) (fs : Forms) → at + 1 ≤ a → 1 ≤ room → FormsIn a (room - 1) fs e → PartIn at room (construct fs) e
  unfolding write_form
  construct_in a e fs la lr q = record { is_form = (q.one_or_more, q.are_forms); marks = omega (arith, q.marks); short = omega (arith, q.short) }

  constant_in : (a e : ℕ) (x : Obj) → at + 1 ≤ a → 1 ≤ room → ObjectIn a (room - 1) x e → PartIn at room (constant x) e
  unfolding write_form
  constant_in a e x la lr q = record { is_form = q.is_obj; marks = omega (arith, q.marks); short = omega (arith, q.short) }

  insert_in : (a e : ℕ) (f : Form) → at + 1 ≤ a → 1 ≤ room → PartIn a (room - 1) f e → PartIn at room (insert f) e
  unfolding write_form
  insert_in a e f la lr q = record { is_form = q.is_form; marks = omega (arith, q.marks); short = omega (arith, q.short) }

  apply_all_in : (a e : ℕ) (f : Form) → at + 1 ≤ a → 1 ≤ room → PartIn a (room - 1) f e → PartIn at room (apply_all f) e
  unfolding write_form
  apply_all_in a e f la lr q = record { is_form = q.is_form; marks = omega (arith, q.marks); short = omega (arith, q.short) }

  bu_in : (a e e₁ : ℕ) (f : Form) (x : Obj) → at + 1 ≤ a → 1 ≤ room → PartIn a (room - 1) f e → ObjectIn (place_from s e + 1) (room - 1) x e₁ → PartIn at room (bu f x) (place_from s e₁ + 1)
  unfolding write_form
  bu_in a e e₁ f x la lr q q₁ =
      let o = place_on s e in
      let o₁ = place_on s e₁ in
      record { is_form = (q.is_form, q₁.is_obj); marks = omega (arith, q.marks, q₁.marks); short = simp length-append (omega (arith, q.short, q₁.short)) }

-- ---- the readers

mutual
  unfolding read_form

  pub form_in : (k : ℕ) (s : List ℕ) (at room : ℕ) → Meets (FormIn at room) (read_form k s at room)
  form_in zero s at room = refuses
  form_in (suc k) s at room =
      meets_then (part_in k s at room) (λ f e q. after_part_lem s at room f e (λ a. read_parts k s a room) q (parts_in k s (place_from s e + 1) room))

  parts_in : (k : ℕ) (s : List ℕ) (at room : ℕ) → Meets (PartsIn at room) (read_parts k s at room)
  parts_in zero s at room = refuses
  parts_in (suc k) s at room =
      meets_then (part_in k s at room) (λ f e q. after_parts_lem s at room f e (λ a. read_parts k s a room) q (parts_in k s (place_from s e + 1) room))

  forms_in : (k : ℕ) (s : List ℕ) (at room : ℕ) → Meets (FormsIn at room) (read_forms k s at room)
  forms_in zero s at room = refuses
  forms_in (suc k) s at room =
      meets_then (form_in k s at room) (λ f e q. after_form_lem s at room f e (λ a. read_forms k s a room) q (forms_in k s (place_from s e + 1) room))

  part_in : (k : ℕ) (s : List ℕ) (at room : ℕ) → Meets (PartIn at room) (read_part k s at room)
  part_in zero s at room = refuses
  part_in (suc k) s at room =
      let p = place_from s at in
      let b = byte_at s p in
      let a = p + 1 in
      let o = place_on s at in
      let la : at + 1 ≤ a = omega arith in
      meets_cond (eqb b (code "["))
      (λ t. meets_opens p room (λ a. and_then (read_forms k s a (room - 1)) (λ fs e. got (construct fs) e))
      (λ l. meets_then (forms_in k s a (room - 1)) (λ fs e q. meets (construct_in s at room a e fs la l q))))
      (λ t. meets_cond (eqb b (code "%"))
      (λ t. meets_opens p room (λ a. and_then (read_obj k s a (room - 1)) (λ x e. got (constant x) e))
      (λ l. meets_then (object_in k s a (room - 1)) (λ x e q. meets (constant_in s at room a e x la l q))))
      (λ t. meets_cond (eqb b (code "/"))
      (λ t. meets_opens p room (λ a. and_then (read_part k s a (room - 1)) (λ f e. got (insert f) e))
      (λ l. meets_then (part_in k s a (room - 1)) (λ f e q. meets (insert_in s at room a e f la l q))))
      (λ t. meets_cond (eqb b (code "@"))
      (λ t. meets_opens p room (λ a. and_then (read_part k s a (room - 1)) (λ f e. got (apply_all f) e))
      (λ l. meets_then (part_in k s a (room - 1)) (λ f e q. meets (apply_all_in s at room a e f la l q))))
      (λ t. meets_cond (eqb b (code "{"))
      (λ t. meets_opens p room (λ a. and_then (read_part k s a (room - 1)) (λ f e. mark (code ",") s e (λ a. and_then (read_obj k s a (room - 1)) (λ x e. mark (code "}") s e (λ a. got (bu f x) a)))))
      (λ l. meets_then (part_in k s a (room - 1)) (λ f e q. meets_mark (code ",") s e (λ a. and_then (read_obj k s a (room - 1)) (λ x e. mark (code "}") s e (λ a. got (bu f x) a)))
      (meets_then (object_in k s (place_from s e + 1) (room - 1)) (λ x e₁ q₁. meets_mark (code "}") s e₁ (λ a. got (bu f x) a) (meets (bu_in s at room a e e₁ f x la l q q₁)))))))
      (λ t. meets_cond (eqb b (code "("))
      (λ t. meets_opens p room (λ a. and_then (read_form k s a (room - 1)) (λ f e. after_test s f e (λ a. read_form k s a (room - 1))))
      (λ l. meets_then (form_in k s a (room - 1)) (λ f e q. after_test_lem s at room f a e (λ a. read_form k s a (room - 1)) la l q (λ b. form_in k s b (room - 1)))))
      (λ t. meets_judged s p (judged_part (word_at s p)) (λ f h. word_in s at room f h)))))))

-- ---- definitions

record DefinitionIn (at : ℕ) (d : Placed) (e : ℕ) : Type 0 where
  is_name : IsName d.def.called
  is_form : IsForm d.def.body
  marks : marks_of d.def.body ≤ mark_limit
  short : at + length d.def.called + length (write_form d.def.body) + 2 ≤ e

record DefinitionsIn (s : List ℕ) (at : ℕ) (ds : List Placed) (e : ℕ) : Type 0 where
  definitions : AreDefinitions (program_of ds)
  marks : marks_of_program (program_of ds) ≤ mark_limit
  ends : e ≡ length s
  short : at + length (write_program (program_of ds)) ≤ e

definition_in : (k : ℕ) (s : List ℕ) (at p : ℕ) (w : List ℕ) (e : ℕ) → IsName w → at + length w ≤ e → Meets (DefinitionIn at) (definition_at k s p w e)
unfolding definition_at
definition_in k s at p w e n l =
    let o = place_on s e in
    meets_mark (code "=") s e (λ a. and_then (read_form k s a mark_limit) (λ f e. mark (code ";") s e (λ a. got (record { place = p; def = record { called = w; body = f } }) a)))
    (meets_then (form_in k s (place_from s e + 1) mark_limit) (λ f e₁ q.
    let o₁ = place_on s e₁ in
    meets_mark (code ";") s e₁ (λ a. got (record { place = p; def = record { called = w; body = f } }) a)
    (meets (record { is_name = n; is_form = q.is_form; marks = q.marks; short = omega (arith, q.short) }))))

definitions_in : (k : ℕ) (s : List ℕ) (at : ℕ) → Meets (DefinitionsIn s at) (read_definitions k s at)
unfolding read_definitions write_program
definitions_in zero s at = refuses
definitions_in (suc k) s at =
    let p = place_from s at in
    let o = place_on s at in
    let l = word_long s p in
    meets_cond (eqb p (length s))
    (λ t. meets (record { definitions = tt; marks = omega arith; ends = eqb-true p (length s) t; short = omega arith }))
    (λ t. meets_then {Q = DefinitionIn at}
    (meets_then {Q = λ w e. IsName w × (at + length w ≤ e)}
    (meets_judged s p (judged_name (word_at s p)) (λ w h. (h.is_name, omega (arith, h.short))))
    (λ w e h. definition_in k s at p w e h.0 h.1))
    (λ d e q. meets_then (definitions_in k s e) (λ ds e₁ qs.
    meets (record {
      definitions = (q.is_name, q.is_form, qs.definitions);
      marks = omega (arith, q.marks, qs.marks);
      ends = qs.ends;
      short = simp length-append (omega (arith, q.short, qs.short));
    }))))

-- ---- programs

none_twice_lem : {Q : Prog → ℕ → Type 0} (earlier : List (List ℕ)) (ds : List Placed) (good : Got Prog) → (Different earlier (program_of ds) → Meets Q good) → Meets Q (none_twice earlier ds good)
unfolding none_twice
none_twice_lem earlier [] good f = f tt
none_twice_lem earlier (d ∷ ds) good f =
    meets_cond (is_in d.def.called earlier) (λ t. refuses) (λ t. none_twice_lem (d.def.called ∷ earlier) ds good (λ h. f (t, h)))

or_false : (a b : Bool) → (a || b) ≡ false → (a ≡ false) × (b ≡ false)
or_false true b h = let z : ◌≡◌ {A = ℕ} 0 1 = cc in absurd (omega arith)
or_false false b h = (refl, h)

within_limits_lem : (s : List ℕ) (ds : List Placed) (e : ℕ) → DefinitionsIn s 0 ds e → Meets (ReadProgram s) (within_limits ds e)
unfolding within_limits
within_limits_lem s ds e q =
    let P = program_of ds in
    meets_cond (ltb 2048 (forms_of P) || ltb 128 (length P)) (λ t. refuses)
    (λ t. none_twice_lem [] ds (got P e) (λ h.
    let x = or_false (ltb 2048 (forms_of P)) (ltb 128 (length P)) t in
    meets (record {
      well_formed = record { definitions = q.definitions; different = h; few_forms = ltb-false 2048 (forms_of P) x.0; few_definitions = ltb-false 128 (length P) x.1; few_marks = q.marks };
      ends = q.ends;
      no_longer = omega (arith, q.short, q.ends);
    })))

pub programs_read : ProgramsRead
unfolding read_program
programs_read s P e h = got_meets (meets_then (definitions_in (calls s) s 0) (λ ds a q. within_limits_lem s ds a q)) h
