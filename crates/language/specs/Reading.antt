-- Reading objects and programs from any bytes, with the exact refusal.
use Rattle.std.specs.Prelude.{ℕ, zero, suc, ◌+◌, ◌-◌, ◌*◌, Bool, false, cond, ◌&&◌, ◌||◌, List, [], ◌∷◌, map, ltb, eqb, length}
use Prim.Native.Char.{code}
use Rattle.std.proofs.Math.Seq.{slice}
use Rattle.language.specs.Bytes.{same_bytes}
use Rattle.language.specs.Numbers.{mark_limit, form_limit, definition_limit}
use Rattle.language.specs.Objects.{Obj, seq, Objs, nil, ◌::◌}
use Rattle.language.specs.Forms.{Form, chain, construct, constant, insert, apply_all, bu, condition, while, Forms, stop, ◌&◌, Def, Prog, forms_of}
use Rattle.language.specs.Tokens.{byte_at, place_from, size_at}
use Rattle.language.specs.Judging.{Judged, is, is_not, judge_atom, judge_part, judge_name, refusal_of}

-- What was read and the place behind it; or the answer's number and place.
pub data Got (A : Type 0) : Type 0 where
  got : A → ℕ → Got A
  no : ℕ → ℕ → Got A

abbrev pub and_then : {A B : Type 0} → Got A → (A → ℕ → Got B) → Got B
and_then (got a e) k = k a e
and_then (no n p) k = no n p

-- the n bytes at p
abbrev pub word_at : List ℕ → ℕ → List ℕ
word_at s p = slice p (p + size_at s p) s

-- what stands at p, as judged
abbrev pub as_judged : {A : Type 0} → List ℕ → ℕ → Judged A → Got A
as_judged s p (is a) = got a (p + size_at s p)
as_judged s p (is_not n) = no n p

-- what stands at p may not stand there
unfoldable pub refused : {A : Type 0} → List ℕ → ℕ → Got A
refused s p = no (refusal_of (word_at s p)) p

-- the mark b at the next place, and what `rest` reads behind it
unfoldable pub mark : {A : Type 0} → ℕ → List ℕ → ℕ → (ℕ → Got A) → Got A
mark b s at rest =
    let p = place_from s at in
    let r = rest (p + 1) in
    cond (eqb (byte_at s p) b) r (refused s p)

-- a mark that opens at p, where `room` more may open: 7 if none
unfoldable pub opens : {A : Type 0} → ℕ → ℕ → (ℕ → Got A) → Got A
opens p room rest =
    let r = rest (p + 1) in
    cond (eqb room 0) (no 7 p) r

-- behind a `<`: a `>`, or objects
unfoldable pub inside_sequence : List ℕ → ℕ → (ℕ → Got Objs) → Got Obj
inside_sequence s at rest =
    let p = place_from s at in
    let r = and_then (rest at) (λ xs e. got (seq xs) e) in
    cond (eqb (byte_at s p) (code ">")) (got (seq nil) (p + 1)) r

-- behind an object of a sequence: a comma and more, or the `>`
unfoldable pub after_object : List ℕ → Obj → ℕ → (ℕ → Got Objs) → Got Objs
after_object s x e rest =
    let p = place_from s e in
    let r = and_then (rest (p + 1)) (λ xs e. got (x :: xs) e) in
    cond (eqb (byte_at s p) (code ",")) r
    (cond (eqb (byte_at s p) (code ">")) (got (x :: nil) (p + 1)) (refused s p))

-- An object from a place on, where `room` marks may open. The first number bounds how deep one reader calls another: each
-- call but one passes a byte before the next of its kind, so that it never decides.
unfoldable mutual
  pub read_obj : ℕ → List ℕ → ℕ → ℕ → Got Obj
  read_obj zero s at room = no 6 (length s)
  read_obj (suc k) s at room =
      let p = place_from s at in
      let sequence = opens p room (λ a. inside_sequence s a (λ a. read_objs k s a (room - 1))) in
      let atom = as_judged s p (judge_atom (word_at s p)) in
      cond (eqb (byte_at s p) (code "<")) sequence atom

  pub read_objs : ℕ → List ℕ → ℕ → ℕ → Got Objs
  read_objs zero s at room = no 6 (length s)
  read_objs (suc k) s at room = and_then (read_obj k s at room) (λ x e. after_object s x e (λ a. read_objs k s a room))

-- a whole text: nothing behind it
unfoldable pub at_end : {A : Type 0} → List ℕ → A → ℕ → Got A
at_end s a e =
    let p = place_from s e in
    cond (eqb p (length s)) (got a p) (refused s p)

-- enough calls for a text: at most four for each byte
abbrev pub calls : List ℕ → ℕ
calls s = 4 * length s + 4

unfoldable pub read_object : List ℕ → Got Obj
read_object s = and_then (read_obj (calls s) s 0 mark_limit) (λ x e. at_end s x e)

-- behind the first form in `( )`
unfoldable pub after_test : List ℕ → Form → ℕ → (ℕ → Got Form) → Got Form
after_test s p e form =
    let q = place_from s e in
    let if = and_then (form (q + 2)) (λ f e. mark (code ";") s e (λ a. and_then (form a) (λ g e. mark (code ")") s e (λ a. got (condition p f g) a)))) in
    let loop = and_then (form (q + 1)) (λ f e. mark (code ")") s e (λ a. got (while p f) a)) in
    cond (eqb (byte_at s q) (code "-") && eqb (byte_at s (q + 1)) (code ">")) if
    (cond (eqb (byte_at s q) (code "?")) loop
    (cond (eqb (byte_at s q) (code ")")) (got p (q + 1)) (refused s q)))

-- behind the first part of a form: a dot and more parts make a chain
unfoldable pub after_part : List ℕ → Form → ℕ → (ℕ → Got Forms) → Got Form
after_part s f e rest =
    let p = place_from s e in
    let r = and_then (rest (p + 1)) (λ fs e. got (chain (f & fs)) e) in
    cond (eqb (byte_at s p) (code ".")) r (got f e)

-- behind a later part
unfoldable pub after_parts : List ℕ → Form → ℕ → (ℕ → Got Forms) → Got Forms
after_parts s f e rest =
    let p = place_from s e in
    let r = and_then (rest (p + 1)) (λ fs e. got (f & fs) e) in
    cond (eqb (byte_at s p) (code ".")) r (got (f & stop) e)

-- behind a form of `[ ]`: a comma and more, or the `]`
unfoldable pub after_form : List ℕ → Form → ℕ → (ℕ → Got Forms) → Got Forms
after_form s f e rest =
    let p = place_from s e in
    let r = and_then (rest (p + 1)) (λ fs e. got (f & fs) e) in
    cond (eqb (byte_at s p) (code ",")) r
    (cond (eqb (byte_at s p) (code "]")) (got (f & stop) (p + 1)) (refused s p))

-- A form holds parts and a part may hold forms.
unfoldable mutual
  -- one part, or several joined by `.`
  pub read_form : ℕ → List ℕ → ℕ → ℕ → Got Form
  read_form zero s at room = no 6 (length s)
  read_form (suc k) s at room = and_then (read_part k s at room) (λ f e. after_part s f e (λ a. read_parts k s a room))

  pub read_parts : ℕ → List ℕ → ℕ → ℕ → Got Forms
  read_parts zero s at room = no 6 (length s)
  read_parts (suc k) s at room = and_then (read_part k s at room) (λ f e. after_parts s f e (λ a. read_parts k s a room))

  pub read_forms : ℕ → List ℕ → ℕ → ℕ → Got Forms
  read_forms zero s at room = no 6 (length s)
  read_forms (suc k) s at room = and_then (read_form k s at room) (λ f e. after_form s f e (λ a. read_forms k s a room))

  pub read_part : ℕ → List ℕ → ℕ → ℕ → Got Form
  read_part zero s at room = no 6 (length s)
  read_part (suc k) s at room =
      let p = place_from s at in
      let b = byte_at s p in
      let construct' = opens p room (λ a. and_then (read_forms k s a (room - 1)) (λ fs e. got (construct fs) e)) in
      let constant' = opens p room (λ a. and_then (read_obj k s a (room - 1)) (λ x e. got (constant x) e)) in
      let insert' = opens p room (λ a. and_then (read_part k s a (room - 1)) (λ f e. got (insert f) e)) in
      let apply_all' = opens p room (λ a. and_then (read_part k s a (room - 1)) (λ f e. got (apply_all f) e)) in
      let bu' = opens p room (λ a. and_then (read_part k s a (room - 1)) (λ f e. mark (code ",") s e (λ a. and_then (read_obj k s a (room - 1)) (λ x e. mark (code "}") s e (λ a. got (bu f x) a))))) in
      let round' = opens p room (λ a. and_then (read_form k s a (room - 1)) (λ f e. after_test s f e (λ a. read_form k s a (room - 1)))) in
      let plain' = as_judged s p (judge_part (word_at s p)) in
      cond (eqb b (code "[")) construct'
      (cond (eqb b (code "%")) constant'
      (cond (eqb b (code "/")) insert'
      (cond (eqb b (code "@")) apply_all'
      (cond (eqb b (code "{")) bu'
      (cond (eqb b (code "(")) round'
      plain')))))

-- a definition, with the place of its name
pub record Placed : Type 0 where
  pub place : ℕ
  pub def : Def

-- the program of definitions, without their places
abbrev pub program_of : List Placed → Prog
program_of ds = map (λ (d : Placed). d.def) ds

-- `name=form;`, the name read
unfoldable pub definition_at : ℕ → List ℕ → ℕ → List ℕ → ℕ → Got Placed
definition_at k s p w e =
    mark (code "=") s e (λ a. and_then (read_form k s a mark_limit) (λ f e. mark (code ";") s e (λ a. got (record { place = p; def = record { called = w; body = f } }) a)))

-- zero or more definitions, up to the end
unfoldable pub read_definitions : ℕ → List ℕ → ℕ → Got (List Placed)
read_definitions zero s at = no 6 (length s)
read_definitions (suc k) s at =
    let p = place_from s at in
    let first = and_then (as_judged s p (judge_name (word_at s p))) (λ w e. definition_at k s p w e) in
    let r = and_then first (λ d e. and_then (read_definitions k s e) (λ ds e. got (d ∷ ds) e)) in
    cond (eqb p (length s)) (got [] p) r

-- whether a name is among others
unfoldable pub is_in : List ℕ → List (List ℕ) → Bool
is_in w [] = false
is_in w (v ∷ vs) = same_bytes v w || is_in w vs

-- The first defined name that an earlier definition has: 11 with its place.
unfoldable pub none_twice : List (List ℕ) → List Placed → Got Prog → Got Prog
none_twice earlier [] good = good
none_twice earlier (d ∷ ds) good =
    let r = none_twice (d.def.called ∷ earlier) ds good in
    cond (is_in d.def.called earlier) (no 11 d.place) r

-- 6 to 9 by place, then 10, then 11
unfoldable pub within_limits : List Placed → ℕ → Got Prog
within_limits ds e =
    let P = program_of ds in
    cond (ltb form_limit (forms_of P) || ltb definition_limit (length P)) (no 10 0) (none_twice [] ds (got P e))

unfoldable pub read_program : List ℕ → Got Prog
read_program s = and_then (read_definitions (calls s) s 0) (λ ds e. within_limits ds e)
