-- The readers' bound on calls is never reached: whatever were answered where no call is left, the same would be read.
use Rattle.std.specs.Prelude.{ℕ, zero, suc, ◌-◌, ◌≤◌, ◌≡◌, cond, List, [], ◌∷◌, eqb, length}
use Prim.Native.Char.{code}
use Rattle.language.specs.Objects.{Obj, Objs}
use Rattle.language.specs.Forms.{Form, construct, constant, insert, apply_all, bu, Forms}
use Rattle.language.specs.Tokens.{byte_at, place_from}
use Rattle.language.specs.Judging.{judge_atom, judge_part, judge_name}
use Rattle.language.specs.Numbers.{mark_limit}
use Rattle.language.specs.Reading.{Got, got, and_then, word_at, as_judged, mark, opens, inside_sequence, after_object, after_test, after_part, after_parts, after_form, Placed, calls, read_obj, read_objs, read_form, read_parts, read_forms, read_part, read_definitions}

-- a reader of each kind, by the place and, but for definitions, the marks that may open
pub record Readers : Type 0 where
  pub object : ℕ → ℕ → Got Obj
  pub objects : ℕ → ℕ → Got Objs
  pub form : ℕ → ℕ → Got Form
  pub parts : ℕ → ℕ → Got Forms
  pub forms : ℕ → ℕ → Got Forms
  pub part : ℕ → ℕ → Got Form
  pub definitions : ℕ → Got (List Placed)

-- Reading's readers of the text s, with k calls left
abbrev pub readers : ℕ → List ℕ → Readers
readers k s = record {
  object = read_obj k s;
  objects = read_objs k s;
  form = read_form k s;
  parts = read_parts k s;
  forms = read_forms k s;
  part = read_part k s;
  definitions = read_definitions k s;
}

-- What each reader of the text s does, where the readers that it calls are r: Reading's lines, without the bound.
abbrev pub object_by : List ℕ → Readers → ℕ → ℕ → Got Obj
object_by s r at room =
    let p = place_from s at in
    let sequence = opens p room (λ a. inside_sequence s a (λ a. r.objects a (room - 1))) in
    let atom = as_judged s p (judge_atom (word_at s p)) in
    cond (eqb (byte_at s p) (code "<")) sequence atom

abbrev pub part_by : List ℕ → Readers → ℕ → ℕ → Got Form
part_by s r at room =
    let p = place_from s at in
    let b = byte_at s p in
    let construct' = opens p room (λ a. and_then (r.forms a (room - 1)) (λ fs e. got (construct fs) e)) in
    let constant' = opens p room (λ a. and_then (r.object a (room - 1)) (λ x e. got (constant x) e)) in
    let insert' = opens p room (λ a. and_then (r.part a (room - 1)) (λ f e. got (insert f) e)) in
    let apply_all' = opens p room (λ a. and_then (r.part a (room - 1)) (λ f e. got (apply_all f) e)) in
    let bu' = opens p room (λ a. and_then (r.part a (room - 1)) (λ f e. mark (code ",") s e (λ a. and_then (r.object a (room - 1)) (λ x e. mark (code "}") s e (λ a. got (bu f x) a))))) in
    let round' = opens p room (λ a. and_then (r.form a (room - 1)) (λ f e. after_test s f e (λ a. r.form a (room - 1)))) in
    let plain' = as_judged s p (judge_part (word_at s p)) in
    cond (eqb b (code "[")) construct'
    (cond (eqb b (code "%")) constant'
    (cond (eqb b (code "/")) insert'
    (cond (eqb b (code "@")) apply_all'
    (cond (eqb b (code "{")) bu'
    (cond (eqb b (code "(")) round'
    plain')))))

abbrev pub definition_by : List ℕ → Readers → ℕ → List ℕ → ℕ → Got Placed
definition_by s r p w e =
    mark (code "=") s e (λ a. and_then (r.form a mark_limit) (λ f e. mark (code ";") s e (λ a. got (record { place = p; def = record { called = w; body = f } }) a)))

abbrev pub definitions_by : List ℕ → Readers → ℕ → Got (List Placed)
definitions_by s r at =
    let p = place_from s at in
    let first = and_then (as_judged s p (judge_name (word_at s p))) (λ w e. definition_by s r p w e) in
    let rest = and_then first (λ d e. and_then (r.definitions e) (λ ds e. got (d ∷ ds) e)) in
    cond (eqb p (length s)) (got [] p) rest

abbrev pub readers_by : List ℕ → Readers → Readers
readers_by s r = record {
  object = object_by s r;
  objects = λ at room. and_then (r.object at room) (λ x e. after_object s x e (λ a. r.objects a room));
  form = λ at room. and_then (r.part at room) (λ f e. after_part s f e (λ a. r.parts a room));
  parts = λ at room. and_then (r.part at room) (λ f e. after_parts s f e (λ a. r.parts a room));
  forms = λ at room. and_then (r.form at room) (λ f e. after_form s f e (λ a. r.forms a room));
  part = part_by s r;
  definitions = definitions_by s r;
}

-- the readers with k calls, where z answers once no call is left
abbrev pub readers_from : Readers → ℕ → List ℕ → Readers
readers_from z zero s = z
readers_from z (suc k) s = readers_by s (readers_from z k s)

-- Reading's readers are these, with Reading's own answers where no call is left.
abbrev pub SameReaders : Type 0
SameReaders = (k : ℕ) (s : List ℕ) → readers_from (readers 0 s) k s ≡ readers k s

-- With enough calls for a text any answers in their place give the same reading.
abbrev pub NoCallLeft : Type 0
NoCallLeft =
    (z : Readers) (s : List ℕ) (k : ℕ) → calls s ≤ k
    → ((readers_from z k s).object 0 mark_limit ≡ read_obj k s 0 mark_limit) × ((readers_from z k s).definitions 0 ≡ read_definitions k s 0)
