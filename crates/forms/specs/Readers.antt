-- The readers of a text with enough calls, which never decide (theorems' Calls): what is read from a place on.
use Rattle.std.specs.Prelude.{ℕ, ◌+◌, Bool, cond, ◌&&◌, ◌||◌, List, eqb}
use Prim.Native.Char.{code}
use Rattle.language.specs.Objects.{Obj}
use Rattle.language.specs.Forms.{Form, chain, construct, constant, insert, apply_all, bu, condition, while, Forms, ◌&◌}
use Rattle.language.specs.Tokens.{byte_at}
use Rattle.language.specs.Judging.{judge_part}
use Rattle.language.specs.Reading.{Got, got, and_then, word_at, as_judged, mark, after_test, calls, read_obj, read_form, read_parts, read_forms, read_part}

unfoldable pub object_at : List ℕ → ℕ → ℕ → Got Obj
object_at s at room = read_obj (calls s) s at room

unfoldable pub part_at : List ℕ → ℕ → ℕ → Got Form
part_at s at room = read_part (calls s) s at room

unfoldable pub form_at : List ℕ → ℕ → ℕ → Got Form
form_at s at room = read_form (calls s) s at room

unfoldable pub parts_at : List ℕ → ℕ → ℕ → Got Forms
parts_at s at room = read_parts (calls s) s at room

unfoldable pub forms_at : List ℕ → ℕ → ℕ → Got Forms
forms_at s at room = read_forms (calls s) s at room

-- a primitive word, a selector or a name at p
unfoldable pub plain_at : List ℕ → ℕ → Got Form
plain_at s p = as_judged s p (judge_part (word_at s p))

-- ---- behind a mark that opens
unfoldable pub constant_read : List ℕ → ℕ → ℕ → Got Form
constant_read s at room = and_then (object_at s at room) (λ x e. got (constant x) e)

-- kind 7 is insert, kind 8 apply-to-all
unfoldable pub prefix_form : ℕ → Form → Form
prefix_form kind f = cond (eqb kind 7) (insert f) (apply_all f)

unfoldable pub prefix_at : ℕ → List ℕ → ℕ → ℕ → Got Form
prefix_at kind s at room = and_then (part_at s at room) (λ f e. got (prefix_form kind f) e)

unfoldable pub construct_at : List ℕ → ℕ → ℕ → Got Form
construct_at s at room = and_then (forms_at s at room) (λ fs e. got (construct fs) e)

-- behind the form of `{f,x}`: the comma, the object and the `}`
unfoldable pub bound_at : List ℕ → ℕ → ℕ → Got Obj
bound_at s at room = mark (code ",") s at (λ a. and_then (object_at s a room) (λ x e. mark (code "}") s e (λ a. got x a)))

unfoldable pub bu_at : List ℕ → ℕ → ℕ → Got Form
bu_at s at room = and_then (part_at s at room) (λ f e. and_then (bound_at s e room) (λ x e. got (bu f x) e))

unfoldable pub round_at : List ℕ → ℕ → ℕ → Got Form
round_at s at room = and_then (form_at s at room) (λ f e. after_test s f e (λ a. form_at s a room))

-- ---- behind a first form
-- a form and the `)`
unfoldable pub closed_at : List ℕ → ℕ → ℕ → Got Form
closed_at s at room = and_then (form_at s at room) (λ f e. mark (code ")") s e (λ a. got f a))

-- more parts of a chain
unfoldable pub chain_at : List ℕ → ℕ → ℕ → Form → Got Form
chain_at s at room f = and_then (parts_at s at room) (λ fs e. got (chain (f & fs)) e)

-- behind `(p?`
unfoldable pub while_at : List ℕ → ℕ → ℕ → Form → Got Form
while_at s at room p = and_then (closed_at s at room) (λ f e. got (while p f) e)

-- the two forms behind `(p->`
pub record Branches : Type 0 where
  pub yes : Form
  pub no : Form

abbrev pub both : Form → Form → Branches
both f g = record { yes = f; no = g }

unfoldable pub branches_at : List ℕ → ℕ → ℕ → Got Branches
branches_at s at room =
    and_then (form_at s at room) (λ f e. mark (code ";") s e (λ a. and_then (closed_at s a room) (λ g e. got (both f g) e)))

unfoldable pub condition_at : List ℕ → ℕ → ℕ → Form → Got Form
condition_at s at room p = and_then (branches_at s at room) (λ b e. got (condition p b.yes b.no) e)

-- the marks that a part may begin with
abbrev pub is_opening : ℕ → Bool
is_opening b = eqb b (code "[") || eqb b (code "%") || eqb b (code "/") || eqb b (code "@") || eqb b (code "{") || eqb b (code "(")

abbrev pub is_arrow : List ℕ → ℕ → Bool
is_arrow s p = eqb (byte_at s p) (code "-") && eqb (byte_at s (p + 1)) (code ">")
