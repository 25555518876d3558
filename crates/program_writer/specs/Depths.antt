-- What the functions on marks answer: the most marks open at once, up to a limit.
use Rattle.std.specs.Prelude.{ℕ, min, ◌≤◌, ◌<◌, ◌≡◌, List}
use Rattle.language.specs.Numbers.{form_limit}
use Rattle.language.specs.Objects.{Obj, seq, Objs}
use Rattle.language.specs.Forms.{Form, Forms, ◌&◌, ◌+&◌, count}
use Rattle.language.specs.Writing.{marks_of, marks_of_obj, marks_of_objs}
use Rattle.language.specs.declared.Val.{Val}
use Rattle.cells.specs.Cells.{Rep}
use Rattle.formtable.specs.Standing.{kind_at, wide_at, Row, Stands}
use Rattle.program_writer.specs.declared.Depth.{Depth}
use Rattle.program_writer.specs.Layout.{part_marks, parts_marks, own_marks}

pub record ObjectDepth (C : List ℕ) (v : Val) (limit r : ℕ) : Type 0 where
  pub most : r ≤ limit
  pub means : (n : ℕ) (x : Obj) → n < 4294967296 → Rep C n v x → r ≡ min (marks_of_obj x) limit

pub record PlacesDepth (C : List ℕ) (v : Val) (limit r : ℕ) : Type 0 where
  pub most : r ≤ limit
  pub means : (n : ℕ) (xs : Objs) → n < 4294967296 → Rep C n v (seq xs) → r ≡ min (marks_of_objs xs) limit

-- `row` is a record's kind and word
pub record OwnDepth (C : List ℕ) (row : Val) (r : ℕ) : Type 0 where
  pub means : (t : List ℕ) (n i : ℕ) (f : Form) → n < 4294967296 → row.tag ≡ kind_at t i → row.word ≡ wide_at t i → Row t C n i f → r ≡ min (own_marks f) 33

-- the marks are m, up to 33, and from the record that was come to the forms fs stand up to e
pub record Deep (t C : List ℕ) (n m : ℕ) (fs : Forms) (e : ℕ) (r : Depth) : Type 0 where
  pub rest : Stands t C n r.next fs e
  pub marks : r.marks ≡ min m 33

pub record FormDepth (t C : List ℕ) (i : ℕ) (r : Depth) : Type 0 where
  pub ahead : i ≤ r.next
  pub means : (n e : ℕ) (f : Form) (gs : Forms) → n < 4294967296 → e ≤ form_limit → Stands t C n i (f & gs) e → Deep t C n (marks_of f) gs e r

-- a part of a form of kind k
pub record PartDepth (t C : List ℕ) (k i : ℕ) (r : Depth) : Type 0 where
  pub ahead : i ≤ r.next
  pub means : (n e j : ℕ) (g f : Form) (gs : Forms) → n < 4294967296 → e ≤ form_limit → k ≡ kind_at t j → Row t C n j g → Stands t C n i (f & gs) e → Deep t C n (part_marks g f) gs e r

pub record PartsDepth (t C : List ℕ) (k arity i : ℕ) (r : Depth) : Type 0 where
  pub ahead : i ≤ r.next
  pub means : (n e j : ℕ) (g : Form) (fs gs : Forms) → n < 4294967296 → e ≤ form_limit → k ≡ kind_at t j → Row t C n j g → arity ≡ count fs → Stands t C n i (fs +& gs) e → Deep t C n (parts_marks g fs) gs e r
