-- What the walks over texts and forms answer: the place behind the text, and what stands in the output then.
use Rattle.std.specs.Prelude.{ℕ, min, ◌+◌, ◌≤◌, ◌<◌, ◌≡◌, List, [], length}
use Rattle.language.specs.Bytes.{bytes}
use Rattle.language.specs.Numbers.{form_limit, mark_limit, written_limit}
use Rattle.language.specs.Objects.{Obj}
use Rattle.language.specs.Forms.{Form, Forms, stop, ◌&◌, ◌+&◌, count}
use Rattle.language.specs.Accepted.{IsName, IsForm}
use Rattle.packing.specs.Packing.{packed}
use Rattle.language.specs.Writing.{write_obj, write_form, marks_of, marks_of_obj}
use Rattle.language.specs.declared.Val.{Val}
use Rattle.tables.specs.Tables.{put}
use Rattle.cells.specs.Cells.{Rep}
use Rattle.formtable.specs.Standing.{kind_at, wide_at, Row, Stands}
use Rattle.program_writer.specs.declared.Writer.{Writer}
use Rattle.program_writer.specs.Layout.{opening, behind_part, ending, part_text, parts_text}

-- where a walk over forms has come to: the record behind the form, and the place behind its text
pub record Way : Type 0 where
  pub next : ℕ
  pub place : ℕ

-- the same output, of the same length
abbrev pub Kept : Writer → Writer → Type 0
Kept w w' = (w'.out.ghost_name ≡ w.out.ghost_name) × (length w'.out.now ≡ length w.out.now)

-- r is the place n bytes behind `at`; places past 16,384 are all the same
pub record Behind (at n r : ℕ) : Type 0 where
  pub is : min r 16385 ≡ min (at + n) 16385

-- A walk over a text from `at` up to r. Where it is within 16,384 bytes and the output has room for it, it stands there.
pub record Wrote (text : List ℕ) (at r : ℕ) (out out' : List ℕ) : Type 0 where
  pub place : min r 16385 ≡ min (at + length text) 16385
  pub stands : at + length text ≤ written_limit → at + length text ≤ length out → out' ≡ put out at text

pub record NameWalked (v at r : ℕ) (out out' : List ℕ) : Type 0 where
  pub means : (w : List ℕ) → IsName w → v ≡ packed w → Wrote w at r out out'

-- an object that opens no 33rd mark
pub record ConstantWalked (C : List ℕ) (v : Val) (at r : ℕ) (out out' : List ℕ) : Type 0 where
  pub means : (n : ℕ) (x : Obj) → n < 4294967296 → marks_of_obj x ≤ mark_limit → Rep C n v x → Wrote (write_obj x) at r out out'

-- ---- the marks of each kind of form
pub record MarkBehind (k left : ℕ) (r : List ℕ) : Type 0 where
  pub bu : 15 < k → r ≡ bytes ","
  pub chain : k ≡ 5 → 0 < left → r ≡ bytes "."
  pub chain_end : k ≡ 5 → left ≡ 0 → r ≡ []
  pub construct : k ≡ 6 → 0 < left → r ≡ bytes ","
  pub construct_end : k ≡ 6 → left ≡ 0 → r ≡ bytes "]"
  pub condition : k ≡ 9 → 1 < left → r ≡ bytes "->"
  pub condition_then : k ≡ 9 → left ≡ 1 → r ≡ bytes ";"
  pub condition_end : k ≡ 9 → left ≡ 0 → r ≡ bytes ")"
  pub while : k ≡ 10 → 0 < left → r ≡ bytes "?"
  pub while_end : k ≡ 10 → left ≡ 0 → r ≡ bytes ")"
  pub other : (k < 5) → r ≡ []
  pub insert : k ≡ 7 → r ≡ []
  pub apply_all : k ≡ 8 → r ≡ []
  pub constant : 10 < k → k < 16 → r ≡ []

pub record OpeningMark (k : ℕ) (r : List ℕ) : Type 0 where
  pub bu : 15 < k → r ≡ bytes "{"
  pub chain : k ≡ 5 → r ≡ []
  pub construct : k ≡ 6 → r ≡ bytes "["
  pub insert : k ≡ 7 → r ≡ bytes "/"
  pub apply_all : k ≡ 8 → r ≡ bytes "@"
  pub condition : k ≡ 9 → r ≡ bytes "("
  pub while : k ≡ 10 → r ≡ bytes "("
  pub constant : 10 < k → k < 16 → r ≡ bytes "%"

-- ---- forms that can be written: their names unpack, and their objects open no 33rd mark
pub record Writable (f : Form) : Type 0 where
  pub good : IsForm f
  pub few : marks_of f ≤ mark_limit

pub data AllWritable : Forms → Type 0 where
  none_more : AllWritable stop
  one_more : {f : Form} {fs : Forms} → Writable f → AllWritable fs → AllWritable (f & fs)

-- what stands behind a part of a form of kind k
pub record BehindWalked (k left at r : ℕ) (out out' : List ℕ) : Type 0 where
  pub means : (t C : List ℕ) (n j : ℕ) (g : Form) → k ≡ kind_at t j → Row t C n j g → Wrote (behind_part g left) at r out out'

-- `row` is a record's kind and word
pub record PlainWalked (C : List ℕ) (row : Val) (at r : ℕ) (out out' : List ℕ) : Type 0 where
  pub means : (t : List ℕ) (n i : ℕ) (f : Form) → n < 4294967296 → row.tag ≡ kind_at t i → row.word ≡ wide_at t i → row.tag < 5 → Writable f → Row t C n i f → Wrote (opening f) at r out out'

pub record OpeningWalked (C : List ℕ) (row : Val) (at r : ℕ) (out out' : List ℕ) : Type 0 where
  pub means : (t : List ℕ) (n i : ℕ) (f : Form) → n < 4294967296 → row.tag ≡ kind_at t i → row.word ≡ wide_at t i → Writable f → Row t C n i f → Wrote (opening f) at r out out'

pub record EndingWalked (C : List ℕ) (row : Val) (at r : ℕ) (out out' : List ℕ) : Type 0 where
  pub means : (t : List ℕ) (n i : ℕ) (f : Form) → n < 4294967296 → row.tag ≡ kind_at t i → row.word ≡ wide_at t i → Writable f → Row t C n i f → Wrote (ending f) at r out out'

-- a text was walked over, and from the record that the walk has come to the forms fs stand up to e
pub record Went (t C : List ℕ) (n : ℕ) (text : List ℕ) (fs : Forms) (e at : ℕ) (r : Way) (out out' : List ℕ) : Type 0 where
  pub rest : Stands t C n r.next fs e
  pub wrote : Wrote text at r.place out out'

pub record FormWalked (t C : List ℕ) (i at : ℕ) (r : Way) (out out' : List ℕ) : Type 0 where
  pub ahead : i ≤ r.next
  pub means : (n e : ℕ) (f : Form) (gs : Forms) → n < 4294967296 → e ≤ form_limit → Writable f → Stands t C n i (f & gs) e → Went t C n (write_form f) gs e at r out out'

-- a part of a form of kind k
pub record PartWalked (t C : List ℕ) (k i at : ℕ) (r : Way) (out out' : List ℕ) : Type 0 where
  pub ahead : i ≤ r.next
  pub means : (n e j : ℕ) (g f : Form) (gs : Forms) → n < 4294967296 → e ≤ form_limit → k ≡ kind_at t j → Row t C n j g → Writable f → Stands t C n i (f & gs) e → Went t C n (part_text g f) gs e at r out out'

pub record PartsWalked (t C : List ℕ) (k arity i at : ℕ) (r : Way) (out out' : List ℕ) : Type 0 where
  pub ahead : i ≤ r.next
  pub means : (n e j : ℕ) (g : Form) (fs gs : Forms) → n < 4294967296 → e ≤ form_limit → k ≡ kind_at t j → Row t C n j g → arity ≡ count fs → AllWritable fs → Stands t C n i (fs +& gs) e → Went t C n (parts_text g fs) gs e at r out out'
