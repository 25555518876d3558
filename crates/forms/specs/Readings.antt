-- What the readers' answers say of what is read, and what the tables hold then.
use Rattle.std.specs.Prelude.{ℕ, ◌+◌, ◌*◌, ◌≤◌, ◌<◌, ◌≡◌, List, ◌++◌, length, Option, Some, None, Result, Ok, Err}
use Prim.Native.Char.{code}
use Rattle.language.specs.Numbers.{program_limit}
use Rattle.language.specs.Objects.{Obj}
use Rattle.language.specs.Forms.{Form, Forms, count, constant_cells}
use Rattle.language.specs.Tokens.{byte_at, place_from}
use Rattle.language.specs.Judging.{refusal_of}
use Rattle.language.specs.Reading.{Got, got, no, word_at, after_test}
use Rattle.tables.specs.Tables.{put, record_put}
use Rattle.cells.specs.Encoding.{val_of, cells_from}
use Rattle.formtable.specs.Encoding.{low_of, high_of, encode_form, encode_forms, constants_from, constants_from_all}
use Rattle.language.specs.declared.refusals.RefusedText.{RefusedText}
use Rattle.language.specs.Refusals.{refused_at}
use Rattle.lexer.specs.Vocabulary.{op_code, op_of}
use Rattle.lexer.specs.declared.Part.{Part}
use Rattle.lexer.specs.declared.Part.TheVariants as P
use Rattle.objects.specs.declared.ObjectRead.{ObjectRead}
use Rattle.forms.specs.declared.Upto.{Upto}
use Rattle.forms.specs.declared.CommaRead.{CommaRead}
use Rattle.forms.specs.declared.CommaRead.TheVariants as C
use Rattle.forms.specs.declared.TestRead.{TestRead}
use Rattle.forms.specs.declared.TestRead.TheVariants as T
use Rattle.forms.specs.declared.FormsRead.{FormsRead}
use Rattle.forms.specs.Readers.{plain_at, form_at, while_at, Branches, condition_at}

-- Reading may go on at a place: no more forms and cells were counted than bytes were passed.
pub record Ready (s : List ℕ) (at n c : ℕ) : Type 0 where
  pub short : length s ≤ program_limit
  pub inside : at ≤ length s
  pub forms : n ≤ at
  pub cells : c ≤ at

-- The mark b is next from `at` on, or what stands there is refused.
pub data Marked (b : ℕ) (s : List ℕ) (at : ℕ) (r : Result ℕ RefusedText) : Type 0 where
  mark_read : byte_at s (place_from s at) ≡ b → r ≡ Ok (place_from s at + 1) → Marked b s at r
  mark_refused : (byte_at s (place_from s at) ≡ b → ⊥) → r ≡ Err (refused_at (refusal_of (word_at s (place_from s at))) (place_from s at)) → Marked b s at r

-- A dot is next from `at` on, or none is.
pub data Dotted (s : List ℕ) (at : ℕ) (r : Option ℕ) : Type 0 where
  dot_read : byte_at s (place_from s at) ≡ code "." → r ≡ Some (place_from s at + 1) → Dotted s at r
  no_dot : (byte_at s (place_from s at) ≡ code "." → ⊥) → r ≡ None → Dotted s at r

-- A comma is next from `at` on, or a `]`, or what stands there is refused.
pub data Separated (s : List ℕ) (at : ℕ) (r : Result CommaRead RefusedText) : Type 0 where
  comma_read : byte_at s (place_from s at) ≡ code "," → r ≡ Ok (C.More (place_from s at + 1)) → Separated s at r
  bracket_read : byte_at s (place_from s at) ≡ code "]" → r ≡ Ok (C.Closed (place_from s at + 1)) → Separated s at r
  neither_read : (byte_at s (place_from s at) ≡ code "," → ⊥) → (byte_at s (place_from s at) ≡ code "]" → ⊥) → r ≡ Err (refused_at (refusal_of (word_at s (place_from s at))) (place_from s at)) → Separated s at r

-- what is read behind the first form f in `( )`, by the answer; or the refusal
abbrev pub test_read : List ℕ → ℕ → Form → TestRead → Got Form
test_read s room f (T.Closed a) = got f a
test_read s room f (T.While a) = while_at s a room f
test_read s room f (T.Condition a) = condition_at s a room f

pub data TestMet (s : List ℕ) (room : ℕ) (f : Form) (r : Result TestRead RefusedText) : Got Form → Type 0 where
  test_met : {w : TestRead} → r ≡ Ok w → TestMet s room f r (test_read s room f w)
  test_refused : {n p : ℕ} → r ≡ Err (refused_at n p) → TestMet s room f r (no n p)

-- some byte was passed
pub record Passed (s : List ℕ) (at a : ℕ) : Type 0 where
  pub behind : at < a
  pub inside : a ≤ length s

pub record Tested (s : List ℕ) (at : ℕ) (r : Result TestRead RefusedText) : Type 0 where
  pub is : (f : Form) (room : ℕ) → TestMet s room f r (after_test s f at (λ a. form_at s a room))
  pub loops : (a : ℕ) → r ≡ Ok (T.While a) → Passed s at a
  pub branches : (a : ℕ) → r ≡ Ok (T.Condition a) → Passed s at a

-- The numbers of `a` stand from record n on, up to record m, where the table has room for them.
pub record Run (a : List ℕ) (n : ℕ) (t : List ℕ) (m : ℕ) (t' : List ℕ) : Type 0 where
  pub ends : n * 4 + length a ≡ m * 4
  pub is : m * 4 ≤ length t → t' ≡ put t (n * 4) a
  pub long : length t' ≡ length t

-- the records a in the form table, and the cells b
pub record Laid (a b : List ℕ) (n c : ℕ) (t u : List ℕ) (m d : ℕ) (t' u' : List ℕ) : Type 0 where
  pub records : Run a n t m t'
  pub cells : Run b c u d u'

abbrev pub FormLaid : Form → ℕ → ℕ → List ℕ → List ℕ → Upto → List ℕ → List ℕ → Type 0
FormLaid f n c t u x t' u' = Laid (encode_form c f) (constants_from c f) n c t u x.forms x.cells t' u'

abbrev pub FormsLaid : Forms → ℕ → ℕ → List ℕ → List ℕ → Upto → List ℕ → List ℕ → Type 0
FormsLaid fs n c t u x t' u' = Laid (encode_forms c fs) (constants_from_all c fs) n c t u x.forms x.cells t' u'

-- an object's value, its cells from cell c on
pub data ObjectMet (c : ℕ) (u : List ℕ) (r : Result ObjectRead RefusedText) (u' : List ℕ) : Got Obj → Type 0 where
  object_read : {x : Obj} {e d : ℕ} → r ≡ Ok (record { value = val_of c x; next = e; cells = d }) → Run (cells_from c x) c u d u' → ObjectMet c u r u' (got x e)
  object_refused : {k p : ℕ} → r ≡ Err (refused_at k p) → ObjectMet c u r u' (no k p)

-- a form, its records from record n on and its constants from cell c on; or the definition's refusal
pub data FormMet (n c : ℕ) (t u : List ℕ) (r : Result Upto RefusedText) (t' u' : List ℕ) : Got Form → Type 0 where
  form_read : {f : Form} {e : ℕ} {x : Upto} → r ≡ Ok x → x.next ≡ e → FormLaid f n c t u x t' u' → FormMet n c t u r t' u' (got f e)
  form_refused : {k p : ℕ} → r ≡ Err (refused_at k p) → FormMet n c t u r t' u' (no k p)

-- forms one behind the other, with their number
pub data FormsMet (n c : ℕ) (t u : List ℕ) (r : Result FormsRead RefusedText) (t' u' : List ℕ) : Got Forms → Type 0 where
  forms_read : {fs : Forms} {e : ℕ} {w : FormsRead} → r ≡ Ok w → w.upto.next ≡ e → w.count ≡ count fs → FormsLaid fs n c t u w.upto t' u' → FormsMet n c t u r t' u' (got fs e)
  forms_refused : {k p : ℕ} → r ≡ Err (refused_at k p) → FormsMet n c t u r t' u' (no k p)

-- the two forms of a condition, one behind the other
pub data BranchesMet (n c : ℕ) (t u : List ℕ) (r : Result Upto RefusedText) (t' u' : List ℕ) : Got Branches → Type 0 where
  branches_read : {b : Branches} {e : ℕ} {x : Upto} → r ≡ Ok x → x.next ≡ e
      → Laid (encode_form c b.yes ++ encode_form (c + constant_cells b.yes) b.no) (constants_from c b.yes ++ constants_from (c + constant_cells b.yes) b.no) n c t u x.forms x.cells t' u'
      → BranchesMet n c t u r t' u' (got b e)
  branches_refused : {k p : ℕ} → r ≡ Err (refused_at k p) → BranchesMet n c t u r t' u' (no k p)

-- the kind and the word of a part without parts
abbrev pub part_kind : Part → ℕ
part_kind (P.Primitive word) = 1
part_kind (P.Select k) = 2
part_kind (P.SelectRight k) = 3
part_kind (P.Name w) = 4

abbrev pub part_word : Part → ℕ
part_word (P.Primitive word) = op_code (op_of word)
part_word (P.Select k) = k
part_word (P.SelectRight k) = k
part_word (P.Name w) = w

-- a record of a kind was written, with so many parts and a word
pub record WordPut (n kind parts word : ℕ) (t t' : List ℕ) : Type 0 where
  pub is : t' ≡ record_put t n kind parts (low_of word) (high_of word)

-- what is at p has no cells
pub record PlainMet (s : List ℕ) (p n c : ℕ) (t : List ℕ) (r : Result Upto RefusedText) (t' : List ℕ) : Type 0 where
  pub means : (u : List ℕ) → FormMet n c t u r t' u (plain_at s p)

-- Whatever first form f was laid from record n up to m, `more f` is read, its records from n on.
pub record Continued (more : Form → Got Form) (n m d : ℕ) (t u : List ℕ) (r : Result Upto RefusedText) (t' u' : List ℕ) : Type 0 where
  pub means : (f : Form) (c : ℕ) (t₀ u₀ : List ℕ) → Laid (encode_form c f) (constants_from c f) n c t₀ u₀ m d t u → FormMet n c t₀ u₀ r t' u' (more f)
