-- How code says what was judged.
use Rattle.std.specs.Prelude.{ℕ, ◌≤◌, ◌≡◌, cond, List, ℤ, pos, negsuc, length, Result, Ok, Err}
use Rattle.language.specs.declared.Val.{Val}
use Rattle.language.specs.Objects.{Obj, int, symbol, seq}
use Rattle.language.specs.Forms.{Form, word, name, chain, construct, constant, insert, apply_all, bu, condition, while, Word, select, select_right, op}
use Rattle.language.specs.Judging.{Judged, is, is_not, on_judged, judge_word, word_form, value_of, is_selector, is_symbol_byte, is_name_byte}
use Rattle.language.specs.declared.refusals.Refusal.{Refusal}
use Rattle.language.specs.Refusals.{refusal}
use Rattle.lexer.specs.declared.Part.{Part}
use Rattle.lexer.specs.declared.Part.TheVariants as P
use Rattle.packing.specs.Packing.{packed}
use Rattle.lexer.specs.Vocabulary.{primitive_of}

-- an atom as code holds it; a sequence is none
abbrev pub integer_val : ℤ → Val
integer_val (pos n) = record { tag = 0; word = n }
integer_val (negsuc n) = record { tag = 1; word = n }

abbrev pub atom_val : Obj → Val
atom_val (int z) = integer_val z
atom_val (symbol w) = record { tag = 2; word = packed w }
atom_val (seq xs) = record { tag = 3; word = 0 }

abbrev pub atom_judged : Judged Obj → Result Val Refusal
atom_judged (is x) = Ok (atom_val x)
atom_judged (is_not n) = Err (refusal n)

-- a word or a name; no other form is judged
abbrev pub word_judged : Word → Part
word_judged (select k) = P.Select k
word_judged (select_right k) = P.SelectRight k
word_judged (op o) = P.Primitive (primitive_of o)

abbrev pub form_judged : Form → Result Part Refusal
form_judged (word w) = Ok (word_judged w)
form_judged (name w) = Ok (P.Name (packed w))
form_judged (chain fs) = Err (refusal 0)
form_judged (construct fs) = Err (refusal 0)
form_judged (constant x) = Err (refusal 0)
form_judged (insert f) = Err (refusal 0)
form_judged (apply_all f) = Err (refusal 0)
form_judged (bu f x) = Err (refusal 0)
form_judged (condition p f g) = Err (refusal 0)
form_judged (while p f) = Err (refusal 0)

abbrev pub part_judged : Judged Form → Result Part Refusal
part_judged (is f) = form_judged f
part_judged (is_not n) = Err (refusal n)

abbrev pub name_judged : Judged (List ℕ) → Result ℕ Refusal
name_judged (is w) = Ok (packed w)
name_judged (is_not n) = Err (refusal n)

-- the selector that digits write
abbrev pub selector_judged : List ℕ → Result ℕ Refusal
selector_judged ds = cond (is_selector ds) (Ok (value_of ds)) (Err (refusal 8))

-- a word where an object, and where a part may stand
unfoldable pub judge_symbol : List ℕ → Judged Obj
judge_symbol w = on_judged (judge_word is_symbol_byte w) (λ v. is (symbol v))

unfoldable pub judge_plain : List ℕ → Judged Form
judge_plain w = on_judged (judge_word is_name_byte w) (λ v. is (word_form v))

-- A word stands, and is short; or it is refused.
abbrev pub WordJudged : Judged (List ℕ) → List ℕ → Result Unit Refusal → Type 0
WordJudged (is v) w r = (r ≡ Ok tt) × (v ≡ w) × (length w ≤ 12)
WordJudged (is_not n) w r = r ≡ Err (refusal n)
