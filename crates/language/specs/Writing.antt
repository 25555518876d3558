-- How objects and programs are written: no space, no line feed and no bracket that isn't needed.
use Rattle.std.specs.Prelude.{ℕ, zero, suc, max, ◌+◌, ◌-◌, ◌/◌, ◌%◌, cond, ◌&&◌, List, [], ◌∷◌, ◌++◌, leb, eqb, ℤ, pos, negsuc}
use Prim.Native.Char.{code}
use Rattle.language.specs.Bytes.{bytes}
use Rattle.language.specs.Numbers.{mark_limit}
use Rattle.language.specs.Objects.{Obj, int, symbol, seq, Objs, nil, ◌::◌}
use Rattle.language.specs.Words.{entry}
use Rattle.language.specs.Forms.{Form, word, name, chain, construct, constant, insert, apply_all, bu, condition, while, Forms, stop, ◌&◌, Word, select, select_right, op, Prog, is_chain}

-- at most k + 1 digits
unfoldable pub digits : ℕ → ℕ → List ℕ
digits zero n = (code "0" + n % 10) ∷ []
digits (suc k) n =
    let r = digits k (n / 10) ++ (code "0" + n % 10) ∷ [] in
    cond (leb n 9) ((code "0" + n) ∷ []) r

-- a number has no more digits than it counts, 0 one
unfoldable pub decimal : ℕ → List ℕ
decimal n = digits n n

unfoldable pub write_integer : ℤ → List ℕ
write_integer (pos n) = decimal n
write_integer (negsuc n) = code "-" ∷ decimal (suc n)

unfoldable mutual
  pub write_obj : Obj → List ℕ
  write_obj (int z) = write_integer z
  write_obj (symbol w) = w
  write_obj (seq xs) = code "<" ∷ write_objs xs

  -- objects separated by commas, and the `>`
  pub write_objs : Objs → List ℕ
  write_objs nil = bytes ">"
  write_objs (x :: xs) = write_obj x ++ write_more_objs xs

  pub write_more_objs : Objs → List ℕ
  write_more_objs nil = bytes ">"
  write_more_objs (x :: xs) = code "," ∷ (write_obj x ++ write_more_objs xs)

unfoldable pub write_word : Word → List ℕ
write_word (select k) = decimal k
write_word (select_right k) = decimal k ++ bytes "r"
write_word (op o) = (entry o).spelled

-- Brackets stand round a chain only where it is a part of a chain or an operand that must be a part.
abbrev pub bracketed : Form → List ℕ → List ℕ
bracketed f s = cond (is_chain f) (code "(" ∷ (s ++ bytes ")")) s

unfoldable mutual
  pub write_form : Form → List ℕ
  write_form (word w) = write_word w
  write_form (name w) = w
  write_form (chain fs) = write_parts fs
  write_form (construct fs) = code "[" ∷ write_forms fs
  write_form (constant x) = code "%" ∷ write_obj x
  write_form (insert f) = code "/" ∷ bracketed f (write_form f)
  write_form (apply_all f) = code "@" ∷ bracketed f (write_form f)
  write_form (bu f x) = code "{" ∷ (bracketed f (write_form f) ++ code "," ∷ (write_obj x ++ bytes "}"))
  write_form (condition p f g) = code "(" ∷ (write_form p ++ code "-" ∷ code ">" ∷ (write_form f ++ code ";" ∷ (write_form g ++ bytes ")")))
  write_form (while p f) = code "(" ∷ (write_form p ++ code "?" ∷ (write_form f ++ bytes ")"))

  -- parts joined by `.`
  pub write_parts : Forms → List ℕ
  write_parts stop = []
  write_parts (f & fs) = bracketed f (write_form f) ++ write_more_parts fs

  pub write_more_parts : Forms → List ℕ
  write_more_parts stop = []
  write_more_parts (f & fs) = code "." ∷ (bracketed f (write_form f) ++ write_more_parts fs)

  -- forms separated by commas, and the `]`
  pub write_forms : Forms → List ℕ
  write_forms stop = bytes "]"
  write_forms (f & fs) = write_form f ++ write_more_forms fs

  pub write_more_forms : Forms → List ℕ
  write_more_forms stop = bytes "]"
  write_more_forms (f & fs) = code "," ∷ (write_form f ++ write_more_forms fs)

unfoldable pub write_program : Prog → List ℕ
write_program [] = []
write_program (d ∷ ds) = d.called ++ code "=" ∷ (write_form d.body ++ code ";" ∷ write_program ds)

-- The marks open at once in what is written.
abbrev mutual
  pub marks_of_obj : Obj → ℕ
  marks_of_obj (int z) = 0
  marks_of_obj (symbol w) = 0
  marks_of_obj (seq xs) = suc (marks_of_objs xs)

  pub marks_of_objs : Objs → ℕ
  marks_of_objs nil = 0
  marks_of_objs (x :: xs) = max (marks_of_obj x) (marks_of_objs xs)

-- one more where the form is written in brackets
abbrev pub bracket_marks : Form → ℕ → ℕ
bracket_marks f k = cond (is_chain f) (suc k) k

abbrev mutual
  pub marks_of : Form → ℕ
  marks_of (word w) = 0
  marks_of (name w) = 0
  marks_of (chain fs) = marks_of_parts fs
  marks_of (construct fs) = suc (marks_of_forms fs)
  marks_of (constant x) = suc (marks_of_obj x)
  marks_of (insert f) = suc (bracket_marks f (marks_of f))
  marks_of (apply_all f) = suc (bracket_marks f (marks_of f))
  marks_of (bu f x) = suc (max (bracket_marks f (marks_of f)) (marks_of_obj x))
  marks_of (condition p f g) = suc (max (marks_of p) (max (marks_of f) (marks_of g)))
  marks_of (while p f) = suc (max (marks_of p) (marks_of f))

  pub marks_of_parts : Forms → ℕ
  marks_of_parts stop = 0
  marks_of_parts (f & fs) = max (bracket_marks f (marks_of f)) (marks_of_parts fs)

  pub marks_of_forms : Forms → ℕ
  marks_of_forms stop = 0
  marks_of_forms (f & fs) = max (marks_of f) (marks_of_forms fs)

abbrev pub marks_of_program : Prog → ℕ
marks_of_program [] = 0
marks_of_program (d ∷ ds) = max (marks_of d.body) (marks_of_program ds)

-- An object's text from the left: the marks open and the bytes of room left; or 25 (short), or 26 (deep).
pub data Scan : Type 0 where
  on : (opened room : ℕ) → Scan
  short deep : Scan

abbrev pub open_behind : ℕ → ℕ → ℕ
open_behind b opened = cond (eqb b (code "<")) (opened + 1) (cond (eqb b (code ">")) (opened - 1) opened)

-- Between 25 and 26 the first from the left decides, 26 if the same byte.
unfoldable pub scan : List ℕ → (opened room : ℕ) → Scan
scan [] opened room = on opened room
scan (b ∷ s) opened room =
    let rest = scan s (open_behind b opened) (room - 1) in
    cond (eqb b (code "<") && leb mark_limit opened) deep (cond (eqb room 0) short rest)
