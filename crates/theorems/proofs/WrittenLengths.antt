-- In how many bytes forms and programs are written, as plain sums; a form is written in at least one.
use Prim.Native.Nat.{ℕ, zero, suc, ◌+◌, ◌≤◌, ◌/◌, ◌%◌}
use Prim.Native.Char.{code}
use mathlib.Core.Path.{◌≡◌, refl}
use mathlib.Core.Bool.{Bool, true, false, cond}
use mathlib.Core.List.{List, [], ◌∷◌, ◌++◌}
use lib.Dec.{leb}
use lib.ListN.{length, length-append}
use native.Mathlib.Omega.{arith}
use Rattle.language.specs.Bytes.{bytes}
use Rattle.language.specs.Words.{Op}
use Rattle.language.specs.Forms.{Form, word, name, chain, construct, constant, insert, apply_all, bu, condition, while, Forms, stop, ◌&◌, Word, select, select_right, op, ◌+&◌, Prog, is_chain}
use Rattle.language.specs.Writing.{digits, decimal, write_word, write_obj, bracketed, write_form, write_parts, write_more_parts, write_forms, write_more_forms, write_program}
use Rattle.language.specs.Laws.{join_in}
use Rattle.language.specs.Accepted.{IsName, IsForm}

-- the brackets that stand round a chain
abbrev pub brackets : Form → ℕ
brackets f = cond (is_chain f) 2 0

pub at_most_two : (f : Form) → brackets f ≤ 2
at_most_two f = go (is_chain f)
  where
    go : (b : Bool) → cond b 2 0 ≤ 2
    go true = omega arith
    go false = omega arith

abbrev mutual
  pub form_bytes : Form → ℕ
  form_bytes (word w) = length (write_word w)
  form_bytes (name w) = length w
  form_bytes (chain fs) = parts_bytes fs
  form_bytes (construct fs) = suc (forms_bytes fs)
  form_bytes (constant x) = suc (length (write_obj x))
  form_bytes (insert f) = suc (form_bytes f + brackets f)
  form_bytes (apply_all f) = suc (form_bytes f + brackets f)
  form_bytes (bu f x) = form_bytes f + brackets f + length (write_obj x) + 3
  form_bytes (condition p f g) = form_bytes p + form_bytes f + form_bytes g + 5
  form_bytes (while p f) = form_bytes p + form_bytes f + 3

  -- parts with a dot between two
  pub parts_bytes : Forms → ℕ
  parts_bytes stop = 0
  parts_bytes (f & fs) = form_bytes f + brackets f + dotted_bytes fs

  -- parts with a dot before each
  pub dotted_bytes : Forms → ℕ
  dotted_bytes stop = 0
  dotted_bytes (f & fs) = suc (form_bytes f + brackets f + dotted_bytes fs)

  -- forms with a comma between two, and the `]`
  pub forms_bytes : Forms → ℕ
  forms_bytes stop = 1
  forms_bytes (f & fs) = form_bytes f + comma_bytes fs

  -- forms with a comma before each, and the `]`
  pub comma_bytes : Forms → ℕ
  comma_bytes stop = 1
  comma_bytes (f & fs) = suc (form_bytes f + comma_bytes fs)

abbrev pub program_bytes : Prog → ℕ
program_bytes [] = 0
program_bytes (d ∷ ds) = length d.called + form_bytes d.body + program_bytes ds + 2

-- ---- that it is so

part_length : (f : Form) → length (write_form f) ≡ form_bytes f → length (bracketed f (write_form f)) ≡ form_bytes f + brackets f
part_length f e = go (is_chain f)
  where
    go : (b : Bool) → length (cond b (code "(" ∷ (write_form f ++ bytes ")")) (write_form f)) ≡ form_bytes f + cond b 2 0
    go true = omega (arith, length-append (write_form f) (bytes ")"))
    go false = omega arith

mutual
  unfolding write_form

  pub form-length : (f : Form) → length (write_form f) ≡ form_bytes f
  form-length (word w) = refl
  form-length (name w) = refl
  form-length (chain fs) = parts-length fs
  form-length (construct fs) = omega (arith, forms-length fs)
  form-length (constant x) = refl
  form-length (insert f) = omega (arith, part_length f (form-length f))
  form-length (apply_all f) = omega (arith, part_length f (form-length f))
  form-length (bu f x) =
      omega (arith, part_length f (form-length f), length-append (bracketed f (write_form f)) (code "," ∷ (write_obj x ++ bytes "}")), length-append (write_obj x) (bytes "}"))
  form-length (condition p f g) =
      omega (
        arith,
        form-length p,
        form-length f,
        form-length g,
        length-append (write_form p) (code "-" ∷ code ">" ∷ (write_form f ++ code ";" ∷ (write_form g ++ bytes ")"))),
        length-append (write_form f) (code ";" ∷ (write_form g ++ bytes ")")),
        length-append (write_form g) (bytes ")"),
      )
  form-length (while p f) =
      omega (arith, form-length p, form-length f, length-append (write_form p) (code "?" ∷ (write_form f ++ bytes ")")), length-append (write_form f) (bytes ")"))

  parts-length : (fs : Forms) → length (write_parts fs) ≡ parts_bytes fs
  parts-length stop = refl
  parts-length (f & fs) = omega (arith, part_length f (form-length f), dotted_length fs, length-append (bracketed f (write_form f)) (write_more_parts fs))

  dotted_length : (fs : Forms) → length (write_more_parts fs) ≡ dotted_bytes fs
  dotted_length stop = refl
  dotted_length (f & fs) = omega (arith, part_length f (form-length f), dotted_length fs, length-append (bracketed f (write_form f)) (write_more_parts fs))

  forms-length : (fs : Forms) → length (write_forms fs) ≡ forms_bytes fs
  forms-length stop = refl
  forms-length (f & fs) = omega (arith, form-length f, comma_length fs, length-append (write_form f) (write_more_forms fs))

  comma_length : (fs : Forms) → length (write_more_forms fs) ≡ comma_bytes fs
  comma_length stop = refl
  comma_length (f & fs) = omega (arith, form-length f, comma_length fs, length-append (write_form f) (write_more_forms fs))

pub program-length : (P : Prog) → length (write_program P) ≡ program_bytes P
unfolding write_program
program-length [] = refl
program-length (d ∷ ds) =
    omega (
      arith,
      form-length d.body,
      program-length ds,
      length-append d.called (code "=" ∷ (write_form d.body ++ code ";" ∷ write_program ds)),
      length-append (write_form d.body) (code ";" ∷ write_program ds),
    )

-- ---- at least one byte

decimal_written : (n : ℕ) → 1 ≤ length (decimal n)
unfolding decimal digits
decimal_written n = go n n
  where
    pick : (b : Bool) (s : List ℕ) (x y : ℕ) → 1 ≤ length (cond b (x ∷ []) (s ++ y ∷ []))
    pick true s x y = omega arith
    pick false s x y = omega (arith, length-append s (y ∷ []))

    go : (k n : ℕ) → 1 ≤ length (digits k n)
    go zero n = omega arith
    go (suc k) n = pick (leb n 9) (digits k (n / 10)) (code "0" + n) (code "0" + n % 10)

word_written : (w : Word) → 1 ≤ length (write_word w)
unfolding write_word
word_written (select k) = decimal_written k
word_written (select_right k) = omega (arith, length-append (decimal k) (bytes "r"))
word_written (op Op.id) = omega arith
word_written (op Op.tl) = omega arith
word_written (op Op.atom) = omega arith
word_written (op Op.null) = omega arith
word_written (op Op.eq) = omega arith
word_written (op Op.lt) = omega arith
word_written (op Op.length) = omega arith
word_written (op Op.add) = omega arith
word_written (op Op.sub) = omega arith
word_written (op Op.mul) = omega arith
word_written (op Op.div) = omega arith
word_written (op Op.and) = omega arith
word_written (op Op.or) = omega arith
word_written (op Op.not) = omega arith
word_written (op Op.apndl) = omega arith
word_written (op Op.tlr) = omega arith
word_written (op Op.reverse) = omega arith
word_written (op Op.rotl) = omega arith
word_written (op Op.rotr) = omega arith
word_written (op Op.apndr) = omega arith
word_written (op Op.distl) = omega arith
word_written (op Op.distr) = omega arith
word_written (op Op.trans) = omega arith

name_written : (w : List ℕ) → IsName w → 1 ≤ length w
name_written [] ok = absurd ok
name_written (b ∷ w) ok = omega arith

-- a chain's second part has a dot before it
pub form_written : (f : Form) → IsForm f → 1 ≤ form_bytes f
form_written (word w) ok = word_written w
form_written (name w) ok = name_written w ok
form_written (chain stop) ok = absurd ok.0
form_written (chain (f & stop)) ok = absurd ok.0
form_written (chain (f & g & fs)) ok = omega arith
form_written (construct fs) ok = omega arith
form_written (constant x) ok = omega arith
form_written (insert f) ok = omega arith
form_written (apply_all f) ok = omega arith
form_written (bu f x) ok = omega arith
form_written (condition p f g) ok = omega arith
form_written (while p f) ok = omega arith

-- ---- parts put among others

dotted_append : (fs gs : Forms) → dotted_bytes (fs +& gs) ≡ dotted_bytes fs + dotted_bytes gs
dotted_append stop gs = omega arith
dotted_append (f & fs) gs = omega (arith, dotted_append fs gs)

-- A form that is put among parts has a dot and no brackets.
pub dotted_put : (g : Form) (fs : Forms) → IsForm g → dotted_bytes (join_in g fs) ≡ suc (form_bytes g + dotted_bytes fs)
dotted_put (word w) fs ok = omega arith
dotted_put (name w) fs ok = omega arith
dotted_put (chain stop) fs ok = absurd ok.0
dotted_put (chain (g & gs)) fs ok = omega (arith, dotted_append gs fs)
dotted_put (construct gs) fs ok = omega arith
dotted_put (constant x) fs ok = omega arith
dotted_put (insert g) fs ok = omega arith
dotted_put (apply_all g) fs ok = omega arith
dotted_put (bu g x) fs ok = omega arith
dotted_put (condition p f g) fs ok = omega arith
dotted_put (while p f) fs ok = omega arith
