-- What is written of a form reads back, as a form and as a part.
use mathlib.Core.Path.{◌≡◌, refl}
use mathlib.Core.Bool.{true, false}
use mathlib.Core.List.{List, [], ◌∷◌, ◌++◌, append_assoc, append-nil}
use Prim.Native.Nat.{ℕ, suc, max, ◌+◌, ◌-◌, ◌≤◌, ◌<◌}
use native.Mathlib.Nat.{max-zero}
use native.Mathlib.Omega.{arith}
use borrow.Author.Tests.{ne_eqb}
use lib.ListN.{length, drop, length-append}
use Rattle.language.specs.Objects.{Obj}
use Rattle.language.specs.Forms.{Form, word, name, chain, construct, constant, insert, apply_all, bu, condition, while, Forms, stop, ◌&◌, is_chain}
use Rattle.language.specs.Tokens.{is_word_byte}
use Rattle.language.specs.Judging.{is_name_byte, judge_part}
use Rattle.language.specs.Reading.{Got, got, and_then, as_judged, word_at, opens, mark, after_test, after_part, after_parts, after_form, read_form, read_parts, read_forms, read_part, read_obj}
use Rattle.language.specs.Writing.{write_obj, write_word, bracketed, write_form, write_parts, write_forms, marks_of_obj, bracket_marks, marks_of, marks_of_parts, marks_of_forms}
use Rattle.language.specs.Accepted.{IsObj, IsForm, AreForms, OneOrMore, TwoOrMore}
use Rattle.theorems.proofs.Texts.{byte_here, place_here, drop_past, drop_one, span_none, judged_here, mark_here}
use Rattle.theorems.proofs.Readers.{Reader, Reads, EndsWord, EndsForm, ends_word, suc_of, closed, joined}
use Rattle.theorems.proofs.ObjectsBack.{obj_back}
use Rattle.theorems.proofs.WordsBack.{Plain, name_byte_no, name_byte_no_blank, plain_begins, plain_size, word_plain, name_plain}

-- ---- what reading does at a place

module _ (s : List ℕ) (at room k : ℕ) where
  plain_read : (b : ℕ) (l : List ℕ) → drop at s ≡ b ∷ l → is_name_byte b ≡ true → read_part (suc k) s at room ≡ as_judged s at (judge_part (word_at s at))
  unfolding read_part
  plain_read b l d h =
      rw (
        place_here s at b l d (name_byte_no_blank b h),
        byte_here s at b l d,
        name_byte_no b 91 h refl,
        name_byte_no b 37 h refl,
        name_byte_no b 47 h refl,
        name_byte_no b 64 h refl,
        name_byte_no b 123 h refl,
        name_byte_no b 40 h refl,
      )

  module _ (l : List ℕ) (opened : 0 < room) where
    construct_read : drop at s ≡ 91 ∷ l → read_part (suc k) s at room ≡ and_then (read_forms k s (at + 1) (room - 1)) (λ fs e. got (construct fs) e)
    unfolding read_part opens
    construct_read d = rw (place_here s at 91 l d refl, byte_here s at 91 l d, ne_eqb room 0 (omega arith))

    constant_read : drop at s ≡ 37 ∷ l → read_part (suc k) s at room ≡ and_then (read_obj k s (at + 1) (room - 1)) (λ x e. got (constant x) e)
    unfolding read_part opens
    constant_read d = rw (place_here s at 37 l d refl, byte_here s at 37 l d, ne_eqb room 0 (omega arith))

    insert_read : drop at s ≡ 47 ∷ l → read_part (suc k) s at room ≡ and_then (read_part k s (at + 1) (room - 1)) (λ f e. got (insert f) e)
    unfolding read_part opens
    insert_read d = rw (place_here s at 47 l d refl, byte_here s at 47 l d, ne_eqb room 0 (omega arith))

    apply_all_read : drop at s ≡ 64 ∷ l → read_part (suc k) s at room ≡ and_then (read_part k s (at + 1) (room - 1)) (λ f e. got (apply_all f) e)
    unfolding read_part opens
    apply_all_read d = rw (place_here s at 64 l d refl, byte_here s at 64 l d, ne_eqb room 0 (omega arith))

    bu_read : drop at s ≡ 123 ∷ l → read_part (suc k) s at room ≡
        and_then (read_part k s (at + 1) (room - 1)) (λ f e. mark 44 s e (λ a. and_then (read_obj k s a (room - 1)) (λ x e. mark 125 s e (λ a. got (bu f x) a))))
    unfolding read_part opens
    bu_read d = rw (place_here s at 123 l d refl, byte_here s at 123 l d, ne_eqb room 0 (omega arith))

    round_read : drop at s ≡ 40 ∷ l → read_part (suc k) s at room ≡ and_then (read_form k s (at + 1) (room - 1)) (λ f e. after_test s f e (λ a. read_form k s a (room - 1)))
    unfolding read_part opens
    round_read d = rw (place_here s at 40 l d refl, byte_here s at 40 l d, ne_eqb room 0 (omega arith))

module _ (s : List ℕ) (p : Form) (e : ℕ) (form : ℕ → Got Form) (l : List ℕ) where
  close_read : drop e s ≡ 41 ∷ l → after_test s p e form ≡ got p (e + 1)
  unfolding after_test
  close_read d = rw (place_here s e 41 l d refl, byte_here s e 41 l d)

  loop_read : drop e s ≡ 63 ∷ l → after_test s p e form ≡ and_then (form (e + 1)) (λ f e. mark 41 s e (λ a. got (while p f) a))
  unfolding after_test
  loop_read d = rw (place_here s e 63 l d refl, byte_here s e 63 l d)

  arrow_read : drop e s ≡ 45 ∷ 62 ∷ l → after_test s p e form ≡
      and_then (form (e + 2)) (λ f e. mark 59 s e (λ a. and_then (form a) (λ g e. mark 41 s e (λ a. got (condition p f g) a))))
  unfolding after_test
  arrow_read d = rw (place_here s e 45 (62 ∷ l) d refl, byte_here s e 45 (62 ∷ l) d, byte_here s (e + 1) 62 l (drop_one s e 45 (62 ∷ l) d))

module _ (f : Form) (s : List ℕ) (at room k e : ℕ) (l : List ℕ) where
  module _ (read : read_part k s at room ≡ got f e) where
    first_part : drop e s ≡ 46 ∷ l → read_form (suc k) s at room ≡ and_then (read_parts k s (e + 1) room) (λ fs e. got (chain (f & fs)) e)
    unfolding read_form after_part
    first_part d = rw (read, place_here s e 46 l d refl, byte_here s e 46 l d)

    later_part : drop e s ≡ 46 ∷ l → read_parts (suc k) s at room ≡ and_then (read_parts k s (e + 1) room) (λ fs e. got (f & fs) e)
    unfolding read_parts after_parts
    later_part d = rw (read, place_here s e 46 l d refl, byte_here s e 46 l d)

    only_part : (c : ℕ) → drop e s ≡ c ∷ l → EndsForm (c ∷ l) → read_form (suc k) s at room ≡ got f e
    unfolding read_form after_part
    only_part c d h = rw (read, place_here s e c l d h.1, byte_here s e c l d, h.2)

    last_part : (c : ℕ) → drop e s ≡ c ∷ l → EndsForm (c ∷ l) → read_parts (suc k) s at room ≡ got (f & stop) e
    unfolding read_parts after_parts
    last_part c d h = rw (read, place_here s e c l d h.1, byte_here s e c l d, h.2)

  module _ (read : read_form k s at room ≡ got f e) where
    last_form : drop e s ≡ 93 ∷ l → read_forms (suc k) s at room ≡ got (f & stop) (e + 1)
    unfolding read_forms after_form
    last_form d = rw (read, place_here s e 93 l d refl, byte_here s e 93 l d)

    later_form : drop e s ≡ 44 ∷ l → read_forms (suc k) s at room ≡ and_then (read_forms k s (e + 1) room) (λ fs e. got (f & fs) e)
    unfolding read_forms after_form
    later_form d = rw (read, place_here s e 44 l d refl, byte_here s e 44 l d)

-- ---- parts

abbrev ReadsPart : List ℕ → ℕ → Form → Type 0
ReadsPart w m f = Reads read_part EndsWord 0 w m f

abbrev ReadsForm : List ℕ → ℕ → Form → Type 0
ReadsForm w m f = Reads read_form EndsForm 1 w m f

abbrev ReadsParts : Forms → Type 0
ReadsParts fs = Reads read_parts EndsForm 1 (write_parts fs) (marks_of_parts fs) fs

abbrev ReadsForms : Forms → Type 0
ReadsForms fs = Reads read_forms EndsWord 2 (write_forms fs) (marks_of_forms fs) fs

plain_part : (w : List ℕ) (f : Form) → Plain w f → ReadsPart w 0 f
plain_part w f g s at room k l d e m n =
    let i = suc_of k (omega arith) in
    let c = plain_begins w f g in
    rw (i.1, plain_read s at room i.0 c.0 (c.1 ++ l) (rw c.2 at d) c.3) (judged_here judge_part f s at w l d (plain_size s at l w f e g d) g.judged)

-- a mark and what `read` reads behind it
prefix : {A : Type 0} (c : ℕ) (read : Reader A) (build : A → Form) (n : ℕ) (w : List ℕ) (m : ℕ) (a : A) → n ≤ 2 →
    ((s : List ℕ) (at room k : ℕ) (l : List ℕ) → 0 < room → drop at s ≡ c ∷ l → read_part (suc k) s at room ≡ and_then (read k s (at + 1) (room - 1)) (λ a e. got (build a) e)) →
    Reads read EndsWord n w m a → ReadsPart (c ∷ w) (suc m) (build a)
prefix c read build n w m a z opened r s at room k l d e h b =
    let i = suc_of k (omega arith) in
    let g = r s (at + 1) (room - 1) i.0 l (drop_one s at c (w ++ l) d) e (omega arith) (omega (arith, i.1)) in
    let y : at + 1 + length w ≡ at + suc (length w) = omega arith in
    rw (i.1, opened s at room i.0 (w ++ l) (omega arith) d, g, y)

bu_part : (w : List ℕ) (m : ℕ) (f : Form) (x : Obj) → ReadsPart w m f → IsObj x → ReadsPart (123 ∷ (w ++ 44 ∷ (write_obj x ++ 125 ∷ []))) (suc (max m (marks_of_obj x))) (bu f x)
bu_part w m f x r h s at room k l d e n b =
    let v = write_obj x in
    let i = suc_of k (omega arith) in
    let t = length-append w (44 ∷ (v ++ 125 ∷ [])) in
    let u = length-append v (125 ∷ []) in
    let d₀ : drop at s ≡ 123 ∷ (w ++ 44 ∷ (v ++ 125 ∷ l)) = simp append_assoc at d in
    let d₁ = drop_one s at 123 (w ++ 44 ∷ (v ++ 125 ∷ l)) d₀ in
    let g = r s (at + 1) (room - 1) i.0 (44 ∷ (v ++ 125 ∷ l)) d₁ (span_none is_word_byte 44 (v ++ 125 ∷ l) refl) (omega arith) (omega (arith, i.1)) in
    let e₁ = at + 1 + length w in
    let d₂ = drop_past s (at + 1) w (44 ∷ (v ++ 125 ∷ l)) d₁ in
    let d₃ = drop_one s e₁ 44 (v ++ 125 ∷ l) d₂ in
    let o = obj_back x h s (e₁ + 1) (room - 1) i.0 (125 ∷ l) d₃ (span_none is_word_byte 125 l refl) (omega arith) (omega (arith, i.1)) in
    let e₂ = e₁ + 1 + length v in
    let d₄ = drop_past s (e₁ + 1) v (125 ∷ l) d₃ in
    let y : e₂ + 1 ≡ at + suc (length (w ++ 44 ∷ (v ++ 125 ∷ []))) = omega arith in
    rw (
      i.1,
      bu_read s at room i.0 (w ++ 44 ∷ (v ++ 125 ∷ l)) (omega arith) d₀,
      g,
      and_then,
      mark_here 44 s e₁ (λ a. and_then (read_obj i.0 s a (room - 1)) (λ x e. mark 125 s e (λ a. got (bu f x) a))) (v ++ 125 ∷ l) d₂ refl,
      o,
      and_then,
      mark_here 125 s e₂ (λ a. got (bu f x) a) l d₄ refl,
      y,
    )

bracket_part : (w : List ℕ) (m : ℕ) (f : Form) → ReadsForm w m f → ReadsPart (40 ∷ (w ++ 41 ∷ [])) (suc m) f
bracket_part w m f r s at room k l d e n b =
    let i = suc_of k (omega arith) in
    let t = length-append w (41 ∷ []) in
    let d₀ : drop at s ≡ 40 ∷ (w ++ 41 ∷ l) = simp append_assoc at d in
    let d₁ = drop_one s at 40 (w ++ 41 ∷ l) d₀ in
    let g = r s (at + 1) (room - 1) i.0 (41 ∷ l) d₁ (refl, refl, refl) (omega arith) (omega (arith, i.1)) in
    let y : at + 1 + length w + 1 ≡ at + suc (length (w ++ 41 ∷ [])) = omega arith in
    rw (
      i.1,
      round_read s at room i.0 (w ++ 41 ∷ l) (omega arith) d₀,
      g,
      and_then,
      close_read s f (at + 1 + length w) (λ a. read_form i.0 s a (room - 1)) l (drop_past s (at + 1) w (41 ∷ l) d₁),
      y,
    )

while_part : (w : List ℕ) (m : ℕ) (p : Form) (w' : List ℕ) (m' : ℕ) (f : Form) →
    ReadsForm w m p → ReadsForm w' m' f → ReadsPart (40 ∷ (w ++ 63 ∷ (w' ++ 41 ∷ []))) (suc (max m m')) (while p f)
while_part w m p w' m' f r r' s at room k l d e n b =
    let i = suc_of k (omega arith) in
    let t = length-append w (63 ∷ (w' ++ 41 ∷ [])) in
    let u = length-append w' (41 ∷ []) in
    let d₀ : drop at s ≡ 40 ∷ (w ++ 63 ∷ (w' ++ 41 ∷ l)) = simp append_assoc at d in
    let d₁ = drop_one s at 40 (w ++ 63 ∷ (w' ++ 41 ∷ l)) d₀ in
    let g = r s (at + 1) (room - 1) i.0 (63 ∷ (w' ++ 41 ∷ l)) d₁ (refl, refl, refl) (omega arith) (omega (arith, i.1)) in
    let e₁ = at + 1 + length w in
    let d₂ = drop_past s (at + 1) w (63 ∷ (w' ++ 41 ∷ l)) d₁ in
    let d₃ = drop_one s e₁ 63 (w' ++ 41 ∷ l) d₂ in
    let g' = r' s (e₁ + 1) (room - 1) i.0 (41 ∷ l) d₃ (refl, refl, refl) (omega arith) (omega (arith, i.1)) in
    let e₂ = e₁ + 1 + length w' in
    let d₄ = drop_past s (e₁ + 1) w' (41 ∷ l) d₃ in
    let y : e₂ + 1 ≡ at + suc (length (w ++ 63 ∷ (w' ++ 41 ∷ []))) = omega arith in
    rw (
      i.1,
      round_read s at room i.0 (w ++ 63 ∷ (w' ++ 41 ∷ l)) (omega arith) d₀,
      g,
      and_then,
      loop_read s p e₁ (λ a. read_form i.0 s a (room - 1)) (w' ++ 41 ∷ l) d₂,
      g',
      and_then,
      mark_here 41 s e₂ (λ a. got (while p f) a) l d₄ refl,
      y,
    )

condition_part : (w : List ℕ) (m : ℕ) (p : Form) (w' : List ℕ) (m' : ℕ) (f : Form) (w'' : List ℕ) (m'' : ℕ) (g : Form) →
    ReadsForm w m p → ReadsForm w' m' f → ReadsForm w'' m'' g → ReadsPart (40 ∷ (w ++ 45 ∷ 62 ∷ (w' ++ 59 ∷ (w'' ++ 41 ∷ [])))) (suc (max m (max m' m''))) (condition p f g)
condition_part w m p w' m' f w'' m'' g r r' r'' s at room k l d e n b =
    let i = suc_of k (omega arith) in
    let l₃ = w'' ++ 41 ∷ l in
    let l₂ = w' ++ 59 ∷ l₃ in
    let t = length-append w (45 ∷ 62 ∷ (w' ++ 59 ∷ (w'' ++ 41 ∷ []))) in
    let t' = length-append w' (59 ∷ (w'' ++ 41 ∷ [])) in
    let t'' = length-append w'' (41 ∷ []) in
    let d₀ : drop at s ≡ 40 ∷ (w ++ 45 ∷ 62 ∷ l₂) = simp append_assoc at d in
    let d₁ = drop_one s at 40 (w ++ 45 ∷ 62 ∷ l₂) d₀ in
    let gp = r s (at + 1) (room - 1) i.0 (45 ∷ 62 ∷ l₂) d₁ (refl, refl, refl) (omega arith) (omega (arith, i.1)) in
    let e₁ = at + 1 + length w in
    let d₂ = drop_past s (at + 1) w (45 ∷ 62 ∷ l₂) d₁ in
    let d₃ = drop_past s e₁ (45 ∷ 62 ∷ []) l₂ d₂ in
    let gf = r' s (e₁ + 2) (room - 1) i.0 (59 ∷ l₃) d₃ (refl, refl, refl) (omega arith) (omega (arith, i.1)) in
    let e₂ = e₁ + 2 + length w' in
    let d₄ = drop_past s (e₁ + 2) w' (59 ∷ l₃) d₃ in
    let d₅ = drop_one s e₂ 59 l₃ d₄ in
    let gg = r'' s (e₂ + 1) (room - 1) i.0 (41 ∷ l) d₅ (refl, refl, refl) (omega arith) (omega (arith, i.1)) in
    let e₃ = e₂ + 1 + length w'' in
    let d₆ = drop_past s (e₂ + 1) w'' (41 ∷ l) d₅ in
    let y : e₃ + 1 ≡ at + suc (length (w ++ 45 ∷ 62 ∷ (w' ++ 59 ∷ (w'' ++ 41 ∷ [])))) = omega arith in
    rw (
      i.1,
      round_read s at room i.0 (w ++ 45 ∷ 62 ∷ l₂) (omega arith) d₀,
      gp,
      and_then,
      arrow_read s p e₁ (λ a. read_form i.0 s a (room - 1)) l₂ d₂,
      gf,
      and_then,
      mark_here 59 s e₂ (λ a. and_then (read_form i.0 s a (room - 1)) (λ g e. mark 41 s e (λ a. got (condition p f g) a))) l₃ d₄ refl,
      gg,
      and_then,
      mark_here 41 s e₃ (λ a. got (condition p f g) a) l d₆ refl,
      y,
    )

-- ---- forms

pub record Back (f : Form) : Type 0 where
  pub part : ReadsPart (bracketed f (write_form f)) (bracket_marks f (marks_of f)) f
  pub form : ReadsForm (write_form f) (marks_of f) f

abbrev AllBack : Forms → Type 0
AllBack stop = Unit {0}
AllBack (f & fs) = Back f × AllBack fs

-- one part, and no dot behind it
ended : {C : Type 0} (read : Reader C) (build : Form → C) (w : List ℕ) (m : ℕ) (f : Form) →
    ((s : List ℕ) (at room k e : ℕ) (l : List ℕ) → read_part k s at room ≡ got f e → (c : ℕ) → drop e s ≡ c ∷ l → EndsForm (c ∷ l) → read (suc k) s at room ≡ got (build f) e) →
    ReadsPart w m f → Reads read EndsForm 1 w m (build f)
ended read build w m f step r s at room k [] d h n b = absurd h
ended read build w m f step r s at room k (c ∷ l) d h n b =
    let i = suc_of k (omega arith) in
    rw i.1 (step s at room i.0 (at + length w) l (r s at room i.0 (c ∷ l) d (ends_word (c ∷ l) h) n (omega (arith, i.1))) c (drop_past s at w (c ∷ l) d) h)

-- a form that isn't a chain is written alike as a part
from_part : (f : Form) → is_chain f ≡ false → ReadsPart (write_form f) (marks_of f) f → Back f
from_part f h r = record { part = rw h r; form = ended read_form (λ f. f) (write_form f) (marks_of f) f (only_part f) r }

parts_back : (f : Form) (fs : Forms) → AllBack (f & fs) → ReadsParts (f & fs)
unfolding write_parts
parts_back f stop b =
    let w = bracketed f (write_form f) in
    let m = bracket_marks f (marks_of f) in
    rw (append-nil w, max-zero m) (ended read_parts (λ f. f & stop) w m f (last_part f) b.0.part)
parts_back f (g & fs) b =
    joined 46 read_part read_parts read_parts ◌&◌ EndsWord EndsForm 0 (bracketed f (write_form f)) (bracket_marks f (marks_of f)) f
    (write_parts (g & fs)) (marks_of_parts (g & fs)) (g & fs) (λ l. span_none is_word_byte 46 l refl) (later_part f) b.0.part (parts_back g fs b.1)

chain_back : (fs : Forms) → TwoOrMore fs → AllBack fs → ReadsForm (write_parts fs) (marks_of_parts fs) (chain fs)
unfolding write_parts
chain_back stop h b = absurd h
chain_back (f & stop) h b = absurd h
chain_back (f & (g & fs)) h b =
    joined 46 read_part read_parts read_form (λ f fs. chain (f & fs)) EndsWord EndsForm 0 (bracketed f (write_form f)) (bracket_marks f (marks_of f)) f
    (write_parts (g & fs)) (marks_of_parts (g & fs)) (g & fs) (λ l. span_none is_word_byte 46 l refl) (first_part f) b.0.part (parts_back g fs b.1)

forms_back : (f : Form) (fs : Forms) → AllBack (f & fs) → ReadsForms (f & fs)
unfolding write_forms
forms_back f stop b = closed 93 read_form read_forms (λ f. f & stop) EndsForm EndsWord 1 (write_form f) (marks_of f) f (λ l. (refl, refl, refl)) (last_form f) b.0.form
forms_back f (g & fs) b =
    joined 44 read_form read_forms read_forms ◌&◌ EndsForm EndsWord 1 (write_form f) (marks_of f) f (write_forms (g & fs)) (marks_of_forms (g & fs)) (g & fs)
    (λ l. (refl, refl, refl)) (later_form f) b.0.form (forms_back g fs b.1)

construct_back : (fs : Forms) → OneOrMore fs → AllBack fs → ReadsForms fs
construct_back stop h b = absurd h
construct_back (f & fs) h b = forms_back f fs b

mutual
  unfolding write_form

  pub form_back : (f : Form) → IsForm f → Back f
  form_back (word w) h = from_part (word w) refl (plain_part (write_word w) (word w) (word_plain w h))
  form_back (name w) h = from_part (name w) refl (plain_part w (name w) (name_plain w h))
  form_back (chain fs) h =
      let r = chain_back fs h.0 (all_back fs h.1) in
      record { part = bracket_part (write_parts fs) (marks_of_parts fs) (chain fs) r; form = r }
  form_back (construct fs) h =
      from_part (construct fs) refl (prefix 91 read_forms construct 2 (write_forms fs) (marks_of_forms fs) fs (omega arith) construct_read (construct_back fs h.0 (all_back fs h.1)))
  form_back (constant x) h = from_part (constant x) refl (prefix 37 read_obj constant 0 (write_obj x) (marks_of_obj x) x (omega arith) constant_read (obj_back x h))
  form_back (insert f) h =
      from_part (insert f) refl (prefix 47 read_part insert 0 (bracketed f (write_form f)) (bracket_marks f (marks_of f)) f (omega arith) insert_read (form_back f h).part)
  form_back (apply_all f) h =
      from_part (apply_all f) refl (prefix 64 read_part apply_all 0 (bracketed f (write_form f)) (bracket_marks f (marks_of f)) f (omega arith) apply_all_read (form_back f h).part)
  form_back (bu f x) h = from_part (bu f x) refl (bu_part (bracketed f (write_form f)) (bracket_marks f (marks_of f)) f x (form_back f h.0).part h.1)
  form_back (condition p f g) h =
      from_part (condition p f g) refl
      (condition_part (write_form p) (marks_of p) p (write_form f) (marks_of f) f (write_form g) (marks_of g) g (form_back p h.0).form (form_back f h.1).form (form_back g h.2).form)
  form_back (while p f) h =
      from_part (while p f) refl (while_part (write_form p) (marks_of p) p (write_form f) (marks_of f) f (form_back p h.0).form (form_back f h.1).form)

  all_back : (fs : Forms) → AreForms fs → AllBack fs
  all_back stop h = tt
  all_back (f & fs) h = (form_back f h.0, all_back fs h.1)
