-- The table of words: what its rows say at a code, by one computed test, and the laws of comparing and finding a word.
use mathlib.Core.Path.{◌≡◌, refl, ap, sym, ◌∙◌}
use mathlib.Core.Bool.{Bool, true, false, ◌&&◌}
use mathlib.Core.List.{List, [], ◌∷◌, map}
use mathlib.Core.Option.{Option, some}
use Prim.Native.Nat.{ℕ, zero, suc, ◌<◌}
use native.Mathlib.Omega.{arith}
use borrow.Author.Tests.{ltb-true, ltb-false}
use lib.Dec.{T, ltb, eqb, eqb→eq, ltb→lt}
use lib.ListN.{length, get_or, get_or-map, get_or-eq_default, length-map}
use Rattle.language.specs.Bytes.{same_bytes}
use Rattle.language.specs.Words.{Op, CellRule, entry, ops}
use Rattle.language.specs.Words as W
use Rattle.language.specs.Judging.{find_op}
use Rattle.std.specs.Prelude as S
use Rattle.std.proofs.Common.{Bor, bytes_eq, cond}
use Rattle.std.specs.Option.{is_some, IfSome, IsSomeAnd, MatchOption, option_map, ok_or}
use Rattle.std.specs.List.{find}
use Rattle.lexer.specs.declared.vocabulary.Primitive.{Primitive}
use Rattle.lexer.specs.declared.vocabulary.Primitive.TheVariants as P
use Rattle.lexer.specs.declared.vocabulary.Row.{Row}
use Rattle.lexer.specs.contracts.vocabulary.Primitive as T
use denote.Enum.Declared.{tag_of}
use Rattle.lexer.specs.Vocabulary.{op_code, rule_code, spelled_at, rule_at, op_of, primitive_of, rule_of, rule_number, WordRow, row_says, row_of, all_rows, found, HasCode}
use Rattle.lexer.proofs.Computed.{at}

-- Every word stands in the table, at its code.
placed : (o : Op) → (get_or ops (op_code o) W.id ≡ o) × T (ltb (op_code o) 23)
unfolding op_code
placed W.id = (refl, tt)
placed W.tl = (refl, tt)
placed W.atom = (refl, tt)
placed W.null = (refl, tt)
placed W.eq = (refl, tt)
placed W.lt = (refl, tt)
placed W.length = (refl, tt)
placed W.add = (refl, tt)
placed W.sub = (refl, tt)
placed W.mul = (refl, tt)
placed W.div = (refl, tt)
placed W.and = (refl, tt)
placed W.or = (refl, tt)
placed W.not = (refl, tt)
placed W.apndl = (refl, tt)
placed W.tlr = (refl, tt)
placed W.reverse = (refl, tt)
placed W.rotl = (refl, tt)
placed W.rotr = (refl, tt)
placed W.apndr = (refl, tt)
placed W.distl = (refl, tt)
placed W.distr = (refl, tt)
placed W.trans = (refl, tt)

pub op_at : (o : Op) → get_or ops (op_code o) W.id ≡ o
op_at o = (placed o).0

pub code_below : (o : Op) → op_code o < 23
code_below o = ltb→lt (op_code o) 23 (placed o).1

-- and at each code stands its word
right_code : ℕ → Op → Bool
right_code k o = eqb (op_code o) k

pub code_at : (k : ℕ) → k < 23 → op_code (get_or ops k W.id) ≡ k
unfolding right_code op_code
code_at k h = eqb→eq (op_code (get_or ops k W.id)) k (at W.id right_code ops tt k h)

any_default : {A : Type 0} (l : List A) (k : ℕ) (d e : A) → k < length l → get_or l k d ≡ get_or l k e
any_default [] k d e h = absurd (omega arith)
any_default (x ∷ l) zero d e h = refl
any_default (x ∷ l) (suc k) d e h = any_default l k d e (omega arith)

pub spelled_at_lem : (k : ℕ) → k < 23 → spelled_at k ≡ (entry (get_or ops k W.id)).spelled
unfolding spelled_at
spelled_at_lem k h = any_default (map (λ (o : Op). (entry o).spelled) ops) k [] (entry W.id).spelled h ∙ get_or-map (λ (o : Op). (entry o).spelled) ops k W.id

pub rule_at_lem : (k : ℕ) → k < 23 → rule_at k ≡ rule_code (entry (get_or ops k W.id)).rule
unfolding rule_at
rule_at_lem k h = any_default (map (λ (o : Op). rule_code (entry o).rule) ops) k 0 (rule_code (entry W.id).rule) h ∙ get_or-map (λ (o : Op). rule_code (entry o).rule) ops k W.id

-- what stands at a word's code is that word's
pub spelled_of : (o : Op) → spelled_at (op_code o) ≡ (entry o).spelled
spelled_of o = spelled_at_lem (op_code o) (code_below o) ∙ ap (λ (p : Op). (entry p).spelled) (op_at o)

pub rule_of_lem : (o : Op) → rule_at (op_code o) ≡ rule_code (entry o).rule
rule_of_lem o = rule_at_lem (op_code o) (code_below o) ∙ ap (λ (p : Op). rule_code (entry p).rule) (op_at o)

pub spelled_past : (k : ℕ) → 22 < k → spelled_at k ≡ []
unfolding spelled_at
spelled_past k h = get_or-eq_default (map (λ (o : Op). (entry o).spelled) ops) [] {n = k} h

-- comparing a word, byte by byte
pub same_not : (v w : List ℕ) → (length v ≡ length w → ⊥) → same_bytes v w ≡ false
same_not [] [] h = absurd (h refl)
same_not [] (y ∷ w) h = refl
same_not (x ∷ v) [] h = refl
same_not (x ∷ v) (y ∷ w) h = go (eqb x y) (same_not v w (λ e. h (ap suc e)))
  where
    go : (t : Bool) → same_bytes v w ≡ false → t && same_bytes v w ≡ false
    go true e = e
    go false e = refl

-- finding a word
choose : (o : Op) (os : List Op) (w : List ℕ) (t : Bool) → same_bytes (entry o).spelled w ≡ t → find_op (o ∷ os) w ≡ elim t as (λ (u : Bool). Option Op) [ true ↦ some o | false ↦ find_op os w ]
choose o os w t e = ap (λ (t : Bool). elim t as (λ (u : Bool). Option Op) [ true ↦ some o | false ↦ find_op os w ]) e

-- ---- the words as code names them
pub op_back : (o : Op) → op_of (primitive_of o) ≡ o
op_back W.id = refl
op_back W.tl = refl
op_back W.atom = refl
op_back W.null = refl
op_back W.eq = refl
op_back W.lt = refl
op_back W.length = refl
op_back W.add = refl
op_back W.sub = refl
op_back W.mul = refl
op_back W.div = refl
op_back W.and = refl
op_back W.or = refl
op_back W.not = refl
op_back W.apndl = refl
op_back W.tlr = refl
op_back W.reverse = refl
op_back W.rotl = refl
op_back W.rotr = refl
op_back W.apndr = refl
op_back W.distl = refl
op_back W.distr = refl
op_back W.trans = refl

-- the rule's number as code gives it
pub rule_numbers : (r : CellRule) → rule_number (rule_of r) ≡ rule_code r
rule_numbers W.no_cell = refl
rule_numbers W.one_cell = refl
rule_numbers W.n_less_1 = refl
rule_numbers W.n_cells = refl
rule_numbers W.n_and_1 = refl
rule_numbers W.three_n = refl
rule_numbers W.m_and_m_times_n = refl

-- an answer that is mapped
pub mapped : {A B : Type 0} {Post : A → B → Type 0} (f : A → B) (o : S.Option A) (r : S.Option B) → MatchOption o (r ≡ S.None) (λ x. IsSomeAnd r (Post x)) → ((x : A) (y : B) → Post x y → y ≡ f x) → r ≡ option_map f o
mapped f S.None r h k = h
mapped f (S.Some x) S.None h k = absurd h
mapped f (S.Some x) (S.Some y) h k = ap S.Some (k x y h)

-- a word's discriminant is its code
pub tags : (p : Primitive) → tag_of T.the_type p ≡ op_code (op_of p)
unfolding op_code
tags P.Id = refl
tags P.Tl = refl
tags P.Atom = refl
tags P.Null = refl
tags P.Eq = refl
tags P.Lt = refl
tags P.Length = refl
tags P.Add = refl
tags P.Sub = refl
tags P.Mul = refl
tags P.Div = refl
tags P.And = refl
tags P.Or = refl
tags P.Not = refl
tags P.Apndl = refl
tags P.Tlr = refl
tags P.Reverse = refl
tags P.Rotl = refl
tags P.Rotr = refl
tags P.Apndr = refl
tags P.Distl = refl
tags P.Distr = refl
tags P.Trans = refl

-- what the row with a code says
said : (k : ℕ) (t : WordRow) → k < 23 → get_or all_rows k t ≡ row_of (get_or ops k W.id)
said k t l = any_default all_rows k t (row_of W.id) l ∙ get_or-map row_of ops k W.id

read : (g : S.Option (Bor Row)) → option_map (λ (x : Bor Row). x.now.word) g ≡ option_map (λ (r : Row). r.word) (option_map (λ (x : Bor Row). x.now) g)
read S.None = refl
read (S.Some x) = refl

-- the word of the first row that is spelled so, by what the rows say
word_found : (w : List ℕ) (rows : List Row) → option_map (λ (r : Row). r.word) (find (λ (r : Row). bytes_eq r.letters.now w) rows) ≡ option_map (λ (u : WordRow). u.word) (find (λ (u : WordRow). bytes_eq u.letters w) (map row_says rows))
word_found w [] = refl
word_found w (r ∷ rows) = go (bytes_eq r.letters.now w) refl (word_found w rows)
  where
    go : (t : Bool) → bytes_eq r.letters.now w ≡ t → option_map (λ (r : Row). r.word) (find (λ (r : Row). bytes_eq r.letters.now w) rows) ≡ option_map (λ (u : WordRow). u.word) (find (λ (u : WordRow). bytes_eq u.letters w) (map row_says rows)) → option_map (λ (r : Row). r.word) (cond (bytes_eq r.letters.now w) (S.Some r) (find (λ (r : Row). bytes_eq r.letters.now w) rows)) ≡ option_map (λ (u : WordRow). u.word) (cond (bytes_eq r.letters.now w) (S.Some (row_says r)) (find (λ (u : WordRow). bytes_eq u.letters w) (map row_says rows)))
    go true e h = rw e refl
    go false e h = rw e h

first_found : (w : List ℕ) (os : List Op) → option_map (λ (u : WordRow). u.word) (find (λ (u : WordRow). bytes_eq u.letters w) (map row_of os)) ≡ found (find_op os w)
first_found w [] = refl
first_found w (o ∷ os) = go (same_bytes (entry o).spelled w) refl (first_found w os)
  where
    go : (t : Bool) → same_bytes (entry o).spelled w ≡ t → option_map (λ (u : WordRow). u.word) (find (λ (u : WordRow). bytes_eq u.letters w) (map row_of os)) ≡ found (find_op os w) → option_map (λ (u : WordRow). u.word) (cond (bytes_eq (entry o).spelled w) (S.Some (row_of o)) (find (λ (u : WordRow). bytes_eq u.letters w) (map row_of os))) ≡ found (find_op (o ∷ os) w)
    go true e h = rw (e, choose o os w true e) refl
    go false e h = rw (e, choose o os w false e) h

module _ (rows : List Row) (is : map row_says rows ≡ all_rows) where
  says_at : (k : ℕ) (d : Row) → k < 23 → row_says (get_or rows k d) ≡ row_of (get_or ops k W.id)
  says_at k d l = sym (get_or-map row_says rows k d) ∙ ap (λ (t : List WordRow). get_or t k (row_says d)) is ∙ said k (row_says d) l

  -- the row at a word's discriminant is that word's
  pub row_at : (p : Primitive) (d : Row) → row_says (get_or rows (tag_of T.the_type p) d) ≡ row_of (op_of p)
  row_at p d = rw (tags p) (says_at (op_code (op_of p)) d (code_below (op_of p)) ∙ ap row_of (op_at (op_of p)))

  pub many : length rows ≡ 23
  many = sym (length-map rows row_says) ∙ ap length is

  -- the row with a code is of the word with that code; past the table there is none
  pub by_place : (code : ℕ) (g : S.Option (Bor Row)) → is_some g ≡ ltb code (length rows) → IfSome g (λ x. x.now ≡ get_or rows code x.now) → HasCode code (ok_or (option_map (λ (x : Bor Row). x.now.word) g) (record { 0 = code }))
  by_place code S.None e h = (refl, ltb-false code 23 (sym (e ∙ ap (ltb code) many)))
  by_place code (S.Some x) e h =
      let l : code < 23 = ltb-true code 23 (sym (e ∙ ap (ltb code) many)) in
      let m : x.now.word ≡ primitive_of (get_or ops code W.id) = ap (λ (r : Row). r.word) h ∙ ap (λ (t : WordRow). t.word) (says_at code x.now l) in
      rw (m, op_back (get_or ops code W.id)) (code_at code l)

  -- the first row that is spelled so is of the word that is found
  pub first_row : (w : List ℕ) (g : S.Option (Bor Row)) → option_map (λ (x : Bor Row). x.now) g ≡ find (λ (r : Row). bytes_eq r.letters.now w) rows → option_map (λ (x : Bor Row). x.now.word) g ≡ found (find_op ops w)
  first_row w g e = read g ∙ ap (option_map (λ (r : Row). r.word)) e ∙ word_found w rows ∙ ap (λ (t : List WordRow). option_map (λ (u : WordRow). u.word) (find (λ (u : WordRow). bytes_eq u.letters w) t)) is ∙ first_found w ops

-- what stands at a word's code is that word's, as code names it
module _ (p : Primitive) {code : ℕ} (is : op_code (op_of p) ≡ code) where
  pub spelled_is : (entry (op_of p)).spelled ≡ spelled_at code
  spelled_is = sym (spelled_of (op_of p)) ∙ ap spelled_at is
