-- Marks, words, names and constants: a law for each way out of their readers, and for each call that they make.
use Prim.Native.Nat.{ℕ, ◌+◌, ◌≤◌, ◌<◌}
use mathlib.Core.Path.{◌≡◌, refl, ap, sym, ◌∙◌}
use mathlib.Core.Bool.{Bool, true, false, and-eq-true_iff}
use borrow.Author.Tests.{eq-eqb}
use lib.Dec.{eqb}
use mathlib.Core.List.{List, [], ◌∷◌}
use native.Mathlib.Omega.{arith}
use lib.ListN.{length}
use Rattle.std.specs.Prelude.{slice_range}
use Rattle.language.specs.declared.Val.{Val}
use Rattle.language.specs.Objects.{Obj}
use Rattle.language.specs.Forms.{Form, word, name, constant, select, select_right, op}
use Rattle.language.specs.Words.{Op}
use Rattle.language.specs.Tokens.{byte_at, place_from}
use Rattle.packing.specs.Packing.{packed}
use Rattle.language.specs.Judging.{Judged, is, is_not, judge_part, refusal_of}
use Rattle.language.specs.Reading.{Got, got, and_then, word_at, mark, after_test, calls}
use Rattle.theorems.proofs.Outcomes.{MeetsWord, meets_word}
use Rattle.theorems.proofs.Refusals.{mark_within}
use Rattle.theorems.proofs.JudgedWords.{IsPartIn, judged_part}
use Rattle.tables.specs.Tables.{record_put}
use Rattle.lexer.specs.Readings.{Skipped, WordSized}
use Rattle.lexer.specs.Vocabulary.{op_code}
use Rattle.lexer.specs.Judgements.{part_judged}
use Rattle.lexer.specs.declared.Part.{Part}
use Rattle.lexer.proofs.Words.{code_below, op_back}
use Rattle.cells.specs.Encoding.{val_of, cells_from}
use Rattle.cells.proofs.Encoded.{length_cells}
use Rattle.formtable.specs.Encoding.{low_of, high_of, encode_form, constants_from}
use Rattle.objects.specs.declared.ObjectRead.{ObjectRead}
use Rattle.objects.specs.Readings.{ReadMeets, reads, refuses, ObjectReading}
use Rattle.std.specs.Prelude.{Some, None, Result, Ok, Err}
use Rattle.language.specs.declared.refusals.Refusal.{Refusal}
use Rattle.language.specs.declared.refusals.RefusedText.{RefusedText}
use Rattle.language.specs.Refusals.{refusal, refused_at}
use Rattle.objects.proofs.Refused.{error_of, placed, word_lent, Refuses, refuses_as}
use Rattle.forms.specs.declared.Upto.{Upto}
use Rattle.forms.specs.declared.TestRead.{TestRead}
use Rattle.forms.specs.declared.TestRead.TheVariants as T
use Rattle.forms.specs.Readers.{object_at, plain_at, constant_read, form_at, bound_at, is_arrow}
use Rattle.forms.specs.Readings.{Marked, mark_read, mark_refused, Dotted, dot_read, no_dot, test_read, TestMet, test_met, test_refused, Tested, Run, Laid, ObjectMet, object_read, object_refused, FormMet, form_read, form_refused, WordPut, PlainMet, part_kind, part_word}
use Rattle.forms.proofs.Laying.{run_none, run_record, run_as}
use Rattle.forms.proofs.Small.{Plain, a_word, a_name, neither, part_plain}
use Rattle.forms.proofs.Equations.{test_condition, test_while, test_closed, test_other}
use Rattle.forms.proofs.Answers.{GotObject, object_got, mark_got, mark_no}

-- ---- read_mark
module _ {s : List ℕ} {at p q : ℕ} (i : Skipped s at p) (h : q ≡ byte_at s p) where
  here : byte_at s (place_from s at) ≡ q
  here = ap (λ (x : ℕ). byte_at s x) (sym i.is) ∙ sym h

  pub mark_is : {b : ℕ} → q ≡ b → Marked b s at (Ok (p + 1))
  mark_is e = mark_read (here ∙ e) (ap (λ (x : ℕ). Ok (x + 1)) i.is)

  -- the refusal of what stands there
  pub refusal_here : {A : Type 0} {k : Refusal} → k ≡ refusal (refusal_of (word_at s p)) → ◌≡◌ {A = Result A RefusedText} (Err (record { refusal = k; place = p })) (Err (refused_at (refusal_of (word_at s (place_from s at))) (place_from s at)))
  refusal_here e = ap (λ (x : Refusal). Err (record { refusal = x; place = p })) e ∙ ap (λ (x : ℕ). Err (refused_at (refusal_of (word_at s x)) x)) i.is

  pub mark_other : {b : ℕ} {k : Refusal} → (q ≡ b → ⊥) → k ≡ refusal (refusal_of (word_at s p)) → Marked b s at (Err (record { refusal = k; place = p }))
  mark_other {b} {k} o e = mark_refused (λ z. o (sym here ∙ z)) (refusal_here e)

-- ---- read_dot
module _ {s : List ℕ} {at p q : ℕ} (i : Skipped s at p) (h : q ≡ byte_at s p) where
  pub dot_is : q ≡ 46 → Dotted s at (Some (p + 1))
  dot_is e = dot_read (here i h ∙ e) (ap (λ (x : ℕ). Some (x + 1)) i.is)

  pub dot_none : (q ≡ 46 → ⊥) → Dotted s at None
  dot_none o = no_dot (λ z. o (sym (here i h) ∙ z)) refl

-- ---- read_test
module _ {s : List ℕ} {at p : ℕ} (l : at ≤ length s) (i : Skipped s at p) where
  -- what follows, as the answer says
  test_as : (w : TestRead) (f : Form) (room : ℕ) → after_test s f at (λ a. form_at s a room) ≡ test_read s room f w → TestMet s room f (Ok w) (after_test s f at (λ a. form_at s a room))
  test_as w f room e = rw e (test_met refl)

  module _ {o : Bool} (h : o ≡ is_arrow s p) where
    pub test_arrow : o ≡ true → Tested s at (Ok (T.Condition (p + 2)))
    test_arrow e =
        let q = (and-eq-true_iff (eqb (byte_at s p) 45) (eqb (byte_at s (p + 1)) 62)).0 (sym h ∙ e) in
        let v = mark_within s (p + 1) 62 (omega arith) q.1 in
        record {
          is = λ f room. test_as (T.Condition (p + 2)) f room (test_condition s at p room f i.is (sym h ∙ e));
          loops = λ a z. absurd (let y : ◌≡◌ {A = ℕ} 0 1 = cc in omega arith);
          branches = λ a z. let y : p + 2 ≡ a = cc in record { behind = omega (arith, i.low); inside = omega arith };
        }

    module _ {b : ℕ} (e : o ≡ false) (q : b ≡ byte_at s p) where
      pub test_loop : b ≡ 63 → Tested s at (Ok (T.While (p + 1)))
      test_loop g =
          let v = mark_within s p 63 (omega arith) (eq-eqb (byte_at s p) 63 (sym q ∙ g)) in
          record {
            is = λ f room. test_as (T.While (p + 1)) f room (test_while s at p b i.is q f room (sym h ∙ e) g);
            loops = λ a z. let y : p + 1 ≡ a = cc in record { behind = omega (arith, i.low); inside = omega arith };
            branches = λ a z. absurd (let y : ◌≡◌ {A = ℕ} 0 1 = cc in omega arith);
          }

      pub test_close : b ≡ 41 → Tested s at (Ok (T.Closed (p + 1)))
      test_close g = record {
        is = λ f room. test_as (T.Closed (p + 1)) f room (test_closed s at p b i.is q f room (sym h ∙ e) g);
        loops = λ a z. absurd (let y : ◌≡◌ {A = ℕ} 0 1 = cc in omega arith);
        branches = λ a z. absurd (let y : ◌≡◌ {A = ℕ} 0 1 = cc in omega arith);
      }

      pub test_else : {k : Refusal} → (b ≡ 63 → ⊥) → (b ≡ 41 → ⊥) → k ≡ refusal (refusal_of (word_at s p)) → Tested s at (Err (record { refusal = k; place = p }))
      test_else {k} z w v = record {
        is = λ f room. rw (test_other s at p b i.is q f room (sym h ∙ e) z w) (test_refused (ap (λ (j : Refusal). Err (record { refusal = j; place = p })) v));
        loops = λ a z. absurd (let y : ◌≡◌ {A = ℕ} 0 1 = cc in omega arith);
        branches = λ a z. absurd (let y : ◌≡◌ {A = ℕ} 0 1 = cc in omega arith);
      }

-- ---- what the object reader answers
module _ (s : List ℕ) (at room : ℕ) {c : ℕ} {u : List ℕ} {r : Result ObjectRead RefusedText} {u' : List ℕ} where
  object_met : ObjectReading s at room u c r u' → length u' ≡ length u → ObjectMet c u r u' (object_at s at room)
  unfolding object_at
  object_met h l = go (h.means (calls s) (omega arith))
    where
      go : {g : Got Obj} → ReadMeets u c r u' g → ObjectMet c u r u' g
      go (reads {x} e q) = let i = length_cells x c in object_read {x = x} e (record { ends = omega arith; is = q; long = l })
      go (refuses e) = object_refused e

  object_none : {e : RefusedText} → ObjectReading s at room u c r u' → r ≡ Err e → Refuses e (object_at s at room)
  unfolding object_at
  object_none {e} h q = go (h.means (calls s) (omega arith))
    where
      go : {g : Got Obj} → ReadMeets u c r u' g → Refuses e g
      go (reads e l) = absurd (let z : ◌≡◌ {A = ℕ} 0 1 = cc in omega arith)
      go (refuses {n} {p} f) = record { number = n; place = p; is = refl; told = error_of (sym q ∙ f) }

-- ---- read_constant
constant_laid : (x : Obj) {n c d : ℕ} {v : Val} {t u t₁ u₁ : List ℕ} → v ≡ val_of c x → Run (cells_from c x) c u d u₁ → t₁ ≡ record_put t n (12 + v.tag) 0 (low_of v.word) (high_of v.word) → Laid (encode_form c (constant x)) (constants_from c (constant x)) n c t u (n + 1) d t₁ u₁
unfolding encode_form constants_from
constant_laid x h l e = record { records = run_record (rw h at e); cells = l }

module _ (s : List ℕ) (at room : ℕ) {c : ℕ} {u : List ℕ} {r : Result ObjectRead RefusedText} {u₁ : List ℕ} (h : ObjectReading s at room u c r u₁) where
  pub constant_stops : {n : ℕ} {e : RefusedText} {q : Result Upto RefusedText} {t t' u' : List ℕ} → r ≡ Err e → q ≡ Err e → FormMet n c t u q t' u' (constant_read s at room)
  unfolding constant_read
  constant_stops e o = let y = object_none s at room h e in rw y.is (form_refused (refuses_as y o))

  module _ {y : ObjectRead} (q : r ≡ Ok y) (l : length u₁ ≡ length u) where
    pub constant_is : {n : ℕ} {t t₂ : List ℕ} → WordPut n (12 + y.value.tag) 0 y.value.word t t₂ → FormMet n c t u (Ok (record { next = y.next; forms = n + 1; cells = y.cells })) t₂ u₁ (constant_read s at room)
    unfolding constant_read
    constant_is w = let o = object_got (object_met s at room h l) q in rw o.is (form_read refl refl (constant_laid o.object o.value o.laid w.is))

-- ---- read_bound
module _ (s : List ℕ) (at room : ℕ) {c : ℕ} {u : List ℕ} {q : Result ℕ RefusedText} (i : Marked 44 s at q) where
  pub bound_stops : {e : RefusedText} {q₂ : Result ObjectRead RefusedText} {u' : List ℕ} → q ≡ Err e → q₂ ≡ Err e → ObjectMet c u q₂ u' (bound_at s at room)
  unfolding bound_at
  bound_stops e o = let y = mark_no (λ a. and_then (object_at s a room) (λ x e. mark 125 s e (λ a. got x a))) i e in rw y.is (object_refused (refuses_as y o))

  module _ {a : ℕ} {r : Result ObjectRead RefusedText} {u₁ : List ℕ} (j : q ≡ Ok a) (h : ObjectReading s a room u c r u₁) where
    begun : bound_at s at room ≡ and_then (object_at s a room) (λ x e. mark 125 s e (λ a. got x a))
    unfolding bound_at
    begun = mark_got (λ a. and_then (object_at s a room) (λ x e. mark 125 s e (λ a. got x a))) i j

    pub bound_no : {e : RefusedText} {q₂ : Result ObjectRead RefusedText} {u' : List ℕ} → r ≡ Err e → q₂ ≡ Err e → ObjectMet c u q₂ u' (bound_at s at room)
    bound_no e o = let y = object_none s a room h e in rw (begun ∙ ap (λ (g : Got Obj). and_then g (λ x e. mark 125 s e (λ a. got x a))) y.is) (object_refused (refuses_as y o))

    module _ {y : ObjectRead} (g : r ≡ Ok y) (l : length u₁ ≡ length u) where
      object : GotObject c u y.value y.next y.cells u₁ (object_at s a room)
      object = object_got (object_met s a room h l) g

      module _ {q₂ : Result ℕ RefusedText} (k : Marked 125 s y.next q₂) where
        pub bound_open : {o : RefusedText} {q₃ : Result ObjectRead RefusedText} {u' : List ℕ} → q₂ ≡ Err o → q₃ ≡ Err o → ObjectMet c u q₃ u' (bound_at s at room)
        bound_open w o = let z = mark_no (λ a. got object.object a) k w in rw (begun ∙ ap (λ (g : Got Obj). and_then g (λ x e. mark 125 s e (λ a. got x a))) object.is ∙ z.is) (object_refused (refuses_as z o))

        pub bound_is : {next : ℕ} → q₂ ≡ Ok next → ObjectMet c u (Ok (record { value = y.value; next = next; cells = y.cells })) u₁ (bound_at s at room)
        bound_is {next} w =
            rw (begun ∙ ap (λ (g : Got Obj). and_then g (λ x e. mark 125 s e (λ a. got x a))) object.is ∙ mark_got (λ a. got object.object a) k w)
            (object_read {x = object.object} (ap (λ (x : Val). Ok (record { value = x; next = next; cells = y.cells })) object.value) object.laid)

-- ---- read_plain
-- a form with one record and no cells
record Plainly (f : Form) (kind w : ℕ) : Type 0 where
  records : (c : ℕ) → encode_form c f ≡ kind ∷ 0 ∷ low_of w ∷ high_of w ∷ []
  cells : (c : ℕ) → constants_from c f ≡ []

record JudgedAs (j : Judged Form) (kind w : ℕ) : Type 0 where
  form : Form
  judged : j ≡ is form
  plainly : Plainly form kind w

small : (k : ℕ) → k < 4294967296 → (low_of k ≡ k) × (high_of k ≡ 0)
small k h = (omega arith, omega arith)

op_plainly : (o : Op) → Plainly (word (op o)) 1 (op_code o)
unfolding encode_form constants_from
op_plainly o = let i = code_below o in let z = small (op_code o) (omega arith) in record { records = λ c. rw (z.0, z.1); cells = λ c. refl }

select_plainly : (k : ℕ) → k ≤ 255 → Plainly (word (select k)) 2 k
unfolding encode_form constants_from
select_plainly k h = let z = small k (omega arith) in record { records = λ c. rw (z.0, z.1); cells = λ c. refl }

right_plainly : (k : ℕ) → k ≤ 255 → Plainly (word (select_right k)) 3 k
unfolding encode_form constants_from
right_plainly k h = let z = small k (omega arith) in record { records = λ c. rw (z.0, z.1); cells = λ c. refl }

name_plainly : (w : List ℕ) → Plainly (name w) 4 (packed w)
unfolding encode_form constants_from
name_plainly w = record { records = λ c. refl; cells = λ c. refl }

part_same : {x y : Part} → ◌≡◌ {A = Result Part Refusal} (Ok x) (Ok y) → x ≡ y
part_same h = cc

-- what a part is judged to be, by the kind and the word that stand for it
part_as : {n : ℕ} {j : Judged Form} {x : Part} → Plain j → MeetsWord (IsPartIn n) j → part_judged j ≡ Ok x → JudgedAs j (part_kind x) (part_word x)
part_as (a_word {w = select i}) (meets_word q) e = rw (sym (part_same e)) (record { form = word (select i); judged = refl; plainly = select_plainly i q.is_form.1 })
part_as (a_word {w = select_right i}) (meets_word q) e = rw (sym (part_same e)) (record { form = word (select_right i); judged = refl; plainly = right_plainly i q.is_form.1 })
part_as (a_word {w = op o}) m e = rw (sym (part_same e), op_back o) (record { form = word (op o); judged = refl; plainly = op_plainly o })
part_as (a_name {w}) m e = rw (sym (part_same e)) (record { form = name w; judged = refl; plainly = name_plainly w })
part_as neither m e = absurd (let z : ◌≡◌ {A = ℕ} 0 1 = cc in omega arith)

-- the number that refuses a part
record NotJudged (j : Judged Form) (e : Refusal) : Type 0 where
  number : ℕ
  judged : j ≡ is_not number
  told : e ≡ refusal number

not_judged : {j : Judged Form} {e : Refusal} → Plain j → part_judged j ≡ Err e → NotJudged j e
not_judged (a_word {w = select i}) e = absurd (let z : ◌≡◌ {A = ℕ} 0 1 = cc in omega arith)
not_judged (a_word {w = select_right i}) e = absurd (let z : ◌≡◌ {A = ℕ} 0 1 = cc in omega arith)
not_judged (a_word {w = op o}) e = absurd (let z : ◌≡◌ {A = ℕ} 0 1 = cc in omega arith)
not_judged a_name e = absurd (let z : ◌≡◌ {A = ℕ} 0 1 = cc in omega arith)
not_judged (neither {n}) e = record { number = n; judged = refl; told = refusal_same (sym e) }
  where
    refusal_same : {x y : Refusal} → ◌≡◌ {A = Result Part Refusal} (Err x) (Err y) → x ≡ y
    refusal_same h = cc

plain_laid : (f : Form) {kind w n c : ℕ} {t u t' : List ℕ} → Plainly f kind w → t' ≡ record_put t n kind 0 (low_of w) (high_of w) → Laid (encode_form c f) (constants_from c f) n c t u (n + 1) c t' u
plain_laid f {c = c} q e = record { records = run_as (sym (q.records c)) (run_record e); cells = run_as (sym (q.cells c)) run_none }

module _ {s : List ℕ} {p k : ℕ} {r : Result Part RefusedText} (i : WordSized s p k) (h : r ≡ placed p (part_judged (judge_part (slice_range s p (p + k))))) where
  judged_here : placed p (part_judged (judge_part (word_at s p))) ≡ r
  judged_here = sym (h ∙ ap (λ (w : List ℕ). placed p (part_judged (judge_part w))) (word_lent i))

  pub plain_is : {n c number kind w : ℕ} {x : Part} {t t' : List ℕ} → r ≡ Ok x → number ≡ kind → kind ≡ part_kind x → w ≡ part_word x → WordPut n number 0 w t t' → PlainMet s p n c t (Ok (record { next = p + k; forms = n + 1; cells = c })) t'
  unfolding plain_at
  plain_is {n} {c} {number} {kind} {w} {x} e z a b q =
      let y = part_as (part_plain (word_at s p)) (judged_part (word_at s p)) (as_ok (part_judged (judge_part (word_at s p))) (judged_here ∙ e)) in
      record { means = λ u. rw y.judged (form_read refl (ap (λ (x : ℕ). p + x) i.is) (plain_laid y.form y.plainly (rw (← (z ∙ a), ← b) q.is))) }
    where
      as_ok : (j : Result Part Refusal) → placed p j ≡ Ok x → j ≡ Ok x
      as_ok (Ok y) g = cc
      as_ok (Err y) g = absurd (let z : ◌≡◌ {A = ℕ} 0 1 = cc in omega arith)

  pub plain_not : {n c : ℕ} {e : RefusedText} {q : Result Upto RefusedText} {t t' : List ℕ} → r ≡ Err e → q ≡ Err e → PlainMet s p n c t q t'
  unfolding plain_at
  plain_not {n} {c} {e} {q} {t} {t'} f o = go (part_judged (judge_part (word_at s p))) refl (judged_here ∙ f)
    where
      go : (j : Result Part Refusal) → part_judged (judge_part (word_at s p)) ≡ j → placed p j ≡ Err e → PlainMet s p n c t q t'
      go (Ok y) a g = absurd (let z : ◌≡◌ {A = ℕ} 0 1 = cc in omega arith)
      go (Err y) a g =
          let z = not_judged (part_plain (word_at s p)) a in
          record { means = λ u. rw z.judged (form_refused (o ∙ ap (λ (t : RefusedText). Err t) (sym (error_of g) ∙ ap (λ (t : Refusal). record { refusal = t; place = p }) z.told))) }
