-- What is encoded stands: a table that goes on with a form's records, and cells that go on with its constants, have the form stand there.
use Prim.Native.Nat.{ℕ, ◌+◌, ◌*◌, ◌≤◌}
use mathlib.Core.Path.{◌≡◌, ◌∙◌}
use mathlib.Core.List.{List, [], ◌∷◌, ◌++◌, append_assoc}
use native.Mathlib.Nat.{add-zero}
use native.Mathlib.Omega.{arith}
use lib.ListN.{length, drop}
use lib.Seq.{drop-drop, drop-append_seam}
use Rattle.language.specs.Forms.{Form, word, name, chain, construct, constant, insert, apply_all, bu, condition, while, Forms, stop, ◌&◌, ◌+&◌, select, select_right, op, Prog, count, forms_in, forms_in_all, forms_of, constant_cells, constant_cells_all, program_cells}
use Rattle.language.specs.Accepted.{IsForm, AreForms, AreDefinitions}
use Rattle.packing.specs.Packing.{packed}
use Rattle.lexer.specs.Vocabulary.{op_code}
use Rattle.cells.specs.Encoding.{val_of, cells_from}
use Rattle.cells.proofs.Encoded.{at_front, cells_rep}
use Rattle.formtable.specs.Encoding.{low_of, high_of, encode_form, encode_forms, constants_from, constants_from_all, encode_program, program_constants}
use Rattle.formtable.specs.Standing.{kind_at, arity_at, wide_at, row_op, row_select, row_select_right, row_name, row_chain, row_construct, row_insert, row_apply_all, row_condition, row_while, row_constant, row_bu, Stands, no_form, a_form, bodies}
use Rattle.formtable.proofs.Lengths.{length_form, length_constants}

-- ---- a table that goes on with l from index i
behind : (t : List ℕ) (i j : ℕ) (a l : List ℕ) → i * 4 + length a ≡ j * 4 → drop (i * 4) t ≡ a ++ l → drop (j * 4) t ≡ l
behind t i j a l z e = rw (← z, ← (drop-drop (length a) (i * 4) t), e) (drop-append_seam a l)

-- record i, and what follows it
record Front (t : List ℕ) (i kind arity w : ℕ) (l : List ℕ) : Type 0 where
  is_kind : kind_at t i ≡ kind
  is_arity : arity_at t i ≡ arity
  is_word : wide_at t i ≡ w
  rest : drop ((i + 1) * 4) t ≡ l

front : (t : List ℕ) (i kind arity lo hi w : ℕ) (l : List ℕ) → w ≡ lo + 4294967296 * hi → drop (i * 4) t ≡ kind ∷ arity ∷ lo ∷ hi ∷ l → Front t i kind arity w l
front t i kind arity lo hi w l z e =
    let a = at_front t (i * 4) 2 (kind ∷ arity ∷ lo ∷ hi ∷ l) e in
    let b = at_front t (i * 4) 3 (kind ∷ arity ∷ lo ∷ hi ∷ l) e in
    record {
      is_kind = rw add-zero at (at_front t (i * 4) 0 (kind ∷ arity ∷ lo ∷ hi ∷ l) e);
      is_arity = at_front t (i * 4) 1 (kind ∷ arity ∷ lo ∷ hi ∷ l) e;
      is_word = omega arith;
      rest = behind t i (i + 1) (kind ∷ arity ∷ lo ∷ hi ∷ []) l (omega arith) e;
    }

halves : (w : ℕ) → w ≡ low_of w + 4294967296 * high_of w
halves w = omega arith

module _ (t C : List ℕ) (n : ℕ) where
  -- the forms that follow stand where they are said to
  onward : {i j e : ℕ} {fs : Forms} → i ≡ j → Stands t C n i fs e → Stands t C n j fs e
  onward z s = rw z at s

  mutual
    unfolding encode_form constants_from

    pub form_stands : (f : Form) (i c e : ℕ) (gs : Forms) (l m : List ℕ) → IsForm f → c + constant_cells f ≤ n → drop (i * 4) t ≡ encode_form c f ++ l → drop (c * 4) C ≡ constants_from c f ++ m → Stands t C n (i + forms_in f) gs e → Stands t C n i (f & gs) e
    form_stands (word (op o)) i c e gs l m h b d k s = let r = front t i 1 0 (op_code o) 0 (op_code o) l (omega arith) d in a_form (row_op r.is_kind r.is_arity r.is_word) s
    form_stands (word (select q)) i c e gs l m h b d k s = let r = front t i 2 0 q 0 q l (omega arith) d in a_form (row_select r.is_kind r.is_arity r.is_word) s
    form_stands (word (select_right q)) i c e gs l m h b d k s = let r = front t i 3 0 q 0 q l (omega arith) d in a_form (row_select_right r.is_kind r.is_arity r.is_word) s
    form_stands (name w) i c e gs l m h b d k s =
        let r = front t i 4 0 (low_of (packed w)) (high_of (packed w)) (packed w) l (halves (packed w)) d in
        a_form (row_name r.is_kind r.is_arity r.is_word) s
    form_stands (chain fs) i c e gs l m h b d k s =
        let r = front t i 5 (count fs) 0 0 0 (encode_forms c fs ++ l) (omega arith) d in
        a_form (row_chain r.is_kind r.is_arity r.is_word) (forms_stand fs (i + 1) c e gs l m h.1 b r.rest k (onward (omega arith) s))
    form_stands (construct fs) i c e gs l m h b d k s =
        let r = front t i 6 (count fs) 0 0 0 (encode_forms c fs ++ l) (omega arith) d in
        a_form (row_construct r.is_kind r.is_arity r.is_word) (forms_stand fs (i + 1) c e gs l m h.1 b r.rest k (onward (omega arith) s))
    form_stands (insert f) i c e gs l m h b d k s =
        let r = front t i 7 1 0 0 0 (encode_form c f ++ l) (omega arith) d in
        a_form (row_insert r.is_kind r.is_arity r.is_word) (form_stands f (i + 1) c e gs l m h b r.rest k (onward (omega arith) s))
    form_stands (apply_all f) i c e gs l m h b d k s =
        let r = front t i 8 1 0 0 0 (encode_form c f ++ l) (omega arith) d in
        a_form (row_apply_all r.is_kind r.is_arity r.is_word) (form_stands f (i + 1) c e gs l m h b r.rest k (onward (omega arith) s))
    form_stands (condition p f g) i c e gs l m h b d k s =
        let c₁ = c + constant_cells p in
        let c₂ = c₁ + constant_cells f in
        let j = i + 1 in
        let j₁ = j + forms_in p in
        let j₂ = j₁ + forms_in f in
        let r = front t i 9 3 0 0 0 ((encode_form c p ++ (encode_form c₁ f ++ encode_form c₂ g)) ++ l) (omega arith) d in
        let d₀ : drop (j * 4) t ≡ encode_form c p ++ (encode_form c₁ f ++ (encode_form c₂ g ++ l)) = r.rest ∙ simp append_assoc in
        let d₁ = behind t j j₁ (encode_form c p) (encode_form c₁ f ++ (encode_form c₂ g ++ l)) (omega (arith, length_form p c)) d₀ in
        let d₂ = behind t j₁ j₂ (encode_form c₁ f) (encode_form c₂ g ++ l) (omega (arith, length_form f c₁)) d₁ in
        let k₀ : drop (c * 4) C ≡ constants_from c p ++ (constants_from c₁ f ++ (constants_from c₂ g ++ m)) = k ∙ simp append_assoc in
        let k₁ = behind C c c₁ (constants_from c p) (constants_from c₁ f ++ (constants_from c₂ g ++ m)) (omega (arith, length_constants p c)) k₀ in
        let k₂ = behind C c₁ c₂ (constants_from c₁ f) (constants_from c₂ g ++ m) (omega (arith, length_constants f c₁)) k₁ in
        a_form (row_condition r.is_kind r.is_arity r.is_word)
        (form_stands p j c e (f & g & gs) (encode_form c₁ f ++ (encode_form c₂ g ++ l)) (constants_from c₁ f ++ (constants_from c₂ g ++ m)) h.0 (omega arith) d₀ k₀
        (form_stands f j₁ c₁ e (g & gs) (encode_form c₂ g ++ l) (constants_from c₂ g ++ m) h.1 (omega arith) d₁ k₁
        (form_stands g j₂ c₂ e gs l m h.2 (omega arith) d₂ k₂ (onward (omega arith) s))))
    form_stands (while p f) i c e gs l m h b d k s =
        let c₁ = c + constant_cells p in
        let j = i + 1 in
        let j₁ = j + forms_in p in
        let r = front t i 10 2 0 0 0 ((encode_form c p ++ encode_form c₁ f) ++ l) (omega arith) d in
        let d₀ : drop (j * 4) t ≡ encode_form c p ++ (encode_form c₁ f ++ l) = r.rest ∙ simp append_assoc in
        let d₁ = behind t j j₁ (encode_form c p) (encode_form c₁ f ++ l) (omega (arith, length_form p c)) d₀ in
        let k₀ : drop (c * 4) C ≡ constants_from c p ++ (constants_from c₁ f ++ m) = k ∙ simp append_assoc in
        let k₁ = behind C c c₁ (constants_from c p) (constants_from c₁ f ++ m) (omega (arith, length_constants p c)) k₀ in
        a_form (row_while r.is_kind r.is_arity r.is_word)
        (form_stands p j c e (f & gs) (encode_form c₁ f ++ l) (constants_from c₁ f ++ m) h.0 (omega arith) d₀ k₀
        (form_stands f j₁ c₁ e gs l m h.1 (omega arith) d₁ k₁ (onward (omega arith) s)))
    form_stands (constant x) i c e gs l m h b d k s =
        let v = val_of c x in
        let r = front t i (12 + v.tag) 0 (low_of v.word) (high_of v.word) v.word l (halves v.word) d in
        a_form (row_constant {v = v} r.is_kind r.is_arity r.is_word (cells_rep x c n C m h b k)) s
    form_stands (bu f x) i c e gs l m h b d k s =
        let c₁ = c + constant_cells f in
        let v = val_of c₁ x in
        let r = front t i (16 + v.tag) 1 (low_of v.word) (high_of v.word) v.word (encode_form c f ++ l) (halves v.word) d in
        let k₀ : drop (c * 4) C ≡ constants_from c f ++ (cells_from c₁ x ++ m) = k ∙ simp append_assoc in
        let k₁ = behind C c c₁ (constants_from c f) (cells_from c₁ x ++ m) (omega (arith, length_constants f c)) k₀ in
        a_form (row_bu {v = v} r.is_kind r.is_arity r.is_word (cells_rep x c₁ n C m h.1 (omega arith) k₁))
        (form_stands f (i + 1) c e gs l (cells_from c₁ x ++ m) h.0 (omega arith) r.rest k₀ (onward (omega arith) s))

    pub forms_stand : (fs : Forms) (i c e : ℕ) (gs : Forms) (l m : List ℕ) → AreForms fs → c + constant_cells_all fs ≤ n → drop (i * 4) t ≡ encode_forms c fs ++ l → drop (c * 4) C ≡ constants_from_all c fs ++ m → Stands t C n (i + forms_in_all fs) gs e → Stands t C n i (fs +& gs) e
    forms_stand stop i c e gs l m h b d k s = onward (omega arith) s
    forms_stand (f & fs) i c e gs l m h b d k s =
        let c₁ = c + constant_cells f in
        let j = i + forms_in f in
        let d₀ : drop (i * 4) t ≡ encode_form c f ++ (encode_forms c₁ fs ++ l) = d ∙ simp append_assoc in
        let d₁ = behind t i j (encode_form c f) (encode_forms c₁ fs ++ l) (omega (arith, length_form f c)) d₀ in
        let k₀ : drop (c * 4) C ≡ constants_from c f ++ (constants_from_all c₁ fs ++ m) = k ∙ simp append_assoc in
        let k₁ = behind C c c₁ (constants_from c f) (constants_from_all c₁ fs ++ m) (omega (arith, length_constants f c)) k₀ in
        form_stands f i c e (fs +& gs) (encode_forms c₁ fs ++ l) (constants_from_all c₁ fs ++ m) h.0 (omega arith) d₀ k₀
        (forms_stand fs j c₁ e gs l m h.1 (omega arith) d₁ k₁ (onward (omega arith) s))

  pub program_stands : (P : Prog) (i c : ℕ) (l m : List ℕ) → AreDefinitions P → c + program_cells P ≤ n → drop (i * 4) t ≡ encode_program c P ++ l → drop (c * 4) C ≡ program_constants c P ++ m → Stands t C n i (bodies P) (i + forms_of P)
  unfolding encode_program program_constants
  program_stands [] i c l m h b d k = rw add-zero no_form
  program_stands (d₀ ∷ P) i c l m h b d k =
      let f = d₀.body in
      let c₁ = c + constant_cells f in
      let j = i + forms_in f in
      let x : drop (i * 4) t ≡ encode_form c f ++ (encode_program c₁ P ++ l) = d ∙ simp append_assoc in
      let x₁ = behind t i j (encode_form c f) (encode_program c₁ P ++ l) (omega (arith, length_form f c)) x in
      let y : drop (c * 4) C ≡ constants_from c f ++ (program_constants c₁ P ++ m) = k ∙ simp append_assoc in
      let y₁ = behind C c c₁ (constants_from c f) (program_constants c₁ P ++ m) (omega (arith, length_constants f c)) y in
      let z : i + (forms_in f + forms_of P) ≡ j + forms_of P = omega arith in
      rw z (form_stands f i c (j + forms_of P) (bodies P) (encode_program c₁ P ++ l) (program_constants c₁ P ++ m) h.1 (omega arith) x y (program_stands P j c₁ l m h.2 (omega arith) x₁ y₁))
