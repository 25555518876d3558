-- What is written of a well-formed program reads back.
use mathlib.Core.Path.{◌≡◌, refl, ap, sym, subst}
use mathlib.Core.List.{List, [], ◌∷◌, ◌++◌}
use mathlib.Core.Bool.{false, cond}
use lib.Dec.{eqb}
use Prim.Native.Nat.{ℕ, suc, ◌+◌, ◌*◌, ◌≤◌, ◌<◌}
use native.Mathlib.Omega.{arith}
use borrow.Author.Tests.{eq-eqb, ne_eqb, le-ltb}
use lib.ListN.{length, drop, length-append, length-drop}
use Rattle.language.specs.Forms.{name, Def, Prog, forms_of}
use Rattle.language.specs.Tokens.{is_word_byte, place_from}
use Rattle.language.specs.Judging.{judge_name}
use Rattle.language.specs.Reading.{Got, got, and_then, as_judged, word_at, mark, read_form, Placed, program_of, definition_at, read_definitions, none_twice, within_limits, read_program}
use Rattle.language.specs.Writing.{write_form, write_program, marks_of, marks_of_program}
use Rattle.language.specs.Accepted.{IsName, IsForm, AreDefinitions, Different, WellFormed}
use Rattle.theorems.specs.ReadBack.{ProgramsReadBack}
use Rattle.theorems.proofs.Texts.{place_here, drop_past, drop_one, place_end, span_none, judged_here, mark_here}
use Rattle.theorems.proofs.Readers.{suc_of}
use Rattle.theorems.proofs.WordsBack.{name_byte_no_blank, plain_begins, plain_size, name_plain, name_defined}
use Rattle.theorems.proofs.FormsBack.{form_back}

definition_back : (s : List ℕ) (at k : ℕ) (d : Def) (l : List ℕ) → IsName d.called → IsForm d.body → marks_of d.body ≤ 32 →
    drop at s ≡ d.called ++ 61 ∷ (write_form d.body ++ 59 ∷ l) → 3 * length (write_form d.body) + 1 < k →
    and_then (as_judged s at (judge_name (word_at s at))) (λ w e. definition_at k s at w e) ≡ got (record { place = at; def = d }) (at + length d.called + 1 + length (write_form d.body) + 1)
unfolding definition_at
definition_back s at k d l n f m h b =
    let w = d.called in
    let v = write_form d.body in
    let x = name_plain w n in
    let z = plain_size s at (61 ∷ (v ++ 59 ∷ l)) w (name w) (span_none is_word_byte 61 (v ++ 59 ∷ l) refl) x h in
    let j = judged_here judge_name w s at w (61 ∷ (v ++ 59 ∷ l)) h z (name_defined w n) in
    let e₁ = at + length w in
    let h₁ = drop_past s at w (61 ∷ (v ++ 59 ∷ l)) h in
    let h₂ = drop_one s e₁ 61 (v ++ 59 ∷ l) h₁ in
    let g = (form_back d.body f).form s (e₁ + 1) 32 k (59 ∷ l) h₂ (refl, refl, refl) m b in
    let e₂ = e₁ + 1 + length v in
    let h₃ = drop_past s (e₁ + 1) v (59 ∷ l) h₂ in
    rw (
      j,
      and_then,
      mark_here {A = Placed} 61 s e₁ (λ a. and_then (read_form k s a 32) (λ f e. mark 59 s e (λ a. got (record { place = at; def = record { called = w; body = f } }) a)))
          (v ++ 59 ∷ l) h₁ refl,
      g,
      and_then,
      mark_here {A = Placed} 59 s e₂ (λ a. got (record { place = at; def = d }) a) l h₃ refl,
    )

-- behind a definition that begins at a place
behind : ℕ → Def → ℕ
behind at d = at + length d.called + 1 + length (write_form d.body) + 1

-- the definitions with their places
placed : ℕ → Prog → List Placed
placed at [] = []
placed at (d ∷ ds) = record { place = at; def = d } ∷ placed (behind at d) ds

-- a definition where one begins, and the others behind it
definitions_more : (D : Placed) (ds : List Placed) (s : List ℕ) (at j e₁ e₂ : ℕ) → place_from s at ≡ at → eqb at (length s) ≡ false →
    and_then (as_judged s at (judge_name (word_at s at))) (λ w e. definition_at j s at w e) ≡ got D e₁ → read_definitions j s e₁ ≡ got ds e₂ →
    read_definitions (suc j) s at ≡ got (D ∷ ds) e₂
unfolding read_definitions
definitions_more D ds s at j e₁ e₂ p n g r = subst (λ (q : ℕ). from q ≡ got (D ∷ ds) e₂) (sym p) (rw (n, g, and_then, r))
  where
    from : ℕ → Got (List Placed)
    from q =
        cond (eqb q (length s)) (got [] q)
        (and_then (and_then (as_judged s q (judge_name (word_at s q))) (λ w e. definition_at j s q w e)) (λ d e. and_then (read_definitions j s e) (λ ds' e'. got (d ∷ ds') e')))

definitions_back : (P : Prog) (s : List ℕ) (at k : ℕ) → AreDefinitions P → marks_of_program P ≤ 32 → drop at s ≡ write_program P → at ≤ length s → 3 * length (write_program P) < k →
    read_definitions k s at ≡ got (placed at P) (length s)
unfolding write_program read_definitions placed behind
definitions_back [] s at k a m h n b =
    let i = suc_of k (omega arith) in
    let e : at ≡ length s = omega (arith, length-drop at s, ap length h) in
    rw (i.1, e, place_end s, eq-eqb (length s) (length s) refl)
definitions_back (d ∷ ds) s at k a m h n b =
    let i = suc_of k (omega arith) in
    let w = d.called in
    let v = write_form d.body in
    let l = write_program ds in
    let t₁ = length-append w (61 ∷ (v ++ 59 ∷ l)) in
    let t₂ = length-append v (59 ∷ l) in
    let t₃ = length-drop at s in
    let t₄ = ap length h in
    let x = name_plain w a.0 in
    let c = plain_begins w (name w) x in
    let p = place_here s at c.0 (c.1 ++ 61 ∷ (v ++ 59 ∷ l)) (rw c.2 at h) (name_byte_no_blank c.0 c.3) in
    let g = definition_back s at i.0 d l a.0 a.1 (omega arith) h (omega (arith, i.1)) in
    let e₁ = at + length w in
    let e₂ = e₁ + 1 + length v in
    let h₁ = drop_past s at w (61 ∷ (v ++ 59 ∷ l)) h in
    let h₂ = drop_past s (e₁ + 1) v (59 ∷ l) (drop_one s e₁ 61 (v ++ 59 ∷ l) h₁) in
    let r = definitions_back ds s (e₂ + 1) i.0 a.2 (omega arith) (drop_one s e₂ 59 l h₂) (omega arith) (omega (arith, i.1)) in
    rw i.1 (definitions_more (record { place = at; def = d }) (placed (behind at d) ds) s at i.0 (e₂ + 1) (length s) p (ne_eqb at (length s) (omega (arith, x.long))) g r)

placed_defs : (at : ℕ) (P : Prog) → program_of (placed at P) ≡ P
unfolding placed
placed_defs at [] = refl
placed_defs at (d ∷ ds) = ap (λ (Q : Prog). d ∷ Q) (placed_defs (behind at d) ds)

none_twice_lem : (earlier : List (List ℕ)) (ds : List Placed) (good : Got Prog) → Different earlier (program_of ds) → none_twice earlier ds good ≡ good
unfolding none_twice
none_twice_lem earlier [] good h = refl
none_twice_lem earlier (d ∷ ds) good h = rw h.0 (none_twice_lem (d.def.called ∷ earlier) ds good h.1)

within_limits_lem : (ds : List Placed) (e : ℕ) (P : Prog) → program_of ds ≡ P → WellFormed P → within_limits ds e ≡ got P e
unfolding within_limits
within_limits_lem ds e P q h =
    rw (q, le-ltb 2048 (forms_of P) h.few_forms, le-ltb 128 (length P) h.few_definitions, none_twice_lem [] ds (got P e) (rw q h.different))

pub programs_read_back : ProgramsReadBack
unfolding read_program
programs_read_back P h =
    let s = write_program P in
    let r = definitions_back P s 0 (4 * length s + 4) h.definitions h.few_marks refl (omega arith) (omega arith) in
    rw r (within_limits_lem (placed 0 P) (length s) P (placed_defs 0 P) h)
