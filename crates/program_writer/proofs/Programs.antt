-- Laws of whole programs: a definition, the definitions one after the other, what is measured and what is written.
use Prim.Native.Nat.{ℕ, min, max, ◌+◌, ◌≤◌, ◌<◌}
use Prim.Native.Char.{code}
use mathlib.Core.Path.{◌≡◌, refl, ap, sym, ◌∙◌}
use mathlib.Core.List.{List, [], ◌∷◌, ◌++◌, append_assoc, append-nil}
use native.Mathlib.Omega.{arith}
use lib.ListN.{length, drop}
use Rattle.language.specs.Forms.{Def, Prog}
use Rattle.language.specs.Accepted.{AreDefinitions}
use Rattle.packing.specs.Packing.{packed}
use Rattle.language.specs.Writing.{write_form, write_program, marks_of, marks_of_program}
use Rattle.tables.specs.Tables.{put}
use Rattle.formtable.specs.Standing.{Stands, bodies}
use Rattle.program_writer.specs.declared.Depth.{Depth}
use Rattle.std.specs.Prelude.{Some}
use Rattle.program_writer.specs.Walks.{Wrote, NameWalked, Writable, FormWalked}
use Rattle.program_writer.specs.Depths.{FormDepth}
use Rattle.program_writer.specs.Programs.{name_at, Named, a_name, Holds, DefinitionWalked, ProgramWalked, TextMeasured, ProgramEnd, program_written, ProgramWritten}
use Rattle.program_writer.proofs.Wrote.{wrote_none, wrote_then, wrote_as}
use Rattle.program_writer.proofs.MarkWalks.{turn}

-- ---- a definition
abbrev definition_text : Def → List ℕ
definition_text d = d.called ++ (code "=" ∷ (write_form d.body ++ code ";" ∷ []))

four : (a b c d : List ℕ) → ((a ++ b) ++ c) ++ d ≡ a ++ (b ++ (c ++ d))
four a b c d = simp append_assoc

module _ {t C D : List ℕ} {k i at v p q z n₁ p₁ : ℕ} {out out₁ out₂ out₃ out₄ : List ℕ} where
  pub definition_done : v ≡ name_at D k → NameWalked v at p out out₁ → Wrote (61 ∷ []) p q out₁ out₂ → FormWalked t C i q (record { next = n₁; place = p₁ }) out₂ out₃ → Wrote (59 ∷ []) p₁ z out₃ out₄ → DefinitionWalked t C D k i at (record { next = n₁; place = z }) out out₄
  definition_done e n a f b =
      record {
        means = λ m l d gs c h name is can s.
            let u = f.means m l d.body gs c h can s in
            record {
              rest = u.rest;
              wrote = wrote_as (four d.called (61 ∷ []) (write_form d.body) (59 ∷ [])) (wrote_then (wrote_then (wrote_then (n.means d.called is (e ∙ name)) a) u.wrote) b);
            };
      }

-- ---- definitions one after the other
next_text : (d : Def) (ds : Prog) → write_program (d ∷ ds) ≡ definition_text d ++ write_program ds
unfolding write_program
next_text d ds =
    sym (append_assoc d.called (code "=" ∷ (write_form d.body ++ code ";" ∷ [])) (write_program ds)
    ∙ ap (λ (l : List ℕ). d.called ++ code "=" ∷ l) (append_assoc (write_form d.body) (code ";" ∷ []) (write_program ds)))

-- what was walked over is the text of the first definitions, and the others stand where the walk has come to
pub record DefinitionsNow (t C D : List ℕ) (defs n e : ℕ) (P : Prog) (k i at : ℕ) (out₀ out : List ℕ) : Type 0 where
  pub front : List ℕ
  pub others : Prog
  pub whole : write_program P ≡ front ++ write_program others
  pub many : length others + k ≡ defs
  pub stands : Stands t C n i (bodies others) e
  pub names : Named D k others
  pub good : AreDefinitions others
  pub few : marks_of_program others ≤ 32
  pub wrote : Wrote front 0 at out₀ out

pub record DefinitionsLeft (t C D : List ℕ) (defs k i at : ℕ) (out₀ out : List ℕ) : Type 0 where
  pub len : length out ≡ length out₀
  pub means : (n e : ℕ) (P : Prog) → Holds t C D defs n e P → marks_of_program P ≤ 32 → DefinitionsNow t C D defs n e P k i at out₀ out

first_named : {D : List ℕ} {k : ℕ} {d : Def} {ds : Prog} → Named D k (d ∷ ds) → name_at D k ≡ packed d.called
first_named (a_name e s) = e

rest_named : {D : List ℕ} {k : ℕ} {d : Def} {ds : Prog} → Named D k (d ∷ ds) → Named D (k + 1) ds
rest_named (a_name e s) = s

module _ {t C D : List ℕ} {defs : ℕ} {out₀ : List ℕ} where
  pub definitions_start : {at : ℕ} → at ≡ 0 → DefinitionsLeft t C D defs 0 0 at out₀ out₀
  definitions_start z =
      record {
        len = refl;
        means = λ n e P h m.
            let l = h.many in
            record { front = []; others = P; whole = refl; many = omega arith; stands = h.stands; names = h.names; good = h.good; few = m; wrote = rw z wrote_none };
      }

  module _ {k i at : ℕ} {out : List ℕ} where
    pub definitions_end : defs ≤ k → DefinitionsLeft t C D defs k i at out₀ out → ProgramWalked t C D defs at out₀ out
    unfolding write_program
    definitions_end h p = record { means = λ n e P a m. let x = p.means n e P a m in none P x.others x.front x.many x.whole x.wrote }
      where
        none : (P os : Prog) (a : List ℕ) → length os + k ≡ defs → write_program P ≡ a ++ write_program os → Wrote a 0 at out₀ out → Wrote (write_program P) 0 at out₀ out
        none P [] a m q w = wrote_as (sym (q ∙ append-nil a)) w
        none P (d ∷ os) a m q w = absurd (omega arith)

    module _ {n₁ p₁ : ℕ} {out₁ : List ℕ} where
      pub definitions_turn : k < defs → DefinitionsLeft t C D defs k i at out₀ out → DefinitionWalked t C D k i at (record { next = n₁; place = p₁ }) out out₁ → length out₁ ≡ length out → DefinitionsLeft t C D defs (k + 1) n₁ p₁ out₀ out₁
      definitions_turn h p x l =
          record {
            len = l ∙ p.len;
            means = λ n e P a m. let y = p.means n e P a m in one n e P y.others y.front a.cells a.forms y.whole y.many y.stands y.names y.good y.few y.wrote;
          }
        where
          one : (n e : ℕ) (P os : Prog) (a : List ℕ) → n < 4294967296 → e ≤ 2048 → write_program P ≡ a ++ write_program os → length os + k ≡ defs → Stands t C n i (bodies os) e → Named D k os → AreDefinitions os → marks_of_program os ≤ 32 → Wrote a 0 at out₀ out → DefinitionsNow t C D defs n e P (k + 1) n₁ p₁ out₀ out₁
          one n e P [] a c l q m s names g f v = absurd (omega arith)
          one n e P (d ∷ os) a c l q m s names g f v =
              let can : Writable d.body = record { good = g.1; few = omega arith } in
              let u = x.means n e d (bodies os) c l (first_named names) g.0 can s in
              record {
                front = a ++ definition_text d;
                others = os;
                whole = q ∙ ap (λ (b : List ℕ). a ++ b) (next_text d os) ∙ sym (append_assoc a (definition_text d) (write_program os));
                many = omega arith;
                stands = u.rest;
                names = rest_named names;
                good = g.2;
                few = omega arith;
                wrote = wrote_then v u.wrote;
              }

-- ---- marks
pub record MostNow (t C : List ℕ) (defs n e : ℕ) (P : Prog) (k i most : ℕ) : Type 0 where
  pub others : Prog
  pub many : length others + k ≡ defs
  pub low : most ≤ 33
  pub stands : Stands t C n i (bodies others) e
  pub marks : min (max most (marks_of_program others)) 33 ≡ min (marks_of_program P) 33

pub record MostLeft (t C : List ℕ) (defs k i most : ℕ) : Type 0 where
  pub means : (n e : ℕ) (P : Prog) → n < 4294967296 → e ≤ 2048 → length P ≡ defs → Stands t C n 0 (bodies P) e → MostNow t C defs n e P k i most

module _ {t C : List ℕ} {defs : ℕ} where
  module _ {k i most : ℕ} where
    pub most_turn : {d : Depth} {more : ℕ} → k < defs → MostLeft t C defs k i most → FormDepth t C i d → more ≡ max most d.marks → MostLeft t C defs (k + 1) d.next more
    most_turn {d} {more} h p x m =
        record { means = λ n e P c l q s. let y = p.means n e P c l q s in one n e P y.others c l y.many y.low y.stands y.marks }
      where
        one : (n e : ℕ) (P os : Prog) → n < 4294967296 → e ≤ 2048 → length os + k ≡ defs → most ≤ 33 → Stands t C n i (bodies os) e → min (max most (marks_of_program os)) 33 ≡ min (marks_of_program P) 33 → MostNow t C defs n e P (k + 1) d.next more
        one n e P [] c l q low s v = absurd (omega arith)
        one n e P (a ∷ os) c l q low s v =
            let u = x.means n e a.body (bodies os) c l s in
            let w = u.marks in
            record { others = os; many = omega arith; low = omega arith; stands = u.rest; marks = turn most d.marks more (marks_of a.body) 33 (marks_of_program os) m w ∙ v }

-- ---- the calls
module _ {t C D : List ℕ} {defs l : ℕ} where
  module _ (w : TextMeasured t C D defs l) where
    module _ {out : List ℕ} where
      pub write_some : {r : ℕ} {out' : List ℕ} → l ≤ 16384 → l ≤ length out → ProgramWalked t C D defs r out out' → ProgramWritten t C D defs (Some l) out out'
      unfolding put
      write_some {r} {out'} b h v =
          record {
            fits = λ k q. let z : k ≡ l = cc in omega arith;
            means = λ n e P a f. whole (write_program P) (w.means n e P a f) (v.means n e P a f);
          }
        where
          whole : (text : List ℕ) → l ≡ min (length text) 16385 → Wrote text 0 r out out' → ProgramEnd text (Some l) out out'
          whole text x y =
              let e : l ≡ length text = omega arith in
              let z : 0 + length text ≡ length text = omega arith in
              program_written (omega arith) (ap (λ (k : ℕ). Some k) e) (y.stands (omega arith) (omega arith) ∙ ap (λ (k : ℕ). text ++ drop k out) z)
