-- What a reader's text and place give to `next_word`, and what the reader owns behind the word. The reader is Copy: what it owns is had twice, one copy is kept whole, and of the other what the text owns goes to the callee, beside the token of the text's lifetime, which comes back. The word lies within the text, so the sum of its place and length does not wrap.
-- Assumes nothing.
use mathlib.Core.Path.{◌≡◌, refl}
use Prim.Native.Nat.{◌+◌, ◌<◌, ◌^◌}
use mathlib.Core.List.{[], ◌∷◌}
use native.Mathlib.Omega.{arith}
use lib.ListN.{length}
use seplogic.Ra.Ura.{Ura}
use mir.Syntax.{named, w64}
use mir.Val.{vint}
use base.Logic.{SProp, ent, sep, snd∗, ex_e}
use base.Fml.{Lft, Share, Fml, ftrue, flft}
use prog.Memory.{Memory}
use prog.Routine.{Routine}
use types.Logic.{Logic, sem}
use contract.Monad.{Fun, fact}
use types.Kit.{‵, raw, ◌⊛◌, given, ⋆, ◌$◌, ◌∵◌, !, qed, by, move, drop, use1, use2, split, join, learn, fsplit, fjoin, frame, done}
use denote.RattleType.{owns}
use denote.Laws.{Is}
use denote.Plain.{uint_Makes}
use denote.Builtin.{u8, usize}
use denote.Ref.{NamedLft}
use denote.Slice.{slice_val, ShrSlice}
use denote.Steps.{owned, nothing}
use denote.Struct.Declared.{Declared}
use denote.Struct.Laws as LL
use denote.Struct.Rest.{all_own, field_own, rest, own_open, own_out, own_put}
use denote.Struct.Values.{Values}
use denote.Triple.Statement.{Contract}
use denote.Triple.Entry.{Vals, on_entry}
use denote.Triple.Spec.{triple_of}
use denote.Triple.Clauses.{ensured, lasts}
use Rattle.language.specs.declared.Token.{Token}
use Rattle.lexer.specs.Readings.{NextWord}
use Rattle.lexer.specs.contracts.next_word as next
use Rattle.stepper.specs.declared.Stepper.{Stepper}
use Rattle.stepper.specs.contracts.Stepper as T
use Rattle.stepper.proofs.Stepper.TheLaws as T'

-- the contract that the proofs cite
abbrev pub Next : {M : Type 1} {𝓤 : Ura M} (𝓛 : Logic 𝓤) (mem : Memory → SProp 𝓤) (run : Routine → Fun 𝓤) → Contract 𝓤
Next 𝓛 mem run = triple_of 𝓛 next.signature (next.spec 𝓛 mem run)

-- what the callee says of its result
abbrev pub Found : Stepper → Token → Type 0
Found d = NextWord d.text.now d.place

pub ends : (d : Stepper) (t : Token) → Found d t → length d.text.now < 2 ^ 64 → t.place + t.length < 2 ^ 64
ends d t e room = let h = e.high in omega arith

-- the reader behind the word t
abbrev pub moved : Stepper → Token → Stepper
moved d t = record { text = d.text; place = t.place + t.length }

-- what the reader owns, where its text has the lifetime α
abbrev pub Own : NamedLft → Stepper → Fml
Own α d = (T.the_row α).own_val d (T'.lowered d ∷ [])

-- the reader's type and laws, and its fields' values
abbrev D : NamedLft → Declared
D α = T.the_type α

abbrev L : (α : NamedLft) → LL.Laws (D α)
L α = T'.the_laws α

abbrev values : (α : NamedLft) → Stepper → Values (D α).parts
values α d = (d.text, (d.place, tt))

-- what the callee is passed
abbrev passed : (κ : Lft) → Stepper → Vals next.signature (κ, tt)
passed κ d = (slice_val d.text.ref_ptr (length d.text.now) ∷ [], (vint w64 d.place ∷ [], tt))

module _ {M : Type 1} {𝓤 : Ura M} (𝓛 : Logic 𝓤) (α : NamedLft) (d : Stepper) where
  pub twice : ent 𝓤 (sem 𝓛 (Own α d)) (sep 𝓤 (sem 𝓛 (Own α d)) (sem 𝓛 (Own α d)))
  twice = (LL.copy (D α) (T'.the_copy α) 𝓛).twice d (T'.lowered d ∷ [])

  -- what the text owns is kept, and the place's facts are made anew
  pub again : (t : Token) → t.place + t.length < 2 ^ 64 → ent 𝓤 (sem 𝓛 (Own α d)) (sem 𝓛 (Own α (moved d t)))
  again t fits =
      qed 𝓛 (‵ (Own α d) ∷ []) ∵ owned ! usize (Is usize) (uint_Makes 𝓛 w64) (t.place + t.length) _ (refl, fits) $
      move ! (1 ∷ 0 ∷ []) $ by ! (own_put 𝓛 (D α) (L α) 1 (values α d) (t.place + t.length) (T'.lowered d))

module _ {M : Type 1} {𝓤 : Ura M} (𝓛 : Logic 𝓤) (mem : Memory → SProp 𝓤) (run : Routine → Fun 𝓤) (α : NamedLft) (q : Share) (d : Stepper) where
  abbrev κ : Lft
  κ = α.lft

  abbrev pub to : (Next 𝓛 mem run).Ghost
  to = (((κ, tt), (q, tt), tt, (d.text, (d.place, tt)), passed κ d), tt)

  asked : ent 𝓤 (on_entry 𝓛 next.signature (κ, tt) (q, tt) (d.text, (d.place, tt)) (passed κ d)) ((Next 𝓛 mem run).pre to)
  asked = qed 𝓛 ((‵ (flft κ q) ⊛ ‵ ftrue) ∷ ‵ (owns (ShrSlice (named 0) κ u8 ∷ usize ∷ []) (d.text, (d.place, tt)) (passed κ d)) ∷ []) ∵ join ! $ frame ! $ done !

  -- what the reader owns gives what the callee asks, and is kept
  pub apart : d.place < 2 ^ 64 → ent 𝓤 (⋆ 𝓛 (‵ (Own α d) ∷ (‵ (flft κ q) ⊛ ‵ ftrue) ∷ [])) (sep 𝓤 ((Next 𝓛 mem run).pre to) (sem 𝓛 (Own α d)))
  apart fits =
      qed 𝓛 (‵ (Own α d) ∷ (‵ (flft κ q) ⊛ ‵ ftrue) ∷ []) ∵
      use1 𝓛 (‵ (Own α d) ⊛ ‵ (Own α d)) (twice 𝓛 α d) $ split ! $
      use1 𝓛 (given (T'.lowered d ∷ [] ≡ T'.lowered d ∷ []) (‵ (all_own (D α).parts (L α) (values α d)))) (own_open 𝓛 (D α) (L α) (values α d) (T'.lowered d)) $ learn ! (λ _.
      use1 𝓛 (‵ (field_own (D α).parts (L α) 0 d.text) ⊛ ‵ (rest (D α).parts (L α) 0 (values α d))) (own_out 𝓛 (D α).parts (L α) 0 (values α d)) $ split ! $
      -- [what the text owns; what the place owns; what the reader owns; the token]
      move ! (1 ∷ []) $ drop ! $ nothing ! $ owned ! usize (Is usize) (uint_Makes 𝓛 w64) d.place _ (refl, fits) $ fjoin ! $ move ! (1 ∷ 0 ∷ []) $ fjoin ! $
      move ! (2 ∷ 0 ∷ []) $ use2 𝓛 (raw ((Next 𝓛 mem run).pre to)) asked $ frame ! $ done !)

  -- the same where the reader is a parameter by value
  pub asks : d.place < 2 ^ 64 → ent 𝓤 (⋆ 𝓛 ((‵ (flft κ q) ⊛ ‵ ftrue) ∷ ‵ (owns (T.the_row α ∷ []) (d, tt) (T'.lowered d ∷ [], tt)) ∷ [])) (sep 𝓤 ((Next 𝓛 mem run).pre to) (sem 𝓛 (Own α d)))
  asks fits = qed 𝓛 ((‵ (flft κ q) ⊛ ‵ ftrue) ∷ ‵ (owns (T.the_row α ∷ []) (d, tt) (T'.lowered d ∷ [], tt)) ∷ []) ∵ move ! (1 ∷ []) $ fsplit ! $ move ! (1 ∷ []) $ drop ! $ by ! (apart fits)

  -- of the callee's `ensured`, the clause alone: it has no `&mut`, so what is said of last values is dropped
  pub said : (t : Token) → ent 𝓤 (ensured 𝓛 next.ended (next.clauses 𝓛 mem run) (κ, tt) (d.text, (d.place, tt)) tt t) (fact 𝓤 (Found d t))
  said t = ex_e 𝓤 _ (λ ws. snd∗ 𝓤 (sem 𝓛 (lasts next.ended (κ, tt) (d.text, (d.place, tt)) ws)) (fact 𝓤 (Found d t)))
