-- Where a text is cut: at the first byte of a kind, and into three lines.
use Rattle.std.specs.Prelude.{ℕ, ◌≡◌, List, [], ◌∷◌, Option, MatchOption}
use Rattle.std.specs.Borrow.{Bor}
use Prim.Native.Char.{code}
use Rattle.std.proofs.Math.Option as maybe
use Rattle.language.specs.Fprun.{split, on_lines}
use Rattle.call_lines.specs.declared.Lines.{Lines}

-- a b ends the text's first piece, and the rest stands behind it
pub record CutOff (b : ℕ) (s front rest : List ℕ) : Type 0 where
  pub is : split b s ≡ front ∷ split b rest

-- what stands before the first b and what behind it; or no b stands in the text
abbrev pub Cut : ℕ → List ℕ → Option (Bor (List ℕ) × Bor (List ℕ)) → Type 0
Cut b s r = MatchOption r (split b s ≡ s ∷ []) (λ p. CutOff b s p.0.now p.1.now)

-- three lines, each ended by a line feed, or a text of another shape
abbrev pub LinesCut : List ℕ → Option Lines → Type 0
LinesCut s r = MatchOption r ((k : List ℕ → List ℕ → List ℕ → maybe.Option (List ℕ)) → on_lines (split (code "\n") s) k ≡ maybe.none) (λ l. split (code "\n") s ≡ l.budgets.now ∷ l.program.now ∷ l.object.now ∷ [] ∷ [])
