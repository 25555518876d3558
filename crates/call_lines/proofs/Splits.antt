-- Laws of `split`: at the first byte of a kind, and where there is none; and the shapes of texts that are not three lines.
use Prim.Native.Nat.{ℕ, zero, suc, ◌+◌, ◌-◌, ◌≤◌, ◌<◌}
use mathlib.Core.Path.{◌≡◌, refl, ap, sym, ◌∙◌}
use mathlib.Core.Bool.{Bool, true, false, not, cond}
use mathlib.Core.List.{List, [], ◌∷◌}
use mathlib.Core.Option as maybe
use native.Mathlib.Numerals.{add-one}
use native.Mathlib.Omega.{arith}
use lib.Dec.{eqb, ltb}
use borrow.Author.Tests.{ltb-false}
use lib.ListN.{length, take, drop, get_or, length-drop}
use lib.Seq.{take_all}
use Rattle.std.specs.Prelude.{Option, Some, None, position}
use Rattle.std.specs.List.{position_or_len}
use Rattle.std.proofs.lemmas.List.Quantifiers.{position-Some}
use Rattle.std.proofs.lemmas.List.Sums.{prefix_len_passes}
use Rattle.language.specs.Fprun.{put_first, split, on_lines}
use Rattle.call_lines.specs.Cutting.{CutOff}

split_found : (b c : ℕ) (s : List ℕ) → eqb c b ≡ true → split b (c ∷ s) ≡ [] ∷ split b s
unfolding split
split_found b c s e = rw (e, split)

split_passed : (b c : ℕ) (s : List ℕ) → eqb c b ≡ false → split b (c ∷ s) ≡ put_first c (split b s)
unfolding split
split_passed b c s e = rw (e, split)

-- the k-th byte is the first b
split_at : (b : ℕ) (s : List ℕ) (k : ℕ) → k < length s → eqb (get_or s k 0) b ≡ true → ((j : ℕ) → j < k → eqb (get_or s j 0) b ≡ false) → split b s ≡ take k s ∷ split b (drop (suc k) s)
split_at b [] k h e n = absurd (omega arith)
split_at b (c ∷ s) zero h e n = split_found b c s e
split_at b (c ∷ s) (suc k) h e n = split_passed b c s (n 0 (omega arith)) ∙ ap (put_first c) (split_at b s k (omega arith) e (λ j l. n (suc j) (omega arith)))

-- no byte is b
split_whole : (b : ℕ) (s : List ℕ) → ((j : ℕ) → j < length s → eqb (get_or s j 0) b ≡ false) → split b s ≡ s ∷ []
unfolding split
split_whole b [] n = refl
split_whole b (c ∷ s) n = split_passed b c s (n 0 (omega arith)) ∙ ap (put_first c) (split_whole b s (λ j l. n (suc j) (omega arith)))

pub found : (b : ℕ) (s : List ℕ) (k n : ℕ) {r : Option ℕ} → n ≡ length s → r ≡ position (λ x. eqb x b) s → r ≡ Some k → CutOff b s (take k s) (take (n - (k + 1)) (drop (k + 1) s))
found b s k n l e q =
    let f = position-Some (λ x. eqb x b) s k 0 (sym e ∙ q) in
    record { is = rw (take_all (n - (k + 1)) (drop (k + 1) s) (rw length-drop (omega arith)), add-one) (split_at b s k f.0 f.1 f.2) }

pub not_found : (b : ℕ) (s : List ℕ) {r : Option ℕ} → r ≡ position (λ x. eqb x b) s → r ≡ None → split b s ≡ s ∷ []
not_found b s e q = go (ltb first (length s)) refl (sym e ∙ q)
  where
    first : ℕ
    first = position_or_len (λ x. eqb x b) s

    is_other : (t : Bool) → not t ≡ true → t ≡ false
    is_other true h = sym h
    is_other false h = refl

    go : (t : Bool) → ltb first (length s) ≡ t → cond t (Some first) None ≡ None → split b s ≡ s ∷ []
    go true f h = let z : ◌≡◌ {A = ℕ} 0 1 = cc in absurd (omega arith)
    go false f h = let l = ltb-false first (length s) f in split_whole b s (λ j g. is_other (eqb (get_or s j 0) b) (prefix_len_passes (λ x. not (eqb x b)) s j 0 (omega arith)))

-- there is a first piece
pub pieces : (b : ℕ) (w : List ℕ) → 1 ≤ length (split b w)
unfolding split
pieces b [] = omega arith
pieces b (c ∷ w) = go (eqb c b)
  where
    first : (ws : List (List ℕ)) → 1 ≤ length (put_first c ws)
    first [] = omega arith
    first (v ∷ ws) = omega arith

    go : (t : Bool) → 1 ≤ length {A = List ℕ} (elim t as (λ (u : Bool). List (List ℕ)) [ true ↦ [] ∷ split b w | false ↦ put_first c (split b w) ])
    go true = omega arith
    go false = first (split b w)

-- behind three lines nothing, but here a byte stands
behind : (x y z : List ℕ) (c : ℕ) (w : List ℕ) (k : List ℕ → List ℕ → List ℕ → maybe.Option (List ℕ)) → on_lines (x ∷ y ∷ z ∷ split 10 (c ∷ w)) k ≡ maybe.none
unfolding split
behind x y z c w k = go (eqb c 10)
  where
    empty : (v : List ℕ) → on_lines (x ∷ y ∷ z ∷ [] ∷ split 10 v) k ≡ maybe.none
    empty v = more (split 10 v) (pieces 10 v)
      where
        more : (ws : List (List ℕ)) → 1 ≤ length ws → on_lines (x ∷ y ∷ z ∷ [] ∷ ws) k ≡ maybe.none
        more [] h = absurd (omega arith)
        more (v ∷ ws) h = refl

    first : (ws : List (List ℕ)) → on_lines (x ∷ y ∷ z ∷ put_first c ws) k ≡ maybe.none
    first [] = refl
    first (v ∷ ws) = refl

    go : (t : Bool) → on_lines (x ∷ y ∷ z ∷ elim t [ true ↦ [] ∷ split 10 w | false ↦ put_first c (split 10 w) ]) k ≡ maybe.none
    go true = empty w
    go false = first (split 10 w)

-- ---- lines
module _ {s a b c r₁ r₂ r₃ : List ℕ} (one : CutOff 10 s a r₁) (two : CutOff 10 r₁ b r₂) (three : CutOff 10 r₂ c r₃) where
  cut : split 10 s ≡ a ∷ b ∷ c ∷ split 10 r₃
  cut = one.is ∙ ap (λ (x : List (List ℕ)). a ∷ x) (two.is ∙ ap (λ (x : List (List ℕ)). b ∷ x) three.is)

  pub more_behind : 0 < length r₃ → (k : List ℕ → List ℕ → List ℕ → maybe.Option (List ℕ)) → on_lines (split 10 s) k ≡ maybe.none
  more_behind h k = rw cut (go r₃ h)
    where
      go : (r : List ℕ) → 0 < length r → on_lines (a ∷ b ∷ c ∷ split 10 r) k ≡ maybe.none
      go [] f = absurd (omega arith)
      go (d ∷ w) f = behind a b c d w k

  pub cut_three : length r₃ ≡ 0 → split 10 s ≡ a ∷ b ∷ c ∷ [] ∷ []
  unfolding split
  cut_three h = cut ∙ ap (λ (x : List (List ℕ)). a ∷ b ∷ c ∷ x) (go r₃ h)
    where
      go : (r : List ℕ) → length r ≡ 0 → split 10 r ≡ [] ∷ []
      go [] f = refl
      go (d ∷ w) f = absurd (omega arith)
