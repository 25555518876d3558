-- Two symbols are equal exactly if their packed words are; T and F are known by their values.
use Prim.Native.Nat.{ℕ}
use mathlib.Core.Path.{◌≡◌, refl, sym, ap, ◌∙◌}
use mathlib.Core.Bool.{Bool, true, false}
use mathlib.Core.List.{List}
use native.Mathlib.Omega.{arith}
use lib.Dec.{eqb}
use borrow.Author.Tests.{eq-eqb, ne_eqb}
use Rattle.language.specs.Bytes.{bytes, same_bytes}
use Rattle.language.specs.Objects.{Obj, symbol, truth, truth_of, is_T, is_F, neither}
use Rattle.language.specs.Accepted.{IsSymbol}
use Rattle.packing.specs.Packing.{packed, letter_of}
use Rattle.language.specs.declared.Val.{Val}
use Rattle.language.proofs.Bytes.{same_bytes_is, same_bytes_refl}
use Rattle.cells.specs.Cells.{Rep, rep_pos, rep_neg, rep_symbol, rep_nil, rep_more}
use Rattle.packing.proofs.Packed.{symbols_same}

-- ---- bytes
-- a test that is true exactly if both are equal
test_same : (b : Bool) (m n : ℕ) → (b ≡ true → m ≡ n) → (m ≡ n → b ≡ true) → eqb m n ≡ b
test_same true m n f g = eq-eqb m n (f refl)
test_same false m n f g = ne_eqb m n (λ e. let h = g e in let z : ◌≡◌ {A = ℕ} 0 1 = cc in omega arith)

pub packed_compared : (a b : List ℕ) → IsSymbol a → IsSymbol b → eqb (packed a) (packed b) ≡ same_bytes a b
packed_compared a b i j = test_same (same_bytes a b) (packed a) (packed b) (λ e. ap packed (same_bytes_is a b e)) (λ e. ap (λ (x : List ℕ). same_bytes a x) (sym (symbols_same a b i j e)) ∙ same_bytes_refl a)

-- ---- T is 20, F is 6
packed_T : packed (bytes "T") ≡ 20
unfolding packed letter_of
packed_T = refl

packed_F : packed (bytes "F") ≡ 6
unfolding packed letter_of
packed_F = refl

good_T : IsSymbol (bytes "T")
good_T = (refl, refl, omega arith)

good_F : IsSymbol (bytes "F")
good_F = (refl, refl, omega arith)

pub rep_T : {C : List ℕ} {n : ℕ} → Rep C n (record { tag = 2; word = 20 }) (truth true)
rep_T = rep_symbol refl good_T (sym packed_T)

pub rep_F : {C : List ℕ} {n : ℕ} → Rep C n (record { tag = 2; word = 6 }) (truth false)
rep_F = rep_symbol refl good_F (sym packed_F)

pub truth_T : {C : List ℕ} {n : ℕ} {v : Val} {x : Obj} → v.tag ≡ 2 → v.word ≡ 20 → Rep C n v x → truth_of x ≡ is_T
truth_T h w (rep_pos t e b) = absurd (omega arith)
truth_T h w (rep_neg t e b) = absurd (omega arith)
truth_T h w (rep_symbol {w = s} t i e) = let z : s ≡ bytes "T" = symbols_same s (bytes "T") i good_T (sym e ∙ w ∙ sym packed_T) in ap (λ (y : List ℕ). truth_of (symbol y)) z
truth_T h w (rep_nil t e) = absurd (omega arith)
truth_T h w (rep_more t e l a b) = absurd (omega arith)

pub truth_F : {C : List ℕ} {n : ℕ} {v : Val} {x : Obj} → v.tag ≡ 2 → v.word ≡ 6 → Rep C n v x → truth_of x ≡ is_F
truth_F h w (rep_pos t e b) = absurd (omega arith)
truth_F h w (rep_neg t e b) = absurd (omega arith)
truth_F h w (rep_symbol {w = s} t i e) = let z : s ≡ bytes "F" = symbols_same s (bytes "F") i good_F (sym e ∙ w ∙ sym packed_F) in ap (λ (y : List ℕ). truth_of (symbol y)) z
truth_F h w (rep_nil t e) = absurd (omega arith)
truth_F h w (rep_more t e l a b) = absurd (omega arith)

-- neither, where the word is another
pub truth_neither : {C : List ℕ} {n : ℕ} {v : Val} {x : Obj} → (v.word ≡ 20 → ⊥) → (v.word ≡ 6 → ⊥) → Rep C n v x → truth_of x ≡ neither
truth_neither h k (rep_pos t e b) = refl
truth_neither h k (rep_neg t e b) = refl
truth_neither h k (rep_symbol {w = s} t i e) =
    let p : same_bytes s (bytes "T") ≡ false = sym (packed_compared s (bytes "T") i good_T) ∙ ne_eqb (packed s) (packed (bytes "T")) (λ z. h (e ∙ z ∙ packed_T)) in
    let q : same_bytes s (bytes "F") ≡ false = sym (packed_compared s (bytes "F") i good_F) ∙ ne_eqb (packed s) (packed (bytes "F")) (λ z. k (e ∙ z ∙ packed_F)) in
    rw (p, q, truth_of)
truth_neither h k (rep_nil t e) = refl
truth_neither h k (rep_more t e l a b) = refl
