-- Two names are the same exactly if both of their two numbers are; and how these are compared.
use Prim.Native.Nat.{ℕ}
use mathlib.Core.Path.{◌≡◌, refl, sym, ap, ◌∙◌}
use mathlib.Core.Bool.{Bool, true, false, ◌&&◌}
use mathlib.Core.List.{List}
use native.Mathlib.Omega.{arith}
use lib.Dec.{eqb}
use borrow.Author.Tests.{eqb-true, eq-eqb}
use Rattle.language.specs.Bytes.{same_bytes}
use Rattle.language.specs.Accepted.{IsName}
use Rattle.packing.specs.Packing.{packed}
use Rattle.language.proofs.Bytes.{same_bytes_is, same_bytes_refl}
use Rattle.packing.proofs.Packed.{names_equal}
use Rattle.formtable.specs.Encoding.{low_of, high_of}

-- the test of two numbers by halves is one that is true exactly if they are equal
halves_test : (b : Bool) (m n : ℕ) → (b ≡ true → m ≡ n) → (m ≡ n → b ≡ true) → (eqb (low_of m) (low_of n) && eqb (high_of m) (high_of n)) ≡ b
halves_test true m n f g = let e = f refl in rw (eq-eqb (low_of m) (low_of n) (ap low_of e), eq-eqb (high_of m) (high_of n) (ap high_of e))
halves_test false m n f g = go (eqb (low_of m) (low_of n)) (eqb (high_of m) (high_of n)) refl refl
  where
    go : (x y : Bool) → eqb (low_of m) (low_of n) ≡ x → eqb (high_of m) (high_of n) ≡ y → (eqb (low_of m) (low_of n) && eqb (high_of m) (high_of n)) ≡ false
    go true true p q =
        let l = eqb-true (low_of m) (low_of n) p in
        let h = eqb-true (high_of m) (high_of n) q in
        let e = g (omega arith) in
        absurd (let z : ◌≡◌ {A = ℕ} 0 1 = cc in omega arith)
    go true false p q = rw (p, q)
    go false y p q = rw p

module _ (v w : List ℕ) (i : IsName v) (j : IsName w) where
  pub name_test : (eqb (low_of (packed v)) (low_of (packed w)) && eqb (high_of (packed v)) (high_of (packed w))) ≡ same_bytes v w
  name_test =
      halves_test (same_bytes v w) (packed v) (packed w)
      (λ e. ap packed (same_bytes_is v w e))
      (λ e. ap (λ (x : List ℕ). same_bytes v x) (sym (names_equal v w i j e)) ∙ same_bytes_refl v)

  -- the same, with the names the other way round in the definition
  pub name_test_back : (eqb (low_of (packed v)) (low_of (packed w)) && eqb (high_of (packed v)) (high_of (packed w))) ≡ same_bytes w v
  name_test_back =
      halves_test (same_bytes w v) (packed v) (packed w)
      (λ e. ap packed (sym (same_bytes_is w v e)))
      (λ e. ap (λ (x : List ℕ). same_bytes w x) (names_equal v w i j e) ∙ same_bytes_refl w)
