-- Integers as values hold them, of any size: tag 0 and n for n, tag 1 and n for -(n + 1).
use Rattle.std.specs.Prelude.{ℕ, ◌≤◌, ◌<◌, ◌≡◌, Bool, ℤ, pos, negsuc, neg_ℤ}
use Rattle.std.specs.Int.Signed.{lt_z}
use Rattle.language.specs.Numbers.{half, one}
use Rattle.language.specs.declared.Val.{Val}

pub data HoldsInteger : Val → ℤ → Type 0 where
  holds_pos : {v : Val} {k : ℕ} → v.tag ≡ 0 → v.word ≡ k → HoldsInteger v (pos k)
  holds_neg : {v : Val} {k : ℕ} → v.tag ≡ 1 → v.word ≡ k → HoldsInteger v (negsuc k)

-- an integer of at most 2^31 and one, so that sums and products fit 64 bits
pub record SmallInteger (v : Val) : Type 0 where
  pub tag : v.tag < 2
  pub word : v.word ≤ half one

-- one of document 01's integers
pub record Short (v : Val) : Type 0 where
  pub tag : v.tag < 2
  pub word : v.word < half one

-- r holds what the operation gives of the integers that a and b hold
pub record Computes (f : ℤ → ℤ → ℤ) (a b r : Val) : Type 0 where
  pub means : (i j : ℤ) → HoldsInteger a i → HoldsInteger b j → HoldsInteger r (f i j)

pub record Negated (a r : Val) : Type 0 where
  pub small : SmallInteger r
  pub means : (i : ℤ) → HoldsInteger a i → HoldsInteger r (neg_ℤ i)

pub record Less (a b : Val) (r : Bool) : Type 0 where
  pub means : (i j : ℤ) → HoldsInteger a i → HoldsInteger b j → r ≡ lt_z i j
