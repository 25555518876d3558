-- Symbols: what was packed is walked over as it was written, and an atom is held as the reader's cells hold it.
use Rattle.std.proofs.Common.{◌≡◌, ℕ, true, List, ◌++◌, take, drop, ap, ◌∙◌, arith}
use lib.Seq.{take-append_seam}
use Rattle.language.specs.Tokens.{is_digit, is_upper}
use Rattle.language.specs.Judging.{is_symbol_byte}
use Rattle.language.specs.Accepted.{IsSymbol}
use Rattle.packing.specs.Packing.{packed}
use Rattle.theorems.proofs.Texts.{all_weaken, digit_range, upper_range, or_cases}
use Rattle.packing.proofs.Packed.{symbol_bytes}
use Rattle.packing.specs.declared.Case.TheVariants.{Upper}
use Rattle.packing.specs.Packing.{unpacked, Unpacked}
use Rattle.packing.proofs.Packed.{symbol_back}
use Rattle.objects.specs.Writings.{Written, is_flat, TextWalked, SymbolWalked}
use Rattle.objects.proofs.Walks.{flat_is}

pub symbol_flat : (b : ℕ) → is_symbol_byte b ≡ true → is_flat b ≡ true
symbol_flat b h =
    or_cases (is_upper b) (is_digit b) (is_flat b)
    (λ u. let r = upper_range b u in let lo = r.0 in flat_is b (λ e. omega arith) (λ e. omega arith))
    (λ d. let r = digit_range b d in let hi = r.1 in flat_is b (λ e. omega arith) (λ e. omega arith)) h

pub symbol_walk : {word n at cap : ℕ} {a a₁ : List ℕ} {r : Written} {out out' : List ℕ} → Unpacked Upper word n a a₁ → TextWalked (take n a₁) at cap r out out' → SymbolWalked word at cap r out out'
symbol_walk {word} {n} {at} {cap} {a} {a₁} u w = record { within = w.within; means = λ d v i e. rw (same v i e) at (w.means d (rw (same v i e) (all_weaken is_symbol_byte is_flat symbol_flat v (symbol_bytes v i)))) }
  where
    same : (v : List ℕ) → IsSymbol v → word ≡ packed v → take n a₁ ≡ v
    same v i e =
        let b : unpacked Upper word ≡ v = ap (λ (q : ℕ). unpacked Upper q) e ∙ symbol_back v i in
        ap (λ (x : List ℕ). take n x) u.bytes ∙ ap (λ (q : ℕ). take q (unpacked Upper word ++ drop n a)) u.size ∙ take-append_seam (unpacked Upper word) (drop n a) ∙ b
