-- Laws of printing: a number with the byte behind it, and six of them as one line.
use Prim.Native.Nat.{ℕ, min, ◌+◌, ◌-◌, ◌≤◌, ◌<◌}
use mathlib.Core.Path.{◌≡◌, refl, ap, sym, subst, ◌∙◌}
use mathlib.Core.List.{List, [], ◌∷◌, ◌++◌, append_assoc, append-nil}
use native.Mathlib.Omega.{arith}
use borrow.Author.Tests.{eq-eqb, ne_eqb, leb-true, leb-false}
use mathlib.Core.Bool.{Bool, true, false}
use lib.Dec.{leb}
use lib.ListN.{length, take, drop, set, length-append, length-drop}
use lib.Seq.{take_all, length-take-le}
use Rattle.language.specs.Writing.{decimal}
use Rattle.language.specs.Fprun.{line, numbers}
use Rattle.language.specs.declared.Answer.{Answer}
use Rattle.theorems.proofs.JudgedWords.{digits_few}
use Rattle.tables.specs.Tables.{put}
use Rattle.tables.proofs.Put.{put_after, set_put}
use Rattle.objects.specs.Writings.{DigitsAt, PutText}
use Rattle.call_lines.specs.Printing.{Printed, shown_as}

-- a number of 32 bits has at most ten digits
ten_digits : (n : ℕ) → n < 4294967296 → length (decimal n) ≤ 10
unfolding decimal
ten_digits n h = digits_few n n 9 (omega arith)

module _ {n m first : ℕ} {a : List ℕ} (small : n < 4294967296) (twenty : length a ≡ 20) (same : m ≡ n) (d : DigitsAt m first a) where
  are_digits : take (20 - first) (drop first a) ≡ decimal n
  are_digits = take_all (20 - first) (drop first a) (rw length-drop (omega arith)) ∙ d.is ∙ ap decimal same

  pub so_many : 20 - first ≡ length (decimal n)
  so_many = omega (arith, length-drop first a, ap length d.is, ap (λ (k : ℕ). length (decimal k)) same)

  pub room_behind : (at : ℕ) (out out₁ : List ℕ) → at + 11 ≤ length out → length out₁ ≡ length out → at + (20 - first) < length out₁
  room_behind at out out₁ h l = omega (arith, so_many, ten_digits n small)

  pub print_one : (at b : ℕ) {out out₁ : List ℕ} → at + 11 ≤ length out → PutText out at (take (20 - first) (drop first a)) out₁ → length out₁ ≡ length out
      → Printed (decimal n ++ (b ∷ [])) 11 out at (at + (20 - first) + 1) (set out₁ (at + (20 - first)) b)
  print_one at b {out} {out₁} h p l =
      let t = decimal n in
      let m = so_many in
      let f = ten_digits n small in
      let e : out₁ ≡ put out at t = p.is (rw are_digits (omega arith)) ∙ ap (put out at) are_digits in
      let i : at + (20 - first) ≡ at + length t = omega arith in
      let k : length (t ++ (b ∷ [])) ≡ length t + 1 = length-append t (b ∷ []) in
      record {
        is = set_put out₁ (at + (20 - first)) b (omega arith) ∙ ap (λ (x : List ℕ). put x (at + (20 - first)) (b ∷ [])) e ∙ ap (λ (j : ℕ). put (put out at t) j (b ∷ [])) i ∙ put_after out at t (b ∷ []) (omega arith);
        ends = omega arith;
        few = omega arith;
      }

-- one text behind another
then : {x y : List ℕ} {m n : ℕ} {out out₁ out₂ : List ℕ} {at r q : ℕ} → at + m + n ≤ length out → Printed x m out at r out₁ → Printed y n out₁ r q out₂ → Printed (x ++ y) (m + n) out at q out₂
then {x} {y} {m} {n} {out} {out₁} {out₂} {at} {r} {q} h p s =
    let k : length (x ++ y) ≡ length x + length y = length-append x y in
    let a = p.few in
    let b = s.few in
    let c = p.ends in
    let d = s.ends in
    record {
      is = s.is ∙ ap (λ (z : List ℕ). put z r y) p.is ∙ ap (λ (j : ℕ). put (put out at x) j y) c ∙ put_after out at x y (omega arith);
      ends = omega arith;
      few = omega arith;
    }

-- six numbers, five spaces and a line feed
row : (a : Answer) → ((((((decimal a.number ++ (32 ∷ [])) ++ (decimal a.place ++ (32 ∷ []))) ++ (decimal a.text ++ (32 ∷ []))) ++ (decimal a.steps ++ (32 ∷ []))) ++ (decimal a.cells ++ (32 ∷ []))) ++ (decimal a.length ++ (10 ∷ []))) ≡ line (numbers a)
unfolding numbers
row a = simp append_assoc

pub print_six : (a : Answer) {out o₁ o₂ o₃ o₄ o₅ o₆ : List ℕ} {r₁ r₂ r₃ r₄ r₅ r₆ : ℕ} → 66 ≤ length out
    → Printed (decimal a.number ++ (32 ∷ [])) 11 out 0 r₁ o₁ → Printed (decimal a.place ++ (32 ∷ [])) 11 o₁ r₁ r₂ o₂ → Printed (decimal a.text ++ (32 ∷ [])) 11 o₂ r₂ r₃ o₃
    → Printed (decimal a.steps ++ (32 ∷ [])) 11 o₃ r₃ r₄ o₄ → Printed (decimal a.cells ++ (32 ∷ [])) 11 o₄ r₄ r₅ o₅ → Printed (decimal a.length ++ (10 ∷ [])) 11 o₅ r₅ r₆ o₆
    → Printed (line (numbers a)) 66 out 0 r₆ o₆
print_six a {out} {o₆ = o₆} {r₆ = r₆} h p₁ p₂ p₃ p₄ p₅ p₆ =
    subst (λ (t : List ℕ). Printed t 66 out 0 r₆ o₆) (row a) (then (omega arith) (then (omega arith) (then (omega arith) (then (omega arith) (then (omega arith) p₁ p₂) p₃) p₄) p₅) p₆)

-- ---- the text behind them
pub print_line : (at : ℕ) (text : List ℕ) {out out₁ : List ℕ} → at + length text + 1 ≤ length out → PutText out at text out₁ → length out₁ ≡ length out → Printed (line text) (length text + 1) out at (at + length text + 1) (set out₁ (at + length text) 10)
print_line at text {out} {out₁} h p l =
    let k : length (text ++ (10 ∷ [])) ≡ length text + 1 = length-append text (10 ∷ []) in
    record {
      is = set_put out₁ (at + length text) 10 (omega arith) ∙ ap (λ (x : List ℕ). put x (at + length text) (10 ∷ [])) (p.is (omega arith)) ∙ put_after out at text (10 ∷ []) (omega arith);
      ends = omega arith;
      few = omega arith;
    }

fewer : {t : List ℕ} {m n : ℕ} {out : List ℕ} {at r : ℕ} {out₁ : List ℕ} → m ≤ n → Printed t m out at r out₁ → Printed t n out at r out₁
fewer h p = record { is = p.is; ends = p.ends; few = omega (arith, p.few) }

-- as many bytes as there are
same_take : (n k : ℕ) (t : List ℕ) → n ≡ min (length t) k → take n t ≡ take k t
same_take n k t e = go (leb k (length t)) refl
  where
    go : (b : Bool) → leb k (length t) ≡ b → take n t ≡ take k t
    go true f = let l = leb-true k (length t) f in ap (λ (i : ℕ). take i t) (omega arith)
    go false f = let l = leb-false k (length t) f in take_all n t (omega arith) ∙ sym (take_all k t (omega arith))

module _ (a : Answer) (text : List ℕ) {out out₁ : List ℕ} {r : ℕ} (room : (16451 ≤ length out) × (length text ≤ 16384)) (p : Printed (line (numbers a)) 66 out 0 r out₁) where
  pub show_numbers : (a.number ≡ 20 → ⊥) → Printed (shown_as a text) 16451 out 0 r out₁
  unfolding shown_as
  show_numbers e = rw (ne_eqb a.number 20 e, append-nil) (fewer (omega arith) p)

  pub show_text : {n q : ℕ} {out₂ : List ℕ} → a.number ≡ 20 → n ≡ min (length text) a.length → Printed (line (take n text)) (length (take n text) + 1) out₁ r q out₂ → Printed (shown_as a text) 16451 out 0 q out₂
  unfolding shown_as
  show_text {n} e f s =
      let m : length (take n text) ≡ n = length-take-le n text (omega arith) in
      rw (eq-eqb a.number 20 e, ← same_take n a.length text f) (fewer (omega (arith, room.1)) (then (omega (arith, room.0, room.1)) p s))
