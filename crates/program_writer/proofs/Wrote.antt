-- Laws of walks over texts: nothing, a text, one text behind another.
use Prim.Native.Nat.{ℕ, ◌+◌, ◌≤◌}
use mathlib.Core.Path.{◌≡◌, ap, sym, ◌∙◌}
use mathlib.Core.List.{List, [], ◌++◌}
use native.Mathlib.Omega.{arith}
use lib.ListN.{length, length-append}
use Rattle.tables.specs.Tables.{put}
use Rattle.objects.specs.Writings.{PutText}
use Rattle.tables.proofs.Put.{put_none, put_after, length_put}
use Rattle.program_writer.specs.Walks.{Behind, Wrote}

pub wrote_none : {at : ℕ} {out : List ℕ} → Wrote [] at at out out
wrote_none {at} {out} = record { place = omega arith; stands = λ h g. sym (put_none out at) }

pub wrote_text : {text : List ℕ} {at r : ℕ} {out out' : List ℕ} → PutText out at text out' → Behind at (length text) r → Wrote text at r out out'
wrote_text p q = record { place = q.is; stands = λ u v. p.is v }

module _ {a b : List ℕ} {at r r₂ : ℕ} {out out₁ out₂ : List ℕ} where
  pub wrote_then : Wrote a at r out out₁ → Wrote b r r₂ out₁ out₂ → Wrote (a ++ b) at r₂ out out₂
  wrote_then v w =
      record {
        place = let p = v.place in let q = w.place in rw length-append (omega arith);
        stands = λ h g. stand (rw length-append at h) (rw length-append at g);
      }
    where
      stand : at + (length a + length b) ≤ 16384 → at + (length a + length b) ≤ length out → out₂ ≡ put out at (a ++ b)
      stand h g =
          let p = v.place in
          let e : r ≡ at + length a = omega arith in
          let f = v.stands (omega arith) (omega arith) in
          let l : length out₁ ≡ length out = ap length f ∙ length_put out at a (omega arith) in
          w.stands (omega arith) (omega arith) ∙ ap (λ (x : List ℕ). put x r b) f ∙ rw e (put_after out at a b (omega arith))

-- the same text
pub wrote_as : {a b : List ℕ} {at r : ℕ} {out out' : List ℕ} → a ≡ b → Wrote a at r out out' → Wrote b at r out out'
wrote_as e w = rw e at w
